-- What is left in a table of parts while it is cleared, and that a table of zeros is clear.
use Rattle.std.proofs.Common.{◌≡◌, ℕ, zero, suc, ◌+◌, ◌<◌, List, length, get_or, replicate, refl}
use Rattle.cert_text.specs.declared.lines.ArcPart.{ArcPart}
use Rattle.cert_laws.specs.Needs.{part_in}

-- where these parts have none of an arc, neither has the table
abbrev pub HoldsFewParts : List ArcPart → List ℕ → Type 0
HoldsFewParts parts table = (k : ℕ) → k < length table → part_in parts (k + 1) ≡ 0 → get_or table k 0 ≡ 0

-- a table of zeros is clear
pub zeros_clear : (n k : ℕ) → ◌≡◌ {A = ℕ} (get_or (replicate n 0) k 0) 0
zeros_clear zero k = refl
zeros_clear (suc n) zero = refl
zeros_clear (suc n) (suc k) = zeros_clear n k
