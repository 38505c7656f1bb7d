-- What a reader of pieces keeps.
use Rattle.std.specs.Prelude.{◌≡◌, ◌≢◌, ℕ, ◌≤◌, Bool, false, List, [], ◌∷◌, ◌++◌, length, slice_range, All, Result, Ok, Err}
use Rattle.cert_text.specs.declared.lines.CertLine.{CertLine}
use Rattle.cert_text.specs.declared.faults.LineFault.{LineFault}
use Rattle.cert_text.specs.declared.faults.LineFault.TheVariants.{Bad, Memory}
use Rattle.cert_text.specs.Spelling.{line_text_of}
use Rattle.cert_text.specs.Spelled.{IsSpelled}

-- the unread bytes begin at start, and no line feed stands in them up to clear
pub record IsKept (bytes : List ℕ) (start clear version : ℕ) : Type 0 where
  pub ordered : start ≤ clear
  pub within : clear ≤ length bytes
  pub no_feed : All (λ b. b ≢ 10) (slice_range bytes start clear)
  pub versioned : 1 ≤ version

-- a text without a line feed spells this line in its place, or none, or there was not enough memory to tell
abbrev pub Places : Result CertLine LineFault → List ℕ → ℕ → ℕ → Bool → Type 0
Places (Ok line) text read version ended = (ended ≡ false) × IsSpelled read version line × (text ++ 10 ∷ [] ≡ line_text_of line)
Places (Err Bad) text read version ended =
    (line : CertLine) (more rest : List ℕ) → All (λ b. b ≢ 10) text → ended ≡ false → IsSpelled read version line → text ++ 10 ∷ more ≡ line_text_of line ++ rest → ⊥
Places (Err Memory) text read version ended = Unit {0}
