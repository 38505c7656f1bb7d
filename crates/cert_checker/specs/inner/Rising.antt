-- Lists whose numbers ascend strictly, each with something that passes a test.
use Rattle.std.specs.Prelude.{ℕ, Bool, true, ◌&&◌, nat_lt, nat_le, List, [], ◌∷◌}
use Rattle.arc_num.specs.declared.TheConstants.{MAX_PRICE}

-- the numbers ascend from above a last one
abbrev pub rises : {X : Type 0} → (X → ℕ) → (X → Bool) → ℕ → List X → Bool
rises number fits last [] = true
rises number fits last (x ∷ xs) = nat_lt last (number x) && (fits x && rises number fits (number x) xs)

-- a number from 1 to 2^62
abbrev pub is_price : ℕ → Bool
is_price n = nat_le 1 n && nat_le n MAX_PRICE
