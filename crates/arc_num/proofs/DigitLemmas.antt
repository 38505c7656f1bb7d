-- Digits, read from the first to the last.
use Rattle.std.proofs.Common.{suc, ◌≡◌, ℕ, ◌+◌, ◌-◌, ◌*◌, ◌^◌, ◌<◌, ◌≤◌, List, ◌∷◌, length, drop, get_or, drop-cons, add-one, arith}
use Rattle.std.proofs.Math.Nat.{pow-succ', one-le-pow, mul-le-mul_left}
use Rattle.arc_num.specs.Decimals.{value_of}

-- what the digits so far and the digits that follow stand for
abbrev pub value_from : ℕ → List ℕ → ℕ
value_from v rest = v * 10 ^ length rest + value_of rest

-- one digit more
value_from-cons : (v d : ℕ) (rest : List ℕ) → value_from v (d ∷ rest) ≡ value_from (v * 10 + (d - 48)) rest
value_from-cons v d rest =
    let power : 10 ^ suc (length rest) ≡ 10 * 10 ^ length rest = pow-succ' 10 (length rest) in
    rw power (omega arith)

pub value_from-more : (v : ℕ) (text : List ℕ) (i : ℕ) → i < length text → value_from v (drop i text) ≡ value_from (v * 10 + (get_or text i 0 - 48)) (drop (i + 1) text)
value_from-more v text i lt =
    rw (add-one, drop-cons text i 0) (value_from-cons v (get_or text i 0) (drop (suc i) text))

pub value_from-ge : (v : ℕ) (rest : List ℕ) → v ≤ value_from v rest
value_from-ge v rest =
    let power : 1 ≤ 10 ^ length rest = one-le-pow (length rest) 10 (omega arith) in
    let product : v * 1 ≤ v * 10 ^ length rest = mul-le-mul_left v power in
    omega arith

pub ruleset digit_steps = (value_from-more, value_from-ge)
