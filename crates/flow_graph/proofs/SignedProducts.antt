-- Products of signed numbers.
use Rattle.std.proofs.Common.{◌≡◌, ℕ, zero, suc, ap, ◌∙◌, arith, ℤ, pos, negsuc, ◌+ℤ◌, ◌-ℤ◌, ◌*ℤ◌, neg_ℤ}
use Rattle.std.proofs.Math.IntN.{*ℤ-zero, zero-*ℤ, *ℤ-negsuc, suc_ℤ-*ℤ, *ℤ_comm}
use Rattle.std.proofs.lemmas.Int.{ints}

mul_more : (m : ℤ) (n : ℕ) → m *ℤ pos (suc n) ≡ m *ℤ pos n +ℤ m
mul_more m n = *ℤ_comm m (pos (suc n)) ∙ suc_ℤ-*ℤ (pos n) m ∙ ap (λ z. z +ℤ m) (*ℤ_comm (pos n) m)

add_mul_pos : (a b : ℤ) (n : ℕ) → (a +ℤ b) *ℤ pos n ≡ a *ℤ pos n +ℤ b *ℤ pos n
add_mul_pos a b zero = let x = *ℤ-zero (a +ℤ b) in let y = *ℤ-zero a in let z = *ℤ-zero b in omega (arith, ints, x, y, z)
add_mul_pos a b (suc n) =
    let rest = add_mul_pos a b n in
    let x = mul_more (a +ℤ b) n in
    let y = mul_more a n in
    let z = mul_more b n in
    omega (arith, ints, rest, x, y, z)

pub add_mul : (a b k : ℤ) → (a +ℤ b) *ℤ k ≡ a *ℤ k +ℤ b *ℤ k
add_mul a b (pos n) = add_mul_pos a b n
add_mul a b (negsuc n) =
    let rest = add_mul_pos a b (suc n) in
    let x = *ℤ-negsuc (a +ℤ b) n in
    let y = *ℤ-negsuc a n in
    let z = *ℤ-negsuc b n in
    omega (arith, ints, rest, x, y, z)

pub mul_add : (k a b : ℤ) → k *ℤ (a +ℤ b) ≡ k *ℤ a +ℤ k *ℤ b
mul_add k a b =
    let rest = add_mul a b k in
    let x = *ℤ_comm k (a +ℤ b) in
    let y = *ℤ_comm k a in
    let z = *ℤ_comm k b in
    omega (arith, ints, rest, x, y, z)

pub sub_mul : (a b k : ℤ) → (a -ℤ b) *ℤ k ≡ a *ℤ k -ℤ b *ℤ k
sub_mul a b k =
    let rest = add_mul (a -ℤ b) b k in
    let same : (a -ℤ b) +ℤ b ≡ a = omega (arith, ints) in
    let whole : ((a -ℤ b) +ℤ b) *ℤ k ≡ a *ℤ k = ap (λ z. z *ℤ k) same in
    omega (arith, ints, rest, whole)

pub one_mul : (k : ℤ) → pos 1 *ℤ k ≡ k
one_mul k = let x = suc_ℤ-*ℤ (pos 0) k in let y = zero-*ℤ k in omega (arith, ints, x, y)
