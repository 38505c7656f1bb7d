-- Reading pairs one after the other, as a loop does.
use Rattle.std.proofs.Common.{◌≡◌, ℕ, suc, ◌-◌, ◌+◌, ◌≤◌, ◌<◌, List, [], ◌∷◌, ◌++◌, Some, None, Err, refl, sym, ap, ◌∙◌, append_assoc, arith}
use Rattle.std.proofs.lemmas.List.{append-nil}
use Rattle.cert_text.specs.declared.faults.LineFault.{LineFault}
use Rattle.cert_text.specs.declared.faults.LineFault.TheVariants.{Bad, Memory}
use Rattle.cert_text.specs.inner.Fields.{◌>>=◌, Found, Gives, pairs_at}

-- what was read before, and what is still read
abbrev pub with_front : {A : Type 0} → List A → Found (List A) → Found (List A)
with_front front found = found >>= λ x. Some (front ++ x.0, x.1)

regroup : {A : Type 0} (front : List A) (x : A) (found : Found (List A)) → with_front front (found >>= λ y. Some (x ∷ y.0, y.1)) ≡ with_front (front ++ x ∷ []) found
regroup front x (Some y) = ap (λ xs. Some (xs, y.1)) (simp append_assoc)
regroup front x None = refl

module _ {A : Type 0} (one : ℕ → List (List ℕ) → Found A) (number : A → ℕ) where
  pub goes_on : (front : List A) (count i last : ℕ) (fields : List (List ℕ)) (x : A) (left : List (List ℕ)) (total : Found (List A)) → i < count → one last fields ≡ Some (x, left)
      → with_front front (pairs_at one number (count - i) last fields) ≡ total → with_front (front ++ x ∷ []) (pairs_at one number (count - (i + 1)) (number x) left) ≡ total
  unfolding pairs_at
  goes_on front count i last fields x left total lt h so_far =
      let k : count - i ≡ suc (count - (i + 1)) = omega arith in
      let step : with_front front (pairs_at one number (count - i) last fields) ≡ with_front (front ++ x ∷ []) (pairs_at one number (count - (i + 1)) (number x) left) = rw (k, h) (regroup front x (pairs_at one number (count - (i + 1)) (number x) left)) in
      sym step ∙ so_far

  pub stops : (front : List A) (count i last : ℕ) (fields : List (List ℕ)) (total : Found (List A)) → i < count → one last fields ≡ None
      → with_front front (pairs_at one number (count - i) last fields) ≡ total → total ≡ None
  unfolding pairs_at
  stops front count i last fields total lt h so_far =
      let k : count - i ≡ suc (count - (i + 1)) = omega arith in
      let step : with_front front (pairs_at one number (count - i) last fields) ≡ None = rw (k, h) refl in
      sym so_far ∙ step

  pub is_done : (front : List A) (count i last : ℕ) (fields : List (List ℕ)) (total : Found (List A)) → count ≤ i → with_front front (pairs_at one number (count - i) last fields) ≡ total → total ≡ Some (front, fields)
  unfolding pairs_at
  is_done front count i last fields total le so_far =
      let k : count - i ≡ 0 = omega arith in
      let step : with_front front (pairs_at one number (count - i) last fields) ≡ Some (front, fields) = rw k (ap (λ xs. Some (xs, fields)) (append-nil front)) in
      sym so_far ∙ step

  pub ends : (e : LineFault) (front : List A) (count i last : ℕ) (fields left : List (List ℕ)) (total : Found (List A)) → i < count → Gives {A = A} (Err e) (one last fields) left
      → with_front front (pairs_at one number (count - i) last fields) ≡ total → Gives {A = List A} (Err e) total left
  ends Bad front count i last fields left total lt h so_far = stops front count i last fields total lt h so_far
  ends Memory front count i last fields left total lt h so_far = tt
