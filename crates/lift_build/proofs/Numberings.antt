-- Different values with numbers: one that is looked up, and one that is added.
use Rattle.std.proofs.Common.{◌≡◌, ℕ, ◌+◌, ◌-◌, Bool, true, false, if◌then◌else◌, List, [], ◌∷◌, ◌++◌, get_or, position, Some, sym, ap, ◌∙◌, subst, inl, inr, ⊎_elim, arith}
use Rattle.std.specs.Prelude.{Contains, slice_get}
use Rattle.std.specs.Cmp.{IsEquivalence}
use Rattle.std.specs.List.{list_any, IsDistinct}
use Rattle.std.proofs.lemmas.Bool.{false≢true, cases_Bool}
use Rattle.std.proofs.lemmas.List.{get_or_append_left, length-append}
use Rattle.std.proofs.lemmas.List.Elements.{Contains-push_cases}
use Rattle.std.proofs.lemmas.List.Quantifiers.{position-Some}
use Rattle.std.proofs.lemmas.Option.{slice_get_within, get_or_from_slice_get}
use Rattle.std.proofs.lemmas.Map.Keys.{apart_from_distinct}
use Rattle.indexmap.specs.IndexSet.{insert_key}
use Rattle.lift_build.specs.inner.Numbers.{IsNumber, IsAdded, Grows}

module _ {X : Type 0} (eq : X → X → Bool) (exact : (x y : X) → eq x y ≡ true → x ≡ y) where
  pub number-found : (xs : List X) (x : X) (k : ℕ) → Some k ≡ position (eq x) xs → IsNumber xs (k + 1) x
  number-found xs x k found =
      let same : k + 1 - 1 ≡ k = omega arith in
      record {
        low = omega arith;
        high = let at = position-Some (eq x) xs k x (sym found) in omega (arith, at.0);
        here = λ d. let at = position-Some (eq x) xs k d (sym found) in ap (λ (n : ℕ). get_or xs n d) same ∙ sym (exact x (get_or xs k d) at.1);
      }

  number-kept : (xs : List X) (x : X) → Grows xs (xs ++ x ∷ [])
  number-kept xs x n y is = record {
    low = is.low;
    high = omega (arith, is.high, length-append xs (x ∷ []));
    here = λ d. get_or_append_left xs (x ∷ []) d (n - 1) (omega (arith, is.low, is.high)) ∙ is.here d;
  }

  pub number-added : IsEquivalence eq → (old new : List X) (x : X) (k : ℕ) (y : X) → new ≡ insert_key eq old x → slice_get new k ≡ Some y → eq x y ≡ true → IsDistinct eq new → IsAdded old new x (k + 1)
  number-added laws old new x k y inserted there equal distinct =
      let same : k + 1 - 1 ≡ k = omega arith in
      let within = slice_get_within new k y there in
      record {
        grows = ⊎_elim (λ t n z is. subst (λ (zs : List X). IsNumber zs n z) (sym (stays t)) is) (λ f n z is. subst (λ (zs : List X). IsNumber zs n z) (sym (pushed f)) (number-kept old x n z is)) (cases_Bool (list_any (eq x) old));
        here = record { low = omega arith; high = omega arith; here = λ d. ap (λ (n : ℕ). get_or new n d) same ∙ get_or_from_slice_get new k y d there ∙ sym (exact x y equal) };
        only = λ z m. ⊎_elim (λ t. inl (subst (λ (zs : List X). Contains zs z) (stays t) m)) (λ f. Contains-push_cases old x z (subst (λ (zs : List X). Contains zs z) (pushed f) m)) (cases_Bool (list_any (eq x) old));
        apart = λ i j d lt high e.
            let differ : eq (get_or new i d) (get_or new j d) ≡ false = apart_from_distinct eq new i j d distinct lt high in
            false≢true (sym differ ∙ subst (λ (z : X). eq (get_or new i d) z ≡ true) e (laws.refl (get_or new i d)));
        new_is = ⊎_elim (λ t. inl (stays t)) (λ f. inr (pushed f)) (cases_Bool (list_any (eq x) old));
      }
    where
      stays : list_any (eq x) old ≡ true → new ≡ old
      stays t = inserted ∙ ap (λ (b : Bool). if b then old else old ++ x ∷ []) t

      pushed : list_any (eq x) old ≡ false → new ≡ old ++ x ∷ []
      pushed f = inserted ∙ ap (λ (b : Bool). if b then old else old ++ x ∷ []) f
