-- Which faults a part of a text can have.
use Rattle.std.proofs.Common.{zero, suc, ◌≡◌, ℕ, ◌+◌, ◌-◌, Bool, true, false, cond, List, [], ◌∷◌, ◌++◌, Some, None, Result, Ok, Err, refl, subst}
use Rattle.std.specs.Prelude.{codes, min, not, nat_le, ◌&&◌, ◌==◌}
use Rattle.std.specs.Str.{bytes_eq}
use Rattle.std.specs.List.{list_all}
use Rattle.arc_num.specs.declared.TheConstants.{MAX_VALUE, MAX_DIMS, MAX_CAP}
use Rattle.arc_num.specs.Decimals.{are_digits, value_of}
use Rattle.packing_laws.specs.declared.fault.ReadFault.{ReadFault}
use Rattle.packing_laws.specs.declared.fault.ReadFault.TheVariants.{Short, NotNumber, Range, ZeroWeight, Extra}
use Rattle.packing_laws.specs.Places.{Place, ◌>>=◌, token_in, value_in, limit_in, next_number, next_limit, several, component_behind, next_vector, next_form, end_in, end_at, caps_word_in, caps_word}
use Rattle.packing_laws.specs.Layouts.{last_item, next_cap, cap_behind, caps_if, caps_at}
use Rattle.layout_walk.proofs.CapParts.{cap_of, after_item, after_count, after_caps, after_word}

module _ (P : ReadFault → Type 0) where
  -- every fault is such a fault
  abbrev pub FaultsAre : {A : Type 0} → Result A ReadFault → Type 0
  FaultsAre r = (e : ReadFault) → r ≡ Err e → P e

  module _ {A B : Type 0} where
    pub faults-then : (r : Result A ReadFault) (f : A → Result B ReadFault) → FaultsAre r → ((x : A) → FaultsAre (f x)) → FaultsAre (r >>= f)
    faults-then (Ok x) f h k = k x
    faults-then (Err d) f h k = λ e same. let e_is : d ≡ e = cc in subst P e_is (h d refl)

  module _ {A : Type 0} where
    pub faults-none : (x : A) → FaultsAre {A = A} (Ok x)
    faults-none x e same = absurd (cc)

    pub faults-one : (d : ReadFault) → P d → FaultsAre {A = A} (Err d)
    faults-one d h e same = let e_is : d ≡ e = cc in subst P e_is h

    pub faults-if : (b : Bool) (d : ReadFault) (r : Result A ReadFault) → P d → FaultsAre r → FaultsAre (cond b (Err d) r)
    faults-if true d r h k = faults-one d h
    faults-if false d r h k = k

    faults-either : (b : Bool) (r s : Result A ReadFault) → FaultsAre r → FaultsAre s → FaultsAre (cond b r s)
    faults-either true r s h k = h
    faults-either false r s h k = k

    pub faults-several : (each : List A → Place → Result (A × Place) ReadFault) → ((xs : List A) (p : Place) → FaultsAre (each xs p)) → (n : ℕ) (xs : List A) (p : Place) → FaultsAre (several n each xs p)
    faults-several each h zero xs p = λ e same. absurd (cc)
    faults-several each h (suc n) xs p = faults-then (each xs p) (λ (x : A × Place). several n each (xs ++ x.0 ∷ []) x.1) (h xs p) (λ x. faults-several each h n (xs ++ x.0 ∷ []) x.1)

  module _ (short : (k : ℕ) → P (Short k)) (not_number : (k : ℕ) → P (NotNumber k)) (range : (k : ℕ) → P (Range k)) where
    faults-value : (low high k : ℕ) (t : List ℕ) → FaultsAre (value_in low high k t)
    faults-value low high k t =
        faults-if (not (are_digits t)) (NotNumber k) (cond (nat_le low (value_of t) && nat_le (value_of t) high) (Ok (value_of t)) (Err (Range k))) (not_number k)
        (faults-either (nat_le low (value_of t) && nat_le (value_of t) high) (Ok (value_of t)) (Err (Range k)) (faults-none (value_of t)) (faults-one (Range k) (range k)))

    faults-limit_in : (k : ℕ) (t : List ℕ) → FaultsAre (limit_in k t)
    faults-limit_in k t =
        faults-either (bytes_eq t (codes "-1")) (Ok None) (value_in 0 MAX_VALUE k t >>= (λ v. Ok (Some v))) (faults-none None)
        (faults-then (value_in 0 MAX_VALUE k t) (λ (v : ℕ). Ok (Some v)) (faults-value 0 MAX_VALUE k t) (λ v. faults-none (Some v)))

    module _ {A : Type 0} (meaning : ℕ → List ℕ → Result A ReadFault) (h : (k : ℕ) (t : List ℕ) → FaultsAre (meaning k t)) where
      faults-token : (count : ℕ) (ts : List (List ℕ)) → FaultsAre (token_in meaning count ts)
      faults-token count [] = faults-one (Short (count + 1)) (short (count + 1))
      faults-token count (t ∷ ts) = faults-then (meaning (count + 1) t) (λ (x : A). Ok (x, record { count = count + 1; left = ts })) (h (count + 1) t) (λ x. faults-none (x, record { count = count + 1; left = ts }))

    pub faults-number : (low high : ℕ) (p : Place) → FaultsAre (next_number low high p)
    unfolding next_number
    faults-number low high p = faults-token (value_in low high) (faults-value low high) p.count p.left

    pub faults-limit : (p : Place) → FaultsAre (next_limit p)
    unfolding next_limit
    faults-limit p = faults-token limit_in faults-limit_in p.count p.left

    pub faults-vector : (n : ℕ) (p : Place) → FaultsAre (next_vector n p)
    unfolding next_vector
    faults-vector n p = faults-several component_behind (λ xs q. faults-number 0 MAX_VALUE q) n [] p

    pub faults-form : ((k item form : ℕ) → P (ZeroWeight k item form)) → (n item form : ℕ) (p : Place) → FaultsAre (next_form n item form p)
    unfolding next_form
    faults-form zero_weight n item form p =
        faults-then (next_vector n p) (λ (v : List ℕ × Place). cond (list_all (λ x. x == 0) v.0) (Err (ZeroWeight v.1.count item form)) (Ok v)) (faults-vector n p)
        (λ v. faults-if (list_all (λ x. x == 0) v.0) (ZeroWeight v.1.count item form) (Ok v) (zero_weight v.1.count item form) (faults-none v))

  faults-end_in : ((k : ℕ) → P (Extra k)) → (count : ℕ) (ts : List (List ℕ)) → FaultsAre (end_in count ts)
  faults-end_in extra count [] = faults-none tt
  faults-end_in extra count (t ∷ ts) = faults-one (Extra (count + 1)) (extra (count + 1))

  pub faults-end : ((k : ℕ) → P (Extra k)) → (p : Place) → FaultsAre (end_at p)
  unfolding end_at
  faults-end extra p = faults-end_in extra p.count p.left

  module _ (short : (k : ℕ) → P (Short k)) (not_number : (k : ℕ) → P (NotNumber k)) (range : (k : ℕ) → P (Range k)) (extra : (k : ℕ) → P (Extra k)) where
    faults-caps_word_in : (count : ℕ) (ts : List (List ℕ)) → FaultsAre (caps_word_in count ts)
    faults-caps_word_in count [] = faults-none (false, record { count = count; left = [] })
    faults-caps_word_in count (t ∷ ts) =
        faults-either (bytes_eq t (codes "caps")) (Ok (true, record { count = count + 1; left = ts })) (Err (Extra (count + 1))) (faults-none (true, record { count = count + 1; left = ts })) (faults-one (Extra (count + 1)) (extra (count + 1)))

    faults-caps_word : (p : Place) → FaultsAre (caps_word p)
    unfolding caps_word
    faults-caps_word p = faults-caps_word_in p.count p.left

    faults-cap : (items last : ℕ) (p : Place) → FaultsAre (next_cap items last p)
    unfolding next_cap
    faults-cap items last p =
        faults-then (next_number (last + 1) items p) (after_item) (faults-number short not_number range (last + 1) items p)
        (λ i. faults-then (next_number 1 MAX_CAP i.1) (λ (n : ℕ × Place). Ok (cap_of i.0 n.0, n.1)) (faults-number short not_number range 1 MAX_CAP i.1) (λ n. faults-none (cap_of i.0 n.0, n.1)))

    faults-caps_if : (b : Bool) (dims items : ℕ) (p : Place) → FaultsAre (caps_if b dims items p)
    faults-caps_if false dims items p = faults-none ([], p)
    faults-caps_if true dims items p =
        faults-then (next_number 0 (min items (MAX_DIMS - dims)) p) (after_count items) (faults-number short not_number range 0 (min items (MAX_DIMS - dims)) p)
        (λ r. faults-several (cap_behind items) (λ ks q. faults-cap items (last_item ks) q) r.0 [] r.1)

    pub faults-caps : (dims items : ℕ) (p : Place) → FaultsAre (caps_at dims items p)
    unfolding caps_at
    faults-caps dims items p =
        faults-then (caps_word p) (after_word dims items) (faults-caps_word p)
        (λ word. faults-then (caps_if word.0 dims items word.1) after_caps (faults-caps_if word.0 dims items word.1)
        (λ ks. faults-then (end_at ks.1) (λ (_ : Unit {0}). Ok ks.0) (faults-end extra ks.1) (λ _. faults-none ks.0)))
