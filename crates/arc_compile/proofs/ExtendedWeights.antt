-- A content fits a type exactly where its extended weight is within the extended capacity.
use Rattle.std.proofs.Common.{◌≡◌, ℕ, ◌+◌, ◌-◌, ◌*◌, ◌<◌, ◌≤◌, ◌==◌, ⊎_elim, Bool, true, false, cond, List, [], ◌∷◌, ◌++◌, length, length-append, map, sum_by, refl, sym, ap, ◌∙◌, arith, get_or, None}
use Rattle.std.specs.Prelude.{All}
use Rattle.std.proofs.lemmas.Bool.{cases_lt}
use Rattle.std.proofs.lemmas.List.{get_or_append_left, get_or-append-add, get_or-map, get_or_past, length-map}
use Rattle.std.proofs.lemmas.List.Elements.{All-append, All-map, All-head, All-tail}
use Rattle.std.proofs.lemmas.List.Sums.{sum_by-cons}
use Rattle.arc_num.specs.declared.TheConstants.{MAX_VALUE}
use Rattle.packing_laws.specs.declared.instances.ItemCap.{ItemCap}
use Rattle.packing_laws.specs.declared.packings.Count.{Count}
use Rattle.packing_laws.specs.Instances.{InstanceValue, IsInstance, IsAmong, IsVector, IsItem, IsBinType, type_at, item_at, form_at}
use Rattle.packing_laws.specs.Floors.{vector_fits}
use Rattle.packing_laws.specs.Packings.{Content, Exists, Fits, count_of_item, weight_in}
use Rattle.packing_laws.proofs.PackedItems.{vector_fits-at}
use Rattle.arc_compile.specs.Extended.{places_of, counted_by_caps, extended_weight, extended_capacity, extended_in}
use Rattle.arc_compile.specs.CompileLaws.{ExtendedWeightsTellFits}

pub one_at_most : (b : Bool) → cond b 1 0 ≤ 1
one_at_most true = omega arith
one_at_most false = omega arith

pub times_cond : (b : Bool) (n : ℕ) → n * cond b 1 0 ≡ cond b n 0
times_cond true n = omega arith
times_cond false n = omega arith

module _ (I : InstanceValue) (known : IsInstance I) where
  -- the numbers of a form
  pub form_vector : (i f : ℕ) → IsAmong i (length I.items) → IsAmong f (length (item_at I i).forms) → IsVector I.dims (form_at I i f)
  form_vector i f item_is form_is =
      let item : IsItem I.dims (item_at I i) = known.items (i - 1) (record { demand = 0; forms = [] }) (omega (arith, item_is.0, item_is.1)) in
      (item.forms (f - 1) [] (omega (arith, form_is.0, form_is.1))).vector

  -- the capacity of a type
  pub cap_vector : (t : ℕ) → IsAmong t (length I.types) → IsVector I.dims (type_at I t).cap
  cap_vector t among =
      let bin : IsBinType I.dims (type_at I t) = known.types (t - 1) (record { cap = []; cost = 0; limit = None }) (omega (arith, among.0, among.1)) in
      bin.capacity

  pub weight_vector : (i f : ℕ) → IsAmong i (length I.items) → IsAmong f (length (item_at I i).forms) → IsVector (places_of I) (extended_weight I i f)
  weight_vector i f item_is form_is =
      let form = form_vector i f item_is form_is in
      let test : ItemCap → ℕ = λ k. cond (i == k.item) 1 0 in
      record {
        size = omega (arith, length-append (form_at I i f) (counted_by_caps I i), length-map I.caps test, form.size);
        small = All-append (λ x. x ≤ MAX_VALUE) (form_at I i f) (counted_by_caps I i) form.small (All-map (λ (x : ℕ). x ≤ MAX_VALUE) test I.caps (λ k d lt. omega (arith, one_at_most (i == (get_or I.caps k d).item))));
      }

  pub capacity_vector : (t : ℕ) → IsAmong t (length I.types) → IsVector (places_of I) (extended_capacity I t)
  capacity_vector t among =
      let vector = cap_vector t among in
      let count : ItemCap → ℕ = λ k. k.count in
      record {
        size = omega (arith, length-append (type_at I t).cap (map count I.caps), length-map I.caps count, vector.size);
        small = All-append (λ x. x ≤ MAX_VALUE) (type_at I t).cap (map count I.caps) vector.small (All-map (λ (x : ℕ). x ≤ MAX_VALUE) count I.caps (λ k d lt. let cap = known.caps.each k d lt in omega (arith, cap.count.1)));
      }

  -- the number of a form in the place of a dimension
  pub weight-dims : (i f : ℕ) → IsVector I.dims (form_at I i f) → (d : ℕ) → d < I.dims → get_or (extended_weight I i f) d 0 ≡ get_or (form_at I i f) d 0
  weight-dims i f vector d lt = get_or_append_left (form_at I i f) (counted_by_caps I i) 0 d (omega (arith, vector.size))

  -- and in that of a cap
  pub weight-caps : (i f : ℕ) → IsVector I.dims (form_at I i f) → (j : ℕ) (k : ItemCap) → j < length I.caps → get_or (extended_weight I i f) (I.dims + j) 0 ≡ cond (i == (get_or I.caps j k).item) 1 0
  weight-caps i f vector j k lt =
      let form = form_at I i f in
      let counted = counted_by_caps I i in
      let e : I.dims + j ≡ length form + j = omega (arith, vector.size) in
      ap (λ (m : ℕ). get_or (form ++ counted) m 0) e ∙ (get_or-append-add form counted j 0 ∙ get_or-map (λ (m : ItemCap). cond (i == m.item) 1 0) I.caps j k 0 lt)

  -- in the places of the dimensions a content weighs what it weighs in these
  pub extended-dims : (d : ℕ) → d < I.dims → (c : Content) → All (Exists I) c → extended_in I d c ≡ weight_in I (d + 1) c
  extended-dims d lt [] exists = refl
  extended-dims d lt (n ∷ c) exists =
      let form = form_at I n.item n.form in
      let there = All-head (Exists I) n c exists in
      let e : d ≡ d + 1 - 1 = omega arith in
      let same : get_or (extended_weight I n.item n.form) d 0 ≡ get_or form (d + 1 - 1) 0 = weight-dims n.item n.form (form_vector n.item n.form there.item there.form) d lt ∙ ap (λ (k : ℕ). get_or form k 0) e in
      let term : n.count * get_or (extended_weight I n.item n.form) d 0 ≡ n.count * get_or form (d + 1 - 1) 0 = ap (λ (m : ℕ). n.count * m) same in
      let first : extended_in I d (n ∷ c) ≡ n.count * get_or (extended_weight I n.item n.form) d 0 + extended_in I d c = sum_by-cons (λ (m : Count). m.count * get_or (extended_weight I m.item m.form) d 0) n c in
      let second : weight_in I (d + 1) (n ∷ c) ≡ n.count * get_or form (d + 1 - 1) 0 + weight_in I (d + 1) c = sum_by-cons (λ (m : Count). m.count * get_or (form_at I m.item m.form) (d + 1 - 1) 0) n c in
      let rest = extended-dims d lt c (All-tail (Exists I) n c exists) in
      omega arith

  -- in the place of a cap it weighs as many units as it has of the cap's item
  pub extended-caps : (j : ℕ) (k : ItemCap) → j < length I.caps → (c : Content) → All (Exists I) c → extended_in I (I.dims + j) c ≡ count_of_item (get_or I.caps j k).item c
  extended-caps j k lt [] exists = refl
  extended-caps j k lt (n ∷ c) exists =
      let there = All-head (Exists I) n c exists in
      let i = (get_or I.caps j k).item in
      let same : get_or (extended_weight I n.item n.form) (I.dims + j) 0 ≡ cond (n.item == i) 1 0 = weight-caps n.item n.form (form_vector n.item n.form there.item there.form) j k lt in
      let term : n.count * get_or (extended_weight I n.item n.form) (I.dims + j) 0 ≡ cond (n.item == i) n.count 0 = ap (λ (m : ℕ). n.count * m) same ∙ times_cond (n.item == i) n.count in
      let first : extended_in I (I.dims + j) (n ∷ c) ≡ n.count * get_or (extended_weight I n.item n.form) (I.dims + j) 0 + extended_in I (I.dims + j) c = sum_by-cons (λ (m : Count). m.count * get_or (extended_weight I m.item m.form) (I.dims + j) 0) n c in
      let second : count_of_item i (n ∷ c) ≡ cond (n.item == i) n.count 0 + count_of_item i c = sum_by-cons (λ (m : Count). cond (m.item == i) m.count 0) n c in
      let rest = extended-caps j k lt c (All-tail (Exists I) n c exists) in
      omega arith

  -- past all places it weighs nothing
  pub extended-past : (d : ℕ) → places_of I ≤ d → (c : Content) → All (Exists I) c → extended_in I d c ≡ 0
  extended-past d past [] exists = refl
  extended-past d past (n ∷ c) exists =
      let there = All-head (Exists I) n c exists in
      let none : get_or (extended_weight I n.item n.form) d 0 ≡ 0 = get_or_past (extended_weight I n.item n.form) d 0 (omega (arith, (weight_vector n.item n.form there.item there.form).size)) in
      let term : n.count * get_or (extended_weight I n.item n.form) d 0 ≡ n.count * 0 = ap (λ (m : ℕ). n.count * m) none in
      let first : extended_in I d (n ∷ c) ≡ n.count * get_or (extended_weight I n.item n.form) d 0 + extended_in I d c = sum_by-cons (λ (m : Count). m.count * get_or (extended_weight I m.item m.form) d 0) n c in
      let rest = extended-past d past c (All-tail (Exists I) n c exists) in
      omega arith

  module _ (t : ℕ) (among : IsAmong t (length I.types)) where
    capacity-dims : (d : ℕ) → d < I.dims → get_or (extended_capacity I t) d 0 ≡ get_or (type_at I t).cap d 0
    capacity-dims d lt = get_or_append_left (type_at I t).cap (map (λ (k : ItemCap). k.count) I.caps) 0 d (omega (arith, (cap_vector t among).size))

    capacity-caps : (j : ℕ) (k : ItemCap) → j < length I.caps → get_or (extended_capacity I t) (I.dims + j) 0 ≡ (get_or I.caps j k).count
    capacity-caps j k lt =
        let cap = (type_at I t).cap in
        let counts = map (λ (m : ItemCap). m.count) I.caps in
        let e : I.dims + j ≡ length cap + j = omega (arith, (cap_vector t among).size) in
        ap (λ (m : ℕ). get_or (cap ++ counts) m 0) e ∙ (get_or-append-add cap counts j 0 ∙ get_or-map (λ (m : ItemCap). m.count) I.caps j k 0 lt)

    -- a form that fits by its vector is within the extended capacity, since each cap allows a unit
    pub form_within : (i f : ℕ) → IsAmong i (length I.items) → IsAmong f (length (item_at I i).forms) → vector_fits (form_at I i f) (type_at I t).cap ≡ true → (d : ℕ) → get_or (extended_weight I i f) d 0 ≤ get_or (extended_capacity I t) d 0
    form_within i f item_is form_is fits d =
        let no_cap : ItemCap = record { item = 0; count = 0 } in
        let vector = form_vector i f item_is form_is in
        ⊎_elim
        (λ lt. omega (arith, vector_fits-at (form_at I i f) (type_at I t).cap d (vector.size ∙ sym (cap_vector t among).size) fits, weight-dims i f vector d lt, capacity-dims d lt))
        (λ ge.
        ⊎_elim
        (λ lt.
        let j = d - I.dims in
        let e : I.dims + j ≡ d = omega arith in
        let k = get_or I.caps j no_cap in
        let weight : get_or (extended_weight I i f) d 0 ≡ cond (i == k.item) 1 0 = ap (λ (m : ℕ). get_or (extended_weight I i f) m 0) (sym e) ∙ weight-caps i f vector j no_cap (omega arith) in
        let room : get_or (extended_capacity I t) d 0 ≡ k.count = ap (λ (m : ℕ). get_or (extended_capacity I t) m 0) (sym e) ∙ capacity-caps j no_cap (omega arith) in
        let cap = known.caps.each j no_cap (omega arith) in
        omega (arith, one_at_most (i == k.item), cap.count.0))
        (λ past. omega (arith, get_or_past (extended_weight I i f) d 0 (omega (arith, (weight_vector i f item_is form_is).size, past))))
        (cases_lt d (places_of I)))
        (cases_lt d I.dims)

    -- what fits is within the extended capacity
    pub within_capacity : (c : Content) → Fits I t c → (d : ℕ) → extended_in I d c ≤ get_or (extended_capacity I t) d 0
    within_capacity c fits d =
        let no_cap : ItemCap = record { item = 0; count = 0 } in
        ⊎_elim
        (λ lt.
        let e : d + 1 - 1 ≡ d = omega arith in
        let most : weight_in I (d + 1) c ≤ get_or (type_at I t).cap (d + 1 - 1) 0 = fits.weight (d + 1) (omega arith, omega arith) in
        let same : get_or (type_at I t).cap (d + 1 - 1) 0 ≡ get_or (type_at I t).cap d 0 = ap (λ (k : ℕ). get_or (type_at I t).cap k 0) e in
        omega (arith, extended-dims d lt c fits.exists, capacity-dims d lt))
        (λ ge.
        ⊎_elim
        (λ lt.
        let j = d - I.dims in
        let e : I.dims + j ≡ d = omega arith in
        let weight : extended_in I d c ≡ count_of_item (get_or I.caps j no_cap).item c = ap (λ (k : ℕ). extended_in I k c) (sym e) ∙ extended-caps j no_cap (omega arith) c fits.exists in
        let room : get_or (extended_capacity I t) d 0 ≡ (get_or I.caps j no_cap).count = ap (λ (k : ℕ). get_or (extended_capacity I t) k 0) (sym e) ∙ capacity-caps j no_cap (omega arith) in
        let most : count_of_item (get_or I.caps j no_cap).item c ≤ (get_or I.caps j no_cap).count = fits.caps j no_cap (omega arith) in
        omega arith)
        (λ past. omega (arith, extended-past d past c fits.exists))
        (cases_lt d (places_of I)))
        (cases_lt d I.dims)

    -- what is within the extended capacity fits
    pub fits_within : (c : Content) → All (Exists I) c → ((d : ℕ) → extended_in I d c ≤ get_or (extended_capacity I t) d 0) → Fits I t c
    fits_within c exists within =
        record {
          bin_type = among;
          exists = exists;
          weight = λ d dim.
              let e : d - 1 + 1 ≡ d = omega (arith, dim.0) in
              let lt : d - 1 < I.dims = omega (arith, dim.0, dim.1) in
              let weight : extended_in I (d - 1) c ≡ weight_in I d c = extended-dims (d - 1) lt c exists ∙ ap (λ (k : ℕ). weight_in I k c) e in
              omega (arith, within (d - 1), capacity-dims (d - 1) lt);
          caps = λ j k lt. omega (arith, within (I.dims + j), extended-caps j k lt c exists, capacity-caps j k lt);
        }

pub extended_weights_tell_fits : ExtendedWeightsTellFits
extended_weights_tell_fits I t c known among exists = (within_capacity I known t among c, fits_within I known t among c exists)
