-- A bin into which units of a piece are put stays within the capacity and within what is left.
use Rattle.std.proofs.Common.{◌≡◌, ◌≢◌, ℕ, ◌+◌, ◌-◌, ◌*◌, ◌≤◌, ◌∙◌, inl, inr, List, [], ◌∷◌, ◌++◌, length, min, All, Contains, slice_index, sym, ap, subst, arith, get_or}
use Rattle.std.proofs.lemmas.Bool.{cases_eq}
use Rattle.std.proofs.lemmas.List.Elements.{All-push}
use Rattle.std.proofs.lemmas.List.Sums.{sum_by_push}
use Rattle.packing_laws.specs.declared.instances.ItemCap.{ItemCap}
use Rattle.packing_laws.specs.declared.packings.Count.{Count}
use Rattle.packing_laws.specs.Instances.{InstanceValue, IsInstance, IsAmong, type_at, form_at}
use Rattle.packing_laws.specs.Packings.{Content, Exists, Fits, KeepsCaps, count_of_item, weight_in}
use Rattle.packing_laws.proofs.OneCap.{caps-once, cap-keeps}
use Rattle.first_fit.specs.declared.pieces.Piece.{Piece}
use Rattle.first_fit.specs.declared.filling.Filling.{Filling}
use Rattle.first_fit.specs.inner.Fillings.{IsPiece, IsFilling, IsMostOf, IsPutInto}
use Rattle.first_fit.proofs.TakenUnits.{units_of, own_units, other_units}

module _ (I : InstanceValue) (rest : List ℕ) (old : Filling) (p : Piece) (weights : List ℕ) (copies : ℕ) (new : Filling) where
  abbrev unit : Count
  unit = record { item = p.item; form = p.form; count = copies }

  -- the room and the weight, where the weight grows by what the room loses
  filled-weight : (d : ℕ) → weights ≡ form_at I p.item p.form → length weights ≡ I.dims → IsAmong d I.dims → IsFilling I rest old → IsPutInto old p weights copies new → weight_in I d new.counts.items ≡ weight_in I d old.counts.items + copies * slice_index weights (d - 1) → weight_in I d new.counts.items + slice_index new.room.items (d - 1) ≡ slice_index (type_at I new.bin_type).cap (d - 1)
  filled-weight d form dims among before put more =
      let room : slice_index new.room.items (d - 1) + copies * slice_index weights (d - 1) ≡ slice_index old.room.items (d - 1) = put.room (d - 1) (omega (arith, among.0, among.1)) in
      let whole : weight_in I d old.counts.items + slice_index old.room.items (d - 1) ≡ slice_index (type_at I old.bin_type).cap (d - 1) = before.weight d among in
      let same : slice_index (type_at I new.bin_type).cap (d - 1) ≡ slice_index (type_at I old.bin_type).cap (d - 1) = ap (λ t. slice_index (type_at I t).cap (d - 1)) put.bin_type in
      omega arith

  filled-more : IsPiece I p → weights ≡ form_at I p.item p.form → length weights ≡ I.dims → (most : ℕ) → IsMostOf I rest p.item most → count_of_item p.item old.counts.items + copies ≤ most → IsFilling I rest old → IsPutInto old p weights copies new → new.counts.items ≡ old.counts.items ++ unit ∷ [] → IsFilling I rest new
  filled-more piece form dims most allowed enough before put pushed = record {
    bin_type = subst (λ t. IsAmong t (length I.types)) (sym put.bin_type) before.bin_type;
    exists = subst (All (Exists I)) (sym pushed) (All-push (Exists I) old.counts.items unit before.exists (record { item = piece.item; form = piece.form }));
    dims = put.dims ∙ before.dims;
    weight = λ d among.
        let weigh : Count → ℕ = λ n. n.count * slice_index (form_at I n.item n.form) (d - 1) in
        let more : weight_in I d new.counts.items ≡ weight_in I d old.counts.items + copies * slice_index (form_at I p.item p.form) (d - 1) = ap (weight_in I d) pushed ∙ sum_by_push weigh old.counts.items unit in
        filled-weight d form dims among before put (more ∙ ap (λ (v : List ℕ). weight_in I d old.counts.items + copies * slice_index v (d - 1)) (sym form));
    within = λ i among.
        let more : count_of_item i new.counts.items ≡ count_of_item i old.counts.items + units_of i unit = ap (count_of_item i) pushed ∙ sum_by_push (units_of i) old.counts.items unit in
        let held : count_of_item i old.counts.items ≤ slice_index rest (i - 1) = before.within i among in
        elim (cases_eq i p.item) [
          | inl here ↦
              let own : units_of i unit ≡ copies = ap (λ j. units_of j unit) here ∙ own_units unit in
              let count : count_of_item i old.counts.items ≡ count_of_item p.item old.counts.items = ap (λ j. count_of_item j old.counts.items) here in
              let left : slice_index rest (i - 1) ≡ slice_index rest (p.item - 1) = ap (λ j. slice_index rest (j - 1)) here in
              omega (arith, more, own, count, left, enough, allowed.left)
          | inr other ↦ let none : units_of i unit ≡ 0 = other_units i unit other in omega arith
        ];
    caps = λ n e inside.
        let k : ItemCap = get_or I.caps n e in
        let more : count_of_item k.item new.counts.items ≡ count_of_item k.item old.counts.items + units_of k.item unit = ap (count_of_item k.item) pushed ∙ sum_by_push (units_of k.item) old.counts.items unit in
        let held : count_of_item k.item old.counts.items ≤ k.count = before.caps n e inside in
        elim (cases_eq k.item p.item) [
          | inl here ↦
              let own : units_of k.item unit ≡ copies = ap (λ j. units_of j unit) here ∙ own_units unit in
              let count : count_of_item k.item old.counts.items ≡ count_of_item p.item old.counts.items = ap (λ j. count_of_item j old.counts.items) here in
              omega (arith, more, own, count, enough, allowed.cap n e inside here)
          | inr other ↦ let none : units_of k.item unit ≡ 0 = other_units k.item unit other in omega (arith, more, none, held)
        ];
  }

  filled-same : weights ≡ form_at I p.item p.form → length weights ≡ I.dims → copies ≡ 0 → IsFilling I rest old → IsPutInto old p weights copies new → new.counts.items ≡ old.counts.items → IsFilling I rest new
  filled-same form dims none before put same = record {
    bin_type = subst (λ t. IsAmong t (length I.types)) (sym put.bin_type) before.bin_type;
    exists = subst (All (Exists I)) (sym same) before.exists;
    dims = put.dims ∙ before.dims;
    weight = λ d among.
        let free : copies * slice_index weights (d - 1) ≡ 0 * slice_index weights (d - 1) = ap (λ m. m * slice_index weights (d - 1)) none in
        let kept : weight_in I d new.counts.items ≡ weight_in I d old.counts.items = ap (weight_in I d) same in
        filled-weight d form dims among before put (omega arith);
    within = λ i among. subst (λ (c : Content). count_of_item i c ≤ slice_index rest (i - 1)) (sym same) (before.within i among);
    caps = subst (KeepsCaps I) (sym same) before.caps;
  }

  pub filled : IsPiece I p → weights ≡ form_at I p.item p.form → length weights ≡ I.dims → (most : ℕ) → IsMostOf I rest p.item most → count_of_item p.item old.counts.items + copies ≤ most → IsFilling I rest old → IsPutInto old p weights copies new → IsFilling I rest new
  filled piece form dims most allowed enough before put = elim put.counts [
    | inl pushed ↦ filled-more piece form dims most allowed enough before put pushed
    | inr nothing ↦ filled-same form dims nothing.1 before put nothing.0
  ]

-- what is in such a bin fits
pub filling-fits : (I : InstanceValue) (rest : List ℕ) (b : Filling) → IsFilling I rest b → Fits I b.bin_type b.counts.items
filling-fits I rest b filling = record {
  bin_type = filling.bin_type;
  exists = filling.exists;
  weight = λ d among. let whole : weight_in I d b.counts.items + slice_index b.room.items (d - 1) ≡ slice_index (type_at I b.bin_type).cap (d - 1) = filling.weight d among in omega arith;
  caps = filling.caps;
}

-- an item without a cap
pub most-free : (I : InstanceValue) (rest : List ℕ) (i left : ℕ) → IsAmong i (length I.items) → left ≡ slice_index rest (i - 1) → All (λ k. k.item ≢ i) I.caps → IsMostOf I rest i left
most-free I rest i left among is none = record {
  left = omega (arith, is);
  cap = λ n e within same. absurd (none n e within same);
  greatest = λ c held kept. omega (arith, is, held i among);
}

-- an item with a cap
pub most-capped : (I : InstanceValue) (rest : List ℕ) (i left cap most : ℕ) → IsInstance I → IsAmong i (length I.items) → left ≡ slice_index rest (i - 1) → Contains I.caps (record { item = i; count = cap }) → most ≡ min left cap → IsMostOf I rest i most
most-capped I rest i left cap most inside among is found least = record {
  left = omega (arith, is, least);
  cap = λ n e within same. omega (arith, least, caps-once I.caps inside.caps.order (record { item = i; count = cap }) found n e within same);
  greatest = λ c held kept.
      let fits : count_of_item i c ≤ cap = cap-keeps I c (record { item = i; count = cap }) found kept in
      omega (arith, is, least, held i among, fits);
}
