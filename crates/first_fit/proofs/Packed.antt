-- Packings that are under way: the first, one with another bin, and the last.
use Rattle.std.proofs.Common.{◌≡◌, ℕ, ◌+◌, ◌-◌, ◌*◌, ◌≤◌, ◌∙◌, inl, inr, List, [], ◌∷◌, ◌++◌, length, map, cond, ◌==◌, Option, Some, None, IfSome, unwrap_or, All, slice_index, slice_set, refl, sym, ap, subst, arith}
use Rattle.std.proofs.lemmas.Bool.{cases_eq, ne_eqb, eq-eqb, cond-true, cond-false}
use Rattle.std.proofs.lemmas.List.{length-map, get_or-map, get_or-set_same, get_or-set_other, length-set}
use Rattle.std.proofs.lemmas.List.Elements.{All-push, All-nil}
use Rattle.std.proofs.lemmas.List.Sums.{sum_by_push}
use Rattle.packing_laws.specs.declared.instances.BinType.{BinType}
use Rattle.packing_laws.specs.declared.instances.Item.{Item}
use Rattle.packing_laws.specs.declared.packings.Bin.{Bin}
use Rattle.packing_laws.specs.Instances.{InstanceValue, type_at, item_at}
use Rattle.packing_laws.specs.Packings.{Fits, count_of_item}
use Rattle.packing_laws.specs.Printed.{IsWrittenPacking}
use Rattle.packing_laws.proofs.WrittenPackings.{IsWrittenPacking-made, limit-less, used_of-bins_of, count_of_item-bins_of}
use Rattle.first_fit.specs.declared.filling.Filling.{Filling}
use Rattle.first_fit.specs.inner.Fillings.{IsFilling}
use Rattle.first_fit.specs.inner.Stages.{IsStage, packed_of, taken_of}
use Rattle.first_fit.proofs.TakenUnits.{IsTaken}
use Rattle.first_fit.proofs.FilledBins.{filling-fits}

-- a limit, or the number that stands for none
limit-start : (limit : Option ℕ) (n free : ℕ) → n ≡ 0 → free ≡ unwrap_or limit 4294967295 → IfSome limit (λ q. n + free ≤ q)
limit-start None n free none is = tt
limit-start (Some q) n free none is = omega arith

limit-kept : (limit : Option ℕ) (m n : ℕ) → m ≡ n → IfSome limit (λ q. m ≤ q) → IfSome limit (λ q. n ≤ q)
limit-kept None m n same within = tt
limit-kept (Some q) m n same within = omega arith

-- no bins
pub stage-start : (I : InstanceValue) → IsStage I (map (λ (x : Item). x.demand) I.items) (map (λ (t : BinType). unwrap_or t.limit 4294967295) I.types) []
stage-start I =
    let no_type : BinType = record { cap = []; cost = 0; limit = None } in
    let no_item : Item = record { demand = 0; forms = [] } in
    record {
      items = length-map I.items (λ (x : Item). x.demand);
      types = length-map I.types (λ (t : BinType). unwrap_or t.limit 4294967295);
      fits = All-nil (λ (b : Bin). Fits I b.bin_type b.counts);
      limits = λ t among. limit-start (type_at I t).limit 0 (slice_index (map (λ (u : BinType). unwrap_or u.limit 4294967295) I.types) (t - 1)) refl (get_or-map (λ (u : BinType). unwrap_or u.limit 4294967295) I.types (t - 1) no_type 0 (omega (arith, among.0, among.1)));
      demands = λ i among.
          let there : slice_index (map (λ (x : Item). x.demand) I.items) (i - 1) ≡ (item_at I i).demand = get_or-map (λ (x : Item). x.demand) I.items (i - 1) no_item 0 (omega (arith, among.0, among.1)) in
          omega arith;
    }

-- one bin more, so many times
pub stage-next : (I : InstanceValue) (rest free left : List ℕ) (bins : List Bin) (b : Filling) (times : ℕ) (new : Bin) → new ≡ record { bin_type = b.bin_type; times = times; counts = b.counts.items } → IsStage I rest free bins → IsFilling I rest b → length left ≡ length rest → IsTaken times b.counts.items left rest → times ≤ slice_index free (b.bin_type - 1) → IsStage I left (slice_set free (b.bin_type - 1) (slice_index free (b.bin_type - 1) - times)) (bins ++ new ∷ [])
stage-next I rest free left bins b times new is stage filling size taken enough =
    let t0 : ℕ = b.bin_type in
    let v : ℕ = slice_index free (t0 - 1) - times in
    let now : List ℕ = slice_set free (t0 - 1) v in
    record {
      items = size ∙ stage.items;
      types = length-set free (t0 - 1) v ∙ stage.types;
      fits = All-push (λ (c : Bin). Fits I c.bin_type c.counts) bins new stage.fits (subst (λ (c : Bin). Fits I c.bin_type c.counts) (sym is) (filling-fits I rest b filling));
      limits = λ t among.
          let each : Bin → ℕ = λ c. c.times * cond (c.bin_type == t) 1 0 in
          let more : taken_of t (bins ++ new ∷ []) ≡ taken_of t bins + each new = sum_by_push each bins new in
          let own : each new ≡ times * cond (t0 == t) 1 0 = ap each is in
          elim (cases_eq t t0) [
            | inl here ↦
                let one : times * cond (t0 == t) 1 0 ≡ times * 1 = ap (λ m. times * m) (cond-true (t0 == t) 1 0 (eq-eqb t0 t (sym here))) in
                let set : slice_index now (t0 - 1) ≡ v = get_or-set_same free (t0 - 1) v 0 (omega (arith, filling.bin_type.0, filling.bin_type.1, stage.types)) in
                let there : slice_index now (t - 1) ≡ slice_index now (t0 - 1) = ap (λ j. slice_index now (j - 1)) here in
                let old : slice_index free (t - 1) ≡ slice_index free (t0 - 1) = ap (λ j. slice_index free (j - 1)) here in
                limit-kept (type_at I t).limit (taken_of t bins + slice_index free (t - 1)) (taken_of t (bins ++ new ∷ []) + slice_index now (t - 1)) (omega arith) (stage.limits t among)
            | inr other ↦
                let none : times * cond (t0 == t) 1 0 ≡ times * 0 = ap (λ m. times * m) (cond-false (t0 == t) 1 0 (ne_eqb t0 t (λ e. other (sym e)))) in
                let set : slice_index now (t - 1) ≡ slice_index free (t - 1) = get_or-set_other free (t0 - 1) (t - 1) v 0 (λ e. other (omega (arith, e, among.0, filling.bin_type.0))) in
                limit-kept (type_at I t).limit (taken_of t bins + slice_index free (t - 1)) (taken_of t (bins ++ new ∷ []) + slice_index now (t - 1)) (omega arith) (stage.limits t among)
          ];
      demands = λ i among.
          let each : Bin → ℕ = λ c. c.times * count_of_item i c.counts in
          let more : packed_of i (bins ++ new ∷ []) ≡ packed_of i bins + each new = sum_by_push each bins new in
          let own : each new ≡ times * count_of_item i b.counts.items = ap each is in
          let before : packed_of i bins + slice_index rest (i - 1) ≡ (item_at I i).demand = stage.demands i among in
          let part : times * count_of_item i b.counts.items + slice_index left (i - 1) ≡ slice_index rest (i - 1) = taken i (omega (arith, among.0), omega (arith, among.1, stage.items)) in
          omega arith;
    }

-- nothing is left
pub stage-end : (I : InstanceValue) (rest free : List ℕ) (bins : List Bin) → IsStage I rest free bins → All (λ n. n ≡ 0) rest → IsWrittenPacking I bins
stage-end I rest free bins stage empty =
    IsWrittenPacking-made I bins stage.fits
    (λ t among. limit-less (type_at I t).limit _ (taken_of t bins + slice_index free (t - 1)) (let used = used_of-bins_of t bins in omega arith) (stage.limits t among))
    (λ i among.
    let none : slice_index rest (i - 1) ≡ 0 = empty (i - 1) 0 (omega (arith, among.0, among.1, stage.items)) in
    let all : packed_of i bins + slice_index rest (i - 1) ≡ (item_at I i).demand = stage.demands i among in
    count_of_item-bins_of i bins ∙ omega arith)
