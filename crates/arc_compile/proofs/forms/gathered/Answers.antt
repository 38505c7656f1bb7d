use Rattle.std.proofs.Common.{◌≡◌, ◌+◌, ◌<◌, List, ℕ, length, arith, sym, subst, ap, ◌∙◌, get_or, take, vec_len}
use Rattle.std.proofs.Math.Seq.{take-length}
use Rattle.packing_laws.specs.declared.instances.Item.{Item}
use Rattle.packing_laws.specs.Instances.{item_at, type_at}
use Rattle.arc_compile.specs.Extended.{counted_by_caps}
use Rattle.arc_compile.specs.inner.Ranks.{AreRanked, AddsForms, forms_of}
use Rattle.arc_compile.proofs.RankLemmas.{item_by_place, items_push, items_skip, forms_more}
use Rattle.arc_compile.proofs.forms.gathered.Goals as goal
use Rattle.arc_compile.proofs.forms.gathered.Goals.{then-item-gt0+in_ok-counted+in_ok-push_forms, else-item-gt0}

pub loop-i-preserved : goal.loop-i-preserved
loop-i-preserved g c =
    let I = c.args.instance.now in
    let i = c.loop-i.i in
    let x = c.item-item.result in
    let same : c.items-item-items.result.now ≡ I.items = c.items-item-items.ensures.value in
    let lt : i < length I.items = subst (λ (xs : List Item). i < length xs) same c.loop-i-test.true in
    let at : item_at I (i + 1) ≡ x = item_by_place I i x lt (subst (λ (xs : List Item). x ≡ get_or xs i x) same c.item-item.is) in
    let sum : forms_of (take (i + 1) I.items) ≡ forms_of (take i I.items) + length x.forms = forms_more I.items i x lt (subst (λ (xs : List Item). x ≡ get_or xs i x) same c.item-item.is) in
    elim c.if-item-gt0.branch [
      | then-item-gt0+in_ok-counted+in_ok-push_forms w ↦ (
        λ t cap_is.
            let counted : w.as_slice.result.now ≡ counted_by_caps I (i + 1) = w.as_slice.ensures.value ∙ w.in_ok-counted.ensures in
            let by_cap : AddsForms (i + 1) x (type_at I t).cap w.as_slice.result.now (length x.forms) c.loop-i.ranked.items w.push_forms.new.ranked.items = subst (λ (u : List ℕ). AddsForms (i + 1) x u w.as_slice.result.now (length x.forms) c.loop-i.ranked.items w.push_forms.new.ranked.items) (sym cap_is) w.in_ok-push_forms.ensures.added in
            let adds : AddsForms (i + 1) x (type_at I t).cap (counted_by_caps I (i + 1)) (length x.forms) c.loop-i.ranked.items w.push_forms.new.ranked.items = subst (λ (u : List ℕ). AddsForms (i + 1) x (type_at I t).cap u (length x.forms) c.loop-i.ranked.items w.push_forms.new.ranked.items) counted by_cap in
            rw w.ranked-is (items_push I t i x c.loop-i.ranked.items w.push_forms.new.ranked.items at w.if-item-gt0.true (c.loop-i.invariant.0 t cap_is) adds),
        omega (arith, c.loop-i.invariant.1, sum, ap vec_len w.ranked-is, w.in_ok-push_forms.ensures.count),
      )
      | else-item-gt0 w ↦ (
        λ t cap_is. rw w.ranked-is (items_skip I t i x c.loop-i.ranked.items at (omega arith) (c.loop-i.invariant.0 t cap_is)),
        omega (arith, c.loop-i.invariant.1, sum, ap vec_len w.ranked-is),
      )
    ]

pub returns-clause-count : goal.returns-clause-count
returns-clause-count g c =
    let I = c.args.instance.now in
    let same : c.items-item-items.result.now ≡ I.items = c.items-item-items.ensures.value in
    let whole : c.loop-i.i ≡ length I.items = subst (λ (xs : List Item). c.loop-i.i ≡ length xs) same (omega arith) in
    let all : take c.loop-i.i I.items ≡ I.items = ap (λ (n : ℕ). take n I.items) whole ∙ take-length I.items in
    omega (arith, c.loop-i.invariant.1, ap forms_of all)

pub returns-clause-ranked : goal.returns-clause-ranked
returns-clause-ranked g c = λ t cap_is.
    let I = c.args.instance.now in
    let same : c.items-item-items.result.now ≡ I.items = c.items-item-items.ensures.value in
    let whole : c.loop-i.i ≡ length I.items = subst (λ (xs : List Item). c.loop-i.i ≡ length xs) same (omega arith) in
    subst (λ (n : ℕ). AreRanked {N = g.row.N} I t n c.loop-i.ranked.items) whole (c.loop-i.invariant.0 t cap_is)
