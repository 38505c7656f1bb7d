use Rattle.std.proofs.Common.{◌≡◌, ℕ, ◌+◌, ◌<◌, List, ◌++◌, length, get_or, ap, sym, subst, ◌∙◌, arith}
use Rattle.std.specs.Prelude.{Contains}
use Rattle.packing_laws.specs.declared.instances.BinType.{BinType}
use Rattle.packing_laws.specs.Instances.{type_at}
use Rattle.arc_compile.specs.declared.ranks.Ranked.{Ranked}
use Rattle.joint_compile.specs.inner.JointRanks.{AreRankedBelow}
use Rattle.joint_compile.proofs.UnionRanks.{ranked_more, ranked_none, sorted_none, type_by_place}
use Rattle.joint_compile.proofs.pieces.joint_ranks.Goals as goal

pub loop-bin_type-init : goal.loop-bin_type-init
loop-bin_type-init g c = rw c.new-ranked.ensures.items (ranked_none c.args.instance.now, sorted_none g.row.N)

pub loop-bin_type-preserved : goal.loop-bin_type-preserved
loop-bin_type-preserved g c =
    let I = c.args.instance.now in
    let k = c.loop-bin_type.bin_type-index in
    let x = c.bin_type-item.result in
    let same : c.types-bin_type-items.result.now ≡ I.types = c.types-bin_type-items.ensures.value in
    let lt : k < length I.types = subst (λ (xs : List BinType). k < length xs) same c.loop-bin_type-test.true in
    let at : type_at I (k + 1) ≡ x = type_by_place I k x lt (subst (λ (xs : List BinType). x ≡ get_or xs k x) same c.bin_type-item.is) in
    let cap_is : (type_at I (k + 1)).cap ≡ c.as_slice.result.now = ap (λ (b : BinType). b.cap) at ∙ sym c.as_slice.ensures in
    let forms = c.in_ok-forms.ensures.ranked (k + 1) cap_is in
    let old = c.loop-bin_type.ranked.items in
    let grown : c.extend_from_slice.new.self.items ≡ old ++ c.in_ok-forms.forms.items = subst (λ (rs : List (Ranked g.row.N)). c.extend_from_slice.new.self.items ≡ old ++ rs) c.as_slice-in-loop-bin_type.ensures.value c.in_ok-extend_from_slice.ensures.items in (
      ranked_more I k old c.in_ok-forms.forms.items c.sort_distinct.new.all.items c.loop-bin_type.invariant.0 forms (λ r. (
        λ m. subst (λ (rs : List (Ranked g.row.N)). Contains rs r) grown ((c.sort_distinct.ensures.same r).0 m),
        λ m. (c.sort_distinct.ensures.same r).1 (subst (λ (rs : List (Ranked g.row.N)). Contains rs r) (sym grown) m),
      )),
      c.sort_distinct.ensures.sorted,
    )

pub returns-clause-ranked : goal.returns-clause-ranked
returns-clause-ranked g c =
    let I = c.args.instance.now in
    let same : c.types-bin_type-items.result.now ≡ I.types = c.types-bin_type-items.ensures.value in
    let whole : c.loop-bin_type.bin_type-index ≡ length I.types = subst (λ (xs : List BinType). c.loop-bin_type.bin_type-index ≡ length xs) same (omega arith) in
    subst (λ (n : ℕ). AreRankedBelow I n c.loop-bin_type.ranked.items) whole c.loop-bin_type.invariant.0
