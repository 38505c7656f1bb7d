use Rattle.std.proofs.Common.{◌≡◌, ℕ, ◌+◌, ◌^◌, ◌<◌, List, length, get_or, refl, sym, ap, ◌∙◌, subst, add-one, rules}
use Rattle.arc_num.specs.declared.TheConstants.{MAX_ITEMS}
use Rattle.flow_graph.specs.declared.parts.ArcKind.{ArcKind}
use Rattle.flow_graph.specs.declared.parts.ArcKind.TheVariants.{Bin}
use Rattle.flow_model.specs.Tallies.{TallyValue}
use Rattle.flow_model.specs.inner.Sums.{HasShapeOf, IsPlaced, IsRaised}
use Rattle.flow_model.proofs.TallySums.{shape_more, below_more, holds_more}
use Rattle.flow_model.proofs.tallies.Tally.take_sums.Goals as goal

placed_now : (first old : TallyValue) (kind : ArcKind) → HasShapeOf first old → IsPlaced (length first.inflow) first.starts kind → IsPlaced (length old.inflow) old.starts kind
placed_now first old kind shape placed = subst (λ (n : ℕ). IsPlaced n old.starts kind) (sym shape.inflow) (subst (λ (starts : List ℕ). IsPlaced (length first.inflow) starts kind) (sym shape.starts) placed)

pub loop-kind-preserved : goal.loop-kind-preserved
loop-kind-preserved c =
    let row : List ArcKind = c.args.row.now in
    let values : List ℕ = c.args.values.now in
    let i : ℕ = c.loop-kind.kind-index in
    let kind : ArcKind = get_or row i (Bin 0) in
    let x : ℕ = get_or values c.loop-kind.index 0 in
    let first : TallyValue = c.args.self.now in
    let old : TallyValue = c.loop-kind.self in
    let new : TallyValue = c.add.new.self in
    let more : IsRaised old new kind x = c.add.ensures in
    let same : c.loop-kind.index ≡ i = c.loop-kind.invariant.0 in
    let shape : HasShapeOf first old = c.loop-kind.invariant.1 in
    let within : i < length row = search rules in
    let size : length values ≡ length row = c.requires.size in
    let placed : IsPlaced (length old.inflow) old.starts kind = placed_now first old kind shape (c.requires.placed i (Bin 0) within) in
    let outflow : length first.outflow ≡ length first.inflow = c.requires.outflow in
    let items : length first.items ≡ MAX_ITEMS = c.requires.items in
    let even : length old.outflow ≡ length old.inflow = shape.outflow ∙ outflow ∙ sym shape.inflow in
    let full : length old.items ≡ MAX_ITEMS = shape.items ∙ items in
    let small : x < 2 ^ 64 = search rules in
    (ap (λ (n : ℕ). n + 1) same, shape_more first old new kind x shape more, below_more old new kind x placed even full more i small c.loop-kind.invariant.2, rw add-one (holds_more old new kind x placed even full more row values i (Bin 0) within size refl (ap (λ (n : ℕ). get_or values n 0) same) c.loop-kind.invariant.3))
