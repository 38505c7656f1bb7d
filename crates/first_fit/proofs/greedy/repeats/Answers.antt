-- One more count, and all counts.
use Rattle.std.proofs.Common.{◌≡◌, ◌-◌, ◌*◌, ◌/◌, ◌≤◌, ℕ, List, All, take, slice_index, get_or, arith, sym, ap, subst, ◌∙◌}
use Rattle.std.proofs.lemmas.List.{take_all}
use Rattle.std.proofs.Math.Nat.{div-mul-le_self, mul-le-mul_right}
use Rattle.packing_laws.specs.declared.packings.Count.{Count}
use Rattle.packing_laws.specs.Packings.{Content, count_of_item}
use Rattle.first_fit.proofs.Repeats.{IsEnoughOf, enough-more, enough-all}
use Rattle.first_fit.proofs.greedy.repeats.Goals as goal
use Rattle.first_fit.proofs.greedy.repeats.Goals.{then-units-gt0, else-units-gt0}

abbrev nothing : Count
nothing = record { item = 0; form = 0; count = 0 }

pub held-units-requires : goal.held-units-requires
held-units-requires c =
    let n : Count = get_or c.args.counts.now c.loop-count.count-index nothing in
    let within : count_of_item n.item c.args.counts.now ≤ slice_index c.args.rest.now (n.item - 1) = c.requires.within n.item (c.requires.exists c.loop-count.count-index nothing c.loop-count-test.true) in
    let left : c.entry-left.result ≡ slice_index c.args.rest.now (n.item - 1) = c.entry-left.ensures in
    omega (arith, within, left, c.entry-left.type_inv)

pub loop-count-preserved : goal.loop-count-preserved
loop-count-preserved c =
    let counts : Content = c.args.counts.now in
    let rest : List ℕ = c.args.rest.now in
    let k : ℕ = c.loop-count.count-index in
    let n : Count = get_or counts k nothing in
    let left : c.entry-left.result ≡ slice_index rest (n.item - 1) = c.entry-left.ensures in
    let units : c.held-units.result ≡ count_of_item n.item counts = c.held-units.ensures in
    elim c.if-units-gt0.branch [
      | then-units-gt0 w ↦
          let less : c.if-units-gt0.times ≤ c.loop-count.times = omega (arith, w.times-is, w.min-times.ensures) in
          let part : c.if-units-gt0.times ≤ c.entry-left.result / c.held-units.result = omega (arith, w.times-is, w.min-times.ensures) in
          let scaled : c.if-units-gt0.times * c.held-units.result ≤ c.entry-left.result / c.held-units.result * c.held-units.result = mul-le-mul_right c.held-units.result part in
          let whole : c.entry-left.result / c.held-units.result * c.held-units.result ≤ c.entry-left.result = div-mul-le_self c.entry-left.result c.held-units.result in
          let same : c.if-units-gt0.times * c.held-units.result ≡ c.if-units-gt0.times * count_of_item n.item counts = ap (λ m. c.if-units-gt0.times * m) units in
          record {
            most = omega (arith, less, c.loop-count.invariant.most);
            units = enough-more rest counts c.loop-count.times c.if-units-gt0.times k nothing c.loop-count-test.true less c.loop-count.invariant.units (omega arith);
          }
      | else-units-gt0 w ↦
          let none : c.held-units.result ≡ 0 = omega (arith, w.if-units-gt0.false) in
          let less : c.if-units-gt0.times ≤ c.loop-count.times = omega (arith, w.times-is) in
          let free : c.if-units-gt0.times * count_of_item n.item counts ≡ c.if-units-gt0.times * 0 = ap (λ m. c.if-units-gt0.times * m) (sym units ∙ none) in
          record {
            most = omega (arith, less, c.loop-count.invariant.most);
            units = enough-more rest counts c.loop-count.times c.if-units-gt0.times k nothing c.loop-count-test.true less c.loop-count.invariant.units (omega arith);
          }
    ]

pub returns-clause-units : goal.returns-clause-units
returns-clause-units c i among =
    let whole : take c.loop-count.count-index c.args.counts.now ≡ c.args.counts.now = take_all c.loop-count.count-index c.args.counts.now c.loop-count-test.false in
    enough-all c.args.rest.now c.args.counts.now c.loop-count.times (subst (All (IsEnoughOf c.args.rest.now c.args.counts.now c.loop-count.times)) whole c.loop-count.invariant.units) i
