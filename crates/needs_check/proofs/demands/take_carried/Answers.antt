use Rattle.std.proofs.Common.{◌≡◌, ℕ, ◌+◌, ◌*◌, ◌^◌, ◌<◌, List, cond, length, get_or, refl, add-one, rules}
use Rattle.flow_graph.specs.declared.parts.ArcKind.{ArcKind}
use Rattle.flow_graph.specs.declared.parts.ArcKind.TheVariants.{Bin}
use Rattle.flow_model.specs.Flows.{carries}
use Rattle.needs_check.proofs.CarriedSums.{small_more, carried_more}
use Rattle.needs_check.proofs.demands.take_carried.Goals as goal

pub loop-index-preserved : goal.loop-index-preserved
loop-index-preserved c =
    let row : List ArcKind = c.args.row.now in
    let values : List ℕ = c.args.values.now in
    let i : ℕ = c.loop-index.index in
    let kind : ArcKind = get_or row i (Bin 0) in
    let x : ℕ = get_or values i 0 in
    let old : List ℕ = c.loop-index.carried in
    let new : List ℕ = c.add_carried.new.carried in
    let added : (j : ℕ) → get_or new j 0 ≡ get_or old j 0 + cond (carries (j + 1) kind) 1 0 * x = c.add_carried.ensures in
    let small : x < 2 ^ 64 = search rules in
    let within : i < length row = search rules in
    let long : length new ≡ length old = search rules in
    record {
      room = search rules;
      small = small_more row values old new i kind x added small c.loop-index.invariant.small;
      sums = rw add-one (carried_more row values old new i kind x added (Bin 0) within c.requires.size refl refl long c.loop-index.invariant.sums);
    }
