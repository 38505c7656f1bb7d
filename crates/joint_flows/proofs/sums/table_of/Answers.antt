use Rattle.std.proofs.Common.{◌≡◌, ℕ, ◌+◌, ◌^◌, ◌<◌, ◌≤◌, List, length, get_or, set, refl, rules, arith}
use Rattle.flow_graph.specs.declared.parts.ArcKind.{ArcKind}
use Rattle.flow_graph.specs.declared.parts.ArcKind.TheVariants.{Bin}
use Rattle.joint_arcs.specs.Joined.{numbered}
use Rattle.joint_flows.specs.inner.Sums.{place_of}
use Rattle.joint_flows.proofs.Tables.{table_below, table_more}
use Rattle.joint_flows.proofs.sums.table_of.Goals as goal

pub loop-index-preserved : goal.loop-index-preserved
loop-index-preserved c =
    let kinds : List ArcKind = numbered c.args.graph.now in
    let values : List ℕ = c.args.values.now in
    let i : ℕ = c.loop-index.index in
    let p : ℕ = c.place_of.result in
    let x : ℕ = get_or values i 0 in
    let old : List ℕ = c.loop-index.sums in
    let new : List ℕ = c.raise.new.sums in
    let within : i < length kinds = search rules in
    let placed : p ≡ place_of c.args.side c.args.graph.now (get_or kinds i (Bin 0)) = search rules in
    let own : place_of c.args.side c.args.graph.now (get_or kinds i (Bin 0)) ≤ c.args.last = c.requires.places i (Bin 0) within in
    let high : p ≤ c.args.last = omega (arith, placed, own) in
    let wide : length old ≡ c.args.last + 1 = c.loop-index.invariant.sums.size in
    let small : x < 2 ^ 64 = search rules in
    let more : new ≡ set old p (get_or old p 0 + x) = c.raise.ensures in
    record {
      sums = table_more (place_of c.args.side c.args.graph.now) c.args.last kinds values i (Bin 0) p x old new within c.requires.size placed refl high more c.loop-index.invariant.sums;
      below = table_below i p x old new (omega (arith, high, wide)) small more c.loop-index.invariant.below;
    }
