use Rattle.std.proofs.Common.{◌≡◌, ℕ, ◌+◌, ◌<◌, ◌≤◌, List, Option, None, Some, map, length, take, subst, rules, All}
use Rattle.std.specs.Prelude.{is_some, true, false}
use Rattle.std.proofs.lemmas.List.{take_all}
use Rattle.flow_graph.specs.Arcs.{TypeValue, flow_type}
use Rattle.flow_model.specs.declared.flows.FlowRow.{FlowRow}
use Rattle.flow_model.specs.declared.flows.FlowRow.TheVariants.{Node}
use Rattle.flow_model.specs.Flows.{Keeps, FirstBroken, up_to, nodes_from, all_nodes}
use Rattle.flow_model.proofs.BrokenRows.{node_broken, nodes_hold_more}
use Rattle.flow_model.proofs.checks.bad_node.Goals as goal

abbrev rows_of : ℕ × ℕ → FlowRow
rows_of node = Node node.0 node.1

stopped : (P : FlowRow → Type 0) (g : List TypeValue) (t : ℕ) (bad : Option FlowRow) → is_some bad ≡ true → t < length g → All P (map rows_of (nodes_from 1 (take t g))) → FirstBroken P (map (λ v. Node (t + 1) v) (up_to (flow_type g (t + 1)).nodes)) bad → FirstBroken P (map rows_of (all_nodes g)) bad
stopped P g t None some within all broken = cc
stopped P g t (Some row) some within all broken = node_broken P g t row within all broken

passed : (P : FlowRow → Type 0) (g : List TypeValue) (t : ℕ) (bad : Option FlowRow) → is_some bad ≡ false → t < length g → All P (map rows_of (nodes_from 1 (take t g))) → FirstBroken P (map (λ v. Node (t + 1) v) (up_to (flow_type g (t + 1)).nodes)) bad → All P (map rows_of (nodes_from 1 (take (t + 1) g)))
passed P g t None none within all held = nodes_hold_more P g t within all held
passed P g t (Some row) none within all held = cc

all_types : (P : FlowRow → Type 0) (g : List TypeValue) (t : ℕ) → length g ≤ t → All P (map rows_of (nodes_from 1 (take t g))) → All P (map rows_of (all_nodes g))
all_types P g t whole all = subst (λ (h : List TypeValue). All P (map rows_of (nodes_from 1 h))) (take_all t g whole) all

pub returns-then-is_some : goal.returns-then-is_some
returns-then-is_some c = stopped (Keeps c.args.instance.now c.args.graph.now c.args.flow.now.values) c.args.graph.now c.loop-t.t c.bad_node_of-bad.result (search rules) (search rules) c.loop-t.invariant c.bad_node_of-bad.ensures

pub loop-t-preserved : goal.loop-t-preserved
loop-t-preserved c = passed (Keeps c.args.instance.now c.args.graph.now c.args.flow.now.values) c.args.graph.now c.loop-t.t c.bad_node_of-bad.result (search rules) (search rules) c.loop-t.invariant c.bad_node_of-bad.ensures

pub returns : goal.returns
returns c = all_types (Keeps c.args.instance.now c.args.graph.now c.args.flow.now.values) c.args.graph.now c.loop-t.t (search rules) c.loop-t.invariant
