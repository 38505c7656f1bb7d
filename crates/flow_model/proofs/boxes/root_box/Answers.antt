use Rattle.std.proofs.Common.{◌≡◌, ℕ, ◌≤◌, List, map, take, sym, subst, arith, All}
use Rattle.std.proofs.lemmas.List.Elements.{All-map}
use Rattle.packing_laws.specs.Instances.{InstanceValue}
use Rattle.flow_graph.specs.declared.parts.ArcKind.{ArcKind}
use Rattle.flow_model.specs.Boxes.{root_range}
use Rattle.flow_model.proofs.boxes.root_box.Goals as goal

all_open : (I : InstanceValue) (kinds : List ArcKind) (ranges : List (ℕ × ℕ)) → ranges ≡ map (root_range I) kinds → All (λ (r : ℕ × ℕ). r.0 ≤ r.1) ranges
all_open I kinds ranges same = subst (All (λ (r : ℕ × ℕ). r.0 ≤ r.1)) (sym same) (All-map (λ (r : ℕ × ℕ). r.0 ≤ r.1) (root_range I) kinds (λ k d within. omega arith))

pub invariant_of-result : goal.invariant_of-result
invariant_of-result c = all_open c.args.instance.now (take c.loop-kind.kind-index c.row-row.result.now) c.loop-kind.ranges.items c.loop-kind.invariant
