-- The root box has a range for each arc, and each flow lies in it.
use Rattle.std.proofs.Common.{◌≡◌, ◌∙◌, ℕ, ◌≤◌, List, length, sym, arith, All}
use Rattle.std.proofs.lemmas.List.{length-map}
use Rattle.std.proofs.lemmas.List.Elements.{All-map}
use Rattle.packing_laws.specs.Instances.{InstanceValue}
use Rattle.flow_graph.specs.Arcs.{TypeValue, numbered}
use Rattle.flow_model.specs.Boxes.{root_range, root_ranges}
use Rattle.flow_model.specs.Flows.{FlowsLieInRoot}

root_size : (I : InstanceValue) (g : List TypeValue) → length (root_ranges I g) ≡ length (numbered g)
root_size I g = length-map (numbered g) (root_range I)

pub flows_lie_in_root : FlowsLieInRoot
flows_lie_in_root = record {
  size = root_size;
  order = λ I g. All-map (λ (r : ℕ × ℕ). r.0 ≤ r.1) (root_range I) (numbered g) (λ k d within. omega arith);
  flows = λ I g values flow. record {
    size = flow.size ∙ sym (root_size I g);
    each = λ a among. flow.bounds a (among.0, let size = root_size I g in omega (arith, among.1, size));
  };
}
