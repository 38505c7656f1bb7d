-- What a joint graph of an instance keeps of each arc.
use Rattle.std.proofs.Common.{ℕ, ◌≤◌, length, map, subst, ⊎_elim, arith, All}
use Rattle.std.proofs.lemmas.Bool.{cases_eq}
use Rattle.std.proofs.lemmas.List.Elements.{All-append, All-map, All-weaker}
use Rattle.packing_laws.specs.Instances.{InstanceValue, IsInstance, IsAmong}
use Rattle.packing_laws.specs.Packings.{Exists}
use Rattle.flow_graph.specs.declared.parts.TypeArc.{TypeArc}
use Rattle.flow_graph.specs.declared.parts.ArcKind.{ArcKind}
use Rattle.flow_graph.specs.declared.parts.ArcKind.TheVariants.{Bin}
use Rattle.flow_graph.specs.Arcs.{kind_of}
use Rattle.flow_graph.specs.Faithful.{unit_of}
use Rattle.flow_graph.proofs.ArcKinds.{kind_cases}
use Rattle.flow_model.specs.Flows.{up_to}
use Rattle.flow_model.specs.inner.Known.{NamesType}
use Rattle.joint_arcs.specs.Joined.{JointValue, Climbs, IsJoint, head_of, node_count, numbered, tail_of}
use Rattle.joint_arcs.specs.Faithful.{GraphOf}
use Rattle.joint_arcs.proofs.Rows.{names_types, numbered_length}
use Rattle.joint_flows.specs.inner.Known.{IsKnownJoint}
use Rattle.joint_flows.specs.inner.Sums.{item_of}
use Rattle.joint_flows.proofs.BrokenRows.{all_hold}

-- what holds of the bin arc of each type and of each other arc holds of all arcs
pub all_numbered : (P : ArcKind → Type 0) (g : JointValue) → ((t : ℕ) → IsAmong t g.types → P (Bin t)) → All (λ e. P (kind_of 1 e)) g.arcs → All P (numbered g)
all_numbered P g bins others = All-append P (map (λ t. Bin t) (up_to g.types)) (map (kind_of 1) g.arcs) (all_hold P (λ t. Bin t) g.types bins) (All-map P (kind_of 1) g.arcs others)

tail_is : (g : JointValue) (e : TypeArc) → Climbs g e → tail_of g (kind_of 1 e) ≤ node_count g
tail_is g e own =
    let high = own.from_inner in
    kind_cases (λ kind. tail_of g kind ≤ node_count g) 1 e (omega (arith, high)) (omega (arith, high))

head_is : (g : JointValue) (e : TypeArc) → Climbs g e → head_of (kind_of 1 e) ≤ node_count g
head_is g e own = kind_cases (λ kind. head_of kind ≤ node_count g) 1 e own.high own.high

item_is : (I : InstanceValue) (e : TypeArc) → (1 ≤ e.item → Exists I (unit_of e)) → item_of (kind_of 1 e) ≤ length I.items
item_is I e exists = ⊎_elim
    (λ none. kind_cases (λ kind. item_of kind ≤ length I.items) 1 e (omega arith) (omega (arith, none)))
    (λ some. kind_cases (λ kind. item_of kind ≤ length I.items) 1 e (omega arith) (exists (omega (arith, some))).item.1)
    (cases_eq e.item 0)

pub known_joint : (I : InstanceValue) (g : JointValue) → IsInstance I → IsJoint g → GraphOf I g → IsKnownJoint I g
known_joint I g instance joint of =
    let source = joint.source in
    let long = numbered_length g in
    let few_types = joint.few_types in
    let few_arcs = joint.few_arcs in
    record {
      types = subst (λ (n : ℕ). All (NamesType n) (numbered g)) of.types (names_types g);
      own_types = names_types g;
      tails = all_numbered (λ kind. tail_of g kind ≤ node_count g) g (λ t among. omega (arith, among.1)) (All-weaker (Climbs g) (λ e. tail_of g (kind_of 1 e) ≤ node_count g) (tail_is g) g.arcs joint.climbs);
      heads = all_numbered (λ kind. head_of kind ≤ node_count g) g (λ t among. omega (arith, source)) (All-weaker (Climbs g) (λ e. head_of (kind_of 1 e) ≤ node_count g) (head_is g) g.arcs joint.climbs);
      items = all_numbered (λ kind. item_of kind ≤ length I.items) g (λ t among. omega arith) (All-weaker (λ e. 1 ≤ e.item → Exists I (unit_of e)) (λ e. item_of (kind_of 1 e) ≤ length I.items) (item_is I) g.arcs of.exists);
      nodes = joint.few_nodes;
      few_items = instance.item_count;
      row = omega (arith, long, few_types, few_arcs);
    }
