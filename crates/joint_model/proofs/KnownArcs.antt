-- What each arc of a joint graph keeps, and how many there are.
use Rattle.std.proofs.Common.{ℕ, ◌≤◌, length, map, get_or, subst, ⊎_elim, arith, All}
use Rattle.std.proofs.lemmas.Bool.{cases_eq, eq-eqb, ne_eqb}
use Rattle.std.proofs.lemmas.List.Elements.{All-append, All-map, All-weaker}
use Rattle.arc_num.specs.declared.TheConstants.{MAX_ITEMS}
use Rattle.packing_laws.specs.Instances.{InstanceValue, IsInstance}
use Rattle.packing_laws.specs.Packings.{Exists}
use Rattle.flow_graph.specs.declared.parts.TypeArc.{TypeArc}
use Rattle.flow_graph.specs.declared.parts.ArcKind.{ArcKind}
use Rattle.flow_graph.specs.declared.parts.ArcKind.TheVariants.{Bin, Loss, Piece}
use Rattle.flow_graph.specs.Arcs.{kind_of}
use Rattle.flow_graph.specs.Faithful.{unit_of}
use Rattle.flow_model.specs.Flows.{up_to}
use Rattle.flow_model.specs.inner.Known.{NamesType}
use Rattle.joint_arcs.specs.Joined.{JointValue, Climbs, IsJoint, numbered}
use Rattle.joint_arcs.specs.Faithful.{GraphOf}
use Rattle.joint_arcs.proofs.Rows.{bin_row, names_types, numbered_length}
use Rattle.joint_model.specs.inner.Arcs.{IsBetween, IsArcOf, IsKnownGraph}

-- an arc that climbs, as it stands in the row
arc_is : (I : InstanceValue) (g : JointValue) (e : TypeArc) → Climbs g e → (1 ≤ e.item → Exists I (unit_of e)) → IsArcOf (length I.items) g (kind_of 1 e)
arc_is I g e up exists =
    let between : IsBetween g e.tail e.head = record { low = up.low; rises = up.up; high = up.high } in
    ⊎_elim
    (λ none. rw (eq-eqb e.item 0 none) between)
    (λ some. rw (ne_eqb e.item 0 some) (between, (exists (omega (arith, some))).item))
    (cases_eq e.item 0)

pub arcs_known : (I : InstanceValue) (g : JointValue) → IsJoint g → GraphOf I g → All (IsArcOf (length I.items) g) (numbered g)
arcs_known I g is of k d within = all k d within (names_types g k d within) where
  Known : ArcKind → Type 0
  Known kind = NamesType g.types kind → IsArcOf (length I.items) g kind

  bins : All Known (bin_row g.types)
  bins = All-map Known (λ t. Bin t) (up_to g.types) (λ k d within among. among)

  others : All Known (map (kind_of 1) g.arcs)
  others = All-map Known (kind_of 1) g.arcs (λ k d within named. arc_is I g (get_or g.arcs k d) (is.climbs k d within) (of.exists k d within))

  all : All Known (numbered g)
  all = All-append Known (bin_row g.types) (map (kind_of 1) g.arcs) bins others

more_items : (n m : ℕ) (g : JointValue) → n ≤ m → (kind : ArcKind) → IsArcOf n g kind → IsArcOf m g kind
more_items n m g few (Bin t) own = own
more_items n m g few (Loss t tail head) own = own
more_items n m g few (Piece t tail head item form) own = (own.0, (own.1.0, omega (arith, own.1.1, few)))

pub known_graph : (I : InstanceValue) (g : JointValue) → IsInstance I → IsJoint g → GraphOf I g → IsKnownGraph I g
known_graph I g instance is of = record {
  arcs = All-weaker (IsArcOf (length I.items) g) (IsArcOf MAX_ITEMS g) (more_items (length I.items) MAX_ITEMS g instance.item_count) (numbered g) (arcs_known I g is of);
  types = subst (λ (n : ℕ). All (NamesType n) (numbered g)) of.types (names_types g);
  row = let long = numbered_length g in let types = is.few_types in let arcs = is.few_arcs in omega (arith, long, types, arcs);
}
