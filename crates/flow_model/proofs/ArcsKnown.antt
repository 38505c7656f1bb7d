-- What each arc of a graph of an instance keeps, and how many nodes there are.
use Rattle.std.proofs.Common.{◌≡◌, ℕ, suc, ◌-◌, ◌<◌, ◌≤◌, ◌==◌, List, [], length, get_or, sym, subst, ⊎_elim, arith, All}
use Rattle.std.specs.Prelude.{Contains}
use Rattle.std.proofs.lemmas.Bool.{cases_eq, eq-eqb, ne_eqb}
use Rattle.std.proofs.lemmas.Option.{slice_get-get_or}
use Rattle.std.proofs.lemmas.List.Elements.{All-contains, All-weaker}
use Rattle.arc_num.specs.declared.TheConstants.{MAX_ITEMS}
use Rattle.packing_laws.specs.Instances.{InstanceValue, IsInstance, IsAmong}
use Rattle.packing_laws.specs.Packings.{Exists}
use Rattle.flow_graph.specs.declared.parts.TypeArc.{TypeArc}
use Rattle.flow_graph.specs.declared.parts.ArcKind.{ArcKind}
use Rattle.flow_graph.specs.declared.parts.ArcKind.TheVariants.{Bin, Loss, Piece}
use Rattle.flow_graph.specs.Arcs.{TypeValue, IsFlowType, IsFlowGraph, flow_type, kind_of, numbered}
use Rattle.flow_graph.specs.Faithful.{GraphOf, unit_of}
use Rattle.flow_graph.specs.Laws.{IsKindAt, is_bin, is_arc}
use Rattle.flow_graph.proofs.ArcKinds.{among_list, arc_climbs, kind_at, number_of, type_is}
use Rattle.flow_graph.proofs.FewNodes.{few_nodes}
use Rattle.flow_graph.proofs.Numbers.{few_numbered}
use Rattle.flow_model.specs.inner.Known.{IsBetween, IsArcOf, NamesType, IsKnownGraph}

module _ (I : InstanceValue) (g : List TypeValue) (is : IsFlowGraph g) (of : GraphOf I g) where
  between : (t : ℕ) (among : IsAmong t (length g)) (e : TypeArc) → Contains (flow_type g t).arcs e → IsBetween g t e.tail e.head
  between t among e has =
      let up = arc_climbs (flow_type g t) (type_is g is t among) e has in
      record { of_type = among; low = up.0; rises = up.1; high = up.2 }

  item_is : (t : ℕ) (among : IsAmong t (length g)) (e : TypeArc) → Contains (flow_type g t).arcs e → 1 ≤ e.item → IsAmong e.item (length I.items)
  item_is t among e has carried =
      let own = of.exists (t - 1) (record { nodes = 1; arcs = [] }) (omega (arith, among.0, among.1)) in
      (All-contains (λ (e : TypeArc). 1 ≤ e.item → Exists I (unit_of e)) (flow_type g t).arcs e own has carried).item

  arc_is : (t : ℕ) (among : IsAmong t (length g)) (e : TypeArc) → Contains (flow_type g t).arcs e → IsArcOf (length I.items) g (kind_of t e)
  arc_is t among e has = ⊎_elim
      (λ none. rw (eq-eqb e.item 0 none) (between t among e has))
      (λ some. rw (ne_eqb e.item 0 some) (between t among e has, item_is t among e has (omega (arith, some))))
      (cases_eq e.item 0)

  known : (a : ℕ) (kind : ArcKind) → IsKindAt g a kind → IsArcOf (length I.items) g kind
  known a kind (is_bin t among place same) = subst (IsArcOf (length I.items) g) (sym same) among
  known a kind (is_arc t among k e at place same) = subst (IsArcOf (length I.items) g) (sym same) (arc_is t among e (among_list (flow_type g t).arcs k e at))

  names_type : (kind : ArcKind) → IsArcOf (length I.items) g kind → NamesType (length I.types) kind
  names_type (Bin t) among = (among.0, subst (λ (n : ℕ). t ≤ n) of.types among.1)
  names_type (Loss t tail head) own = tt
  names_type (Piece t tail head item form) own = tt

  pub arcs_known : All (IsArcOf (length I.items) g) (numbered g)
  arcs_known k d within =
      let kind : ArcKind = get_or (numbered g) k d in
      known (suc k) kind (kind_at g (suc k) kind (number_of g k kind (slice_get-get_or (numbered g) k d within)))

more_items : (n m : ℕ) (g : List TypeValue) → n ≤ m → (kind : ArcKind) → IsArcOf n g kind → IsArcOf m g kind
more_items n m g few (Bin t) own = own
more_items n m g few (Loss t tail head) own = own
more_items n m g few (Piece t tail head item form) own = (own.0, (own.1.0, omega (arith, own.1.1, few)))

pub known_graph : (I : InstanceValue) (g : List TypeValue) → IsInstance I → IsFlowGraph g → GraphOf I g → IsKnownGraph I g
known_graph I g instance is of = record {
  arcs = All-weaker (IsArcOf (length I.items) g) (IsArcOf MAX_ITEMS g) (more_items (length I.items) MAX_ITEMS g instance.item_count) (numbered g) (arcs_known I g is of);
  types = All-weaker (IsArcOf (length I.items) g) (NamesType (length I.types)) (names_type I g is of) (numbered g) (arcs_known I g is of);
  sources = All-weaker IsFlowType (λ x. 1 ≤ x.nodes) (λ x own. own.source) g is.each;
  nodes = few_nodes g is;
  row = few_numbered g is;
}
