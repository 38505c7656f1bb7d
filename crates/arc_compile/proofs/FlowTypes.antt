-- The numbered arcs of a graph are those of a type of flows.
use Rattle.std.proofs.Common.{◌≡◌, ℕ, ◌<◌, ◌≤◌, length, get_or, refl, sym, subst, arith}
use Rattle.std.specs.Prelude.{Contains}
use Rattle.std.proofs.lemmas.List.Elements.{All-contains, Contains-get_or}
use Rattle.label_graph.specs.declared.parts.GraphArc.{GraphArc}
use Rattle.label_graph.specs.Graph.{GraphValue, IsGraph}
use Rattle.flow_graph.specs.declared.parts.TypeArc.{TypeArc}
use Rattle.flow_graph.specs.Arcs.{TypeValue, IsFlowType}
use Rattle.arc_compile.specs.Compiled.{type_arc, AreNamed, IsNumberedType}
use Rattle.arc_compile.proofs.Numbering.{numbered_marks}

module _ {N : ℕ} (g : GraphValue N) (is : IsGraph N g) (named : AreNamed g.pieces) (x : TypeValue) (numbered : IsNumberedType g x) where
  climbs : (a : TypeArc) → Contains x.arcs a → (1 ≤ a.tail) × (a.tail < a.head) × (a.head ≤ x.nodes)
  climbs a m =
      let h = (numbered.arcs.same a).0 m in
      let up = All-contains (λ (e : GraphArc). (1 ≤ e.tail) × (e.tail < e.head) × (e.head ≤ length g.labels)) g.arcs h.0 is.climbs h.1 in
      let high : h.0.head ≤ x.nodes = subst (λ (n : ℕ). h.0.head ≤ n) (sym numbered.nodes) up.2 in
      subst (λ (b : TypeArc). (1 ≤ b.tail) × (b.tail < b.head) × (b.head ≤ x.nodes)) h.2 (up.0, up.1, high)

  pub flow_type_of : IsFlowType x
  flow_type_of = record {
    source = subst (λ (n : ℕ). 1 ≤ n) (sym numbered.nodes) is.source;
    ordered = numbered.arcs.ordered;
    climbs = λ k d lt. climbs (get_or x.arcs k d) (Contains-get_or x.arcs k d lt);
    marks = λ k d lt. numbered_marks g.pieces named g.arcs is.known is.ordered x.arcs numbered.arcs (get_or x.arcs k d) (Contains-get_or x.arcs k d lt);
    leaves = λ v low high.
        let h = is.leaves v low (subst (λ (n : ℕ). v < n) numbered.nodes high) in
        (type_arc g.pieces h.0, (numbered.arcs.same (type_arc g.pieces h.0)).1 (h.0, h.1, refl), h.2);
    enters = λ v low high.
        let h = is.enters v low (subst (λ (n : ℕ). v ≤ n) numbered.nodes high) in
        (type_arc g.pieces h.0, (numbered.arcs.same (type_arc g.pieces h.0)).1 (h.0, h.1, refl), h.2);
  }
