-- The numbered arcs of a compiled instance are faithful to it.
use Rattle.std.proofs.Common.{◌≡◌, ℕ, ◌+◌, ◌-◌, ◌≤◌, List, [], length, map, ap, sym, ◌∙◌, subst, arith, get_or}
use Rattle.std.specs.Prelude.{All}
use Rattle.std.proofs.lemmas.List.{get_or_default}
use Rattle.packing_laws.specs.Instances.{InstanceValue, IsInstance, IsAmong}
use Rattle.packing_laws.specs.Packings.{Content, Exists, Fits, IsWithin}
use Rattle.packing_laws.specs.Printed.{SameContent}
use Rattle.level_graph.specs.LevelLaws.{LevelGraphsAreGraphs}
use Rattle.main_compress.specs.MainLaws.{MainGraphsAreGraphs}
use Rattle.final_compress.specs.FinalLaws.{FinalGraphsAreGraphs}
use Rattle.flow_graph.specs.declared.parts.TypeArc.{TypeArc}
use Rattle.flow_graph.specs.Arcs.{TypeValue, flow_type}
use Rattle.flow_graph.specs.Faithful.{IsPath as IsArcPath, unit_of, content_of}
use Rattle.arc_compile.specs.declared.results.TypeSize.{TypeSize}
use Rattle.label_graph.specs.Graph.{IsPath}
use Rattle.arc_compile.specs.Extended.{places_of}
use Rattle.arc_compile.specs.Exact.{content_along}
use Rattle.arc_compile.specs.Compiled.{IsCompiledType, type_arc, size_at}
use Rattle.arc_compile.specs.CompileLaws.{FinalGraphsAreExact, CompiledGraphsAreFaithful}
use Rattle.arc_compile.proofs.HeldPieces.{form_pieces}
use Rattle.arc_compile.proofs.NumberedPaths.{arcs_exist, graph_path, type_path, type_content}
use Rattle.arc_compile.proofs.TypeGraphs.{are_graphs}

-- what is known of a type that is compiled
record IsFaithfulType (I : InstanceValue) (t : ℕ) (x : TypeValue) : Type 0 where
  exists : All (λ e. 1 ≤ e.item → Exists I (unit_of e)) x.arcs
  fits : (path : List TypeArc) → IsArcPath x.arcs 1 x.nodes path → Fits I t (content_of path)
  covers : (c : Content) → Fits I t c → IsWithin I c → (path : List TypeArc) × IsArcPath x.arcs 1 x.nodes path × SameContent (content_of path) c

module _ (levels : LevelGraphsAreGraphs) (mains : MainGraphsAreGraphs) (finals : FinalGraphsAreGraphs) (exact : FinalGraphsAreExact) where
  faithful_type : (I : InstanceValue) (t : ℕ) (x : TypeValue) (size : TypeSize) → IsInstance I → IsAmong t (length I.types) → IsCompiledType (places_of I) I t x size → IsFaithfulType I t x
  faithful_type I t x size known among h =
      let g = h.final in
      let small : places_of I ≤ 32 = omega (arith, known.caps.room) in
      let wide : places_of I ≤ places_of I = omega arith in
      let graphs = are_graphs levels mains finals (places_of I) I t h.level h.main g known among wide small h.graphs in
      let is = exact (places_of I) I t h.level h.main g known among wide small h.graphs in
      let each = form_pieces I t g.pieces graphs.pieces.each in
      let marks = graphs.final_graph.known in
      record {
        exists = arcs_exist I g.pieces g.arcs x.arcs h.numbered.arcs each marks;
        fits = λ path leads.
            let found = graph_path I g.pieces g.arcs x.arcs h.numbered.arcs each marks path 1 x.nodes leads in
            let like = subst (λ (n : ℕ). IsPath g.arcs 1 n found.like) h.numbered.nodes found.leads in
            let content : content_of path ≡ content_along g.pieces found.like = ap content_of found.same ∙ type_content I g.pieces g.arcs x.arcs h.numbered.arcs each marks found.like 1 x.nodes found.leads in
            subst (Fits I t) (sym content) (is.fits found.like like);
        covers = λ c fits within.
            let found = is.covers c fits within in
            let leads = subst (λ (n : ℕ). IsPath g.arcs 1 n found.path) (sym h.numbered.nodes) found.leads in
            let content : content_of (map (type_arc g.pieces) found.path) ≡ content_along g.pieces found.path = type_content I g.pieces g.arcs x.arcs h.numbered.arcs each marks found.path 1 x.nodes leads in (
              map (type_arc g.pieces) found.path,
              type_path I g.pieces g.arcs x.arcs h.numbered.arcs each marks found.path 1 x.nodes leads,
              subst (λ (d : Content). SameContent d c) (sym content) found.same,
            );
      }

  pub compiled_graphs_are_faithful : CompiledGraphsAreFaithful
  compiled_graphs_are_faithful I g sizes known h =
      let of : (t : ℕ) → IsAmong t (length g) → IsFaithfulType I t (flow_type g t) =
      λ t among.
      let there : IsAmong t (length I.types) = (among.0, omega (arith, among.1, h.types)) in
      faithful_type I t (flow_type g t) (size_at sizes t) known there (h.each t there)
      in
      record {
        graph = record {
          types = h.types;
          exists = λ k d lt.
              let nothing : TypeValue = record { nodes = 1; arcs = [] } in
              let e : k + 1 - 1 ≡ k = omega arith in
              let same : flow_type g (k + 1) ≡ get_or g k d = ap (λ (j : ℕ). get_or g j nothing) e ∙ get_or_default g k nothing d lt in
              subst (λ (x : TypeValue). All (λ a. 1 ≤ a.item → Exists I (unit_of a)) x.arcs) same (of (k + 1) (omega arith, omega arith)).exists;
        };
        fits = λ t among. (of t among).fits;
        covers = λ t among. (of t among).covers;
      }
