-- There is but one graph, and one list of sizes, to which an instance is compiled.
use Rattle.std.proofs.Common.{◌≡◌, ℕ, suc, ◌+◌, ◌-◌, ◌<◌, List, [], length, get_or, sym, ap, ◌∙◌, subst, ⊎_elim, arith}
use Rattle.std.proofs.lemmas.List.{ext_get_or}
use Rattle.packing_laws.specs.Instances.{InstanceValue, IsAmong}
use Rattle.label_graph.specs.declared.parts.GraphArc.{GraphArc}
use Rattle.label_graph.specs.declared.parts.Piece.{Piece}
use Rattle.label_graph.specs.Graph.{GraphValue}
use Rattle.label_graph.proofs.OneImage.{same-list}
use Rattle.level_graph.specs.LevelLaws.{LevelsAreOne}
use Rattle.main_compress.specs.MainLaws.{MainGraphsAreOne}
use Rattle.final_compress.specs.FinalGraphs.{IsFinalGraph}
use Rattle.final_compress.specs.FinalLaws.{FinalGraphsAreOne}
use Rattle.flow_graph.specs.declared.parts.TypeArc.{TypeArc}
use Rattle.flow_graph.specs.Arcs.{TypeValue, ArcBefore, flow_type}
use Rattle.arc_compile.specs.declared.results.TypeSize.{TypeSize}
use Rattle.arc_compile.specs.Extended.{places_of}
use Rattle.arc_compile.specs.Graphs.{AreTypeGraphs}
use Rattle.arc_compile.specs.Compiled.{AreNumbered, IsNumberedType, AreSizes, IsCompiledType, AreCompiled, size_at}
use Rattle.arc_compile.specs.CompileLaws.{CompiledGraphsAreOne}
use Rattle.arc_compile.proofs.OneSize.{one_main}

pub arc-one_way : (e f : TypeArc) → ArcBefore e f → ArcBefore f e → ⊥
arc-one_way e f h k =
    ⊎_elim
    (λ lt. ⊎_elim (λ gt. omega arith) (λ w. omega (arith, w.0)) k)
    (λ v. ⊎_elim
    (λ gt. omega (arith, v.0))
    (λ w. ⊎_elim
    (λ lt. ⊎_elim (λ gt. omega arith) (λ z. omega (arith, z.0)) w.1)
    (λ y. ⊎_elim
    (λ gt. omega (arith, y.0))
    (λ z. ⊎_elim
    (λ lt. ⊎_elim (λ gt. omega arith) (λ a. omega (arith, a.0)) z.1)
    (λ b. ⊎_elim (λ gt. omega (arith, b.0)) (λ a. omega (arith, a.1, b.1)) z.1)
    y.1)
    w.1)
    v.1)
    k)
    h

module _ {N : ℕ} where
  -- arcs are numbered in but one way
  pub one_row : (pieces : List (Piece N)) (arcs : List GraphArc) (xs ys : List TypeArc) → AreNumbered pieces arcs xs → AreNumbered pieces arcs ys → xs ≡ ys
  one_row pieces arcs xs ys first second = same-list ArcBefore arc-one_way xs ys first.ordered second.ordered (λ a m. (second.same a).1 ((first.same a).0 m)) (λ a m. (first.same a).1 ((second.same a).0 m))

  pub one_numbered : (g : GraphValue N) (x y : TypeValue) → IsNumberedType g x → IsNumberedType g y → x ≡ y
  one_numbered g x y first second =
      let nodes : x.nodes ≡ y.nodes = first.nodes ∙ sym second.nodes in
      let arcs : x.arcs ≡ y.arcs = one_row g.pieces g.arcs x.arcs y.arcs first.arcs second.arcs in
      λ i. record { nodes = nodes i; arcs = arcs i }

  pub one_sizes : (main final : GraphValue N) (size other : TypeSize) → AreSizes main final size → AreSizes main final other → size ≡ other
  one_sizes main final size other first second =
      let main_nodes : size.main_nodes ≡ other.main_nodes = first.main_nodes ∙ sym second.main_nodes in
      let main_arcs : size.main_arcs ≡ other.main_arcs = first.main_arcs ∙ sym second.main_arcs in
      let final_nodes : size.final_nodes ≡ other.final_nodes = first.final_nodes ∙ sym second.final_nodes in
      let final_arcs : size.final_arcs ≡ other.final_arcs = first.final_arcs ∙ sym second.final_arcs in
      λ i. record { main_nodes = main_nodes i; main_arcs = main_arcs i; final_nodes = final_nodes i; final_arcs = final_arcs i }

module _ (levels_one : LevelsAreOne) (mains_one : MainGraphsAreOne) (finals_one : FinalGraphsAreOne) (I : InstanceValue) where
  pub one_type : (N t : ℕ) (x y : TypeValue) (size other : TypeSize) → IsCompiledType N I t x size → IsCompiledType N I t y other → (x ≡ y) × (size ≡ other)
  one_type N t x y size other first second =
      let main : second.main ≡ first.main = one_main levels_one mains_one I N t second.level first.level second.main first.main second.graphs.mains first.graphs.mains in
      let final : second.final ≡ first.final = finals_one N first.main second.final first.final (subst (λ (g : GraphValue N). IsFinalGraph g second.final) main second.graphs.final_is) first.graphs.final_is in
      let numbered : IsNumberedType first.final y = subst (λ (g : GraphValue N). IsNumberedType g y) final second.numbered in
      let of_main : AreSizes first.main second.final other = subst (λ (g : GraphValue N). AreSizes g second.final other) main second.sizes in
      let sizes : AreSizes first.main first.final other = subst (λ (g : GraphValue N). AreSizes first.main g other) final of_main in
      (one_numbered first.final x y first.numbered numbered, one_sizes first.main first.final size other first.sizes sizes)

  pub one_graph : (g more : List TypeValue) (sizes others : List TypeSize) → AreCompiled I g sizes → AreCompiled I more others → (g ≡ more) × (sizes ≡ others)
  one_graph g more sizes others first second =
      let no_type : TypeValue = record { nodes = 1; arcs = [] } in
      let no_size : TypeSize = record { main_nodes = 0; main_arcs = 0; final_nodes = 0; final_arcs = 0 } in
      let both : (k : ℕ) → k < length I.types → (flow_type g (k + 1) ≡ flow_type more (k + 1)) × (size_at sizes (k + 1) ≡ size_at others (k + 1)) =
      λ k lt.
      let among : IsAmong (k + 1) (length I.types) = (omega arith, omega arith) in
      one_type (places_of I) (k + 1) (flow_type g (k + 1)) (flow_type more (k + 1)) (size_at sizes (k + 1)) (size_at others (k + 1)) (first.each (k + 1) among) (second.each (k + 1) among)
      in
      let back : (k : ℕ) → k + 1 - 1 ≡ k = λ k. omega arith in (
        ext_get_or no_type g more (first.types ∙ sym second.types) (λ k lt. subst (λ (j : ℕ). get_or g j no_type ≡ get_or more j no_type) (back k) (both k (omega (arith, lt, first.types))).0),
        ext_get_or no_size sizes others (first.count ∙ sym second.count) (λ k lt. subst (λ (j : ℕ). get_or sizes j no_size ≡ get_or others j no_size) (back k) (both k (omega (arith, lt, first.count))).1),
      )

pub compiled_graphs_are_one : LevelsAreOne → MainGraphsAreOne → FinalGraphsAreOne → CompiledGraphsAreOne
compiled_graphs_are_one levels_one mains_one finals_one I g other sizes others first second = one_graph levels_one mains_one finals_one I g other sizes others first second
