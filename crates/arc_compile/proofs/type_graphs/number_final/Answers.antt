use Rattle.std.proofs.Common.{◌≡◌, ℕ, ◌<◌, ◌≤◌, List, length, get_or, refl, sym, ap, subst, subst₂, arith, rules}
use Rattle.std.specs.Prelude.{All, AllPairs}
use Rattle.arc_num.specs.declared.TheConstants.{MAX_ARCS}
use Rattle.label_graph.specs.declared.parts.GraphArc.{GraphArc}
use Rattle.label_graph.specs.declared.parts.Piece.{Piece}
use Rattle.label_graph.specs.Graph.{GraphValue, IsGraph, IsKnown, ArcBefore}
use Rattle.label_graph.proofs.Fewer.{image-arcs}
use Rattle.flow_graph.specs.declared.parts.TypeArc.{TypeArc}
use Rattle.flow_graph.specs.Arcs.{IsFlowType}
use Rattle.arc_compile.specs.Compiled.{AreNamed, AreNumbered}
use Rattle.arc_compile.proofs.FlowTypes.{flow_type_of}
use Rattle.arc_compile.proofs.NodeCounts.{nodes_few}
use Rattle.arc_compile.proofs.type_graphs.number_final.Goals as goal

pub size_of-size-requires : goal.size_of-size-requires
size_of-size-requires g c =
    let is = c.in_ok-last.ensures in
    (search rules, (c.requires.few, omega (arith, c.requires.few, image-arcs c.args.main.now c.in_ok-last.last is.labels is.image)))

-- the numbered arcs of what a graph hands out are those of the graph
of_graph : {N : ℕ} {pieces given : List (Piece N)} {arcs row : List GraphArc} {numbered : List TypeArc} → given ≡ pieces → row ≡ arcs → AreNumbered given row numbered → AreNumbered pieces arcs numbered
of_graph {N} {numbered = numbered} pieces arcs are = subst₂ (λ (ps : List (Piece N)) (row : List GraphArc). AreNumbered ps row numbered) pieces arcs are

-- the ends of the arcs that a graph hands out
small_ends : (N : ℕ) (graph : GraphValue N) → IsGraph N graph → length graph.arcs ≤ MAX_ARCS → (row : List GraphArc) → row ≡ graph.arcs → (k : ℕ) (d : GraphArc) → k < length row → ((get_or row k d).tail < 4294967296) × ((get_or row k d).head < 4294967296)
small_ends N graph is few row same k d lt =
    let up : (1 ≤ (get_or row k d).tail) × ((get_or row k d).tail < (get_or row k d).head) × ((get_or row k d).head ≤ length graph.labels) = subst (λ (arcs : List GraphArc). All (λ e. (1 ≤ e.tail) × (e.tail < e.head) × (e.head ≤ length graph.labels)) arcs) (sym same) is.climbs k d lt in
    let nodes = nodes_few N graph is in
    (omega (arith, up.1, up.2, nodes, few), omega (arith, up.2, nodes, few))

pub numbered_arcs-requires : goal.numbered_arcs-requires
numbered_arcs-requires g c =
    let is = c.in_ok-last.ensures in
    let last = c.in_ok-last.last in
    let few = image-arcs c.args.main.now last is.labels is.image in
    let graph = c.known.ensures in
    let named = subst (λ (ps : List (Piece g.row.N)). AreNamed ps) (sym is.image.pieces) c.requires.named in
    let known = subst₂ (λ (ps : List (Piece g.row.N)) (row : List GraphArc). All (λ e. IsKnown ps e.mark) row) (sym c.pieces.ensures) (sym c.arcs.ensures) graph.known in
    let ordered = subst (λ (row : List GraphArc). AllPairs ArcBefore row) (sym c.arcs.ensures) graph.ordered in (
      search rules,
      (
        c.requires.small,
        (
          subst (λ (ps : List (Piece g.row.N)). AreNamed ps) (sym c.pieces.ensures) named,
          (known, (ordered, small_ends g.row.N last graph (omega (arith, c.requires.few, few)) c.arcs.result.now c.arcs.ensures)),
        ),
      ),
    )

pub returns-clause-compiled : goal.returns-clause-compiled
returns-clause-compiled g c = (
  c.in_ok-last.last,
  c.in_ok-last.ensures,
  record { nodes = c.size_of-size.ensures.final_nodes; arcs = of_graph c.pieces.ensures c.arcs.ensures c.in_ok-arcs.ensures },
  c.size_of-size.ensures,
)

pub returns-clause-flow : goal.returns-clause-flow
returns-clause-flow g c =
    let is = c.in_ok-last.ensures in
    let named = subst (λ (ps : List (Piece g.row.N)). AreNamed ps) (sym is.image.pieces) c.requires.named in
    subst (λ (n : ℕ). IsFlowType (record { nodes = n; arcs = c.in_ok-arcs.arcs.items })) (sym c.size_of-size.ensures.final_nodes)
    (flow_type_of c.in_ok-last.last c.known.ensures named (record { nodes = length c.in_ok-last.last.labels; arcs = c.in_ok-arcs.arcs.items }) (record { nodes = refl; arcs = of_graph c.pieces.ensures c.arcs.ensures c.in_ok-arcs.ensures }))

pub returns-clause-fewer : goal.returns-clause-fewer
returns-clause-fewer g c =
    let is = c.in_ok-last.ensures in
    omega (arith, image-arcs c.args.main.now c.in_ok-last.last is.labels is.image, c.in_ok-arcs.ensures.count, ap length c.arcs.ensures)
