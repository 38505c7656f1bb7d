use Rattle.std.proofs.Common.{◌≡◌, ℕ, List, length, map, sym, ap, ◌∙◌, subst, rules}
use Rattle.std.specs.Prelude.{All}
use Rattle.label_graph.specs.declared.parts.Piece.{Piece}
use Rattle.weight_vec.specs.Weight.{IsInRange}
use Rattle.label_graph.specs.Graph.{IsGraph}
use Rattle.level_graph.specs.declared.states.State.{State}
use Rattle.level_graph.specs.Levels.{IsLevels}
use Rattle.level_graph.proofs.GraphOf.{graph_of}
use Rattle.level_graph.proofs.build.levels.Goals as goal

pub new-requires : goal.new-requires
new-requires g c =
    let used : State g.row.N → List ℕ = λ s. s.used in
    let states = c.in_ok-states.states.items in
    let levels = subst (λ (ss : List (State g.row.N)). IsLevels c.args.pieces.now c.args.cap.now ss c.in_ok-arcs.arcs.items) c.as_slice.ensures.value c.in_ok-arcs.ensures in
    let labels_are : c.in_ok-labels.labels.items ≡ map used states = c.in_ok-labels.ensures ∙ ap (map used) c.as_slice-2.ensures.value in
    let labels_seen : c.as_slice-3.result.now ≡ map used states = c.as_slice-3.ensures.value ∙ labels_are in
    let pieces_seen : c.as_slice-4.result.now ≡ c.args.pieces.now = c.as_slice-4.ensures.value ∙ c.in_ok-pieces.ensures.items in
    let sized = subst (λ (ls : List (List ℕ)). All (λ (l : List ℕ). length l ≡ g.row.N) ls) labels_seen c.known_weights.ensures.sized in
    let ranged = subst (λ (ls : List (List ℕ)). All (λ (l : List ℕ). IsInRange l) ls) labels_seen c.known_weights.ensures.ranged in
    let pieces_sized = subst (λ (ps : List (Piece g.row.N)). All (λ (q : Piece g.row.N). length q.weight ≡ g.row.N) ps) pieces_seen c.known_pieces.ensures.sized in
    let pieces_ranged = subst (λ (ps : List (Piece g.row.N)). All (λ (q : Piece g.row.N). IsInRange q.weight) ps) pieces_seen c.known_pieces.ensures.ranged in
    let graph = graph_of c.args.pieces.now c.args.cap.now states c.in_ok-arcs.arcs.items levels c.requires.small sized ranged pieces_sized pieces_ranged c.requires.pieces.heavy in
    let labelled = subst (λ (ls : List (List ℕ)). IsGraph g.row.N (record { pieces = c.args.pieces.now; labels = ls; arcs = c.in_ok-arcs.arcs.items })) (sym labels_are) graph in
    let whole = subst (λ (ps : List (Piece g.row.N)). IsGraph g.row.N (record { pieces = ps; labels = c.in_ok-labels.labels.items; arcs = c.in_ok-arcs.arcs.items })) (sym c.in_ok-pieces.ensures.items) labelled in
    (search rules, (search rules, (search rules, whole)))

pub returns : goal.returns
returns g c =
    let used : State g.row.N → List ℕ = λ s. s.used in
    let states = c.in_ok-states.states.items in
    let levels = subst (λ (ss : List (State g.row.N)). IsLevels c.args.pieces.now c.args.cap.now ss c.in_ok-arcs.arcs.items) c.as_slice.ensures.value c.in_ok-arcs.ensures in
    let labels_are : c.in_ok-labels.labels.items ≡ map used states = c.in_ok-labels.ensures ∙ ap (map used) c.as_slice-2.ensures.value in
    rw c.new.ensures (record { states = states; levels = levels; pieces_are = c.in_ok-pieces.ensures.items; labels_are = labels_are })
