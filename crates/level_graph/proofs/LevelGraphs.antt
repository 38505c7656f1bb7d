-- A level graph is a graph, and its labels fit the capacity.
use Rattle.std.proofs.Common.{◌≡◌, ℕ, ◌^◌, ◌<◌, List, length, get_or, map, sym, subst, arith}
use Rattle.std.specs.Prelude.{All}
use Rattle.std.proofs.lemmas.List.Elements.{All-map, Contains-get_or}
use Rattle.weight_vec.specs.Weight.{AtMost, IsInRange}
use Rattle.label_graph.specs.declared.parts.Piece.{Piece}
use Rattle.label_graph.specs.Graph.{GraphValue, IsGraph}
use Rattle.level_graph.specs.declared.states.State.{State}
use Rattle.level_graph.specs.Levels.{IsPieceList, IsReached, IsLevelGraph}
use Rattle.level_graph.specs.LevelLaws.{AreWeighed, IsGraphWithin}
use Rattle.level_graph.proofs.GraphOf.{reached-fits, graph_of}
use Rattle.level_graph.proofs.UsedWeights.{used-sized}

pub is_graph_within : (N : ℕ) (pieces : List (Piece N)) (room : List ℕ) (g : GraphValue N) → IsPieceList pieces room → AreWeighed pieces room → IsLevelGraph pieces room g → IsGraphWithin room g
is_graph_within N pieces room g listed weighed is =
    let used : State N → List ℕ = λ s. s.used in
    let reached : (k : ℕ) (d : State N) → k < length is.states → IsReached pieces room (get_or is.states k d) = λ k d lt. (is.levels.states_reached (get_or is.states k d)).0 (Contains-get_or is.states k d lt) in
    let sized : All (λ (l : List ℕ). length l ≡ N) (map used is.states) = All-map (λ (l : List ℕ). length l ≡ N) used is.states (λ k d lt. used-sized pieces room weighed (get_or is.states k d) (reached k d lt)) in
    let fits : All (λ (l : List ℕ). AtMost l room) (map used is.states) = All-map (λ (l : List ℕ). AtMost l room) used is.states (λ k d lt. reached-fits pieces room (get_or is.states k d) (reached k d lt)) in
    let ranged : All (λ (l : List ℕ). IsInRange l) (map used is.states) = λ k d lt e. let most = fits k d lt e in let bound : get_or room e 0 < 2 ^ 32 = weighed.ranged e in omega arith in
    let whole : GraphValue N = record { pieces = pieces; labels = map used is.states; arcs = g.arcs } in
    let same : whole ≡ g = (λ i. record { pieces = (sym is.pieces_are) i; labels = (sym is.labels_are) i; arcs = g.arcs }) in
    record {
      graph = subst (IsGraph N) same (graph_of pieces room is.states g.arcs is.levels weighed.small sized ranged weighed.pieces_sized weighed.pieces_ranged listed.heavy);
      fits = subst (λ (ls : List (List ℕ)). All (λ (l : List ℕ). AtMost l room) ls) (sym is.labels_are) fits;
    }
