-- The level graph of a type in more places than extended weights have is that in as many.
use Rattle.std.proofs.Common.{◌≡◌, ℕ, ◌≤◌, List, length, take, map, refl, sym, ap, ◌∙◌, subst}
use Rattle.std.proofs.lemmas.List.{length-map}
use Rattle.packing_laws.specs.Instances.{InstanceValue, IsInstance, IsAmong}
use Rattle.label_graph.specs.declared.parts.Piece.{Piece}
use Rattle.label_graph.specs.Graph.{GraphValue}
use Rattle.label_graph.specs.Cuts.{IsPaddedGraph, cut_piece, cut_graph}
use Rattle.level_graph.specs.declared.states.State.{State}
use Rattle.level_graph.specs.Levels.{IsLevelGraph}
use Rattle.level_graph.specs.LevelLaws.{CutsKeepLevelGraphs}
use Rattle.arc_compile.specs.Levels.{HasLevelSize}
use Rattle.arc_compile.specs.Extended.{places_of, extended_capacity}
use Rattle.arc_compile.specs.Pieces.{padded, ArePieces}
use Rattle.arc_compile.proofs.CutPieces.{cut-padded, padded-padded, are_pieces-cut, weights-padded}
use Rattle.arc_compile.proofs.PieceNumbers.{pieces_are_list}
use Rattle.arc_compile.proofs.ExtendedWeights.{capacity_vector}
use Rattle.arc_compile.proofs.WeighedPieces.{are_weighed}

-- a level graph with padded weights and labels, which cut is the level graph in as many places as extended weights have
pub record IsCutLevel {N : ℕ} (I : InstanceValue) (t : ℕ) (pieces : List (Piece N)) (g : GraphValue N) : Type 0 where
  pub padded_is : IsPaddedGraph (places_of I) g
  pub cut : IsLevelGraph (map (cut_piece (places_of I)) pieces) (padded (places_of I) (extended_capacity I t)) (cut_graph (places_of I) g)

module _ (cuts : CutsKeepLevelGraphs) (N : ℕ) (I : InstanceValue) (t : ℕ) (known : IsInstance I) (among : IsAmong t (length I.types)) (wide : places_of I ≤ N) (small : N ≤ 32) where
  -- the extended capacity with the zeros behind it left out
  pub room-cut : take (places_of I) (padded N (extended_capacity I t)) ≡ padded (places_of I) (extended_capacity I t)
  room-cut = cut-padded (places_of I) N (extended_capacity I t) (capacity_vector I known t among).size

  pub is_cut_level : (pieces : List (Piece N)) (g : GraphValue N) → ArePieces I t pieces → IsLevelGraph pieces (padded N (extended_capacity I t)) g → IsCutLevel I t pieces g
  is_cut_level pieces g are is =
      let room = padded N (extended_capacity I t) in
      let full = padded-padded (places_of I) N (extended_capacity I t) (capacity_vector I known t among).size in
      let kept = cuts N (places_of I) pieces room g wide (pieces_are_list I t known among pieces are) (are_weighed I t known among wide small pieces are.each) (weights-padded I t known wide pieces are) full is in
      record {
        padded_is = kept.padded;
        cut = subst (λ (w : List ℕ). IsLevelGraph (map (cut_piece (places_of I)) pieces) w (cut_graph (places_of I) g)) room-cut kept.cut;
      }

  -- the level graph has as many nodes and arcs in as many places as extended weights have
  pub level_size-cut : (nodes arcs : ℕ) → HasLevelSize N I t nodes arcs → HasLevelSize (places_of I) I t nodes arcs
  level_size-cut nodes arcs h =
      let used : State N → List ℕ = λ s. s.used in
      let used_cut : State (places_of I) → List ℕ = λ s. s.used in
      let states = h.counted.state_list in
      let g : GraphValue N = record { pieces = h.pieces; labels = map used states; arcs = h.counted.arc_list } in
      let level : IsLevelGraph h.pieces (padded N (extended_capacity I t)) g = record { states = states; levels = h.counted.levels; pieces_are = refl; labels_are = refl } in
      let kept = (is_cut_level h.pieces g h.are_pieces level).cut in
      let here : length (map (take (places_of I)) (map used states)) ≡ length states = length-map (map used states) (take (places_of I)) ∙ length-map states used in
      let there : length (map (take (places_of I)) (map used states)) ≡ length kept.states = ap length kept.labels_are ∙ length-map kept.states used_cut in
      record {
        pieces = map (cut_piece (places_of I)) h.pieces;
        are_pieces = are_pieces-cut I t known wide h.pieces h.are_pieces;
        counted = record {
          state_list = kept.states;
          arc_list = h.counted.arc_list;
          levels = kept.levels;
          nodes_are = h.counted.nodes_are ∙ (sym here ∙ there);
          arcs_are = h.counted.arcs_are;
        };
      }
