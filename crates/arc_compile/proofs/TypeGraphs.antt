-- The level, the main and the final graph of a type are graphs, of the same pieces.
use Rattle.std.proofs.Common.{◌≡◌, ℕ, ◌≤◌, length, ◌∙◌, sym, subst}
use Rattle.packing_laws.specs.Instances.{InstanceValue, IsInstance, IsAmong}
use Rattle.label_graph.specs.Graph.{GraphValue, IsGraph}
use Rattle.level_graph.specs.LevelLaws.{LevelGraphsAreGraphs}
use Rattle.main_compress.specs.MainLaws.{IsRoomFor, MainGraphsAreGraphs}
use Rattle.final_compress.specs.FinalLaws.{FinalGraphsAreGraphs}
use Rattle.arc_compile.specs.Extended.{places_of, extended_capacity}
use Rattle.arc_compile.specs.Graphs.{AreTypeGraphs}
use Rattle.arc_compile.specs.Pieces.{padded, ArePieces}
use Rattle.arc_compile.proofs.PieceNumbers.{pieces_are_list}
use Rattle.arc_compile.proofs.WeighedPieces.{are_weighed}

-- what is known of the graphs of a type
pub record AreGraphs {N : ℕ} (I : InstanceValue) (t : ℕ) (level main final : GraphValue N) : Type 0 where
  pub level_graph : IsGraph N level
  pub main_graph : IsGraph N main
  pub final_graph : IsGraph N final
  pub room : IsRoomFor (padded N (extended_capacity I t)) level
  pub pieces : ArePieces I t final.pieces

-- the pieces of the final graph are those of the level graph
pub same_pieces : {N : ℕ} (I : InstanceValue) (t : ℕ) (level main final : GraphValue N) (h : AreTypeGraphs I t level main final) → final.pieces ≡ h.mains.pieces
same_pieces I t level main final h = h.final_is.image.pieces ∙ (h.mains.main_is.image.pieces ∙ h.mains.level_is.pieces_are)

pub are_graphs : LevelGraphsAreGraphs → MainGraphsAreGraphs → FinalGraphsAreGraphs → (N : ℕ) (I : InstanceValue) (t : ℕ) (level main final : GraphValue N) → IsInstance I → IsAmong t (length I.types) → places_of I ≤ N → N ≤ 32 → AreTypeGraphs I t level main final → AreGraphs I t level main final
are_graphs levels mains finals N I t level main final known among wide small h =
    let room = padded N (extended_capacity I t) in
    let pieces = h.mains.pieces in
    let weighed = are_weighed I t known among wide small pieces h.mains.are_pieces.each in
    let first = levels N pieces room level (pieces_are_list I t known among pieces h.mains.are_pieces) weighed h.mains.level_is in
    let holds : IsRoomFor room level = record { sized = weighed.sized; ranged = weighed.ranged; fits = first.fits } in
    let second = mains N room level main first.graph holds h.mains.main_is in
    record {
      level_graph = first.graph;
      main_graph = second;
      final_graph = finals N main final second h.final_is;
      room = holds;
      pieces = subst (ArePieces I t) (sym (same_pieces I t level main final h)) h.mains.are_pieces;
    }
