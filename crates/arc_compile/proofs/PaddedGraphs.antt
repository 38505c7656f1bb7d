-- The graphs of a type in more places than extended weights have are those in as many.
use Rattle.std.proofs.Common.{◌≡◌, ℕ, zero, suc, ◌-◌, ◌≤◌, List, [], ◌∷◌, length, get_or, map, take, refl, sym, ◌∙◌, subst}
use Rattle.std.proofs.lemmas.List.{length-map}
use Rattle.packing_laws.specs.Instances.{InstanceValue, IsInstance, IsAmong}
use Rattle.label_graph.specs.declared.parts.GraphArc.{GraphArc}
use Rattle.label_graph.specs.declared.parts.Mark.{Mark}
use Rattle.label_graph.specs.declared.parts.Mark.TheVariants.{Loss, Piece as Carries}
use Rattle.label_graph.specs.declared.parts.Piece.{Piece}
use Rattle.label_graph.specs.Graph.{GraphValue, IsGraph}
use Rattle.label_graph.specs.Cuts.{IsPaddedGraph, cut_piece, cut_graph}
use Rattle.level_graph.specs.LevelLaws.{LevelGraphsAreGraphs, CutsKeepLevelGraphs}
use Rattle.main_compress.specs.MainGraphs.{IsMainGraph}
use Rattle.main_compress.specs.MainLaws.{IsRoomFor, MainGraphsAreGraphs, CutsKeepMainGraphs}
use Rattle.final_compress.specs.FinalLaws.{CutsKeepFinalGraphs}
use Rattle.flow_graph.specs.Arcs.{TypeValue}
use Rattle.arc_compile.specs.declared.results.TypeSize.{TypeSize}
use Rattle.arc_compile.specs.Compiled.{IsNumberedType, AreSizes, IsCompiledType, type_arc}
use Rattle.arc_compile.specs.CompileLaws.{PaddingKeepsGraphs}
use Rattle.arc_compile.specs.Exact.{marked_item, marked_form}
use Rattle.arc_compile.specs.Graphs.{AreMainGraphs, HasMainArcs}
use Rattle.arc_compile.specs.Extended.{places_of, extended_capacity}
use Rattle.arc_compile.specs.Pieces.{padded}
use Rattle.arc_compile.proofs.CutPieces.{padded-padded, are_pieces-cut}
use Rattle.arc_compile.proofs.PaddedLevels.{room-cut, is_cut_level, level_size-cut}
use Rattle.arc_compile.proofs.PieceNumbers.{pieces_are_list}
use Rattle.arc_compile.proofs.ExtendedWeights.{capacity_vector}
use Rattle.arc_compile.proofs.WeighedPieces.{are_weighed}

module _ {N : ℕ} (n : ℕ) (pieces : List (Piece N)) where
  item-cut : (m : Mark) → marked_item (map (cut_piece n) pieces) m ≡ marked_item pieces m
  item-cut Loss = refl
  item-cut (Carries p) = at pieces (p - 1)
    where
      at : (ps : List (Piece N)) (k : ℕ) → get_or (map (λ (q : Piece n). q.item) (map (cut_piece n) ps)) k 0 ≡ get_or (map (λ (q : Piece N). q.item) ps) k 0
      at [] k = refl
      at (q ∷ ps) zero = refl
      at (q ∷ ps) (suc k) = at ps k

  form-cut : (m : Mark) → marked_form (map (cut_piece n) pieces) m ≡ marked_form pieces m
  form-cut Loss = refl
  form-cut (Carries p) = at pieces (p - 1)
    where
      at : (ps : List (Piece N)) (k : ℕ) → get_or (map (λ (q : Piece n). q.form) (map (cut_piece n) ps)) k 0 ≡ get_or (map (λ (q : Piece N). q.form) ps) k 0
      at [] k = refl
      at (q ∷ ps) zero = refl
      at (q ∷ ps) (suc k) = at ps k

  -- an arc carries the same item in the same form
  arc-cut : (e : GraphArc) → type_arc (map (cut_piece n) pieces) e ≡ type_arc pieces e
  arc-cut e = λ i. record { tail = e.tail; head = e.head; item = item-cut e.mark i; form = form-cut e.mark i }

module _ {N : ℕ} (n : ℕ) where
  labels-count : (g : GraphValue N) → length g.labels ≡ length (cut_graph n g).labels
  labels-count g = sym (length-map g.labels (take n))

  -- a graph that is cut has the same numbered arcs
  pub numbered-cut : (g : GraphValue N) (x : TypeValue) → IsNumberedType g x → IsNumberedType (cut_graph n g) x
  numbered-cut g x h =
      record {
        nodes = h.nodes ∙ labels-count g;
        arcs = record {
          ordered = h.arcs.ordered;
          count = h.arcs.count;
          same = λ a. (
            λ m. let e = (h.arcs.same a).0 m in (e.0, e.1, arc-cut n g.pieces e.0 ∙ e.2),
            λ e. (h.arcs.same a).1 (e.0, e.1, sym (arc-cut n g.pieces e.0) ∙ e.2),
          );
        };
      }

  -- and the same sizes
  pub sizes-cut : (main final : GraphValue N) (size : TypeSize) → AreSizes main final size → AreSizes (cut_graph n main) (cut_graph n final) size
  sizes-cut main final size h =
      record {
        main_nodes = h.main_nodes ∙ labels-count main;
        main_arcs = h.main_arcs;
        final_nodes = h.final_nodes ∙ labels-count final;
        final_arcs = h.final_arcs;
      }

-- a main graph with padded weights and labels, which cut is the main graph in as many places as extended weights have
pub record IsCutMain {N : ℕ} (I : InstanceValue) (t : ℕ) (level main : GraphValue N) : Type 0 where
  pub graph : IsGraph N main
  pub padded_is : IsPaddedGraph (places_of I) main
  pub cut : AreMainGraphs I t (cut_graph (places_of I) level) (cut_graph (places_of I) main)

module _ (cut_levels : CutsKeepLevelGraphs) (level_graphs : LevelGraphsAreGraphs) (cut_mains : CutsKeepMainGraphs) (main_graphs : MainGraphsAreGraphs) (N : ℕ) (I : InstanceValue) (t : ℕ) (known : IsInstance I) (among : IsAmong t (length I.types)) (wide : places_of I ≤ N) (small : N ≤ 32) where
  is_cut_main : (level main : GraphValue N) → AreMainGraphs I t level main → IsCutMain I t level main
  is_cut_main level main h =
      let room = padded N (extended_capacity I t) in
      let full = padded-padded (places_of I) N (extended_capacity I t) (capacity_vector I known t among).size in
      let weighed = are_weighed I t known among wide small h.pieces h.are_pieces.each in
      let within = level_graphs N h.pieces room level (pieces_are_list I t known among h.pieces h.are_pieces) weighed h.level_is in
      let holds : IsRoomFor room level = record { sized = weighed.sized; ranged = weighed.ranged; fits = within.fits } in
      let low = is_cut_level cut_levels N I t known among wide small h.pieces level h.are_pieces h.level_is in
      let kept = cut_mains N (places_of I) room level main wide within.graph holds full low.padded_is h.main_is in
      record {
        graph = main_graphs N room level main within.graph holds h.main_is;
        padded_is = kept.padded;
        cut = record {
          pieces = map (cut_piece (places_of I)) h.pieces;
          are_pieces = are_pieces-cut I t known wide h.pieces h.are_pieces;
          level_is = low.cut;
          main_is = subst (λ (w : List ℕ). IsMainGraph w (cut_graph (places_of I) level) (cut_graph (places_of I) main)) (room-cut cut_levels N I t known among wide small) kept.cut;
        };
      }

  -- the main graph has as many arcs in as many places as extended weights have
  pub main_arcs-cut : (arcs : ℕ) → HasMainArcs N I t arcs → HasMainArcs (places_of I) I t arcs
  main_arcs-cut arcs h =
      record {
        level = cut_graph (places_of I) h.level;
        main = cut_graph (places_of I) h.main;
        mains = (is_cut_main h.level h.main h.mains).cut;
        arcs_are = h.arcs_are;
      }

  -- the type is compiled to the same in as many places as extended weights have
  pub compiled_type-cut : CutsKeepFinalGraphs → (x : TypeValue) (size : TypeSize) → IsCompiledType N I t x size → IsCompiledType (places_of I) I t x size
  compiled_type-cut cut_finals x size h =
      let high = is_cut_main h.level h.main h.graphs.mains in
      let kept = cut_finals N (places_of I) h.main h.final wide high.graph high.padded_is h.graphs.final_is in
      record {
        level = cut_graph (places_of I) h.level;
        main = cut_graph (places_of I) h.main;
        final = cut_graph (places_of I) h.final;
        graphs = record { mains = high.cut; final_is = kept.cut };
        numbered = numbered-cut (places_of I) h.final x h.numbered;
        sizes = sizes-cut (places_of I) h.main h.final size h.sizes;
      }

pub padding_keeps_graphs : CutsKeepLevelGraphs → LevelGraphsAreGraphs → CutsKeepMainGraphs → MainGraphsAreGraphs → CutsKeepFinalGraphs → PaddingKeepsGraphs
padding_keeps_graphs cut_levels level_graphs cut_mains main_graphs cut_finals =
    record {
      types = λ N I t x size known among wide small h. compiled_type-cut cut_levels level_graphs cut_mains main_graphs N I t known among wide small cut_finals x size h;
      mains = λ N I t arcs known among wide small h. main_arcs-cut cut_levels level_graphs cut_mains main_graphs N I t known among wide small arcs h;
      levels = λ N I t nodes arcs known among wide small h. level_size-cut cut_levels N I t known among wide small nodes arcs h;
    }
