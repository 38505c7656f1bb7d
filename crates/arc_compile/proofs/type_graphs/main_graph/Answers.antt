use Rattle.std.proofs.Common.{◌≡◌, ℕ, List, length, refl, sym, subst, rules}
use Rattle.std.proofs.lemmas.Result.{IfErr-weaker, IfOk-weaker}
use Rattle.label_graph.specs.declared.parts.Piece.{Piece}
use Rattle.label_graph.specs.Graph.{GraphValue}
use Rattle.level_graph.specs.Levels.{IsPieceList, IsLevelGraph}
use Rattle.main_compress.specs.MainGraphs.{IsMainGraph}
use Rattle.lift_build.specs.LiftedMains.{IsMainOf}
use Rattle.packing_laws.specs.Instances.{InstanceValue}
use Rattle.arc_compile.specs.Extended.{extended_capacity}
use Rattle.arc_compile.specs.Graphs.{AreMainGraphs}
use Rattle.arc_compile.specs.Pieces.{ArePieces, padded}
use Rattle.arc_compile.proofs.PieceLists.{is_piece_list}
use Rattle.arc_compile.proofs.type_graphs.main_graph.Goals as goal

-- the main graph of the pieces of a type is its main graph
mains : {N : ℕ} (I : InstanceValue) (t : ℕ) (pieces given : List (Piece N)) (cap : List ℕ) (main : GraphValue N) → given ≡ pieces → cap ≡ padded N (extended_capacity I t) → ArePieces I t pieces → IsMainOf given cap main → (level : GraphValue N) × AreMainGraphs I t level main
mains {N} I t pieces given cap main same room are is =
    let here = subst (λ (w : List ℕ). IsMainOf pieces w main) room (subst (λ (ps : List (Piece N)). IsMainOf ps cap main) same is) in
    (here.level, record { pieces = pieces; are_pieces = are; level_is = here.is_level; main_is = here.is_main })

pub build_main-requires : goal.build_main-requires
build_main-requires g c =
    let I = c.args.instance.now in
    let room : c.in_ok-cap.cap ≡ padded g.row.N (extended_capacity I c.args.t) = c.in_ok-cap.ensures in (
      search rules,
      (
        search rules,
        (
          search rules,
          (
            c.requires.small,
            subst (λ (ps : List (Piece g.row.N)). IsPieceList ps c.in_ok-cap.cap) (sym c.as_slice.ensures.value)
                (subst (λ (w : List ℕ). IsPieceList c.in_ok-pieces.pieces.items w) (sym room)
                (is_piece_list I c.args.t c.known.ensures c.requires.in_range c.in_ok-pieces.pieces.items c.in_ok-pieces.ensures.count c.in_ok-pieces.ensures.pieces)),
          ),
        ),
      ),
    )

pub returns-clause-main : goal.returns-clause-main
returns-clause-main g c =
    IfOk-weaker c.build_main.result _ _
    (λ main is. mains c.args.instance.now c.args.t c.in_ok-pieces.pieces.items c.as_slice.result.now c.in_ok-cap.cap main c.as_slice.ensures.value c.in_ok-cap.ensures c.in_ok-pieces.ensures.pieces is)
    c.build_main.ensures.main

pub returns-clause-full : goal.returns-clause-full
returns-clause-full g c =
    IfErr-weaker c.build_main.result _ _
    (λ fault h same. let main = h same in
    let found = mains c.args.instance.now c.args.t c.in_ok-pieces.pieces.items c.as_slice.result.now c.in_ok-cap.cap main.0 c.as_slice.ensures.value c.in_ok-cap.ensures c.in_ok-pieces.ensures.pieces main.1 in (
      length main.0.arcs,
      record { level = found.0; main = main.0; mains = found.1; arcs_are = refl },
      main.2,
    ))
    c.build_main.ensures.full
