use Rattle.std.proofs.Common.{List, ℕ, sym, subst, rules}
use Rattle.std.proofs.lemmas.Result.{IfOk-weaker}
use Rattle.label_graph.specs.declared.parts.Piece.{Piece}
use Rattle.level_graph.specs.Levels.{IsPieceList, IsLevelCount}
use Rattle.arc_compile.specs.Extended.{extended_capacity}
use Rattle.arc_compile.specs.Pieces.{padded}
use Rattle.arc_compile.proofs.PaddedLevels.{level_size-cut}
use Rattle.arc_compile.proofs.PieceLists.{is_piece_list}
use Rattle.arc_compile.proofs.level_sizes.level_size_in.Goals as goal

pub level_counts-requires : goal.level_counts-requires
level_counts-requires g c =
    let I = c.args.instance.now in (
      search rules,
      (
        search rules,
        (
          c.requires.small,
          subst (λ (ps : List (Piece g.row.N)). IsPieceList ps c.in_ok-cap.cap) (sym c.as_slice.ensures.value)
              (subst (λ (w : List ℕ). IsPieceList c.in_ok-pieces.pieces.items w) (sym c.in_ok-cap.ensures)
              (is_piece_list I c.args.t c.known.ensures c.requires.in_range c.in_ok-pieces.pieces.items c.in_ok-pieces.ensures.count c.in_ok-pieces.ensures.pieces)),
        ),
      ),
    )

pub returns : goal.returns
returns g c =
    let I = c.args.instance.now in
    IfOk-weaker c.level_counts.result _ _
    (λ level counted. level_size-cut c.cuts_keep_level_graphs.ensures g.row.N I c.args.t c.known.ensures c.requires.in_range c.requires.wide c.requires.small level.0 level.1 (record {
      pieces = c.in_ok-pieces.pieces.items;
      are_pieces = c.in_ok-pieces.ensures.pieces;
      counted = subst (λ (ps : List (Piece g.row.N)). IsLevelCount ps (padded g.row.N (extended_capacity I c.args.t)) level.0 level.1) c.as_slice.ensures.value
          (subst (λ (w : List ℕ). IsLevelCount c.as_slice.result.now w level.0 level.1) c.in_ok-cap.ensures counted);
    }))
    c.level_counts.ensures
