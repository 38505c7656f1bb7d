use Rattle.std.proofs.Common.{List, length, sym, subst, ap, ◌∙◌, rules}
use Rattle.std.specs.Prelude.{All}
use Rattle.std.proofs.lemmas.Result.{IfOk-weaker}
use Rattle.packing_laws.specs.Instances.{IsAmong}
use Rattle.label_graph.specs.declared.parts.Piece.{Piece}
use Rattle.arc_compile.specs.declared.ranks.Ranked.{Ranked}
use Rattle.arc_compile.specs.inner.Ranks.{pieces_from}
use Rattle.joint_compile.specs.JointPieces.{AreJointPieces}
use Rattle.joint_compile.proofs.UnionRanks.{are_joint_pieces, ranked_items}
use Rattle.joint_compile.proofs.pieces.joint_pieces.Goals as goal

pub with_copies-requires : goal.with_copies-requires
with_copies-requires g c =
    let I = c.args.instance.now in
    let among = ranked_items I c.in_ok-ranked.ranked.items c.in_ok-ranked.ensures.ranked in
    (search rules, (search rules, (c.requires.small, subst (λ (rs : List (Ranked g.row.N)). All (λ r. IsAmong r.item (length I.items)) rs) (sym c.as_slice.ensures.value) among)))

pub returns : goal.returns
returns g c =
    let I = c.args.instance.now in
    IfOk-weaker c.with_copies.result _ _
    (λ pieces made. subst (λ (ps : List (Piece g.row.N)). AreJointPieces I ps)
    (sym (made ∙ ap (λ (rs : List (Ranked g.row.N)). pieces_from I rs) c.as_slice.ensures.value))
    (are_joint_pieces I c.in_ok-ranked.ranked.items c.in_ok-ranked.ensures.ranked c.in_ok-ranked.ensures.sorted))
    c.with_copies.ensures
