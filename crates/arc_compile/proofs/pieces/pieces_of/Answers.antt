use Rattle.std.proofs.Common.{◌≡◌, List, sym, subst, ◌∙◌, ap, ◌≤◌, rules, length, get_or, arith}
use Rattle.std.proofs.lemmas.List.{length-map}
use Rattle.arc_num.specs.declared.TheConstants.{MAX_ALL_FORMS}
use Rattle.std.specs.Prelude.{All}
use Rattle.std.proofs.lemmas.Result.{IfOk-weaker}
use Rattle.std.proofs.lemmas.List.Elements.{All-contains_itself}
use Rattle.packing_laws.specs.declared.instances.BinType.{BinType}
use Rattle.packing_laws.specs.Instances.{IsAmong, type_at}
use Rattle.label_graph.specs.declared.parts.Piece.{Piece}
use Rattle.arc_compile.specs.declared.ranks.Ranked.{Ranked}
use Rattle.arc_compile.specs.Pieces.{ArePieces}
use Rattle.arc_compile.specs.inner.Ranks.{AreRanked, pieces_from, piece_from, forms_of}
use Rattle.arc_compile.proofs.RankLemmas.{are_pieces}
use Rattle.arc_compile.proofs.pieces.pieces_of.Goals as goal

pub with_copies-requires : goal.with_copies-requires
with_copies-requires g c =
    let I = c.args.instance.now in
    let cap_is : (type_at I c.args.t).cap ≡ c.as_slice.result.now = ap (λ (b : BinType). b.cap) (sym c.in-Some.ensures.value) ∙ sym c.as_slice.ensures in
    let ranked : AreRanked {N = g.row.N} I c.args.t (length I.items) c.in_ok-ranked.ranked.items = c.in_ok-ranked.ensures.ranked c.args.t cap_is in
    let among : All (λ (r : Ranked g.row.N). IsAmong r.item (length I.items)) c.in_ok-ranked.ranked.items = λ k d lt. ((ranked (get_or c.in_ok-ranked.ranked.items k d)).0 (All-contains_itself c.in_ok-ranked.ranked.items k d lt)).item_is in
    (search rules, (search rules, (c.requires.small, subst (λ (rs : List (Ranked g.row.N)). All (λ r. IsAmong r.item (length I.items)) rs) (sym c.as_slice-2.ensures.value) among)))

pub returns-clause-pieces : goal.returns-clause-pieces
returns-clause-pieces g c =
    let I = c.args.instance.now in
    let cap_is : (type_at I c.args.t).cap ≡ c.as_slice.result.now = ap (λ (b : BinType). b.cap) (sym c.in-Some.ensures.value) ∙ sym c.as_slice.ensures in
    let ranked : AreRanked {N = g.row.N} I c.args.t (length I.items) c.in_ok-ranked.ranked.items = c.in_ok-ranked.ensures.ranked c.args.t cap_is in
    IfOk-weaker c.with_copies.result _ _
    (λ pieces made. subst (λ (ps : List (Piece g.row.N)). ArePieces I c.args.t ps)
    (sym (made ∙ ap (λ (rs : List (Ranked g.row.N)). pieces_from I rs) c.as_slice-2.ensures.value))
    (are_pieces I c.args.t c.in_ok-ranked.ranked.items ranked c.in_ok-ranked.ensures.sorted))
    c.with_copies.ensures

pub returns-clause-count : goal.returns-clause-count
returns-clause-count g c =
    let I = c.args.instance.now in
    IfOk-weaker c.with_copies.result _ _
    (λ pieces made.
    let sized : length pieces.items ≡ length c.in_ok-ranked.ranked.items = ap length made ∙ (length-map c.as_slice-2.result.now (piece_from I) ∙ ap length c.as_slice-2.ensures.value) in
    let few : forms_of I.items ≤ MAX_ALL_FORMS = c.known.ensures.form_count in
    omega (arith, sized, few, c.in_ok-ranked.ensures.count))
    c.with_copies.ensures
