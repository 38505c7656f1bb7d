use Rattle.std.proofs.Common.{◌≡◌, ℕ, ◌+◌, ◌-◌, ◌<◌, List, [], length, get_or, subst, sym, ◌∙◌, rules, arith}
use Rattle.std.proofs.lemmas.List.{get_or_read}
use Rattle.lift_build.specs.inner.Tables.{IsRow}
use Rattle.lift_build.specs.inner.Searches.{state_of}
use Rattle.lift_build.proofs.Lifting.{lifted-fits, lifted-more, piece-copies}
use Rattle.lift_build.proofs.steps.lift_of.Goals as goal

pub copies_at-requires : goal.copies_at-requires
copies_at-requires g c =
    let m = length c.args.pieces.now + 1 - c.args.state.piece in
    let lt : m < length c.args.pieces.now + 1 = omega arith in
    let here : c.as_slice.result.now ≡ get_or c.args.rows.now m [] = c.as_slice.ensures ∙ get_or_read c.args.rows.now m c.index-rows-pieces.result (omega (arith, c.requires.rows.count)) c.index-rows-pieces.is [] in
    let row : IsRow c.args.pieces.now c.args.cap.now m c.as_slice.result.now = subst (λ (r : List (List ℕ)). IsRow c.args.pieces.now c.args.cap.now m r) (sym here) (c.requires.rows.each m lt) in
    (search rules, (search rules, (c.requires.small, lifted-fits c.args.pieces.now c.args.cap.now c.known.ensures.places (state_of c.args.state) c.as_slice.result.now c.lifted-used.result c.requires.fits c.known-2.ensures.places row c.lifted-used.ensures)))

pub returns-clause-under : goal.returns-clause-under
returns-clause-under g c =
    let m = length c.args.pieces.now + 1 - c.args.state.piece in
    let lt : m < length c.args.pieces.now + 1 = omega arith in
    let here : c.as_slice.result.now ≡ get_or c.args.rows.now m [] = c.as_slice.ensures ∙ get_or_read c.args.rows.now m c.index-rows-pieces.result (omega (arith, c.requires.rows.count)) c.index-rows-pieces.is [] in
    let row : IsRow c.args.pieces.now c.args.cap.now m c.as_slice.result.now = subst (λ (r : List (List ℕ)). IsRow c.args.pieces.now c.args.cap.now m r) (sym here) (c.requires.rows.each m lt) in
    let has = piece-copies c.args.pieces.now c.args.cap.now c.args.state.piece c.index-pieces-state.result c.requires.low c.requires.high c.index-pieces-state.is c.args.state.copies c.copies_at.result c.lifted-used.result c.copies_at.ensures.more c.copies_at.ensures.enough in
    lifted-more c.args.pieces.now c.args.cap.now c.known.ensures.places (state_of c.args.state) c.as_slice.result.now c.lifted-used.result c.requires.fits c.known-2.ensures.places row c.lifted-used.ensures c.copies_at.result has
