use Rattle.std.proofs.Common.{◌≡◌, length, sym, ◌∙◌}
use Rattle.std.proofs.lemmas.Bool.{eqb-true}
use Rattle.lift_build.proofs.Waiting.{whole-none}
use Rattle.lift_build.proofs.search.search.Goals as goal

pub returns-then-is_empty-clause-whole : goal.returns-then-is_empty-clause-whole
returns-then-is_empty-clause-whole g c =
    let none : length c.args.pieces.now ≡ 0 = eqb-true (length c.args.pieces.now) 0 (sym c.is_empty.ensures ∙ c.if-is_empty.true) in
    whole-none c.args.pieces.now c.args.cap.now c.known.ensures.places c.in_ok-found.found.labels c.in_ok-found.found.arcs none c.in_ok-found.ensures.sound
