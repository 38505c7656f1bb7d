use Rattle.std.proofs.Common.{ℕ, arith}
use Rattle.std.proofs.lemmas.List.{length-take}
use Rattle.arc_program.proofs.LoadLemmas.{taken_more}
use Rattle.arc_program.proofs.loading.read_rest.Goals as goal

pub returns-in-Err-clause-taken : goal.returns-in-Err-clause-taken
returns-in-Err-clause-taken g c = taken_more (g.H.Shelf.left c.args.shelf.now) (g.H.Shelf.left c.pieces.shelf) _ c.pieces.text.items _ _ (omega (arith, length-take {A = ℕ})) c.pieces.invariant.1 c.in-Err.ensures.taken

pub returns-then-n-eq0-clause-taken : goal.returns-then-n-eq0-clause-taken
returns-then-n-eq0-clause-taken g c = taken_more (g.H.Shelf.left c.args.shelf.now) (g.H.Shelf.left c.pieces.shelf) _ c.pieces.text.items _ _ (omega (arith, length-take {A = ℕ})) c.pieces.invariant.1 c.in-Ok.ensures.taken
