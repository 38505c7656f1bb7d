use Rattle.std.proofs.Common.{refl, ⊎_elim, arith}
use Rattle.std.proofs.lemmas.Bool.{cases_lt, false≢true}
use Rattle.std.proofs.lemmas.List.{get_or_past}
use Rattle.weight_vec.proofs.Places.{get_or-plus}
use Rattle.lift_build.proofs.steps.fits_beside.Goals as goal

pub returns-then-get : goal.returns-then-get
returns-then-get g c = (
  λ no. absurd (false≢true no),
  λ fits. absurd (omega (arith, fits c.loop-d.d, get_or-plus c.args.used.now c.args.weight.now c.loop-d.d, c.get.ensures, c.get-in-loop-d.ensures, c.get-in-loop-d-2.ensures, c.if-get.true)),
)

pub returns : goal.returns
returns g c = (
  λ yes d. ⊎_elim
      (λ lt. omega (arith, c.loop-d.invariant d (omega (arith, lt, c.loop-d.auto.d-end, c.loop-d-test.false)), get_or-plus c.args.used.now c.args.weight.now d))
      (λ ge. omega (arith, get_or-plus c.args.used.now c.args.weight.now d, get_or_past c.args.used.now d 0 (omega (arith, ge, c.known-2.ensures.places)), get_or_past c.args.weight.now d 0 (omega (arith, ge, c.known.ensures.places))))
      (cases_lt d g.row.N),
  λ fits. refl,
)
