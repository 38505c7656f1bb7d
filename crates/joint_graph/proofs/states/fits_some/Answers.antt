use Rattle.std.proofs.Common.{refl, sym, ◌∙◌, arith}
use Rattle.std.proofs.lemmas.Bool.{false≢true}
use Rattle.joint_graph.proofs.FitsLemmas.{fits-here, fits-more, fits-never}
use Rattle.joint_graph.proofs.states.fits_some.Goals as goal

pub returns-then-fits : goal.returns-then-fits
returns-then-fits g c = (
  λ yes. fits-here c.args.caps.now c.args.weight.now c.index-caps-t.result c.loop-t.t c.loop-t-test.true c.index-caps-t.is (c.fits.ensures.0 c.if-fits.true),
  λ fits. refl,
)

pub loop-t-preserved : goal.loop-t-preserved
loop-t-preserved g c = fits-more c.args.caps.now c.args.weight.now c.index-caps-t.result c.loop-t.t c.loop-t-test.true c.index-caps-t.is (λ fits. false≢true (sym c.if-fits.false ∙ c.fits.ensures.1 fits)) c.loop-t.invariant

pub returns : goal.returns
returns g c = (
  λ yes. absurd (false≢true yes),
  λ fits. absurd (fits-never c.args.caps.now c.args.weight.now c.loop-t.t (omega arith) c.loop-t.invariant fits),
)
