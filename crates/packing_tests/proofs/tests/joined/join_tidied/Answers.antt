-- The sums of a packing fit, and its printed form is a packing.
use Rattle.packing_tests.proofs.tests.joined.join_tidied.Goals as goal

pub tidy-requires : goal.tidy-requires
tidy-requires c = c.packings_fit.ensures c.args.instance.now c.args.packing.now c.known.ensures (c.is_packing.ensures.0 c.if-is_packing.true)

pub join_bins-requires-clause-packing : goal.join_bins-requires-clause-packing
join_bins-requires-clause-packing c = c.in_ok-tidy.ensures.packing c.args.instance.now (c.is_packing.ensures.0 c.if-is_packing.true)
