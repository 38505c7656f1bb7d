use Rattle.search_states.proofs.known.known_from.Goals as goal

pub tidy-requires : goal.tidy-requires
tidy-requires c = c.packings_fit.ensures c.args.instance.now c.args.packing c.known.ensures c.requires

pub join_bins-requires-clause-packing : goal.join_bins-requires-clause-packing
join_bins-requires-clause-packing c = c.in_ok-tidy.ensures.packing c.args.instance.now c.requires
