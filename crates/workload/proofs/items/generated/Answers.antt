use Rattle.std.proofs.Common.{rules}
use Rattle.workload.proofs.Instances.{is_instance}
use Rattle.workload.proofs.items.generated.Goals as goal

pub unreachable-requires : goal.unreachable-requires
unreachable-requires c = let is = is_instance c.args.seed c.args.size c.requires in search (is, rules)
