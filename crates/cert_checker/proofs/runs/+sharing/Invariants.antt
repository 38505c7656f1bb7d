use Rattle.std.proofs.Common.{◌+◌, ◌*◌}
use Rattle.cert_checker.proofs.runs.+sharing.Given as goal

abbrev pub decreases-hand_out-join+arg2 : goal.decreases-hand_out-join+arg2
decreases-hand_out-join+arg2 g l = 3 * l.share + 3

abbrev pub decreases-hand_out-join+arg3 : goal.decreases-hand_out-join+arg3
decreases-hand_out-join+arg3 g l = 3 * l.others + 3

abbrev pub decreases-side_by_side : goal.decreases-side_by_side
decreases-side_by_side g l = 3 * l.workers + 2

abbrev pub decreases-hand_out : goal.decreases-hand_out
decreases-hand_out g l = 3 * l.workers + 1
