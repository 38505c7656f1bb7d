use Rattle.std.proofs.Common.{◌≤◌, ◌*◌, ◌-◌, ℕ, get_or}
use Rattle.packing_laws.specs.Instances.{IsAmong, item_at}
use Rattle.needs_check.proofs.demands.reach_demands.Given as goal

abbrev pub invariant-loop-index : goal.invariant-loop-index
invariant-loop-index l = (i : ℕ) → IsAmong i l.index → l.scale * (item_at l.instance i).demand ≤ get_or l.carried (i - 1) 0
