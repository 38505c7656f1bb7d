-- The demands so far are met.
use Rattle.std.proofs.Common.{◌≡◌, ℕ}
use Rattle.packing_laws.specs.Instances.{IsAmong, item_at}
use Rattle.packing_laws.specs.Packings.{count_of_item, all_of}
use Rattle.packing_laws.specs.Printed.{bins_of}
use Rattle.packing_laws.proofs.checks.meets_demands.Given as goal

abbrev pub invariant-loop-at : goal.invariant-loop-at
invariant-loop-at l = (i : ℕ) → IsAmong i l.at → count_of_item i (all_of (bins_of l.bins)) ≡ (item_at l.instance i).demand
