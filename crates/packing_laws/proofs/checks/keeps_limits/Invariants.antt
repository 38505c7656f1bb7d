-- No limit so far is passed.
use Rattle.std.proofs.Common.{ℕ, ◌≤◌, IfSome}
use Rattle.packing_laws.specs.Instances.{IsAmong, type_at}
use Rattle.packing_laws.specs.Packings.{used_of}
use Rattle.packing_laws.specs.Printed.{bins_of}
use Rattle.packing_laws.proofs.checks.keeps_limits.Given as goal

abbrev pub invariant-loop-at : goal.invariant-loop-at
invariant-loop-at l = (t : ℕ) → IsAmong t l.at → IfSome (type_at l.instance t).limit (λ q. used_of t (bins_of l.bins) ≤ q)
