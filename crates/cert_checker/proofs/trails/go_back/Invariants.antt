use Rattle.std.proofs.Common.{◌≡◌, length, reverse}
use Rattle.cert_checker.specs.Trails.{LeadsTo, root_of, waiting}
use Rattle.cert_checker.proofs.trails.go_back.Given as goal

abbrev pub invariant-loop-branch : goal.invariant-loop-branch
invariant-loop-branch l = record {
  leads : LeadsTo l.first (reverse l.trail.items);
  root : root_of l.first (reverse l.trail.items) ≡ root_of l.initial.first (reverse l.initial.trail.items);
  boxes : waiting l.initial.first (reverse l.initial.trail.items) ≡ waiting l.first (reverse l.trail.items);
}

abbrev pub decreases-loop-branch : goal.decreases-loop-branch
decreases-loop-branch l = length l.trail.items
