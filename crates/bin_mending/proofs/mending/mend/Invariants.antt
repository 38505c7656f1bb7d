use Rattle.std.proofs.Common.{◌<◌, IfSome}
use Rattle.packing_laws.specs.Packings.{cost_of}
use Rattle.packing_laws.specs.Printed.{IsWrittenPacking, bins_of}
use Rattle.bin_mending.proofs.mending.mend.Given as goal

abbrev pub invariant-loop-first : goal.invariant-loop-first
invariant-loop-first l = record {
  packing : IfSome l.best (IsWrittenPacking l.instance);
  cost : IfSome l.best (λ p. cost_of l.instance (bins_of p) < l.below);
}
