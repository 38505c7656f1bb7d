use Rattle.std.proofs.Common.{◌≡◌, ◌<◌, IfSome}
use Rattle.packing_laws.specs.Packings.{cost_of}
use Rattle.packing_laws.specs.Printed.{IsWrittenPacking, bins_of}
use Rattle.packing_dives.proofs.dives.dive_often.Given as goal

abbrev pub invariant-loop-turn : goal.invariant-loop-turn
invariant-loop-turn l = record {
  master : l.master ≡ l.fn.master;
  packing : IfSome l.best (IsWrittenPacking l.instance);
  cost : IfSome l.best (λ p. cost_of l.instance (bins_of p) < l.goal.cut);
}
