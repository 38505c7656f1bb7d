use Rattle.std.proofs.Common.{◌≡◌, drop}
use Rattle.arc_num.specs.Decimals.{value_of}
use Rattle.arc_num.proofs.DigitLemmas.{value_from}
use Rattle.arc_num.proofs.decimals.number.Given as goal

abbrev pub invariant-loop-byte : goal.invariant-loop-byte
invariant-loop-byte l = value_from l.value (drop l.byte-index l.text) ≡ value_of l.text
