use Rattle.std.proofs.Common.{length}
use Rattle.mps_text.proofs.LinesRead.{IsReadUpTo}
use Rattle.mps_text.proofs.state.Reader.read.Given as goal

abbrev pub invariant-loop-rest : goal.invariant-loop-rest
invariant-loop-rest l = IsReadUpTo l.fn.text l.self l.number l.rest

abbrev pub decreases-loop-rest : goal.decreases-loop-rest
decreases-loop-rest l = length l.rest
