-- How a judge stands.
use Rattle.std.specs.Prelude.{ℕ, Option, None, Some, Result, Ok, Err}
use Rattle.cert_laws.specs.declared.causes.Cause.{Cause}
use Rattle.cert_checker.specs.declared.faults.CheckFault.{CheckFault}
use Rattle.cert_checker.specs.Faults.{refusal_of}
use Rattle.cert_stream.specs.declared.verdict.Verdict.{Verdict}
use Rattle.cert_stream.specs.declared.verdict.Verdict.TheVariants.{Faulty}
use Rattle.cert_stream.specs.declared.stage.Stage.{Stage}
use Rattle.cert_stream.specs.declared.stage.Stage.TheVariants.{Certain, Spent}

-- a refusal is a verdict; want of memory is none
abbrev pub stage_of : Option (ℕ × Cause) → Stage
stage_of None = Spent
stage_of (Some refusal) = Certain (Faulty refusal.0 refusal.1)

-- a verdict, unless a line is refused before it
abbrev pub stage_behind : Result (Unit {0}) CheckFault → Verdict → Stage
stage_behind (Ok done) verdict = Certain verdict
stage_behind (Err fault) verdict = stage_of (refusal_of fault)
