-- What a fault tells.
use Rattle.std.specs.Prelude.{ℕ, Option, None, Some}
use Rattle.cert_laws.specs.declared.causes.Cause.{Cause}
use Rattle.cert_laws.specs.declared.causes.Cause.TheVariants as cause
use Rattle.cert_checker.specs.declared.faults.CheckFault.{CheckFault}
use Rattle.cert_checker.specs.declared.faults.CheckFault.TheVariants.{Text, Extra, Unfinished, NoItem, NoArc, NotSplit, NotNeeded, NotStep, Gain, Weak, Memory}

-- the number of a line and the cause for which it is refused; none where memory wanted
abbrev pub refusal_of : CheckFault → Option (ℕ × Cause)
refusal_of (Text line) = Some (line, cause.Text)
refusal_of (Extra line) = Some (line, cause.Extra)
refusal_of (Unfinished line) = Some (line, cause.Unfinished)
refusal_of (NoItem line) = Some (line, cause.NoItem)
refusal_of (NoArc line) = Some (line, cause.NoArc)
refusal_of (NotSplit line) = Some (line, cause.NotSplit)
refusal_of (NotNeeded line) = Some (line, cause.NotNeeded)
refusal_of (NotStep line) = Some (line, cause.NotStep)
refusal_of (Gain line t) = Some (line, cause.Gain t)
refusal_of (Weak line) = Some (line, cause.Weak)
refusal_of Memory = None
