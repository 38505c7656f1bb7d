-- What is said of a certificate: the claim of an accepted one, and of a refused one its first faulty line with its cause.
use Rattle.std.specs.Prelude.{ℕ, List, ◌++◌, codes, decimal}
use Rattle.cert_text.specs.declared.lines.Claim.{Claim}
use Rattle.cert_text.specs.declared.lines.Claim.TheVariants.{Bound, Empty}
use Rattle.cert_laws.specs.declared.causes.Cause.{Cause}
use Rattle.cert_laws.specs.declared.causes.Cause.TheVariants.{Text, Extra, Unfinished, NoItem, NoArc, NotSplit, NotNeeded, NotStep, Gain, Weak}
use Rattle.arc_program.specs.Refusals.{named_line}
use Rattle.arc_program.specs.Rejections.{line_said}

-- the report on an accepted certificate
abbrev pub claim_text : Claim → List ℕ
claim_text (Bound bound) = codes "accepted bound " ++ decimal bound ++ codes "\n"
claim_text Empty = codes "accepted empty\n"

-- why a line is refused
abbrev pub cause_said : Cause → List ℕ
cause_said Text = codes "bad text"
cause_said Extra = codes "past the end"
cause_said Unfinished = codes "places left"
cause_said NoItem = codes "no such item"
cause_said NoArc = codes "no such arc"
cause_said NotSplit = codes "not a split"
cause_said NotNeeded = codes "not needed"
cause_said NotStep = codes "not a step"
cause_said (Gain t) = codes "type " ++ decimal t ++ codes " gains too much"
cause_said Weak = codes "does not close"

-- the line on the first faulty line of the certificate of this name
abbrev pub faulty_line : List ℕ → ℕ → Cause → List ℕ
faulty_line name number cause = named_line name (line_said number (cause_said cause))
