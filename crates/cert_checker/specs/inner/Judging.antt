-- The rules of a place of the tree, for the first open box.
use Rattle.std.specs.Prelude.{ℕ, List, Option, None, Some, All}
use Rattle.packing_laws.specs.Instances.{InstanceValue}
use Rattle.flow_graph.specs.Arcs.{TypeValue}
use Rattle.cert_text.specs.declared.lines.Claim.{Claim}
use Rattle.cert_text.specs.declared.lines.TreeLine.{TreeLine}
use Rattle.cert_text.specs.declared.lines.CertLine.{CertLine}
use Rattle.cert_laws.specs.declared.causes.Cause.{Cause}
use Rattle.cert_laws.specs.declared.causes.Cause.TheVariants as cause
use Rattle.cert_laws.specs.Rules.{Box, Progress, NamesItems, NamesArcs, SplitsBox, NeedsHold, NamesStep, GainsWithin, IsStrong, IsFirstBroken, KeepsRule, causes_of}

-- a place of the tree keeps the rule after which a cause is named; the rules on where a line stands are left out
abbrev pub KeepsPlace : InstanceValue → List TypeValue → Box → Option ℕ → Claim → TreeLine → Cause → Type 0
KeepsPlace I g box goal claim line cause.Text = Unit {0}
KeepsPlace I g box goal claim line cause.Extra = Unit {0}
KeepsPlace I g box goal claim line cause.Unfinished = Unit {0}
KeepsPlace I g box goal claim line cause.NoItem = NamesItems I line
KeepsPlace I g box goal claim line cause.NoArc = NamesArcs g line
KeepsPlace I g box goal claim line cause.NotSplit = SplitsBox box line
KeepsPlace I g box goal claim line cause.NotNeeded = NeedsHold I g box goal line
KeepsPlace I g box goal claim line cause.NotStep = NamesStep I line
KeepsPlace I g box goal claim line (cause.Gain t) = GainsWithin I g t line
KeepsPlace I g box goal claim line cause.Weak = IsStrong I box claim line

-- the first cause whose rule is broken, if there is one
abbrev pub IsFirstCause : (Cause → Type 0) → List TypeValue → Option Cause → Type 0
IsFirstCause Keeps g None = All Keeps (causes_of g)
IsFirstCause Keeps g (Some fault) = IsFirstBroken Keeps (causes_of g) fault

-- the first cause for which a line is refused, if there is one
abbrev pub IsVerdict : InstanceValue → List TypeValue → Progress → CertLine → Option Cause → Type 0
IsVerdict I g p line verdict = IsFirstCause (KeepsRule I g p line) g verdict
