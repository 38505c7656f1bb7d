-- How far a certificate was read, and what a line does to it.
use Rattle.std.specs.Prelude.{◌≡◌, ℕ, ◌+◌, ◌^◌, List, [], ◌∷◌, Option, None, Some, false}
use Rattle.packing_laws.specs.Instances.{InstanceValue}
use Rattle.flow_graph.specs.Arcs.{TypeValue}
use Rattle.cert_text.specs.declared.lines.Claim.TheVariants.{Empty}
use Rattle.cert_text.specs.declared.lines.CertLine.{CertLine}
use Rattle.cert_laws.specs.declared.causes.Cause.{Cause}
use Rattle.cert_laws.specs.Rules.{Box, Progress, after_line, IsAccepted, IsRefused}

-- the root box, and what the lines so far have told
pub record StandingValue : Type 0 where
  pub root : Box
  pub progress : Progress

-- lines that are counted at most: more than a list has, and so few that the next has a number
abbrev pub most_lines : ℕ
most_lines = 2 ^ 63 + 8

-- before the first line
abbrev pub first_progress : Box → Progress
first_progress root = record { count = 0; version = 0; claim = Empty; goal = None; boxes = root ∷ []; ended = false }

-- a line was told: it was accepted and counts, or it was refused and nothing has changed
abbrev pub IsTold : InstanceValue → List TypeValue → StandingValue → CertLine → Option Cause → StandingValue → Type 0
IsTold I g old line None new = IsAccepted I g old.progress line × (new ≡ record { root = old.root; progress = after_line old.progress line })
IsTold I g old line (Some fault) new = IsRefused I g old.progress line fault × (new ≡ old)
