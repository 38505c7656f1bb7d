-- When a whole certificate is accepted, its first fault, and what an accepted one shows.
use Rattle.std.specs.Prelude.{◌≡◌, ◌⊎◌, ℕ, ◌+◌, true, false, List, Some, None, length}
use Rattle.packing_laws.specs.Instances.{InstanceValue, IsInstance}
use Rattle.packing_laws.specs.Packings.{IsFloor, HasNoPacking}
use Rattle.flow_graph.specs.Arcs.{TypeValue, IsFlowGraph, numbered}
use Rattle.flow_graph.specs.Faithful.{GraphOf, IsFaithful}
use Rattle.cert_text.specs.declared.lines.Claim.{Claim}
use Rattle.cert_text.specs.declared.lines.Claim.TheVariants.{Bound, Empty}
use Rattle.cert_text.specs.declared.lines.Prices.{Prices}
use Rattle.cert_text.specs.declared.lines.Need.{Need}
use Rattle.cert_text.specs.declared.lines.CertLine.{CertLine}
use Rattle.cert_text.specs.Lines.{ArePrices, IsNeed}
use Rattle.cert_laws.specs.declared.causes.Cause.{Cause}
use Rattle.cert_laws.specs.declared.causes.Cause.TheVariants.{Unfinished}
use Rattle.cert_laws.specs.Needs.{IsNeeded}
use Rattle.cert_laws.specs.Rules.{Box, at_start, after_lines, AreAccepted, IsFirstRefused, IsStrong, GainsWithin}
use Rattle.cert_text.specs.declared.lines.TreeLine.TheVariants.{Leaf}
use Rattle.packing_laws.specs.Instances.{IsAmong}

-- the lines are accepted as a certificate of a claim: each of them, and the last is the end
pub record IsCertified (I : InstanceValue) (g : List TypeValue) (lines : List CertLine) (claim : Claim) : Type 0 where
  pub each : AreAccepted I g (at_start I g) lines
  pub whole : (after_lines (at_start I g) lines).ended ≡ true
  pub told : (after_lines (at_start I g) lines).claim ≡ claim

-- the first fault of the lines of a certificate, as a number and a cause: that of the first line that is refused; or boxes
-- are left where the lines stop before the end, and then the number is that of the line that is not there
abbrev pub IsFault : InstanceValue → List TypeValue → List CertLine → ℕ → Cause → Type 0
IsFault I g lines number fault = IsFirstRefused I g (at_start I g) lines number fault ⊎ (AreAccepted I g (at_start I g) lines × ((after_lines (at_start I g) lines).ended ≡ false) × (number ≡ length lines + 1) × (fault ≡ Unfinished))

-- the prices close the box for a claim: no bin gains more than it costs, and what they are worth there is enough
pub record Closes (I : InstanceValue) (g : List TypeValue) (prices : Prices) (box : Box) (claim : Claim) : Type 0 where
  pub gains : (t : ℕ) → IsAmong t (length g) → GainsWithin I g t (Leaf prices)
  pub strong : IsStrong I box claim (Leaf prices)

-- what a claim says of an instance
abbrev pub Shows : InstanceValue → Claim → Type 0
Shows I (Bound bound) = IsFloor I bound
Shows I Empty = HasNoPacking I

-- what is accepted over a faithful graph is so: no packing costs less than the bound, or there is none
abbrev pub CertifiedIsSo : Type 0
CertifiedIsSo = (I : InstanceValue) (g : List TypeValue) (lines : List CertLine) (claim : Claim) → IsInstance I → IsFlowGraph g → IsFaithful I g → IsCertified I g lines claim → Shows I claim

-- where a need holds in a box, which has a range for each arc, no prices close the box for the goal; without a goal none show
-- it empty
pub record NeedsBarPrices : Type 0 where
  pub goal : (I : InstanceValue) (g : List TypeValue) (box : Box) (goal : ℕ) (need : Need) (prices : Prices) → IsInstance I → IsFlowGraph g → GraphOf I g → length box ≡ length (numbered g) → IsNeed need → ArePrices prices → IsNeeded I g box (Some goal) need → Closes I g prices box (Bound goal) → ⊥
  pub empty : (I : InstanceValue) (g : List TypeValue) (box : Box) (need : Need) (prices : Prices) → IsInstance I → IsFlowGraph g → GraphOf I g → length box ≡ length (numbered g) → IsNeed need → ArePrices prices → IsNeeded I g box None need → Closes I g prices box Empty → ⊥
