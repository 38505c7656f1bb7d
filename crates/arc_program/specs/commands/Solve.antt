-- What `solve` and `make` owe: a packing, a bound, or both, and a certificate that shows it.
use Rattle.std.specs.Prelude.{◌≡◌, ◌⊎◌, ℕ, ◌<◌, List, [], Option, Some}
use Rattle.packing_laws.specs.declared.packings.Bin.{Bin}
use Rattle.packing_laws.specs.Instances.{InstanceValue}
use Rattle.packing_laws.specs.Packings.{IsFloor, IsLeast, IsJoined, HasNoPacking, cost_of}
use Rattle.packing_laws.specs.Printed.{bins_of, IsWrittenPacking, IsTidy}
use Rattle.packing_laws.specs.Floors.{HasSingle}
use Rattle.flow_graph.specs.Arcs.{TypeValue}
use Rattle.cert_text.specs.declared.lines.Certificate.{Certificate}
use Rattle.cert_text.specs.declared.lines.Claim.{Claim}
use Rattle.cert_text.specs.declared.lines.Claim.TheVariants.{Bound, Empty}
use Rattle.branch_search.specs.declared.outcomes.Outcome.{Outcome}
use Rattle.branch_search.specs.declared.outcomes.Outcome.TheVariants.{Optimal, Infeasible, Bracket}
use Rattle.branch_search.specs.Outcomes.{IsOutcome}
use Rattle.arc_compile.specs.declared.results.TypeSize.{TypeSize}
use Rattle.arc_compile.specs.Compiled.{AreCompiled}
use Rattle.arc_compile.specs.Graphs.{IsSmall}
use Rattle.arc_program.specs.declared.status.Status.{Status}
use Rattle.arc_program.specs.declared.status.Status.TheVariants.{Done, Bracketed}
use Rattle.arc_program.specs.Printing.{Line}
use Rattle.arc_program.specs.Reports.{optimal_line, bracket_line, unpacked_line, infeasible_line, first_line, bins_in, certificate_in, outcome_text, generated_text}

-- the bins are a packing of the instance in the printed form at this cost: they fit, and meet each demand exactly
pub record IsPackingAt (I : InstanceValue) (cost : ℕ) (bins : List Bin) : Type 0 where
  pub packing : IsWrittenPacking I bins
  pub tidy : IsTidy bins
  pub cost_is : cost_of I (bins_of bins) ≡ cost

-- a packing, and no packing costs less
pub record SaysOptimal (I : InstanceValue) (line : Line) (bins : List Bin) : Type 0 where
  pub cost : ℕ
  pub line_is : line ≡ optimal_line cost
  pub packing : IsPackingAt I cost bins
  pub least : IsLeast I cost

-- a bound that no packing undercuts, and a packing above it, no two bins of which can be joined
pub record SaysBracket (I : InstanceValue) (line : Line) (bins : List Bin) : Type 0 where
  pub lower : ℕ
  pub cost : ℕ
  pub line_is : line ≡ bracket_line lower cost
  pub packing : IsPackingAt I cost bins
  pub joined : IsJoined I (bins_of bins)
  pub above : lower < cost
  pub floor : IsFloor I lower

-- a bound that no packing undercuts; some item with a demand fits no type without limit
pub record SaysUnpacked (I : InstanceValue) (line : Line) (bins : List Bin) : Type 0 where
  pub lower : ℕ
  pub line_is : line ≡ unpacked_line lower
  pub none : bins ≡ []
  pub floor : IsFloor I lower
  pub no_single : HasSingle I → ⊥

-- there is no packing
pub record SaysInfeasible (I : InstanceValue) (line : Line) (bins : List Bin) : Type 0 where
  pub line_is : line ≡ infeasible_line
  pub none : bins ≡ []
  pub no_packing : HasNoPacking I

-- what a first line and bins say of an instance, and that it is so
abbrev pub SaysSo : InstanceValue → Line → List Bin → Type 0
SaysSo I line bins = SaysOptimal I line bins ⊎ (SaysBracket I line bins ⊎ (SaysUnpacked I line bins ⊎ SaysInfeasible I line bins))

-- the bound that a first line tells, or that it tells of no packing, is what is claimed
abbrev pub IsClaimOf : Line → Claim → Type 0
IsClaimOf line (Bound bound) = (line ≡ optimal_line bound) ⊎ (((cost : ℕ) × (line ≡ bracket_line bound cost)) ⊎ (line ≡ unpacked_line bound))
IsClaimOf line Empty = line ≡ infeasible_line

-- what a search with a budget of splits found out over the graph of the instance
pub record IsFoundOut (I : InstanceValue) (nodes : ℕ) (graph : List TypeValue) (sizes : List TypeSize) (outcome : Outcome) : Type 0 where
  pub compiled : AreCompiled I graph sizes
  pub small : IsSmall I
  pub outcome_is : IsOutcome I graph nodes outcome
  pub so : SaysSo I (first_line I outcome) (bins_in outcome)

-- how a run ends that has printed an outcome
abbrev pub outcome_status : Outcome → Status
outcome_status (Optimal bins c) = Done
outcome_status (Infeasible c) = Done
outcome_status (Bracket lower packing c) = Bracketed

-- the text is the report of what a search found out, this is the status, and the certificate is that of the outcome
pub record IsSolved (I : InstanceValue) (nodes : ℕ) (status : Status) (text : List ℕ) (made : Option Certificate) : Type 0 where
  pub graph : List TypeValue
  pub sizes : List TypeSize
  pub outcome : Outcome
  pub found : IsFoundOut I nodes graph sizes outcome
  pub text_is : text ≡ outcome_text I outcome
  pub status_is : status ≡ outcome_status outcome
  pub made_is : made ≡ Some (certificate_in outcome)

-- the same of an instance that was generated, with its numbers and the sizes of its graphs
pub record IsMade (I : InstanceValue) (seed size nodes : ℕ) (status : Status) (text : List ℕ) (made : Option Certificate) : Type 0 where
  pub graph : List TypeValue
  pub sizes : List TypeSize
  pub outcome : Outcome
  pub found : IsFoundOut I nodes graph sizes outcome
  pub text_is : text ≡ generated_text seed size I sizes outcome
  pub status_is : status ≡ outcome_status outcome
  pub made_is : made ≡ Some (certificate_in outcome)
