-- Packings as flows: for each bin the arcs of a path with its content, and the bin arc that closes it.
use Rattle.std.specs.Prelude.{◌≡◌, ℕ, ◌-◌, ◌<◌, ◌==◌, ◌↔◌, pos, List, ◌∷◌, All, length, slice_index, count_by}
use Rattle.std.specs.List.{AllZip, flat_map}
use Rattle.packing_laws.specs.Instances.{InstanceValue, IsInstance, IsAmong}
use Rattle.packing_laws.specs.Packings.{Content, Bins, IsPacking, cost_of}
use Rattle.packing_laws.specs.Printed.{SameContent, units_in}
use Rattle.flow_graph.specs.declared.parts.TypeArc.{TypeArc}
use Rattle.flow_graph.specs.Arcs.{TypeValue, IsFlowGraph, first_arc}
use Rattle.flow_graph.specs.Faithful.{IsTypePath, AreNumbersOf, content_of, IsFaithful}
use Rattle.flow_model.specs.declared.programs.Program.{Program}
use Rattle.flow_model.specs.Flows.{IsFlow, flow_cost}
use Rattle.flow_model.specs.Programs.{IsSolution, objective_of}

-- the numbers are those of the bin arc of a bin, and of a path with the bin's content
pub record IsWayOf (g : List TypeValue) (bin : ℕ × Content) (way : List ℕ) : Type 0 where
  pub path : List TypeArc
  pub numbers : List ℕ
  pub closed : way ≡ first_arc g bin.0 ∷ numbers
  pub leads : IsTypePath g bin.0 path
  pub are : AreNumbersOf g bin.0 numbers path
  pub content : SameContent (content_of path) bin.1

-- the values are the sum of one path for each bin: an arc has as many units as it stands on the ways of the bins
pub record IsSumOfPaths (g : List TypeValue) (bins : Bins) (values : List ℕ) : Type 0 where
  pub ways : List (List ℕ)
  pub each : AllZip (IsWayOf g) bins ways
  pub sum : (a : ℕ) → IsAmong a (length values) → slice_index values (a - 1) ≡ count_by (λ n. n == a) (flat_map (λ way. way) ways)

-- a flow that costs what a packing costs, and is the sum of one path for each of its bins
pub record FlowOfPacking (I : InstanceValue) (g : List TypeValue) (bins : Bins) : Type 0 where
  pub values : List ℕ
  pub flow : IsFlow I g values
  pub cost : flow_cost I g values ≡ cost_of I bins
  pub sum : IsSumOfPaths g bins values

-- each packing without empty bins is such a flow
abbrev pub PackingsAreFlows : Type 0
PackingsAreFlows = (I : InstanceValue) (g : List TypeValue) (bins : Bins) → IsInstance I → IsFlowGraph g → IsFaithful I g → IsPacking I bins → All (λ b. 0 < units_in b.1) bins → FlowOfPacking I g bins

-- a solution that costs what a packing costs, and is the sum of one path for each of its bins
pub record SolutionOfPacking (p : Program) (I : InstanceValue) (g : List TypeValue) (bins : Bins) : Type 0 where
  pub values : List ℕ
  pub solution : IsSolution p values
  pub cost : objective_of p values ≡ pos (cost_of I bins)
  pub sum : IsSumOfPaths g bins values

-- the solutions of the program are the flows, at the same cost
pub record SolvesAsFlows (p : Program) (I : InstanceValue) (g : List TypeValue) : Type 0 where
  pub solutions : (values : List ℕ) → IsSolution p values ↔ IsFlow I g values
  pub objective : (values : List ℕ) → objective_of p values ≡ pos (flow_cost I g values)

-- where the graph is faithful, each packing without empty bins is such a solution
abbrev pub SolvesPackings : Program → InstanceValue → List TypeValue → Type 0
SolvesPackings p I g = IsFaithful I g → (bins : Bins) → IsPacking I bins → All (λ b. 0 < units_in b.1) bins → SolutionOfPacking p I g bins
