-- Paths that are used a number of times, and flows as sums of them.
use Rattle.std.specs.Prelude.{◌≡◌, ℕ, ◌-◌, ◌≤◌, Bool, ◌==◌, ◌||◌, if◌then◌else◌, List, All, length, slice_index, sum_by}
use Rattle.std.specs.List.{list_any}
use Rattle.packing_laws.specs.Instances.{IsAmong}
use Rattle.flow_graph.specs.Arcs.{TypeValue, numbered, first_arc}
use Rattle.flow_graph.specs.Faithful.{IsNumberedPath}
pub use Rattle.flow_model.specs.Flows.{AreConserved}
use Rattle.pattern_extract.specs.declared.runs.PathRun.{PathRun}

-- a run: a path of a type from its source to its target, used at least once
pub record IsRun (g : List TypeValue) (run : PathRun) : Type 0 where
  pub of_type : IsAmong run.t (length g)
  pub times : 1 ≤ run.times
  pub path : IsNumberedPath g run.t run.arcs

-- the run goes over arc a: back by the bin arc of its type, or on its path
abbrev pub goes_over : List TypeValue → ℕ → PathRun → Bool
goes_over g a run = (first_arc g run.t == a) || list_any (λ n. n == a) run.arcs

-- the times of the runs that go over arc a, added up
abbrev pub times_over : List TypeValue → List PathRun → ℕ → ℕ
times_over g runs a = sum_by (λ run. if goes_over g a run then run.times else 0) runs

-- the runs are paths whose times add up to the value of each arc, the bin arcs included
pub record AreRunsOf (g : List TypeValue) (values : List ℕ) (runs : List PathRun) : Type 0 where
  pub each : All (IsRun g) runs
  pub sums : (a : ℕ) → IsAmong a (length (numbered g)) → times_over g runs a ≡ slice_index values (a - 1)
