-- The ranks of labels: equal ones have the same, and they rise with the order of the labels.
use Rattle.std.specs.Prelude.{◌≡◌, ◌↔◌, ℕ, ◌+◌, ◌≤◌, ◌<◌, List, Contains, length, slice_index, slice_index_or}
use Rattle.std.specs.List.Sorted.{IsStrictlySortedBy}
use Rattle.std.specs.declared.cmp.Ordering.{Ordering}
use Rattle.joint_graph.specs.Numbers.{IsNumber}

-- each label has its place in the sorted list of the different labels
pub record AreRanks {X : Type 0} (cmp : X → X → Ordering) (labels distinct : List X) (numbers : List ℕ) : Type 0 where
  pub sorted : IsStrictlySortedBy cmp distinct
  pub exact : (x : X) → Contains distinct x ↔ Contains labels x
  pub few : length distinct ≤ length labels
  pub sized : length numbers ≡ length labels
  pub each : (i : ℕ) (d : X) → i < length labels → IsNumber distinct (slice_index numbers i) (slice_index_or labels i d)

-- the numbers, and behind them those of the targets
pub record IsInto (numbers : List ℕ) (count types : ℕ) (into : List ℕ) : Type 0 where
  pub sized : length into ≡ length numbers + types
  pub front : (i : ℕ) → i < length numbers → slice_index into i ≡ slice_index numbers i
  pub back : (t : ℕ) → t < types → slice_index into (length numbers + t) ≡ count + t + 1
