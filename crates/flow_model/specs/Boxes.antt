-- Boxes: a range of whole numbers for each arc.
use Rattle.std.specs.Prelude.{◌≡◌, ◌⊎◌, ℕ, ◌-◌, ◌≤◌, min, List, All, length, map, Option, None, Some, slice_index}
use Rattle.packing_laws.specs.Instances.{InstanceValue, IsAmong, type_at, units_of}
use Rattle.flow_graph.specs.declared.parts.ArcKind.{ArcKind}
use Rattle.flow_graph.specs.declared.parts.ArcKind.TheVariants.{Bin, Loss, Piece}
use Rattle.flow_graph.specs.Arcs.{TypeValue, numbered}
use Rattle.flow_graph.specs.Chords.{IsGenuine, high_part, low_part, range_at}

-- the number, or the limit where there is one and it is smaller
abbrev pub limited : ℕ → Option ℕ → ℕ
limited n None = n
limited n (Some limit) = min n limit

-- what an arc carries at most: all units, and a bin arc no more than there are bins of its type
abbrev pub upper_of : InstanceValue → ArcKind → ℕ
upper_of I (Bin t) = limited (units_of I) (type_at I t).limit
upper_of I (Loss t tail head) = units_of I
upper_of I (Piece t tail head item form) = units_of I

-- the widest range of an arc
abbrev pub root_range : InstanceValue → ArcKind → ℕ × ℕ
root_range I kind = (0, upper_of I kind)

-- the root box: the widest range of each arc
abbrev pub root_ranges : InstanceValue → List TypeValue → List (ℕ × ℕ)
root_ranges I g = map (root_range I) (numbered g)

-- the number is in the range
abbrev pub IsInRange : ℕ × ℕ → ℕ → Type 0
IsInRange range x = (range.0 ≤ x) × (x ≤ range.1)

-- the value of arc a is in its range of the box
abbrev pub IsInRangeOf : List ℕ → List (ℕ × ℕ) → ℕ → Type 0
IsInRangeOf values ranges a = IsInRange (range_at ranges a) (slice_index values (a - 1))

-- the values lie in the box: one for each arc, within its range
pub record InBox (values : List ℕ) (ranges : List (ℕ × ℕ)) : Type 0 where
  pub size : length values ≡ length ranges
  pub each : (a : ℕ) → IsAmong a (length ranges) → IsInRangeOf values ranges a

-- the inner box lies within the outer one, and none of its ranges is empty
pub record LiesWithin (inner outer : List (ℕ × ℕ)) : Type 0 where
  pub size : length inner ≡ length outer
  pub low : (a : ℕ) → IsAmong a (length outer) → (range_at outer a).0 ≤ (range_at inner a).0
  pub order : (a : ℕ) → IsAmong a (length outer) → (range_at inner a).0 ≤ (range_at inner a).1
  pub high : (a : ℕ) → IsAmong a (length outer) → (range_at inner a).1 ≤ (range_at outer a).1

-- the box is made of a whole one by genuine splits, of which each time one part is kept
pub data IsPartOf (root : List (ℕ × ℕ)) : List (ℕ × ℕ) → Type 0 where
  whole : IsPartOf root root
  low : (ranges : List (ℕ × ℕ)) (a k : ℕ) → IsPartOf root ranges → IsGenuine ranges a k → IsPartOf root (low_part ranges a k)
  high : (ranges : List (ℕ × ℕ)) (a k : ℕ) → IsPartOf root ranges → IsGenuine ranges a k → IsPartOf root (high_part ranges a k)

-- values lie in just one part of a box in which they lie, and in no part of another
pub record LieInOnePart (values : List ℕ) (ranges : List (ℕ × ℕ)) (a k : ℕ) : Type 0 where
  pub either : InBox values ranges → InBox values (low_part ranges a k) ⊎ InBox values (high_part ranges a k)
  pub apart : InBox values (low_part ranges a k) → InBox values (high_part ranges a k) → ⊥
  pub low : InBox values (low_part ranges a k) → InBox values ranges
  pub high : InBox values (high_part ranges a k) → InBox values ranges

-- what genuine splits do to boxes
pub record BoxesSplit : Type 0 where
  pub values : (values : List ℕ) (ranges : List (ℕ × ℕ)) (a k : ℕ) → IsGenuine ranges a k → LieInOnePart values ranges a k
  pub parts : (root ranges : List (ℕ × ℕ)) → All (λ r. r.0 ≤ r.1) root → IsPartOf root ranges → LiesWithin ranges root
