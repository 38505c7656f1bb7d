-- Tree arcs, chords, and how many points a box has.
use Rattle.std.specs.Prelude.{◌≡◌, ℕ, zero, suc, ◌+◌, ◌-◌, ◌*◌, ◌≤◌, ◌<◌, Bool, true, false, not, ◌==◌, ◌&&◌, if◌then◌else◌, List, Option, None, Some, is_some, length, take, slice_index_or, slice_set}
use Rattle.std.specs.List.{list_any}
use Rattle.std.specs.Option.{IsSomeAnd}
use Rattle.packing_laws.specs.Instances.{IsAmong}
use Rattle.flow_graph.specs.declared.parts.ArcKind.{ArcKind}
use Rattle.flow_graph.specs.declared.parts.ArcKind.TheVariants.{Bin, Loss, Piece}
use Rattle.flow_graph.specs.Arcs.{TypeValue, numbered, arc_at}

-- the arc is one of type t, the bin arc aside, and ends in node v
abbrev pub ends_in : ℕ → ℕ → ArcKind → Bool
ends_in t v (Bin s) = false
ends_in t v (Loss s tail head) = (s == t) && (head == v)
ends_in t v (Piece s tail head item form) = (s == t) && (head == v)

-- the arc, if there is one, is no bin arc, and none of these ends where it ends
abbrev pub is_first_after : List ArcKind → Option ArcKind → Bool
is_first_after before None = false
is_first_after before (Some (Bin t)) = false
is_first_after before (Some (Loss t tail head)) = not (list_any (ends_in t head) before)
is_first_after before (Some (Piece t tail head item form)) = not (list_any (ends_in t head) before)

-- arc a is the tree arc of the node in which it ends: the first arc of its type, the bin arc aside, that ends there
abbrev pub is_tree : List TypeValue → ℕ → Bool
is_tree g a = is_first_after (take (a - 1) (numbered g)) (arc_at g a)

-- arc a is the tree arc of node v of type t
abbrev pub IsTreeArcOf : List TypeValue → ℕ → ℕ → ℕ → Type 0
IsTreeArcOf g t v a = (is_tree g a ≡ true) × IsSomeAnd (arc_at g a) (λ e. ends_in t v e ≡ true)

-- arc a is a chord: one that is no tree arc
abbrev pub is_chord : List TypeValue → ℕ → Bool
is_chord g a = is_some (arc_at g a) && not (is_tree g a)

-- the range of arc a in a box
abbrev pub range_at : List (ℕ × ℕ) → ℕ → ℕ × ℕ
range_at ranges a = slice_index_or ranges (a - 1) (0, 0)

-- how many whole numbers there are in a range, both ends included
abbrev pub count_in : ℕ × ℕ → ℕ
count_in r = r.1 + 1 - r.0

-- f at 1 to n, multiplied
abbrev pub product_to : (ℕ → ℕ) → ℕ → ℕ
product_to f zero = 1
product_to f (suc n) = product_to f n * f (suc n)

-- the number of points of a box, which has a range for each arc of the graph: the product over its chords
abbrev pub points_of : List TypeValue → List (ℕ × ℕ) → ℕ
points_of g ranges = product_to (λ a. if is_chord g a then count_in (range_at ranges a) else 1) (length (numbered g))

-- the low part of a box that is split at k in the range of arc a
abbrev pub low_part : List (ℕ × ℕ) → ℕ → ℕ → List (ℕ × ℕ)
low_part ranges a k = slice_set ranges (a - 1) ((range_at ranges a).0, k)

-- the high part
abbrev pub high_part : List (ℕ × ℕ) → ℕ → ℕ → List (ℕ × ℕ)
high_part ranges a k = slice_set ranges (a - 1) (k + 1, (range_at ranges a).1)

-- the split of a box at k in the range of arc a leaves numbers of that range on both sides
pub record IsGenuine (ranges : List (ℕ × ℕ)) (a k : ℕ) : Type 0 where
  pub arc : IsAmong a (length ranges)
  pub low : (range_at ranges a).0 ≤ k
  pub high : k < (range_at ranges a).1
