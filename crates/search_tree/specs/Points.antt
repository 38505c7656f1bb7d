-- How many points the root box of a tree has at least.
use Rattle.std.specs.Prelude.{◌≡◌, ℕ, ◌+◌, ◌≤◌, ◌<◌, true, List, Some, None, All, length, slice_get}
use Rattle.flow_graph.specs.Arcs.{TypeValue, numbered}
use Rattle.flow_graph.specs.Chords.{is_chord, points_of, range_at}
use Rattle.cert_laws.specs.Rules.{Box}
use Rattle.search_tree.specs.declared.places.Place.{Place}
use Rattle.search_tree.specs.Trees.{TreeValue, IsTree, SplitsChords, box_of, splits_of}

-- in the box some chord has more than one value
abbrev pub HasOpenChord : List TypeValue → Box → Type 0
HasOpenChord g box = (a : ℕ) × (is_chord g a ≡ true) × ((range_at box a).0 < (range_at box a).1)

-- a place that is not split, and whose box could be split on a chord
pub record IsOpenPlace (g : List TypeValue) (root : Box) (p : Place) : Type 0 where
  pub leaf : p.split ≡ None
  pub chord : HasOpenChord g (box_of root p)

-- where a tree of chord splits has a place that could be split, its splits and one more are fewer than the points of its root box
abbrev pub OpenTreesHavePoints : Type 0
OpenTreesHavePoints = (g : List TypeValue) (T : TreeValue) (index : ℕ) (p : Place) → length T.root ≡ length (numbered g) → All (λ r. r.0 ≤ r.1) T.root → IsTree T.root T.places → SplitsChords g T → slice_get T.places index ≡ Some p → IsOpenPlace g T.root p → splits_of T.places + 1 < points_of g T.root
