-- Signed whole numbers on arcs, what balances them at nodes, and the one way in which values on the chords extend to
-- all arcs.
use Rattle.std.specs.Prelude.{◌≡◌, ℕ, ◌-◌, Bool, true, if◌then◌else◌, ℤ, pos, ◌+ℤ◌, ◌-ℤ◌, ◌*ℤ◌, List, [], ◌∷◌, length, slice_index_or}
use Rattle.packing_laws.specs.Instances.{IsAmong}
use Rattle.flow_graph.specs.declared.parts.ArcKind.{ArcKind}
use Rattle.flow_graph.specs.declared.parts.ArcKind.TheVariants.{Bin, Loss, Piece}
use Rattle.flow_graph.specs.Arcs.{TypeValue, flow_type, numbered}
use Rattle.flow_graph.specs.Chords.{is_chord}
use Rattle.flow_graph.specs.Ends.{comes_in, goes_out}

-- the value of arc a
abbrev pub value_of : List ℤ → ℕ → ℤ
value_of values a = slice_index_or values (a - 1) (pos 0)

-- a signed number of each arc, times the value of the arc, added up
abbrev pub weigh_signed : (ArcKind → ℤ) → List ArcKind → List ℤ → ℤ
weigh_signed f [] values = pos 0
weigh_signed f (kind ∷ kinds) [] = pos 0
weigh_signed f (kind ∷ kinds) (x ∷ values) = (f kind *ℤ x) +ℤ weigh_signed f kinds values

-- the values of the arcs that pass a test, added up
abbrev pub signed_total : (ArcKind → Bool) → List TypeValue → List ℤ → ℤ
signed_total test g values = weigh_signed (λ kind. if test kind then pos 1 else pos 0) (numbered g) values

-- what comes into node v of type t goes out of it
abbrev pub IsBalanced : List TypeValue → List ℤ → ℕ → ℕ → Type 0
IsBalanced g values t v = signed_total (comes_in t v) g values ≡ signed_total (goes_out g t v) g values

-- what comes into each node goes out of it
abbrev pub AreBalanced : List TypeValue → List ℤ → Type 0
AreBalanced g values = (t v : ℕ) → IsAmong t (length g) → IsAmong v (flow_type g t).nodes → IsBalanced g values t v

-- the values are the same on each chord
abbrev pub AgreeOnChords : List TypeValue → List ℤ → List ℤ → Type 0
AgreeOnChords g xs ys = (a : ℕ) → is_chord g a ≡ true → value_of xs a ≡ value_of ys a

-- the values on the chords, extended to all arcs in balance; and there is no other such extension
pub record HasOneExtension (g : List TypeValue) (values : List ℤ) : Type 0 where
  pub whole : List ℤ
  pub size : length whole ≡ length (numbered g)
  pub chords : AgreeOnChords g whole values
  pub balanced : AreBalanced g whole
  pub only : (other : List ℤ) → length other ≡ length (numbered g) → AgreeOnChords g other values → AreBalanced g other → other ≡ whole

-- where each node has a number: the number of the node into which the arc goes, less that of the node out of which it goes
abbrev pub rise_of : List TypeValue → (ℕ → ℕ → ℤ) → ArcKind → ℤ
rise_of g height (Bin t) = height t 1 -ℤ height t (flow_type g t).nodes
rise_of g height (Loss t tail head) = height t head -ℤ height t tail
rise_of g height (Piece t tail head item form) = height t head -ℤ height t tail
