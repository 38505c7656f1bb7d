-- The sums of a flow in a tally, arc by arc.
use Rattle.std.specs.Prelude.{◌≡◌, ℕ, ◌+◌, ◌-◌, ◌<◌, ◌≤◌, ◌==◌, if◌then◌else◌, List, length, slice_index, slice_set}
use Rattle.arc_num.specs.declared.TheConstants.{MAX_ITEMS}
use Rattle.packing_laws.specs.Instances.{InstanceValue, IsAmong}
use Rattle.flow_graph.specs.declared.parts.ArcKind.{ArcKind}
use Rattle.flow_graph.specs.declared.parts.ArcKind.TheVariants.{Bin, Loss, Piece}
use Rattle.flow_graph.specs.Arcs.{TypeValue, flow_type}
use Rattle.flow_graph.specs.Ends.{comes_in, goes_out}
use Rattle.flow_model.specs.Flows.{weigh_arcs, carries, total_of}
use Rattle.flow_model.specs.Models.{node_place}
use Rattle.flow_model.specs.Tallies.{TallyValue}

-- the new tally has room for what the old one has room for
pub record HasShapeOf (old new : TallyValue) : Type 0 where
  pub starts : new.starts ≡ old.starts
  pub inflow : length new.inflow ≡ length old.inflow
  pub outflow : length new.outflow ≡ length old.outflow
  pub items : length new.items ≡ length old.items

-- the place of the node that an arc goes out of, where the nodes of each type start like this
abbrev pub tail_in : List ℕ → ArcKind → ℕ
tail_in starts (Bin t) = slice_index starts t
tail_in starts (Loss t tail head) = slice_index starts (t - 1) + tail
tail_in starts (Piece t tail head item form) = slice_index starts (t - 1) + tail

-- the place of the node that an arc comes into
abbrev pub head_in : List ℕ → ArcKind → ℕ
head_in starts (Bin t) = slice_index starts (t - 1) + 1
head_in starts (Loss t tail head) = slice_index starts (t - 1) + head
head_in starts (Piece t tail head item form) = slice_index starts (t - 1) + head

-- the number of a type, in starts
abbrev pub IsTypeIn : List ℕ → ArcKind → Type 0
IsTypeIn starts (Bin t) = (1 ≤ t) × (t < length starts)
IsTypeIn starts (Loss t tail head) = (1 ≤ t) × (t < length starts)
IsTypeIn starts (Piece t tail head item form) = (1 ≤ t) × (t < length starts) × IsAmong item MAX_ITEMS

-- the two nodes of the arc are among n
pub record IsPlaced (n : ℕ) (starts : List ℕ) (kind : ArcKind) : Type 0 where
  pub of_type : IsTypeIn starts kind
  pub tail : IsAmong (tail_in starts kind) n
  pub head : IsAmong (head_in starts kind) n

-- a table with more at one place, by numbers from 1
abbrev pub raised : List ℕ → ℕ → ℕ → List ℕ
raised sums place x = slice_set sums (place - 1) (slice_index sums (place - 1) + x)

-- the table of the items with what an arc carries
abbrev pub raised_by : List ℕ → ArcKind → ℕ → List ℕ
raised_by items (Bin t) x = items
raised_by items (Loss t tail head) x = items
raised_by items (Piece t tail head item form) x = raised items item x

-- a tally with one more arc
pub record IsRaised (old new : TallyValue) (kind : ArcKind) (x : ℕ) : Type 0 where
  pub starts : new.starts ≡ old.starts
  pub inflow : new.inflow ≡ raised old.inflow (head_in old.starts kind) x
  pub outflow : new.outflow ≡ raised old.outflow (tail_in old.starts kind) x
  pub items : new.items ≡ raised_by old.items kind x

-- no sum is above the bound
pub record AreBelow (bound : ℕ) (tally : TallyValue) : Type 0 where
  pub inflow : (j : ℕ) → slice_index tally.inflow j ≤ bound
  pub outflow : (j : ℕ) → slice_index tally.outflow j ≤ bound
  pub items : (j : ℕ) → slice_index tally.items j ≤ bound

-- the tally holds the sums of these arcs
pub record Holds (kinds : List ArcKind) (values : List ℕ) (tally : TallyValue) : Type 0 where
  pub inflow : (j : ℕ) → j < length tally.inflow → slice_index tally.inflow j ≡ weigh_arcs (λ kind. if head_in tally.starts kind == j + 1 then 1 else 0) kinds values
  pub outflow : (j : ℕ) → j < length tally.outflow → slice_index tally.outflow j ≡ weigh_arcs (λ kind. if tail_in tally.starts kind == j + 1 then 1 else 0) kinds values
  pub items : (j : ℕ) → j < length tally.items → slice_index tally.items j ≡ weigh_arcs (λ kind. if carries (j + 1) kind then 1 else 0) kinds values

-- the tally holds the sums of a flow
pub record IsFilled (I : InstanceValue) (g : List TypeValue) (values : List ℕ) (tally : TallyValue) : Type 0 where
  pub inflow : (t v : ℕ) → IsAmong t (length g) → IsAmong v (flow_type g t).nodes → slice_index tally.inflow (node_place g t v - 1) ≡ total_of (comes_in t v) g values
  pub outflow : (t v : ℕ) → IsAmong t (length g) → IsAmong v (flow_type g t).nodes → slice_index tally.outflow (node_place g t v - 1) ≡ total_of (goes_out g t v) g values
  pub items : (i : ℕ) → IsAmong i (length I.items) → slice_index tally.items (i - 1) ≡ total_of (carries i) g values
