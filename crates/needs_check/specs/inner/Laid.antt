-- The parts of a need laid out in a table, by place from 0, and what is told of them.
use Rattle.std.specs.Prelude.{◌≡◌, ℕ, ◌+◌, ◌*◌, ◌<◌, ◌≤◌, if◌then◌else◌, List, length, slice_index}
use Rattle.packing_laws.specs.Instances.{InstanceValue, IsAmong, item_at}
use Rattle.flow_graph.specs.declared.parts.ArcKind.{ArcKind}
use Rattle.flow_graph.specs.declared.parts.ArcKind.TheVariants.{Bin, Loss, Piece}
use Rattle.flow_graph.specs.Arcs.{TypeValue}
use Rattle.flow_graph.specs.Chords.{range_at}
use Rattle.flow_model.specs.Flows.{carries, total_of, weigh_arcs}
use Rattle.cert_text.specs.declared.lines.ArcPart.{ArcPart}
use Rattle.cert_laws.specs.Needs.{part_in}

-- the table holds what these arcs carry
abbrev pub HoldsParts : List ArcPart → List ℕ → Type 0
HoldsParts parts table = (k : ℕ) → k < length table → slice_index table k ≡ part_in parts (k + 1)

-- the table holds nothing
abbrev pub IsClear : List ℕ → Type 0
IsClear table = (k : ℕ) → slice_index table k ≡ 0

-- the number is so often in the range
abbrev pub IsInScaled : ℕ → ℕ × ℕ → ℕ → Type 0
IsInScaled scale range x = (scale * range.0 ≤ x) × (x ≤ scale * range.1)

-- each value is so often in the range of its arc
abbrev pub LieInScaled : ℕ → List (ℕ × ℕ) → List ℕ → Type 0
LieInScaled scale ranges values = (k : ℕ) → k < length values → IsInScaled scale (range_at ranges (k + 1)) (slice_index values k)

-- the arcs of each item carry its demand, so often
abbrev pub AreServed : InstanceValue → List TypeValue → ℕ → List ℕ → Type 0
AreServed I g scale values = (i : ℕ) → IsAmong i (length I.items) → scale * (item_at I i).demand ≤ total_of (carries i) g values

-- what the arc carries is one of n items, if anything
abbrev pub CarriesAmong : ℕ → ArcKind → Type 0
CarriesAmong n (Bin t) = Unit {0}
CarriesAmong n (Loss t tail head) = Unit {0}
CarriesAmong n (Piece t tail head item form) = IsAmong item n

-- the table holds what these arcs carry of each item
abbrev pub HoldsCarried : List ArcKind → List ℕ → List ℕ → Type 0
HoldsCarried kinds values table = (j : ℕ) → j < length table → slice_index table j ≡ weigh_arcs (λ kind. if carries (j + 1) kind then 1 else 0) kinds values
