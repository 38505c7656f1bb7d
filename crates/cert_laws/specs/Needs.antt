-- Needs: flows in fractions that lie in a box, meet the demands and cost less than a goal, so that no prices close the box
-- for the goal.
use Rattle.std.specs.Prelude.{ℕ, ◌-◌, ◌*◌, ◌≤◌, ◌==◌, if◌then◌else◌, List, [], ◌∷◌, Option, Some, None, length, map}
use Rattle.packing_laws.specs.Instances.{InstanceValue, IsAmong, item_at}
use Rattle.flow_graph.specs.Arcs.{TypeValue, numbered}
use Rattle.flow_graph.specs.Chords.{range_at}
use Rattle.flow_model.specs.Flows.{AreConserved, carries, flow_cost, total_of, up_to}
use Rattle.cert_text.specs.declared.lines.ArcPart.{ArcPart}
use Rattle.cert_text.specs.declared.lines.Need.{Need}

-- what arc a carries in a list, 0 where it is not listed
abbrev pub part_in : List ArcPart → ℕ → ℕ
part_in [] a = 0
part_in (x ∷ xs) a = if x.arc == a then x.value else part_in xs a

-- what each arc carries, by number
abbrev pub parts_of : List TypeValue → Need → List ℕ
parts_of g need = map (part_in need.parts) (up_to (length (numbered g)))

-- so many parts of 1 / scale cost at most the goal less 1; without a goal they may cost anything
abbrev pub CostsBelow : Option ℕ → ℕ → ℕ → Type 0
CostsBelow None scale cost = Unit {0}
CostsBelow (Some goal) scale cost = (1 ≤ goal) × (cost ≤ scale * (goal - 1))

-- the need holds: in parts of 1 / scale the values lie in the box, are conserved, meet each demand, and cost less than the
-- goal
pub record IsNeeded (I : InstanceValue) (g : List TypeValue) (ranges : List (ℕ × ℕ)) (goal : Option ℕ) (need : Need) : Type 0 where
  pub low : (a : ℕ) → IsAmong a (length (numbered g)) → need.scale * (range_at ranges a).0 ≤ part_in need.parts a
  pub high : (a : ℕ) → IsAmong a (length (numbered g)) → part_in need.parts a ≤ need.scale * (range_at ranges a).1
  pub conserved : AreConserved g (parts_of g need)
  pub served : (i : ℕ) → IsAmong i (length I.items) → need.scale * (item_at I i).demand ≤ total_of (carries i) g (parts_of g need)
  pub cost : CostsBelow goal need.scale (flow_cost I g (parts_of g need))
