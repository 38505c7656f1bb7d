-- Boxes that are closed.
use Rattle.std.proofs.Common.{ℕ, ◌≤◌, List, Option, Some, None, inl, arith}
use Rattle.packing_laws.specs.Instances.{InstanceValue}
use Rattle.packing_laws.specs.Floors.{MaterialIsFloor, material_of}
use Rattle.packing_laws.specs.Printed.{bins_of}
use Rattle.flow_graph.specs.Arcs.{TypeValue}
use Rattle.cert_text.specs.declared.lines.Claim.{Claim}
use Rattle.cert_text.specs.declared.lines.Claim.TheVariants.{Bound, Empty}
use Rattle.cert_text.specs.declared.lines.Prices.{Prices}
use Rattle.cert_laws.specs.Rules.{Box}
use Rattle.cert_laws.specs.Shown.{Closes}
use Rattle.fixed_leaf.specs.Leaves.{AreTold}
use Rattle.search_states.specs.declared.known.Known.{Known}
use Rattle.search_states.specs.declared.notes.Note.{Note}
use Rattle.search_states.specs.States.{IsBest, IsBetter, IsFinding, IsKnown}

pub closed_empty : (I : InstanceValue) (g : List TypeValue) (box : Box) (best : Option Known) (p : Prices) (note : Note) → AreTold I g p → ((claim : Claim) → Closes I g p box claim) → IsBest I best → IsFinding I g box best (record { shown = record { prices = p; claim = Empty }; best = best; need = None; note = note })
closed_empty I g box best p note told closes is = record {
  valued = (record { prices = told.prices; items = told.items; arcs = told.arcs; claim = tt; closes = closes Empty }, tt);
  best = is;
  better = λ claim reaches. reaches;
  settled = inl tt;
  need = tt;
}

pub closed_bound : MaterialIsFloor → (I : InstanceValue) (g : List TypeValue) (box : Box) (old new : Option Known) (k : Known) (p : Prices) (cost : ℕ) (note : Note) → AreTold I g p → ((bound : ℕ) → bound ≤ cost → Closes I g p box (Bound bound)) → IsKnown I k → k.cost ≤ cost → IsBest I new → IsBetter old new → IsBetter (Some k) new → IsFinding I g box old (record { shown = record { prices = p; claim = Bound k.cost }; best = new; need = None; note = note })
closed_bound floor I g box old new k p cost note told closes known cheap is better other =
    let least : material_of I ≤ _ = floor I (bins_of k.packing) known.printed.packing.packing in
    let value = known.cost in
    record {
      valued = (record { prices = told.prices; items = told.items; arcs = told.arcs; claim = known.small; closes = closes k.cost cheap }, omega (arith, least, value));
      best = is;
      better = better;
      settled = inl (other (Bound k.cost) (omega arith));
      need = tt;
    }
