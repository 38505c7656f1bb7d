-- Where a need holds, no prices close the box.
use Rattle.std.proofs.Common.{◌≡◌, ℕ, ◌-◌, ◌*◌, ◌≤◌, List, length, get_or, ap, ◌∙◌, arith, Option, None, Some}
use Rattle.std.proofs.lemmas.List.{get_or-map, length-map}
use Rattle.packing_laws.specs.Instances.{InstanceValue, IsAmong}
use Rattle.flow_graph.specs.Arcs.{TypeValue, IsFlowGraph, numbered}
use Rattle.flow_model.specs.Flows.{flow_cost, up_to}
use Rattle.cert_text.specs.declared.lines.Claim.{Claim}
use Rattle.cert_text.specs.declared.lines.Claim.TheVariants.{Bound, Empty}
use Rattle.cert_text.specs.declared.lines.Need.{Need}
use Rattle.cert_text.specs.declared.lines.Prices.{Prices}
use Rattle.cert_text.specs.Lines.{ArePrices, IsNeed}
use Rattle.path_prices.specs.Worth.{worth_of}
use Rattle.cert_laws.specs.Needs.{IsNeeded, part_in, parts_of}
use Rattle.cert_laws.specs.Rules.{Box, demands_of}
use Rattle.cert_laws.specs.Shown.{Closes, NeedsBarPrices}
use Rattle.cert_laws.proofs.Certified.{laws}
use Rattle.cert_laws.proofs.NumbersUpTo.{length_up_to, up_to_read}
use Rattle.cert_laws.proofs.ClosedBoxes.{Beats, IsFraction, enough_beats, worth_below}

module _ (I : InstanceValue) (g : List TypeValue) (box : Box) (need : Need) where
  abbrev count : ℕ
  count = length (numbered g)

  part_read : (a : ℕ) → IsAmong a count → get_or (parts_of g need) (a - 1) 0 ≡ part_in need.parts a
  part_read a among =
      let long = length_up_to count in
      get_or-map (part_in need.parts) (up_to count) (a - 1) 0 0 (omega (arith, among.0, among.1, long)) ∙ ap (part_in need.parts) (up_to_read count a among)

  fraction : (goal : Option ℕ) → length box ≡ count → IsNeeded I g box goal need → IsFraction I g box need.scale (parts_of g need)
  fraction goal size needed = record {
    size = length-map (up_to count) (part_in need.parts) ∙ length_up_to count;
    ranges = size;
    conserved = needed.conserved;
    served = needed.served;
    low = λ a among. let read = part_read a among in let low = needed.low a among in omega (arith, read, low);
    high = λ a among. let read = part_read a among in let high = needed.high a among in omega (arith, read, high);
  }

  -- where prices close the box for a claim, the need costs more than is claimed
  beaten : (goal : Option ℕ) (claim : Claim) (p : Prices) → IsFlowGraph g → IsNeed need → ArePrices p → length box ≡ count → IsNeeded I g box goal need → Closes I g p box claim → Beats claim need.scale (flow_cost I g (parts_of g need))
  beaten goal claim p graph is are size needed closes =
      let below = worth_below I g box p need.scale (parts_of g need) are (fraction goal size needed) laws.potentials laws.balanced graph closes.gains in
      enough_beats claim p.scale (worth_of (demands_of I) box p) need.scale (flow_cost I g (parts_of g need)) is.scale.0 below closes.strong

bound_same : (x y : ℕ) → Bound x ≡ Bound y → x ≡ y
bound_same x y h = cc

not_empty : (x : ℕ) → Empty ≡ Bound x → ⊥
not_empty x h = cc

over_goal : (goal scale cost : ℕ) → 1 ≤ goal → cost ≤ scale * (goal - 1) → Beats (Bound goal) scale cost → ⊥
over_goal goal scale cost some less beats =
    let same = bound_same goal beats.least beats.claimed in
    let more = beats.more (goal - 1) (omega (arith, same, some)) in
    omega (arith, more, less)

pub needs_bar_prices : NeedsBarPrices
needs_bar_prices = record {
  goal = λ I g box goal need p instance graph of size is are needed closes.
      let cost = needed.cost in
      over_goal goal need.scale (flow_cost I g (parts_of g need)) cost.0 cost.1 (beaten I g box need (Some goal) (Bound goal) p graph is are size needed closes);
  empty = λ I g box need p instance graph of size is are needed closes.
      let beats = beaten I g box need None Empty p graph is are size needed closes in
      not_empty beats.least beats.claimed;
}
