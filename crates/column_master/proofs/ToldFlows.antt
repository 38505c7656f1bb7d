-- Values that are conserved, as a flow in fractions; and a flow of nothing.
use Rattle.std.proofs.Common.{◌≡◌, ℕ, ◌≤◌, Bool, cond, List, [], ◌∷◌, length, map, refl, sym, ◌∙◌, subst, All, Option, arith}
use Rattle.std.specs.Prelude.{IsTrue}
use Rattle.arc_num.specs.declared.TheConstants.{MAX_NUMBERED, MAX_PRICE}
use Rattle.packing_laws.specs.Instances.{InstanceValue}
use Rattle.flow_graph.specs.declared.parts.ArcKind.{ArcKind}
use Rattle.flow_graph.specs.Arcs.{TypeValue, numbered}
use Rattle.flow_graph.specs.Ends.{comes_in, goes_out}
use Rattle.flow_model.specs.declared.flows.FlowRow.{FlowRow}
use Rattle.flow_model.specs.Flows.{AreConserved, FirstBadRow, total_of, up_to, weigh_arcs}
use Rattle.cert_text.specs.declared.lines.ArcPart.{ArcPart}
use Rattle.cert_text.specs.declared.lines.Need.{Need}
use Rattle.cert_text.specs.Lines.{IsBetween, IsNeed}
use Rattle.cert_laws.specs.Needs.{part_in}
use Rattle.needs_check.specs.inner.Laid.{HoldsParts}
use Rattle.needs_check.specs.inner.Rows.{names_no_node}
use Rattle.needs_check.proofs.LaidNeeds.{laid_parts}
use Rattle.needs_check.proofs.NodeRows.{conserved_where}
use Rattle.column_master.specs.NodePrices.{IsFlowOf}
use Rattle.column_master.specs.inner.Listings.{AreListed}
use Rattle.column_master.proofs.MoreListed.{nothing_listed}

weigh_nothing : (f : ArcKind → ℕ) (kinds : List ArcKind) (numbers : List ℕ) → weigh_arcs f kinds (map (part_in []) numbers) ≡ 0
weigh_nothing f [] numbers = refl
weigh_nothing f (kind ∷ kinds) [] = refl
weigh_nothing f (kind ∷ kinds) (n ∷ numbers) = let rest = weigh_nothing f kinds numbers in omega (arith, rest)

total_nothing : (test : ArcKind → Bool) (g : List TypeValue) → total_of test g (map (part_in []) (up_to (length (numbered g)))) ≡ 0
total_nothing test g = weigh_nothing (λ kind. cond {A = ℕ} (test kind) 1 0) (numbered g) (up_to (length (numbered g)))

listed_need : (n : ℕ) (need : Need) → IsBetween 1 MAX_PRICE need.scale → n ≤ MAX_NUMBERED → AreListed (λ (x : ArcPart). x.arc) (λ x. IsBetween 1 MAX_PRICE x.value) n need.parts → IsNeed need
listed_need n need scale few is = record {
  scale = scale;
  count = let own = is.few in omega (arith, own, few);
  order = is.order;
  parts = is.each;
}

-- nothing flows
pub nothing_flows : (g : List TypeValue) (parts : List ArcPart) → parts ≡ [] → IsFlowOf g (record { scale = 1; parts = parts })
nothing_flows g parts same = subst (λ (xs : List ArcPart). IsFlowOf g (record { scale = 1; parts = xs })) (sym same) (record {
  told = listed_need 0 (record { scale = 1; parts = [] }) (omega arith, omega arith) (omega arith) (nothing_listed (λ (x : ArcPart). x.arc) (λ x. IsBetween 1 MAX_PRICE x.value));
  arcs = λ k x within. absurd (omega (arith, within));
  conserved = λ t v among node. total_nothing (comes_in t v) g ∙ sym (total_nothing (goes_out g t v) g);
})

-- values as parts
pub values_flow : (g : List TypeValue) (need : Need) (values : List ℕ) → IsBetween 1 MAX_PRICE need.scale → length (numbered g) ≤ MAX_NUMBERED → length values ≡ length (numbered g) → AreConserved g values → AreListed (λ (x : ArcPart). x.arc) (λ x. IsBetween 1 MAX_PRICE x.value) (length values) need.parts → HoldsParts need.parts values → IsFlowOf g need
values_flow g need values scale few size conserved is holds = record {
  told = listed_need (length values) need scale (omega (arith, few, size)) is;
  arcs = subst (λ (n : ℕ). All (λ (x : ArcPart). x.arc ≤ n) need.parts) size is.among;
  conserved = subst (AreConserved g) (laid_parts g need values holds size) conserved;
}

-- where the first broken row is none of a node, all nodes are conserved
pub conserved_if : (I : InstanceValue) (g : List TypeValue) (values : List ℕ) (bad : Option FlowRow) (b : Bool) → b ≡ names_no_node bad → FirstBadRow I g values bad → IsTrue b → AreConserved g values
conserved_if I g values bad b same first = (conserved_where I g values bad b same first).0
