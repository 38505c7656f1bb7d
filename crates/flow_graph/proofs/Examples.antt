-- The worked types keep what a type keeps, and the graph of an instance without items is faithful to it.
use Rattle.std.proofs.Common.{◌≡◌, ℕ, zero, suc, ◌<◌, ◌≤◌, List, [], ◌∷◌, refl, subst, inl, inr, rules, arith, All}
use Rattle.std.specs.Prelude.{◌↔◌, AllPairs}
use Rattle.std.proofs.lemmas.List.Elements.{All-from_recursion}
use Rattle.packing_laws.specs.Packings.{Content, Exists, Fits, IsWithin}
use Rattle.packing_laws.specs.Printed.{SameContent}
use Rattle.flow_graph.specs.declared.parts.TypeArc.{TypeArc}
use Rattle.flow_graph.specs.Arcs.{TypeValue, IsFlowType, ArcBefore}
use Rattle.flow_graph.specs.Faithful.{IsTypePath, IsFaithful, content_of, unit_of}
use Rattle.flow_graph.specs.Worked.{one_of_two, nothing_fits, nothing_to_pack}

nothing_ordered : AllPairs ArcBefore []
nothing_ordered i j d before within = absurd (omega (arith, within))

two_nodes_ordered : AllPairs ArcBefore one_of_two.arcs
two_nodes_ordered zero zero d before within = absurd (omega (arith, before))
two_nodes_ordered zero (suc zero) d before within = inr (refl, inr (refl, inl (omega arith)))
two_nodes_ordered zero (suc (suc zero)) d before within = inr (refl, inr (refl, inl (omega arith)))
two_nodes_ordered zero (suc (suc (suc j))) d before within = absurd (omega (arith, within))
two_nodes_ordered (suc i) zero d before within = absurd (omega (arith, before))
two_nodes_ordered (suc i) (suc zero) d before within = absurd (omega (arith, before))
two_nodes_ordered (suc zero) (suc (suc zero)) d before within = inr (refl, inr (refl, inl (omega arith)))
two_nodes_ordered (suc (suc i)) (suc (suc zero)) d before within = absurd (omega (arith, before))
two_nodes_ordered (suc i) (suc (suc (suc j))) d before within = absurd (omega (arith, within))

pub two_nodes : IsFlowType one_of_two
two_nodes = record {
  source = omega arith;
  ordered = two_nodes_ordered;
  climbs = All-from_recursion (λ (e : TypeArc). (1 ≤ e.tail) × (e.tail < e.head) × (e.head ≤ 2)) one_of_two.arcs (search rules);
  marks = All-from_recursion (λ (e : TypeArc). (e.item ≡ 0) ↔ (e.form ≡ 0)) one_of_two.arcs (search rules);
  leaves = λ v low high. (record { tail = 1; head = 2; item = 0; form = 0 }, (0, omega arith, refl), omega arith);
  enters = λ v low high. (record { tail = 1; head = 2; item = 0; form = 0 }, (0, omega arith, refl), omega arith);
}

pub one_node : IsFlowType nothing_fits
one_node = record {
  source = omega arith;
  ordered = nothing_ordered;
  climbs = λ k d within. absurd (omega (arith, within));
  marks = λ k d within. absurd (omega (arith, within));
  leaves = λ v low high. absurd (omega arith);
  enters = λ v low high. absurd (omega arith);
}

nothing_named : All (λ (x : TypeValue). All (λ (e : TypeArc). 1 ≤ e.item → Exists nothing_to_pack (unit_of e)) x.arcs) (nothing_fits ∷ [])
nothing_named zero d within = λ k e none. absurd (omega (arith, none))
nothing_named (suc k) d within = absurd (omega (arith, within))

empty_fits : Fits nothing_to_pack 1 []
empty_fits = record {
  bin_type = (omega arith, omega arith);
  exists = λ k d within. absurd (omega (arith, within));
  weight = λ d among. omega arith;
  caps = λ k d within. absurd (omega (arith, within));
}

path_fits : (path : List TypeArc) → IsTypePath (nothing_fits ∷ []) 1 path → Fits nothing_to_pack 1 (content_of path)
path_fits [] leads = empty_fits
path_fits (e ∷ path) leads = let within = leads.0.1 in absurd (omega (arith, within))

content_covered : (c : Content) → Fits nothing_to_pack 1 c → IsWithin nothing_to_pack c → (path : List TypeArc) × IsTypePath (nothing_fits ∷ []) 1 path × SameContent (content_of path) c
content_covered [] fits within = ([], refl, λ i f. refl)
content_covered (n ∷ c) fits within = let exists = fits.exists zero n (omega arith) in let item = exists.item in absurd (omega (arith, item.0, item.1))

pub no_items : IsFaithful nothing_to_pack (nothing_fits ∷ [])
no_items = record {
  graph = record { types = refl; exists = nothing_named };
  fits = λ t among. let e : 1 ≡ t = omega (arith, among.0, among.1) in subst (λ (t : ℕ). (path : List TypeArc) → IsTypePath (nothing_fits ∷ []) t path → Fits nothing_to_pack t (content_of path)) e path_fits;
  covers = λ t among. let e : 1 ≡ t = omega (arith, among.0, among.1) in subst (λ (t : ℕ). (c : Content) → Fits nothing_to_pack t c → IsWithin nothing_to_pack c → (path : List TypeArc) × IsTypePath (nothing_fits ∷ []) t path × SameContent (content_of path) c) e content_covered;
}
