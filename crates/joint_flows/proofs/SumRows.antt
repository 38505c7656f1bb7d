-- The first row that does not hold, by the sums of the values.
use Rattle.std.proofs.Common.{◌≡◌, ℕ, ◌+◌, ◌<◌, ◌≤◌, List, length, map, get_or, refl, sym, ◌∙◌, arith, All, Some}
use Rattle.std.specs.Prelude.{◌↔◌}
use Rattle.packing_laws.specs.Instances.{InstanceValue, IsAmong, item_at}
use Rattle.flow_graph.specs.declared.parts.ArcKind.{ArcKind}
use Rattle.flow_model.specs.Boxes.{upper_of}
use Rattle.flow_model.specs.Flows.{up_to}
use Rattle.flow_model.proofs.BrokenRows.{each_more}
use Rattle.joint_arcs.specs.Joined.{JointValue, node_count, numbered}
use Rattle.joint_arcs.specs.Flows.{IsBounded, IsConserved, IsServed}
use Rattle.joint_flows.specs.declared.rows.JointRow.TheVariants.{Node, Demand, Bound}
use Rattle.joint_flows.specs.JointRows.{FirstBroken, Keeps}
use Rattle.joint_flows.specs.inner.Sums.{AreSums, SumsValue}
use Rattle.joint_flows.proofs.BrokenRows.{all_hold, bounded_at, next_broken}

-- as much comes into each of the first n nodes as goes out of it
abbrev pub AreEven : SumsValue → ℕ → Type 0
AreEven sums n = (k : ℕ) → IsAmong k n → get_or sums.inflow k 0 ≡ get_or sums.outflow k 0

pub even_more : (sums : SumsValue) (n : ℕ) → AreEven sums n → get_or sums.inflow (n + 1) 0 ≡ get_or sums.outflow (n + 1) 0 → AreEven sums (n + 1)
even_more sums n even here = each_more (λ k. get_or sums.inflow k 0 ≡ get_or sums.outflow k 0) n even here

-- of each of the first n items as much is carried as is asked for
abbrev pub AreMet : InstanceValue → SumsValue → ℕ → Type 0
AreMet I sums n = (k : ℕ) → IsAmong k n → (item_at I k).demand ≤ get_or sums.items k 0

pub met_more : (I : InstanceValue) (sums : SumsValue) (n : ℕ) → AreMet I sums n → (item_at I (n + 1)).demand ≤ get_or sums.items (n + 1) 0 → AreMet I sums (n + 1)
met_more I sums n met here = each_more (λ k. (item_at I k).demand ≤ get_or sums.items k 0) n met here

module _ (g : JointValue) (sums : SumsValue) (I : InstanceValue) (values : List ℕ) (are : AreSums I g values sums) where
  conserved_at : (v : ℕ) → IsAmong v (node_count g) → (get_or sums.inflow v 0 ≡ get_or sums.outflow v 0) ↔ IsConserved g values v
  conserved_at v among = (λ even. sym (are.inflow v among) ∙ even ∙ are.outflow v among, λ own. are.inflow v among ∙ own ∙ sym (are.outflow v among))

  pub first_uneven : (i : ℕ) → i < node_count g → AreEven sums i → (get_or sums.inflow (i + 1) 0 ≡ get_or sums.outflow (i + 1) 0 → ⊥) → FirstBroken (Keeps I g values) (map (λ v. Node v) (up_to (node_count g))) (Some (Node (i + 1)))
  first_uneven i within even apart =
      next_broken (Keeps I g values) (λ v. Node v) (node_count g) i within
      (λ k among. (conserved_at k (among.0, omega (arith, among.1, within))).0 (even k among))
      (λ kept. apart ((conserved_at (i + 1) (omega arith, omega (arith, within))).1 kept))

  pub all_even : (n : ℕ) → node_count g ≤ n → AreEven sums n → All (Keeps I g values) (map (λ v. Node v) (up_to (node_count g)))
  all_even n whole even = all_hold (Keeps I g values) (λ v. Node v) (node_count g) (λ k among. (conserved_at k among).0 (even k (among.0, omega (arith, among.1, whole))))

  served_at : (i : ℕ) → IsAmong i (length I.items) → ((item_at I i).demand ≤ get_or sums.items i 0) ↔ IsServed I g values i
  served_at i among = let sum = are.items i among in (λ low. omega (arith, low, sum), λ own. omega (arith, own, sum))

  pub first_unmet : (i : ℕ) → i < length I.items → AreMet I sums i → get_or sums.items (i + 1) 0 < (item_at I (i + 1)).demand → FirstBroken (Keeps I g values) (map (λ i. Demand i) (up_to (length I.items))) (Some (Demand (i + 1)))
  first_unmet i within met short =
      next_broken (Keeps I g values) (λ i. Demand i) (length I.items) i within
      (λ k among. (served_at k (among.0, omega (arith, among.1, within))).0 (met k among))
      (λ kept. let own = (served_at (i + 1) (omega arith, omega (arith, within))).1 kept in omega (arith, own, short))

  pub all_met : (n : ℕ) → length I.items ≤ n → AreMet I sums n → All (Keeps I g values) (map (λ i. Demand i) (up_to (length I.items)))
  all_met n whole met = all_hold (Keeps I g values) (λ i. Demand i) (length I.items) (λ k among. (served_at k among).0 (met k (among.0, omega (arith, among.1, whole))))

module _ (I : InstanceValue) (g : JointValue) (values : List ℕ) where
  -- the values of the first n arcs are in their ranges
  abbrev pub AreBounded : ℕ → Type 0
  AreBounded n = (k : ℕ) → IsAmong k n → IsBounded I g values k

  pub bounded_more : (n : ℕ) (d : ArcKind) (most : ℕ) → n < length (numbered g) → most ≡ upper_of I (get_or (numbered g) n d) → get_or values n 0 ≤ most → AreBounded n → AreBounded (n + 1)
  bounded_more n d most within upper below bounded =
      each_more (IsBounded I g values) n bounded ((bounded_at I g values n d within (get_or values n 0) most refl upper).0 below)

  pub first_unbounded : (i : ℕ) (d : ArcKind) (most : ℕ) → i < length (numbered g) → most ≡ upper_of I (get_or (numbered g) i d) → most < get_or values i 0 → AreBounded i → FirstBroken (Keeps I g values) (map (λ a. Bound a) (up_to (length (numbered g)))) (Some (Bound (i + 1)))
  first_unbounded i d most within upper above bounded =
      next_broken (Keeps I g values) (λ a. Bound a) (length (numbered g)) i within bounded
      (λ kept. let own = (bounded_at I g values i d within (get_or values i 0) most refl upper).1 kept in omega (arith, own, above))

  pub all_bounded : (n : ℕ) → length (numbered g) ≤ n → AreBounded n → All (Keeps I g values) (map (λ a. Bound a) (up_to (length (numbered g))))
  all_bounded n whole bounded = all_hold (Keeps I g values) (λ a. Bound a) (length (numbered g)) (λ k among. bounded k (among.0, omega (arith, among.1, whole)))
