-- The tables hold the sums of the arcs so far.
use Rattle.std.proofs.Common.{◌≡◌, ℕ, suc, ◌+◌, ◌-◌, ◌*◌, ◌^◌, ◌<◌, ◌≤◌, Bool, cond, ◌==◌, List, length, get_or, set, take, refl, ap, ◌∙◌, arith}
use Rattle.std.proofs.lemmas.Bool.{ne_eqb}
use Rattle.std.proofs.lemmas.List.{length-set}
use Rattle.packing_laws.specs.Instances.{InstanceValue}
use Rattle.flow_graph.specs.declared.parts.ArcKind.{ArcKind}
use Rattle.flow_graph.specs.declared.parts.ArcKind.TheVariants.{Bin, Loss, Piece}
use Rattle.flow_model.specs.Flows.{carries, weigh_arcs}
use Rattle.flow_model.proofs.NodePlaces.{weigh_agree}
use Rattle.flow_model.proofs.Solutions.{shift_test}
use Rattle.flow_model.proofs.TallySums.{raised_at, raised_le, weigh_more}
use Rattle.joint_arcs.specs.Joined.{JointValue, node_count, numbered}
use Rattle.joint_flows.specs.declared.sums.Side.TheVariants.{Heads, Tails, Items}
use Rattle.joint_flows.specs.inner.Sums.{AreSums, HasRoom, IsTable, SumsValue, item_of, place_of}

-- what stands in a table with more at one place, by numbers from 0
raised_here : (table : List ℕ) (p x j : ℕ) → p < length table → get_or (set table p (get_or table p 0 + x)) j 0 ≡ get_or table j 0 + cond (p == j) 1 0 * x
raised_here table p x j within =
    let e : p + 1 - 1 ≡ p = omega arith in
    let a : p + 1 ≡ 1 + p = omega arith in
    let b : j + 1 ≡ 1 + j = omega arith in
    let test : (p + 1 == j + 1) ≡ (p == j) = (λ k. a k == b k) ∙ shift_test 1 p j in
    rw (e, test) at (raised_at table (p + 1) x j (omega arith, omega (arith, within)))

raised_below : (table : List ℕ) (p x j : ℕ) → p < length table → get_or (set table p (get_or table p 0 + x)) j 0 ≤ get_or table j 0 + x
raised_below table p x j within =
    let e : p + 1 - 1 ≡ p = omega arith in
    rw e at (raised_le table (p + 1) x j (omega arith, omega (arith, within)))

pub table_more : (place : ArcKind → ℕ) (last : ℕ) (kinds : List ArcKind) (values : List ℕ) (i : ℕ) (d : ArcKind) (p x : ℕ) (old new : List ℕ) → i < length kinds → length values ≡ length kinds → p ≡ place (get_or kinds i d) → x ≡ get_or values i 0 → p ≤ last → new ≡ set old p (get_or old p 0 + x) → IsTable place last (take i kinds) (take i values) old → IsTable place last (take (i + 1) kinds) (take (i + 1) values) new
table_more place last kinds values i d p x old new within size at read high more is =
    let e : i + 1 ≡ suc i = omega arith in
    let wide = is.size in
    record {
      size = ap length more ∙ length-set old p (get_or old p 0 + x) ∙ is.size;
      each = λ j low.
          let own : get_or old j 0 ≡ weigh_arcs (λ kind. cond (place kind == j) 1 0) (take i kinds) (take i values) = is.each j low in
          let here : get_or new j 0 ≡ get_or old j 0 + cond (p == j) 1 0 * x = ap (λ (t : List ℕ). get_or t j 0) more ∙ raised_here old p x j (omega (arith, high, wide)) in
          let next = weigh_more (λ kind. cond (place kind == j) 1 0) kinds values i d within size in
          let term : cond {A = ℕ} (p == j) 1 0 * x ≡ cond (place (get_or kinds i d) == j) 1 0 * get_or values i 0 = λ k. cond {A = ℕ} (at k == j) 1 0 * read k in
          rw e (omega (arith, own, here, next, term));
    }

pub table_below : (i p x : ℕ) (old new : List ℕ) → p < length old → x < 2 ^ 64 → new ≡ set old p (get_or old p 0 + x) → ((j : ℕ) → get_or old j 0 ≤ i * 2 ^ 64) → (j : ℕ) → get_or new j 0 ≤ (i + 1) * 2 ^ 64
table_below i p x old new within small more below j =
    let up = raised_below old p x j within in
    let own = below j in
    rw more (omega (arith, up, own, small))

item_test : (i : ℕ) → 1 ≤ i → (kind : ArcKind) → cond {A = ℕ} (item_of kind == i) 1 0 ≡ cond (carries i kind) 1 0
item_test i low (Bin t) = ap (λ (b : Bool). cond {A = ℕ} b 1 0) (ne_eqb 0 i (λ e. omega (arith, e, low)))
item_test i low (Loss t tail head) = ap (λ (b : Bool). cond {A = ℕ} b 1 0) (ne_eqb 0 i (λ e. omega (arith, e, low)))
item_test i low (Piece t tail head item form) = refl

module _ (I : InstanceValue) (g : JointValue) (values inflow outflow items : List ℕ) (n m : ℕ) (nodes : n ≡ node_count g) (count : m ≡ length I.items) (into : IsTable (place_of Heads g) n (numbered g) values inflow) (out : IsTable (place_of Tails g) n (numbered g) values outflow) (of : IsTable (place_of Items g) m (numbered g) values items) where
  abbrev sums : SumsValue
  sums = record { inflow = inflow; outflow = outflow; items = items }

  pub has_room : HasRoom I g sums
  has_room =
      let one = into.size in
      let two = out.size in
      let three = of.size in
      record { inflow = omega (arith, one, nodes); outflow = omega (arith, two, nodes); items = omega (arith, three, count) }

  pub are_sums : AreSums I g values sums
  are_sums = record {
    inflow = λ v among. into.each v (omega (arith, nodes, among.1));
    outflow = λ v among. out.each v (omega (arith, nodes, among.1));
    items = λ i among. of.each i (omega (arith, count, among.1)) ∙ weigh_agree (λ kind. cond (item_of kind == i) 1 0) (λ kind. cond (carries i kind) 1 0) (numbered g) values (λ k d within. item_test i among.0 (get_or (numbered g) k d));
  }
