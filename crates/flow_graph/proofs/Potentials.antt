-- What the arcs rise, each times its value, is a sum over the nodes.
use Rattle.std.proofs.Common.{◌≡◌, ◌≢◌, ℕ, ◌≤◌, Bool, true, false, cond, ◌==◌, ◌&&◌, List, length, refl, sym, ap, ◌∙◌, arith, All}
use Rattle.std.specs.Prelude.{ℤ, pos, ◌-ℤ◌, ◌+ℤ◌, ◌*ℤ◌}
use Rattle.std.proofs.Math.IntN.{zero-*ℤ}
use Rattle.std.proofs.lemmas.Int.{ints}
use Rattle.std.proofs.lemmas.Bool.{and_from, eq-eqb, ne_eqb}
use Rattle.packing_laws.specs.Instances.{IsAmong}
use Rattle.flow_graph.specs.declared.parts.ArcKind.{ArcKind}
use Rattle.flow_graph.specs.Arcs.{TypeValue, IsFlowGraph, flow_type, numbered}
use Rattle.flow_graph.specs.Balance.{AreBalanced, IsBalanced, rise_of, signed_total, weigh_signed}
use Rattle.flow_graph.specs.Ends.{comes_in, goes_out}
use Rattle.flow_graph.proofs.SignedProducts.{one_mul}
use Rattle.flow_graph.proofs.SignedSums.{sum_z, sum_z-first, sum_z-none, sum_z-only, sum_z-same, weigh_less, weigh_nothing, weigh_same, weigh_scaled, weigh_sum}
use Rattle.flow_graph.proofs.Joins.{Joins, all_join}

-- something at each node of a graph, added up
abbrev over_nodes : List TypeValue → (ℕ → ℕ → ℤ) → ℤ
over_nodes g f = sum_z (λ t. sum_z (λ v. f t v) (flow_type g t).nodes) (length g)

pick : (s t w v : ℕ) (c : ℤ) → s ≡ t → w ≡ v → cond ((s == t) && (w == v)) c (pos 0) ≡ c
pick s t w v c types nodes = ap (λ (b : Bool). cond b c (pos 0)) (and_from (s == t) (w == v) (eq-eqb s t types) (eq-eqb w v nodes))

skip_type : (s t w v : ℕ) (c : ℤ) → s ≢ t → cond ((s == t) && (w == v)) c (pos 0) ≡ pos 0
skip_type s t w v c apart = ap (λ (b : Bool). cond (b && (w == v)) c (pos 0)) (ne_eqb s t apart)

pub and_no : (b c : Bool) → c ≡ false → (b && c) ≡ false
and_no true c none = none
and_no false c none = refl

skip_node : (s t w v : ℕ) (c : ℤ) → w ≢ v → cond ((s == t) && (w == v)) c (pos 0) ≡ pos 0
skip_node s t w v c apart = ap (λ (b : Bool). cond ((s == t) && b) c (pos 0)) (ne_eqb w v apart) ∙ ap (λ (b : Bool). cond b c (pos 0)) (and_no (s == t) false refl)

-- the one node that passes
one_node : (g : List TypeValue) (height : ℕ → ℕ → ℤ) (s w : ℕ) → IsAmong s (length g) → IsAmong w (flow_type g s).nodes → over_nodes g (λ t v. cond ((s == t) && (w == v)) (height t v) (pos 0)) ≡ height s w
one_node g height s w type node =
    let others : (t : ℕ) → t ≢ s → sum_z (λ v. cond ((s == t) && (w == v)) (height t v) (pos 0)) (flow_type g t).nodes ≡ pos 0 = λ t apart. sum_z-none (λ v. cond ((s == t) && (w == v)) (height t v) (pos 0)) (flow_type g t).nodes (λ v low high. skip_type s t w v (height t v) (λ e. apart (sym e))) in
    let own : sum_z (λ v. cond ((s == s) && (w == v)) (height s v) (pos 0)) (flow_type g s).nodes ≡ cond ((s == s) && (w == w)) (height s w) (pos 0) = sum_z-only (λ v. cond ((s == s) && (w == v)) (height s v) (pos 0)) w (flow_type g s).nodes node (λ v apart. skip_node s s w v (height s v) (λ e. apart (sym e))) in
    sum_z-only (λ t. sum_z (λ v. cond ((s == t) && (w == v)) (height t v) (pos 0)) (flow_type g t).nodes) s (length g) type others ∙ own ∙ pick s s w w (height s w) refl refl

-- the numbers of the nodes that pass a test with the arc
abbrev passed : List TypeValue → (ℕ → ℕ → ℤ) → (ℕ → ℕ → ArcKind → Bool) → ArcKind → ℤ
passed g height test kind = over_nodes g (λ t v. cond (test t v kind) (height t v) (pos 0))

passed_is : (g : List TypeValue) (height : ℕ → ℕ → ℤ) (test : ℕ → ℕ → ArcKind → Bool) (kind : ArcKind) (s w : ℕ) → IsAmong s (length g) → IsAmong w (flow_type g s).nodes → ((t v : ℕ) → test t v kind ≡ ((s == t) && (w == v))) → passed g height test kind ≡ height s w
passed_is g height test kind s w type node is = (λ k. over_nodes g (λ t v. cond (is t v k) (height t v) (pos 0))) ∙ one_node g height s w type node

rise_passed : (g : List TypeValue) (height : ℕ → ℕ → ℤ) (kind : ArcKind) → Joins g kind → rise_of g height kind ≡ passed g height comes_in kind -ℤ passed g height (goes_out g) kind
rise_passed g height kind joins =
    let rise = joins.rise height in
    let into = passed_is g height comes_in kind joins.t joins.head joins.of_type joins.to joins.comes in
    let from = passed_is g height (goes_out g) kind joins.t joins.tail joins.of_type joins.from joins.goes in
    omega (arith, ints, rise, into, from)

weigh_passed : (g : List TypeValue) (height : ℕ → ℕ → ℤ) (test : ℕ → ℕ → ArcKind → Bool) (values : List ℤ) → weigh_signed (passed g height test) (numbered g) values ≡ over_nodes g (λ t v. height t v *ℤ signed_total (test t v) g values)
weigh_passed g height test values =
    let n : ℕ = length g in
    let term : ℕ → ℕ → ArcKind → ℤ = λ t v kind. cond (test t v kind) (height t v) (pos 0) in
    let outer = weigh_sum (λ t kind. sum_z (λ v. term t v kind) (flow_type g t).nodes) n (numbered g) values in
    outer ∙ sum_z-same (λ t. weigh_signed (λ kind. sum_z (λ v. term t v kind) (flow_type g t).nodes) (numbered g) values) (λ t. sum_z (λ v. height t v *ℤ signed_total (test t v) g values) (flow_type g t).nodes) n (λ t low high.
    weigh_sum (term t) (flow_type g t).nodes (numbered g) values ∙ sum_z-same (λ v. weigh_signed (term t v) (numbered g) values) (λ v. height t v *ℤ signed_total (test t v) g values) (flow_type g t).nodes (λ v from to. weigh_scaled (test t v) (height t v) (numbered g) values))

-- the sum over the arcs is one over the nodes
pub rises_at_nodes : (g : List TypeValue) → IsFlowGraph g → (height : ℕ → ℕ → ℤ) (values : List ℤ) → weigh_signed (rise_of g height) (numbered g) values ≡ over_nodes g (λ t v. height t v *ℤ signed_total (comes_in t v) g values) -ℤ over_nodes g (λ t v. height t v *ℤ signed_total (goes_out g t v) g values)
rises_at_nodes g is height values =
    let each = weigh_same (Joins g) (rise_of g height) (λ kind. passed g height comes_in kind -ℤ passed g height (goes_out g) kind) (rise_passed g height) (numbered g) values (all_join g is) in
    let parts = weigh_less (passed g height comes_in) (passed g height (goes_out g)) (numbered g) values in
    let into = weigh_passed g height comes_in values in
    let from = weigh_passed g height (goes_out g) values in
    omega (arith, ints, each, parts, into, from)

pub potentials_cancel : (g : List TypeValue) → IsFlowGraph g → (values : List ℤ) → AreBalanced g values → (height : ℕ → ℕ → ℤ) → weigh_signed (rise_of g height) (numbered g) values ≡ pos 0
potentials_cancel g is values balanced height =
    let whole = rises_at_nodes g is height values in
    let same : over_nodes g (λ t v. height t v *ℤ signed_total (comes_in t v) g values) ≡ over_nodes g (λ t v. height t v *ℤ signed_total (goes_out g t v) g values) = sum_z-same (λ t. sum_z (λ v. height t v *ℤ signed_total (comes_in t v) g values) (flow_type g t).nodes) (λ t. sum_z (λ v. height t v *ℤ signed_total (goes_out g t v) g values) (flow_type g t).nodes) (length g) (λ t low high. sum_z-same (λ v. height t v *ℤ signed_total (comes_in t v) g values) (λ v. height t v *ℤ signed_total (goes_out g t v) g values) (flow_type g t).nodes (λ v from to. ap (λ z. height t v *ℤ z) (balanced t v (low, high) (from, to)))) in
    omega (arith, ints, whole, same)

-- 1 at the nodes of a type
abbrev of_type : ℕ → ℕ → ℕ → ℤ
of_type t s v = cond (s == t) (pos 1) (pos 0)

type_nodes : (g : List TypeValue) (t : ℕ) (f : ℕ → ℕ → ℤ) → IsAmong t (length g) → over_nodes g (λ s v. of_type t s v *ℤ f s v) ≡ sum_z (f t) (flow_type g t).nodes
type_nodes g t f among =
    let others : (s : ℕ) → s ≢ t → sum_z (λ v. of_type t s v *ℤ f s v) (flow_type g s).nodes ≡ pos 0 = λ s apart. sum_z-none (λ v. of_type t s v *ℤ f s v) (flow_type g s).nodes (λ v low high. ap (λ (b : Bool). cond b (pos 1) (pos 0) *ℤ f s v) (ne_eqb s t apart) ∙ zero-*ℤ (f s v)) in
    sum_z-only (λ s. sum_z (λ v. of_type t s v *ℤ f s v) (flow_type g s).nodes) t (length g) among others ∙ sum_z-same (λ v. of_type t t v *ℤ f t v) (f t) (flow_type g t).nodes (λ v low high. ap (λ (b : Bool). cond b (pos 1) (pos 0) *ℤ f t v) (eq-eqb t t refl) ∙ one_mul (f t v))

-- where all nodes of a type but its source are balanced, the source is
pub source_balanced : (g : List TypeValue) → IsFlowGraph g → (values : List ℤ) (t : ℕ) → IsAmong t (length g) → 1 ≤ (flow_type g t).nodes → ((v : ℕ) → 2 ≤ v → v ≤ (flow_type g t).nodes → IsBalanced g values t v) → IsBalanced g values t 1
source_balanced g is values t among low others =
    let into : ℕ → ℕ → ℤ = λ s v. signed_total (comes_in s v) g values in
    let from : ℕ → ℕ → ℤ = λ s v. signed_total (goes_out g s v) g values in
    let flat = weigh_same (Joins g) (rise_of g (of_type t)) (λ kind. pos 0) (λ kind joins. let rise = joins.rise (of_type t) in omega (arith, ints, rise)) (numbered g) values (all_join g is) in
    let none = weigh_nothing (numbered g) values in
    let whole = rises_at_nodes g is (of_type t) values in
    let one = type_nodes g t into among in
    let two = type_nodes g t from among in
    let first = sum_z-first (into t) (from t) (flow_type g t).nodes low others in
    omega (arith, ints, flat, none, whole, one, two, first)
