-- How many nodes there are: no more than arcs, the bin arcs among them.
use Rattle.std.proofs.Common.{◌≡◌, ℕ, zero, suc, ◌+◌, ◌-◌, ◌*◌, ◌≤◌, cond, ◌==◌, List, [], ◌∷◌, length, get_or, refl, ap, ◌∙◌, arith, All}
use Rattle.std.specs.Prelude.{Contains, sum_by}
use Rattle.std.proofs.lemmas.Bool.{eq-eqb, cond-true}
use Rattle.std.proofs.lemmas.List.Sums.{sum_by-cons, get_or-le-sum_by}
use Rattle.std.proofs.lemmas.List.Elements.{All-head, All-tail}
use Rattle.arc_num.specs.declared.TheConstants.{MAX_NUMBERED}
use Rattle.packing_laws.proofs.Sums.{sum_to, sum_to-add, sum_to-one, sum_to-le}
use Rattle.flow_graph.specs.declared.parts.TypeArc.{TypeArc}
use Rattle.flow_graph.specs.Arcs.{TypeValue, IsFlowType, IsFlowGraph}

-- how many of the arcs go out of node v
abbrev tails : List TypeArc → ℕ → ℕ
tails arcs v = sum_by (λ e. cond (e.tail == v) 1 0) arcs

tails_are_arcs : (arcs : List TypeArc) (m : ℕ) → sum_to (tails arcs) m ≤ length arcs
tails_are_arcs [] m = none m where
  none : (m : ℕ) → sum_to (λ v. 0) m ≤ 0
  none zero = omega arith
  none (suc m) = let rest = none m in omega (arith, rest)
tails_are_arcs (e ∷ arcs) m =
    let rest : sum_to (tails arcs) m ≤ length arcs = tails_are_arcs arcs m in
    let one : sum_to (λ v. cond (e.tail == v) 1 0 * 1) m ≤ 1 * 1 = sum_to-one e.tail 1 m (λ _. 1) in
    let both : sum_to (λ v. cond (e.tail == v) 1 0 * 1 + tails arcs v) m ≡ sum_to (λ v. cond (e.tail == v) 1 0 * 1) m + sum_to (tails arcs) m = sum_to-add (λ v. cond (e.tail == v) 1 0 * 1) (tails arcs) m in
    let parts : sum_to (tails (e ∷ arcs)) m ≤ sum_to (λ v. cond (e.tail == v) 1 0 * 1 + tails arcs v) m = sum_to-le (tails (e ∷ arcs)) (λ v. cond (e.tail == v) 1 0 * 1 + tails arcs v) m (λ v low high. let own = sum_by-cons (λ (f : TypeArc). cond (f.tail == v) 1 0) e arcs in omega (arith, own)) in
    omega (arith, rest, one, both, parts)

-- where an arc goes out of each of the first m nodes, there are as many arcs
nodes_need_arcs : (arcs : List TypeArc) (m : ℕ) → ((v : ℕ) → 1 ≤ v → v ≤ m → (e : TypeArc) × Contains arcs e × (e.tail ≡ v)) → m ≤ length arcs
nodes_need_arcs arcs m leaves =
    let all = tails_are_arcs arcs m in
    let each : sum_to (λ v. 1) m ≤ sum_to (tails arcs) m = sum_to-le (λ v. 1) (tails arcs) m (λ v low high.
    let one = leaves v low high in
    let e : TypeArc = one.0 in
    let has = one.1 in
    let there = get_or-le-sum_by (λ (f : TypeArc). cond (f.tail == v) 1 0) arcs has.0 e has.1 in
    let here : cond {A = ℕ} (e.tail == v) 1 0 ≡ 1 = cond-true (e.tail == v) 1 0 (eq-eqb e.tail v one.2) in
    let same : cond {A = ℕ} ((get_or arcs has.0 e).tail == v) 1 0 ≡ 1 = ap (λ (f : TypeArc). cond (f.tail == v) 1 0) has.2 ∙ here in
    omega (arith, there, same)) in
    omega (arith, ones m, each, all) where
      ones : (m : ℕ) → sum_to (λ v. 1) m ≡ m
      ones zero = refl
      ones (suc m) = let rest = ones m in omega (arith, rest)

type_nodes : (x : TypeValue) → IsFlowType x → x.nodes ≤ length x.arcs + 1
type_nodes x is =
    let few = nodes_need_arcs x.arcs (x.nodes - 1) (λ v low high. is.leaves v low (omega (arith, low, high))) in
    omega (arith, few)

nodes_bound : (g : List TypeValue) → All IsFlowType g → sum_by (λ x. x.nodes) g ≤ sum_by (λ x. length x.arcs) g + length g
nodes_bound [] each = omega arith
nodes_bound (x ∷ g) each =
    let first = type_nodes x (All-head IsFlowType x g each) in
    let rest = nodes_bound g (All-tail IsFlowType x g each) in
    rw (sum_by-cons (λ (y : TypeValue). y.nodes) x g, sum_by-cons (λ (y : TypeValue). length y.arcs) x g) (omega (arith, first, rest))

pub few_nodes : (g : List TypeValue) → IsFlowGraph g → sum_by (λ x. x.nodes) g ≤ MAX_NUMBERED
few_nodes g is = let few = nodes_bound g is.each in let room = is.room in let types = is.few in omega (arith, few, room, types)
