-- What the values of arcs cost, arc by arc.
use Rattle.std.proofs.Common.{◌≡◌, ℕ, suc, ◌+◌, ◌*◌, ◌^◌, ◌<◌, ◌≤◌, List, length, get_or, take, sym, ◌∙◌, arith}
use Rattle.std.proofs.Math.Nat.{mul-le-mul}
use Rattle.packing_laws.specs.Instances.{InstanceValue}
use Rattle.flow_graph.specs.declared.parts.ArcKind.{ArcKind}
use Rattle.flow_model.specs.Flows.{arc_cost, weigh_arcs}
use Rattle.flow_model.proofs.TallySums.{weigh_more}

product_small : (unit x : ℕ) → unit < 2 ^ 32 → x < 2 ^ 64 → unit * x ≤ 2 ^ 96
product_small unit x low small =
    let most : unit * x ≤ 2 ^ 32 * 2 ^ 64 = mul-le-mul {n₁ = unit} {m₁ = x} {n₂ = 2 ^ 32} {m₂ = 2 ^ 64} (omega (arith, low)) (omega (arith, small)) in
    omega (arith, most)

pub small_more : (cost i unit x : ℕ) → unit < 2 ^ 32 → x < 2 ^ 64 → cost ≤ i * 2 ^ 96 → cost + unit * x ≤ (i + 1) * 2 ^ 96
small_more cost i unit x low small own = let most = product_small unit x low small in omega (arith, most, own)

pub cost_more : (I : InstanceValue) (kinds : List ArcKind) (values : List ℕ) (i cost unit x : ℕ) (d : ArcKind) → i < length kinds → length values ≡ length kinds → unit ≡ arc_cost I (get_or kinds i d) → x ≡ get_or values i 0 → cost ≡ weigh_arcs (arc_cost I) (take i kinds) (take i values) → cost + unit * x ≡ weigh_arcs (arc_cost I) (take (suc i) kinds) (take (suc i) values)
cost_more I kinds values i cost unit x d within size one value own = (λ k. own k + one k * value k) ∙ sym (weigh_more (arc_cost I) kinds values i d within size)
