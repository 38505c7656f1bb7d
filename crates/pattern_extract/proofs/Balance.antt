-- A run takes as much into each node as out of it.
use Rattle.std.proofs.Common.{◌≡◌, ℕ, ◌+◌, ◌-◌, ◌*◌, Bool, cond, ◌==◌, List, [], ◌∷◌, sym, ap, ◌∙◌, arith}
use Rattle.std.specs.Prelude.{◌&&◌}
use Rattle.std.proofs.lemmas.List.Sums.{sum_by-cons}
use Rattle.flow_graph.specs.declared.parts.TypeArc.{TypeArc}
use Rattle.flow_graph.specs.declared.parts.ArcKind.TheVariants.{Bin}
use Rattle.flow_graph.specs.Arcs.{TypeValue, flow_type, kind_of, numbered, first_arc}
use Rattle.flow_graph.specs.Faithful.{IsPath, AreNumbersOf}
use Rattle.flow_graph.proofs.Places.{has_numbers}
use Rattle.flow_graph.specs.Ends.{comes_in, goes_out}
use Rattle.pattern_extract.specs.declared.runs.PathRun.{PathRun}
use Rattle.pattern_extract.specs.Runs.{AreConserved, IsRun}
use Rattle.pattern_extract.specs.inner.Walks.{weight_along, circuit_of, IsTaken}
use Rattle.pattern_extract.proofs.Weights.{weigh_arcs-weigh}
use Rattle.flow_graph.proofs.ArcKinds.{comes_kind, goes_kind}
use Rattle.pattern_extract.proofs.Places.{place_weight, one_if, number_weight-at}
use Rattle.pattern_extract.proofs.Steps.{coming, going, coming-going}

abbrev pub into : List TypeValue → ℕ → ℕ → ℕ → ℕ
into g s v = place_weight (one_if (comes_in s v)) g

abbrev pub from : List TypeValue → ℕ → ℕ → ℕ → ℕ
from g s v = place_weight (one_if (goes_out g s v)) g

abbrev pub at : ℕ → ℕ → ℕ → ℕ → ℕ
at t s u v = cond ((t == s) && (u == v)) 1 0

pub path-balance : (g : List TypeValue) (t s v : ℕ) (ns : List ℕ) (path : List TypeArc) (a b : ℕ) → IsPath (flow_type g t).arcs a b path → AreNumbersOf g t ns path → weight_along (into g s v) ns + at t s a v ≡ weight_along (from g s v) ns + at t s b v
path-balance g t s v [] [] a b leads are = ap (λ (u : ℕ). 0 + at t s u v) leads
path-balance g t s v [] (e ∷ path) a b leads are = absurd are
path-balance g t s v (n ∷ ns) [] a b leads are = absurd are
path-balance g t s v (n ∷ ns) (e ∷ path) a b leads are =
    let rest : weight_along (into g s v) ns + at t s e.head v ≡ weight_along (from g s v) ns + at t s b v = path-balance g t s v ns path e.head b leads.2 are.1 in
    let head : into g s v (n - 1) ≡ at t s e.head v = number_weight-at (one_if (comes_in s v)) g n (kind_of t e) are.0 ∙ ap (λ (c : Bool). cond {A = ℕ} c 1 0) (comes_kind s v t e) in
    let tail : from g s v (n - 1) ≡ at t s a v = number_weight-at (one_if (goes_out g s v)) g n (kind_of t e) are.0 ∙ ap (λ (c : Bool). cond {A = ℕ} c 1 0) (goes_kind g s v t e) ∙ ap (λ (u : ℕ). at t s u v) leads.1 in
    let one = sum_by-cons (λ (m : ℕ). into g s v (m - 1)) n ns in
    let two = sum_by-cons (λ (m : ℕ). from g s v (m - 1)) n ns in
    omega (arith, rest, head, tail, one, two)

pub circuit-balance : (g : List TypeValue) (run : PathRun) (s v : ℕ) → IsRun g run → weight_along (into g s v) (circuit_of g run) ≡ weight_along (from g s v) (circuit_of g run)
circuit-balance g run s v is =
    let t : ℕ = run.t in
    let path = is.path in
    let inner : weight_along (into g s v) run.arcs + at t s 1 v ≡ weight_along (from g s v) run.arcs + at t s (flow_type g t).nodes v = path-balance g t s v run.arcs path.0 1 (flow_type g t).nodes path.1 path.2 in
    let bin = (has_numbers g t is.of_type).bin in
    let head : into g s v (first_arc g t - 1) ≡ at t s 1 v = number_weight-at (one_if (comes_in s v)) g (first_arc g t) (Bin t) bin in
    let tail : from g s v (first_arc g t - 1) ≡ at t s (flow_type g t).nodes v = number_weight-at (one_if (goes_out g s v)) g (first_arc g t) (Bin t) bin in
    let one = sum_by-cons (λ (m : ℕ). into g s v (m - 1)) (first_arc g t) run.arcs in
    let two = sum_by-cons (λ (m : ℕ). from g s v (m - 1)) (first_arc g t) run.arcs in
    omega (arith, inner, head, tail, one, two)

pub conserved-after : (g : List TypeValue) (old new : List ℕ) (run : PathRun) → AreConserved g old → IsRun g run → IsTaken old new run.times (circuit_of g run) → AreConserved g new
conserved-after g old new run conserved is taken s v type node =
    let before : coming g old s v ≡ going g old s v = coming-going g old s v (conserved s v type node) in
    let comes : coming g old s v ≡ coming g new s v + run.times * weight_along (into g s v) (circuit_of g run) = taken (into g s v) in
    let goes : going g old s v ≡ going g new s v + run.times * weight_along (from g s v) (circuit_of g run) = taken (from g s v) in
    let same : run.times * weight_along (into g s v) (circuit_of g run) ≡ run.times * weight_along (from g s v) (circuit_of g run) = ap (λ (n : ℕ). run.times * n) (circuit-balance g run s v is) in
    let after : coming g new s v ≡ going g new s v = omega (arith, before, comes, goes, same) in
    weigh_arcs-weigh (one_if (comes_in s v)) (numbered g) new ∙ after ∙ sym (weigh_arcs-weigh (one_if (goes_out g s v)) (numbered g) new)
