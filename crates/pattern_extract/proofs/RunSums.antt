-- What runs hold on each arc.
use Rattle.std.proofs.Common.{◌≡◌, ◌≢◌, ℕ, suc, ◌-◌, ◌*◌, ◌≤◌, Bool, true, false, cond, ◌==◌, List, [], ◌∷◌, refl, ap, ◌∙◌, ⊎_elim, arith, All}
use Rattle.std.specs.Prelude.{AllPairs}
use Rattle.std.specs.List.{list_any}
use Rattle.std.proofs.lemmas.Bool.{cases_eq, eq-eqb, ne_eqb}
use Rattle.std.proofs.lemmas.List.Sums.{sum_by-cons}
use Rattle.std.proofs.lemmas.List.Elements.{All-head, All-tail}
use Rattle.flow_graph.specs.Arcs.{TypeValue, IsFlowGraph}
use Rattle.pattern_extract.specs.declared.runs.PathRun.{PathRun}
use Rattle.pattern_extract.specs.Runs.{IsRun, goes_over, times_over, AreRunsOf}
use Rattle.pattern_extract.specs.inner.Walks.{weight_along, circuit_of, runs_weight, HoldAll}
use Rattle.pattern_extract.proofs.Weights.{weigh-one}
use Rattle.pattern_extract.proofs.Apart.{circuit-apart, circuit-within}

-- 1 for the place of arc a
abbrev pub only : ℕ → ℕ → ℕ
only a k = cond (k == a - 1) 1 0

pub pairs-tail : (x : ℕ) (xs : List ℕ) → AllPairs (λ n m. n ≢ m) (x ∷ xs) → AllPairs (λ n m. n ≢ m) xs
pairs-tail x xs apart i j d lt within = apart (suc i) (suc j) d (omega (arith, lt)) (omega (arith, within))

-- where an arc is not one of these
pub along-none : (a : ℕ) (ns : List ℕ) → 1 ≤ a → All (λ n. 1 ≤ n) ns → All (λ n. a ≢ n) ns → weight_along (only a) ns ≡ 0
along-none a [] low all other = refl
along-none a (n ∷ ns) low all other =
    let rest = along-none a ns low (All-tail (λ n. 1 ≤ n) n ns all) (All-tail (λ n. a ≢ n) n ns other) in
    let first : 1 ≤ n = All-head (λ n. 1 ≤ n) n ns all in
    let here : a ≢ n = All-head (λ n. a ≢ n) n ns other in
    let none : only a (n - 1) ≡ 0 = ap (λ (b : Bool). cond {A = ℕ} b 1 0) (ne_eqb (n - 1) (a - 1) (λ e. here (omega (arith, e, first, low)))) in
    let split = sum_by-cons (λ (m : ℕ). only a (m - 1)) n ns in
    omega (arith, rest, none, split)

-- an arc stands once among these, or not at all
pub along-once : (a : ℕ) (ns : List ℕ) → 1 ≤ a → All (λ n. 1 ≤ n) ns → AllPairs (λ n m. n ≢ m) ns → weight_along (only a) ns ≡ cond (list_any (λ n. n == a) ns) 1 0
along-once a [] low all apart = refl
along-once a (n ∷ ns) low all apart =
    let split = sum_by-cons (λ (m : ℕ). only a (m - 1)) n ns in
    let first : 1 ≤ n = All-head (λ n. 1 ≤ n) n ns all in
    let later = All-tail (λ n. 1 ≤ n) n ns all in
    ⊎_elim
    (λ same.
    let none = along-none a ns low later (λ k d within. λ e. apart 0 (suc k) d (omega arith) (omega (arith, within)) (same ∙ e)) in
    let one : only a (n - 1) ≡ 1 = ap (λ (b : Bool). cond {A = ℕ} b 1 0) (eq-eqb (n - 1) (a - 1) (ap (λ (m : ℕ). m - 1) same)) in
    rw (eq-eqb n a same) (omega (arith, split, none, one)))
    (λ other.
    let rest = along-once a ns low later (pairs-tail n ns apart) in
    let none : only a (n - 1) ≡ 0 = ap (λ (b : Bool). cond {A = ℕ} b 1 0) (ne_eqb (n - 1) (a - 1) (λ e. other (omega (arith, e, first, low)))) in
    rw (ne_eqb n a other) (omega (arith, split, rest, none)))
    (cases_eq n a)

pub scaled : (times : ℕ) (b : Bool) → times * cond b 1 0 ≡ cond b times 0
scaled times true = omega arith
scaled times false = omega arith

pub run-once : (g : List TypeValue) (a : ℕ) (run : PathRun) → IsFlowGraph g → 1 ≤ a → IsRun g run → run.times * weight_along (only a) (circuit_of g run) ≡ cond (goes_over g a run) run.times 0
run-once g a run is low one =
    ap (λ (n : ℕ). run.times * n) (along-once a (circuit_of g run) low (λ k d within. (circuit-within g run is one k d within).0) (circuit-apart g run is one)) ∙ scaled run.times (goes_over g a run)

pub runs-once : (g : List TypeValue) (a : ℕ) (runs : List PathRun) → IsFlowGraph g → 1 ≤ a → All (IsRun g) runs → runs_weight g (only a) runs ≡ times_over g runs a
runs-once g a [] is low all = refl
runs-once g a (run ∷ runs) is low all =
    let rest = runs-once g a runs is low (All-tail (IsRun g) run runs all) in
    let first = run-once g a run is low (All-head (IsRun g) run runs all) in
    let one = sum_by-cons (λ (r : PathRun). r.times * weight_along (only a) (circuit_of g r)) run runs in
    let two = sum_by-cons (λ (r : PathRun). cond (goes_over g a r) r.times 0) run runs in
    omega (arith, rest, first, one, two)

pub runs-of : (g : List TypeValue) (values : List ℕ) (runs : List PathRun) → IsFlowGraph g → HoldAll g values runs → AreRunsOf g values runs
runs-of g values runs is all = record {
  each = all.each;
  sums = λ a among.
      let held = all.sums (only a) in
      let value = weigh-one values (a - 1) in
      let times = runs-once g a runs is among.0 all.each in
      omega (arith, held, value, times);
}
