-- Each flow is a sum of runs that are used once.
use Rattle.std.proofs.Common.{◌≡◌, ◌≢◌, ℕ, zero, suc, inl, inr, ◌+◌, ◌-◌, ◌*◌, ◌<◌, ◌≤◌, List, [], ◌∷◌, ◌++◌, length, get_or, set, take_all, min, refl, ap, ◌∙◌, subst, ⊎_elim, arith, All}
use Rattle.std.specs.Prelude.{AllPairs, ◌⊎◌}
use Rattle.std.proofs.lemmas.Bool.{cases_lt, cases_eq}
use Rattle.std.proofs.lemmas.List.{length-set}
use Rattle.std.proofs.lemmas.List.Sums.{sum_by-cons}
use Rattle.std.proofs.lemmas.List.Elements.{All-nil, All-cons, All-weaker}
use Rattle.packing_laws.specs.Instances.{IsAmong}
use Rattle.flow_graph.specs.Arcs.{TypeValue, IsFlowGraph, flow_type, numbered, first_arc}
use Rattle.flow_model.proofs.BrokenRows.{each_more, none_among}
use Rattle.pattern_extract.specs.declared.runs.PathRun.{PathRun}
use Rattle.pattern_extract.specs.Runs.{AreConserved, IsRun}
use Rattle.pattern_extract.specs.inner.Walks.{weigh, weight_along, circuit_of, head_of, IsTaken, HoldAll}
use Rattle.pattern_extract.proofs.Weights.{weigh-none, weigh-part}
use Rattle.pattern_extract.proofs.Steps.{IsWalked, walk-start, walk-more, walk-run, walk-most, way-on, way-up}
use Rattle.pattern_extract.proofs.Balance.{conserved-after}
use Rattle.pattern_extract.proofs.Apart.{circuit-apart, circuit-within}
use Rattle.pattern_extract.proofs.Drained.{drained}
use Rattle.pattern_extract.proofs.Moves.{IsTakenSoFar, taken-none, taken-more}

-- the runs hold all units of the values, and each is used once
pub record AreUnitRuns (g : List TypeValue) (values : List ℕ) (runs : List PathRun) : Type 0 where
  pub hold : HoldAll g values runs
  pub once : All (λ run. run.times ≡ 1) runs

-- a walk goes on to the target
pub walk-on : (g : List TypeValue) (left : List ℕ) (t fuel node times : ℕ) (arcs : List ℕ) → IsFlowGraph g → length left ≡ length (numbered g) → AreConserved g left → IsAmong t (length g) → (flow_type g t).nodes ≤ node + fuel → IsWalked g left t node times arcs → (more : ℕ) × (all : List ℕ) × IsWalked g left t (flow_type g t).nodes more all
walk-on g left t zero node times arcs is size conserved among near walked =
    let high = walked.high in
    let same : node ≡ (flow_type g t).nodes = omega (arith, near, high) in
    (times, arcs, subst (λ (v : ℕ). IsWalked g left t v times arcs) same walked)
walk-on g left t (suc fuel) node times arcs is size conserved among near walked =
    ⊎_elim
    (λ same. (times, arcs, subst (λ (v : ℕ). IsWalked g left t v times arcs) same walked))
    (λ inner.
    let found = way-on g left t node size (conserved t node among (walked.low, walked.high)) inner walked.comes in
    let k : ℕ = found.0 in
    let way = found.1 in
    let up = way-up g left t node k way is in
    let least : ℕ = min times (get_or left k 0) in
    walk-on g left t fuel (head_of way.kind) least (arcs ++ (k + 1) ∷ []) is size conserved among (omega (arith, near, up.0)) (walk-more g left t node times k least arcs way is walked refl))
    (cases_eq node (flow_type g t).nodes)

-- a walk that is used once
pub walk-once : (g : List TypeValue) (left : List ℕ) (t node times : ℕ) (arcs : List ℕ) → IsWalked g left t node times arcs → IsWalked g left t node 1 arcs
walk-once g left t node times arcs walked =
    let once = walked.once in
    let bin = walked.bin in
    record {
      route = walked.route;
      low = walked.low;
      high = walked.high;
      once = omega arith;
      bin = omega (arith, once, bin);
      each = All-weaker (λ a. times ≤ get_or left (a - 1) 0) (λ a. 1 ≤ get_or left (a - 1) 0) (λ a most. omega (arith, once, most)) arcs walked.each;
      comes = walked.comes;
    }

-- a unit is taken off each of the first n of these arcs
pub taken-to : (old : List ℕ) (arcs : List ℕ) → AllPairs (λ b c. b ≢ c) arcs → All (λ b. (1 ≤ b) × (b ≤ length old) × (1 ≤ get_or old (b - 1) 0)) arcs → (n : ℕ) → n ≤ length arcs → (new : List ℕ) × (length new ≡ length old) × IsTakenSoFar old new 1 n arcs
taken-to old arcs apart there zero low = (old, refl, taken-none old 1 arcs)
taken-to old arcs apart there (suc n) low =
    let before = taken-to old arcs apart there n (omega (arith, low)) in
    let new : List ℕ = before.0 in
    let a : ℕ = get_or arcs n 0 in
    let next : List ℕ = set new (a - 1) (get_or new (a - 1) 0 - 1) in
    let more : IsTakenSoFar old next 1 (n + 1) arcs = taken-more old new 1 n a arcs before.2 before.1 (omega (arith, low)) refl apart there in
    let place : n + 1 ≡ suc n = omega arith in
    (next, length-set new (a - 1) (get_or new (a - 1) 0 - 1) ∙ before.1, subst (λ (k : ℕ). IsTakenSoFar old next 1 k arcs) place more)

-- a run that is used once, and what is left when it is taken off
pub record TakesUnit (g : List TypeValue) (left : List ℕ) : Type 0 where
  run : PathRun
  rest : List ℕ
  is : IsRun g run
  once : run.times ≡ 1
  size : length rest ≡ length left
  taken : IsTaken left rest run.times (circuit_of g run)

pub takes-unit : (g : List TypeValue) (left : List ℕ) (t : ℕ) → IsFlowGraph g → length left ≡ length (numbered g) → AreConserved g left → IsAmong t (length g) → 0 < get_or left (first_arc g t - 1) 0 → TakesUnit g left
takes-unit g left t is size conserved among some =
    let start = walk-start g left t is among some in
    let walk = walk-on g left t (flow_type g t).nodes 1 (get_or left (first_arc g t - 1) 0) [] is size conserved among (omega arith) start in
    let arcs : List ℕ = walk.1 in
    let once = walk-once g left t (flow_type g t).nodes walk.0 arcs walk.2 in
    let run : PathRun = record { t = t; times = 1; arcs = arcs } in
    let one : IsRun g run = walk-run g left t 1 arcs among once in
    let most = walk-most g left t (flow_type g t).nodes 1 arcs once in
    let circuit : List ℕ = circuit_of g run in
    let there : All (λ b. (1 ≤ b) × (b ≤ length left) × (1 ≤ get_or left (b - 1) 0)) circuit = λ k d within. let own = circuit-within g run is one k d within in (own.0, omega (arith, own.1, size), most k d within) in
    let taking = taken-to left circuit (circuit-apart g run is one) there (length circuit) (omega arith) in
    let rest : List ℕ = taking.0 in
    record {
      run = run;
      rest = rest;
      is = one;
      once = refl;
      size = taking.1;
      taken = subst (λ (arcs : List ℕ). IsTaken left rest 1 arcs) (take_all (length circuit) circuit (omega arith)) taking.2.taken;
    }

-- a type of which something is left on the bin arc, if there is one
pub some-bin : (g : List TypeValue) (left : List ℕ) (n : ℕ) → n ≤ length g → ((t : ℕ) × IsAmong t (length g) × (0 < get_or left (first_arc g t - 1) 0)) ⊎ ((t : ℕ) → IsAmong t n → get_or left (first_arc g t - 1) 0 ≡ 0)
some-bin g left zero low = inr (none_among (λ t. get_or left (first_arc g t - 1) 0 ≡ 0))
some-bin g left (suc n) low =
    ⊎_elim
    (λ found. inl found)
    (λ none. ⊎_elim
    (λ here. inl (n + 1, (omega arith, omega (arith, low)), here))
    (λ empty.
    let place : n + 1 ≡ suc n = omega arith in
    let all : (t : ℕ) → IsAmong t (n + 1) → get_or left (first_arc g t - 1) 0 ≡ 0 = each_more (λ t. get_or left (first_arc g t - 1) 0 ≡ 0) n none (omega (arith, empty)) in
    inr (subst (λ (k : ℕ). (t : ℕ) → IsAmong t k → get_or left (first_arc g t - 1) 0 ≡ 0) place all))
    (cases_lt 0 (get_or left (first_arc g (n + 1) - 1) 0)))
    (some-bin g left n (omega (arith, low)))

-- one more run
module _ (g : List TypeValue) (left rest : List ℕ) (run : PathRun) (runs : List PathRun) where
  unit-more : IsRun g run → run.times ≡ 1 → IsTaken left rest run.times (circuit_of g run) → AreUnitRuns g rest runs → AreUnitRuns g left (run ∷ runs)
  unit-more is once taken more = record {
    hold = record {
      each = All-cons (IsRun g) run runs is more.hold.each;
      sums = λ f.
          let one = taken f in
          let others = more.hold.sums f in
          let split = sum_by-cons (λ (r : PathRun). r.times * weight_along f (circuit_of g r)) run runs in
          omega (arith, one, others, split);
    };
    once = All-cons (λ r. r.times ≡ 1) run runs once more.once;
  }

  -- less is left
  unit-less : run.times ≡ 1 → IsTaken left rest run.times (circuit_of g run) → weigh (λ k. 1) rest < weigh (λ k. 1) left
  unit-less once taken =
      let all = taken (λ k. 1) in
      let split = sum_by-cons (λ (a : ℕ). 1) (first_arc g run.t) run.arcs in
      let single : run.times * weight_along (λ k. 1) (circuit_of g run) ≡ 1 * weight_along (λ k. 1) (circuit_of g run) = ap (λ (n : ℕ). n * weight_along (λ k. 1) (circuit_of g run)) once in
      omega (arith, all, split, single)

pub unit-none : (g : List TypeValue) (left : List ℕ) → IsFlowGraph g → length left ≡ length (numbered g) → AreConserved g left → ((t : ℕ) → IsAmong t (length g) → get_or left (first_arc g t - 1) 0 ≡ 0) → AreUnitRuns g left []
unit-none g left is size conserved bins = record {
  hold = record {
    each = All-nil (IsRun g);
    sums = λ f. let none = weigh-none f left (λ k some. drained g left is size conserved bins k) in none;
  };
  once = All-nil (λ run. run.times ≡ 1);
}

-- values that are conserved are a sum of runs
pub unit-runs : (g : List TypeValue) (left : List ℕ) (fuel : ℕ) → IsFlowGraph g → length left ≡ length (numbered g) → AreConserved g left → weigh (λ k. 1) left ≤ fuel → (runs : List PathRun) × AreUnitRuns g left runs
unit-runs g left zero is size conserved most =
    let bins : (t : ℕ) → IsAmong t (length g) → get_or left (first_arc g t - 1) 0 ≡ 0 = λ t among. let part = weigh-part (λ k. 1) left (first_arc g t - 1) in omega (arith, part, most) in
    ([], unit-none g left is size conserved bins)
unit-runs g left (suc fuel) is size conserved most =
    ⊎_elim
    (λ found.
    let unit = takes-unit g left found.0 is size conserved found.1 found.2 in
    let less = unit-less g left unit.rest unit.run [] unit.once unit.taken in
    let more = unit-runs g unit.rest fuel is (unit.size ∙ size) (conserved-after g left unit.rest unit.run conserved unit.is unit.taken) (omega (arith, less, most)) in
    (unit.run ∷ more.0, unit-more g left unit.rest unit.run more.0 unit.is unit.once unit.taken more.1))
    (λ none. ([], unit-none g left is size conserved none))
    (some-bin g left (length g) (omega arith))
