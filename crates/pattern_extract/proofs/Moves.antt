-- Units that are moved off the arcs into runs.
use Rattle.std.proofs.Common.{◌≡◌, ◌≢◌, ℕ, suc, ◌+◌, ◌-◌, ◌*◌, ◌<◌, ◌≤◌, Bool, cond, ◌==◌, List, [], ◌∷◌, ◌++◌, length, get_or, set, take, true, false, zero, refl, sym, ap, ◌∙◌, subst, ⊎_elim, arith, All}
use Rattle.std.proofs.lemmas.Bool.{cases_lt, eq-eqb, eqb-true}
use Rattle.std.proofs.lemmas.Bool.Decides.{nat_tests}
use Rattle.std.specs.Prelude.{AllPairs, ◌||◌, if◌then◌else◌}
use Rattle.std.specs.List.{list_any}
use Rattle.std.proofs.lemmas.List.{get_or-set_other, length-set, get_or_default, length_push}
use Rattle.std.proofs.lemmas.List.Sums.{sum_by-cons, sum_by_more, sum_by_push}
use Rattle.std.proofs.lemmas.List.Elements.{All-push}
use Rattle.packing_laws.specs.Instances.{IsAmong}
use Rattle.flow_graph.specs.Arcs.{TypeValue, IsFlowGraph, numbered, first_arc}
use Rattle.pattern_extract.specs.declared.runs.PathRun.{PathRun}
use Rattle.pattern_extract.specs.Runs.{AreConserved, IsRun}
use Rattle.pattern_extract.specs.inner.Walks.{weigh, weight_along, circuit_of, runs_weight, IsTaken, IsUsedUp, arcs_left, AreMoved, HoldAll}
use Rattle.pattern_extract.proofs.Weights.{weigh-set, weigh-one, weigh-none}
use Rattle.pattern_extract.proofs.Balance.{conserved-after}
use Rattle.pattern_extract.proofs.Apart.{circuit-apart, circuit-within, number-within}
use Rattle.flow_graph.specs.declared.parts.ArcKind.TheVariants.{Bin}
use Rattle.flow_graph.proofs.Places.{has_numbers}
use Rattle.std.proofs.Math.Nat.{mul-le-mul_left}
use Rattle.pattern_extract.proofs.Drained.{drained}

-- so many units are taken off the first of the arcs
pub record IsTakenSoFar (old new : List ℕ) (times n : ℕ) (arcs : List ℕ) : Type 0 where
  pub taken : IsTaken old new times (take n arcs)
  pub rest : (j d : ℕ) → n ≤ j → j < length arcs → get_or new (get_or arcs j d - 1) 0 ≡ get_or old (get_or arcs j d - 1) 0

pub taken-none : (old : List ℕ) (times : ℕ) (arcs : List ℕ) → IsTakenSoFar old old times 0 arcs
taken-none old times arcs = record { taken = λ f. omega arith; rest = λ j d low within. refl }

pub scaled : (times s w : ℕ) → times * (s + w) ≡ times * s + times * w
scaled times s w = omega arith

-- one more arc; what is on it is at least as much
module _ (old new : List ℕ) (times n a : ℕ) (arcs : List ℕ) where
  pub most-left : IsTakenSoFar old new times n arcs → n < length arcs → a ≡ get_or arcs n 0 → All (λ b. (1 ≤ b) × (b ≤ length old) × (times ≤ get_or old (b - 1) 0)) arcs → times ≤ get_or new (a - 1) 0
  most-left sofar within is there =
      let own = there n 0 within in
      let kept : get_or new (get_or arcs n 0 - 1) 0 ≡ get_or old (get_or arcs n 0 - 1) 0 = sofar.rest n 0 (omega arith) within in
      subst (λ (b : ℕ). times ≤ get_or new (b - 1) 0) (sym is) (omega (arith, own.2, kept))

  pub taken-more : IsTakenSoFar old new times n arcs → length new ≡ length old → n < length arcs → a ≡ get_or arcs n 0 → AllPairs (λ b c. b ≢ c) arcs → All (λ b. (1 ≤ b) × (b ≤ length old) × (times ≤ get_or old (b - 1) 0)) arcs → IsTakenSoFar old (set new (a - 1) (get_or new (a - 1) 0 - times)) times (n + 1) arcs
  taken-more sofar size within is apart there =
      let own = subst (λ (b : ℕ). (1 ≤ b) × (b ≤ length old) × (times ≤ get_or old (b - 1) 0)) (sym is) (there n 0 within) in
      let most = most-left sofar within is there in
      let inside : a - 1 < length new = omega (arith, own.0, own.1, size) in
      record {
        taken = λ f.
            let before : weigh f old ≡ weigh f new + times * weight_along f (take n arcs) = sofar.taken f in
            let step : weigh f new ≡ weigh f (set new (a - 1) (get_or new (a - 1) 0 - times)) + times * f (a - 1) = weigh-set f new (a - 1) times inside most in
            let more : weight_along f (take (n + 1) arcs) ≡ weight_along f (take n arcs) + f (get_or arcs n 0 - 1) = sum_by_more (λ b. f (b - 1)) arcs n 0 within in
            let here : f (get_or arcs n 0 - 1) ≡ f (a - 1) = ap (λ (b : ℕ). f (b - 1)) (sym is) in
            let whole : times * weight_along f (take (n + 1) arcs) ≡ times * weight_along f (take n arcs) + times * f (a - 1) = ap (λ (w : ℕ). times * w) (more ∙ ap (λ (w : ℕ). weight_along f (take n arcs) + w) here) ∙ scaled times (weight_along f (take n arcs)) (f (a - 1)) in
            omega (arith, before, step, whole);
        rest = λ j d low high.
            let b : ℕ = get_or arcs j d in
            let one = there j d high in
            let differ : get_or arcs n d ≢ b = apart n j d (omega (arith, low)) high in
            let same : get_or arcs n d ≡ a = get_or_default arcs n d 0 within ∙ sym is in
            let other : b - 1 ≢ a - 1 = λ e. differ (same ∙ omega (arith, e, one.0, own.0)) in
            get_or-set_other new (a - 1) (b - 1) (get_or new (a - 1) 0 - times) 0 other ∙ sofar.rest j d (omega (arith, low)) high;
      }

-- two takings, one after the other
pub taken-both : (old mid new : List ℕ) (times a : ℕ) (arcs : List ℕ) → a - 1 < length old → times ≤ get_or old (a - 1) 0 → mid ≡ set old (a - 1) (get_or old (a - 1) 0 - times) → IsTaken mid new times arcs → IsTaken old new times (a ∷ arcs)
taken-both old mid new times a arcs within most is taken f =
    let one : weigh f old ≡ weigh f mid + times * f (a - 1) = rw is (weigh-set f old (a - 1) times within most) in
    let two : weigh f mid ≡ weigh f new + times * weight_along f arcs = taken f in
    let split : times * weight_along f (a ∷ arcs) ≡ times * f (a - 1) + times * weight_along f arcs = ap (λ (w : ℕ). times * w) (sum_by-cons (λ b. f (b - 1)) a arcs) ∙ scaled times (f (a - 1)) (weight_along f arcs) in
    omega (arith, one, two, split)

-- the arcs of the path, once so many units are taken off the bin arc
module _ (g : List TypeValue) (run : PathRun) (old : List ℕ) (b : ℕ) (is : IsFlowGraph g) (one : IsRun g run) (size : length old ≡ length (numbered g)) (most : All (λ a. run.times ≤ get_or old (a - 1) 0) (circuit_of g run)) (bin : b ≡ first_arc g run.t - 1) where
  pub bin-within : b < length old
  bin-within =
      let among = circuit-within g run is one 0 0 (omega arith) in
      omega (arith, among.0, among.1, size, bin)

  pub bin-most : run.times ≤ get_or old b 0
  bin-most = subst (λ (i : ℕ). run.times ≤ get_or old i 0) (sym bin) (most 0 0 (omega arith))

  pub path-apart : AllPairs (λ n m. n ≢ m) run.arcs
  path-apart i j d lt within = circuit-apart g run is one (suc i) (suc j) d (omega (arith, lt)) (omega (arith, within))

  pub path-there : All (λ a. (1 ≤ a) × (a ≤ length (set old b (get_or old b 0 - run.times))) × (run.times ≤ get_or (set old b (get_or old b 0 - run.times)) (a - 1) 0)) run.arcs
  path-there k d within =
      let a : ℕ = get_or run.arcs k d in
      let among : IsAmong a (length (numbered g)) = circuit-within g run is one (suc k) d (omega (arith, within)) in
      let own : run.times ≤ get_or old (a - 1) 0 = most (suc k) d (omega (arith, within)) in
      let first = circuit-within g run is one 0 d (omega arith) in
      let apart : first_arc g run.t ≢ a = circuit-apart g run is one 0 (suc k) d (omega arith) (omega (arith, within)) in
      let other : a - 1 ≢ b = λ e. apart (omega (arith, e, bin, among.0)) in
      let kept : get_or (set old b (get_or old b 0 - run.times)) (a - 1) 0 ≡ get_or old (a - 1) 0 = get_or-set_other old b (a - 1) (get_or old b 0 - run.times) 0 other in
      let long : length (set old b (get_or old b 0 - run.times)) ≡ length old = length-set old b (get_or old b 0 - run.times) in
      (among.0, omega (arith, among.1, size, long), omega (arith, own, kept))

-- what is taken off is no longer there
pub taken-falls : (old new : List ℕ) (times : ℕ) (arcs : List ℕ) → IsTaken old new times arcs → (k : ℕ) → get_or new k 0 ≤ get_or old k 0
taken-falls old new times arcs taken k =
    let all = taken (λ j. cond (j == k) 1 0) in
    let before = weigh-one old k in
    let after = weigh-one new k in
    omega (arith, all, before, after)

-- an arc of these weighs at least once
pub along-some : (a : ℕ) (ns : List ℕ) → list_any (λ n. n == a) ns ≡ true → 1 ≤ weight_along (λ k. cond (k == a - 1) 1 0) ns
along-some a [] h = absurd (cc)
along-some a (n ∷ ns) h = by (n == a) refl h (along-some a ns)
  where
    split : weight_along (λ k. cond (k == a - 1) 1 0) (n ∷ ns) ≡ cond {A = ℕ} (n - 1 == a - 1) 1 0 + weight_along (λ k. cond (k == a - 1) 1 0) ns
    split = sum_by-cons (λ (m : ℕ). cond {A = ℕ} (m - 1 == a - 1) 1 0) n ns

    by : (b : Bool) → (n == a) ≡ b → (b || list_any (λ n. n == a) ns) ≡ true → (list_any (λ n. n == a) ns ≡ true → 1 ≤ weight_along (λ k. cond (k == a - 1) 1 0) ns) → 1 ≤ weight_along (λ k. cond (k == a - 1) 1 0) (n ∷ ns)
    by true e h next =
        let same : n ≡ a = eqb-true n a e in
        let one : cond {A = ℕ} (n - 1 == a - 1) 1 0 ≡ 1 = ap (λ (c : Bool). cond {A = ℕ} c 1 0) (eq-eqb (n - 1) (a - 1) (ap (λ (m : ℕ). m - 1) same)) in
        let s = split in
        omega (arith, s, one)
    by false e h next = let rest = next h in let s = split in omega (arith, s, rest)

-- where nothing is left any more of what was there
pub some-less : (x y : ℕ) → y ≤ x → (if y == 0 then 0 else 1) ≤ (if x == 0 then 0 else 1)
some-less x y le = grind (arith, nat_tests)

pub gone : (x y : ℕ) → 0 < x → y ≡ 0 → (if y == 0 then 0 else 1) + 1 ≤ (if x == 0 then 0 else 1)
gone x y some none = grind (arith, nat_tests)

pub none-left : (new : List ℕ) → ((k : ℕ) → get_or new k 0 ≤ 0) → arcs_left new ≡ 0
none-left [] falls = refl
none-left (y ∷ new) falls =
    let first = falls 0 in
    let none : (if y == 0 then 0 else 1) ≤ 0 = some-less 0 y first in
    let rest = none-left new (λ k. falls (suc k)) in
    omega (arith, none, rest)

pub no-more : (old new : List ℕ) → ((k : ℕ) → get_or new k 0 ≤ get_or old k 0) → arcs_left new ≤ arcs_left old
no-more old [] falls = omega arith
no-more [] (y ∷ new) falls = let none = none-left (y ∷ new) falls in omega (arith, none)
no-more (x ∷ old) (y ∷ new) falls =
    let first = some-less x y (falls 0) in
    let rest = no-more old new (λ k. falls (suc k)) in
    omega (arith, first, rest)

pub fewer : (old new : List ℕ) (k : ℕ) → ((k : ℕ) → get_or new k 0 ≤ get_or old k 0) → 0 < get_or old k 0 → get_or new k 0 ≡ 0 → arcs_left new + 1 ≤ arcs_left old
fewer [] new k falls some none = absurd (omega (arith, some))
fewer (x ∷ old) [] zero falls some none = let one = gone x 0 some refl in omega (arith, one)
fewer (x ∷ old) [] (suc k) falls some none = let rest = fewer old [] k (λ j. omega arith) some refl in omega (arith, rest)
fewer (x ∷ old) (y ∷ new) zero falls some none =
    let one = gone x y some none in
    let rest = no-more old new (λ k. falls (suc k)) in
    omega (arith, one, rest)
fewer (x ∷ old) (y ∷ new) (suc k) falls some none =
    let one = some-less x y (falls 0) in
    let rest = fewer old new k (λ j. falls (suc j)) some none in
    omega (arith, one, rest)

-- what is taken off an arc that has no more
pub fewer-taken : (old new : List ℕ) (times : ℕ) (arcs : List ℕ) → 1 ≤ times → IsUsedUp old times arcs → IsTaken old new times arcs → arcs_left new + 1 ≤ arcs_left old
fewer-taken old new times arcs once used taken =
    let b : ℕ = used.arc - 1 in
    let all = taken (λ k. cond (k == b) 1 0) in
    let before = weigh-one old b in
    let after = weigh-one new b in
    let some = along-some used.arc arcs used.among in
    let more : times * 1 ≤ times * weight_along (λ k. cond (k == b) 1 0) arcs = mul-le-mul_left times some in
    let whole : get_or old b 0 ≡ times = used.all in
    fewer old new b (taken-falls old new times arcs taken) (omega (arith, whole, once)) (omega (arith, all, before, after, more, whole))

pub moved-none : (g : List TypeValue) (left : List ℕ) (runs : List PathRun) → All (IsRun g) runs → AreConserved g left → AreMoved g left runs left runs
moved-none g left runs each conserved = record { each = each; conserved = conserved; falls = λ k. omega arith; few = omega arith; sums = λ f. refl }

pub moved-run : (g : List TypeValue) (left rest next : List ℕ) (runs more : List PathRun) (run : PathRun) → AreMoved g left runs rest more → IsRun g run → IsUsedUp rest run.times (circuit_of g run) → IsTaken rest next run.times (circuit_of g run) → AreMoved g left runs next (more ++ run ∷ [])
moved-run g left rest next runs more run moved is used taken = record {
  each = All-push (IsRun g) more run moved.each is;
  conserved = conserved-after g rest next run moved.conserved is taken;
  falls = λ k. let one = moved.falls k in let two = taken-falls rest next run.times (circuit_of g run) taken k in omega (arith, one, two);
  few =
      let before = moved.few in
      let less = fewer-taken rest next run.times (circuit_of g run) is.times used taken in
      let size : length (more ++ run ∷ []) ≡ length more + 1 = length_push more run in
      omega (arith, before, less, size);
  sums = λ f.
      let before = moved.sums f in
      let step = taken f in
      let pushed = sum_by_push (λ (r : PathRun). r.times * weight_along f (circuit_of g r)) more run in
      omega (arith, before, step, pushed);
}

pub moved-further : (g : List TypeValue) (left mid rest : List ℕ) (runs some more : List PathRun) → AreMoved g left runs mid some → AreMoved g mid some rest more → AreMoved g left runs rest more
moved-further g left mid rest runs some more one two = record {
  each = two.each;
  conserved = two.conserved;
  falls = λ k. let a = one.falls k in let b = two.falls k in omega (arith, a, b);
  few = let a = one.few in let b = two.few in omega (arith, a, b);
  sums = λ f. one.sums f ∙ two.sums f;
}

-- where nothing is left on the bin arcs, the runs hold all
pub moved-all : (g : List TypeValue) (values rest : List ℕ) (runs : List PathRun) → IsFlowGraph g → length rest ≡ length (numbered g) → AreMoved g values [] rest runs → ((t : ℕ) → IsAmong t (length g) → get_or rest (first_arc g t - 1) 0 ≡ 0) → HoldAll g values runs
moved-all g values rest runs is size moved bins = record {
  each = moved.each;
  sums = λ f.
      let sums = moved.sums f in
      let none : weigh f rest ≡ 0 = weigh-none f rest (λ k some. drained g rest is size moved.conserved bins k) in
      let start : runs_weight g f [] ≡ 0 = refl in
      omega (arith, sums, none, start);
}

-- the types so far have nothing left on their bin arcs
pub bins-more : (g : List TypeValue) (left rest : List ℕ) (t : ℕ) → ((s : ℕ) → IsAmong s (length g) → s < t → get_or left (first_arc g s - 1) 0 ≡ 0) → ((k : ℕ) → get_or rest k 0 ≤ get_or left k 0) → get_or rest (first_arc g t - 1) 0 ≡ 0 → (s : ℕ) → IsAmong s (length g) → s < t + 1 → get_or rest (first_arc g s - 1) 0 ≡ 0
bins-more g left rest t before falls here s among low =
    ⊎_elim
    (λ lt. let none = before s among lt in let fall = falls (first_arc g s - 1) in omega (arith, none, fall))
    (λ ge. let same : t ≡ s = omega (arith, ge, low) in subst (λ (u : ℕ). get_or rest (first_arc g u - 1) 0 ≡ 0) same here)
    (cases_lt s t)

-- a run takes something off the bin arc of its type
pub taken-less : (g : List TypeValue) (old new : List ℕ) (run : PathRun) → IsRun g run → IsTaken old new run.times (circuit_of g run) → get_or new (first_arc g run.t - 1) 0 < get_or old (first_arc g run.t - 1) 0
taken-less g old new run is taken =
    let b : ℕ = first_arc g run.t - 1 in
    let f : ℕ → ℕ = λ k. cond (k == b) 1 0 in
    let all : weigh f old ≡ weigh f new + run.times * weight_along f (circuit_of g run) = taken f in
    let before = weigh-one old b in
    let after = weigh-one new b in
    let here : f b ≡ 1 = ap (λ (c : Bool). cond {A = ℕ} c 1 0) (eq-eqb b b refl) in
    let some : 1 ≤ weight_along f (circuit_of g run) = let split = sum_by-cons (λ (a : ℕ). f (a - 1)) (first_arc g run.t) run.arcs in omega (arith, split, here) in
    let once = is.times in
    let more : run.times * 1 ≤ run.times * weight_along f (circuit_of g run) = mul-le-mul_left run.times some in
    omega (arith, all, before, after, once, more)

pub bin-inside : (g : List TypeValue) (t : ℕ) → IsAmong t (length g) → IsAmong (first_arc g t) (length (numbered g))
bin-inside g t among = number-within g (first_arc g t) (Bin t) (has_numbers g t among).bin

-- the arcs of a path are among all arcs
pub path-within : (g : List TypeValue) (run : PathRun) → IsFlowGraph g → IsRun g run → All (λ a. IsAmong a (length (numbered g))) run.arcs
path-within g run is one k d within = circuit-within g run is one (suc k) d (omega (arith, within))

pub left-most : (left : List ℕ) → arcs_left left ≤ length left
left-most [] = omega arith
left-most (x ∷ left) =
    let first : (if x == 0 then 0 else 1) ≤ 1 = grind (arith, nat_tests) in
    let rest = left-most left in
    omega (arith, first, rest)

-- there are no more runs than arcs
pub few-runs : (g : List TypeValue) (values rest : List ℕ) (runs : List PathRun) → AreMoved g values [] rest runs → length runs ≤ length values
few-runs g values rest runs moved = let few = moved.few in let most = left-most values in omega (arith, few, most)
