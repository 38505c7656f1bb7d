-- A flow that counts how often each arc is named: a sum over its arcs is one over the names.
use Rattle.std.proofs.Common.{◌≡◌, ℕ, zero, suc, ◌+◌, ◌*◌, ◌<◌, cond, ◌==◌, List, [], ◌∷◌, length, map, refl, sym, ap, ◌∙◌, ⊎_elim, arith, sum_by, Some}
use Rattle.std.specs.Prelude.{slice_get, count_by}
use Rattle.std.specs.List.{range_with_len}
use Rattle.std.proofs.lemmas.Bool.{cases_eq, eq-eqb, ne_eqb, cond-true, cond-false}
use Rattle.std.proofs.lemmas.List.Sums.{sum_by-cons}
use Rattle.flow_graph.specs.declared.parts.TypeArc.{TypeArc}
use Rattle.flow_graph.specs.declared.parts.ArcKind.{ArcKind}
use Rattle.flow_graph.specs.Arcs.{TypeValue, numbered, arc_at, kind_of}
use Rattle.flow_graph.specs.Faithful.{AreNumbersOf}
use Rattle.flow_graph.proofs.Places.{arc_at-suc}
use Rattle.flow_model.specs.Flows.{weigh_arcs}

-- what f says of the arc with number l, where the first arc has number n; 0 where there is no such arc
abbrev pub at : (ArcKind → ℕ) → List ArcKind → ℕ → ℕ → ℕ
at f [] n l = 0
at f (kind ∷ kinds) n l = cond (l == n) (f kind) 0 + at f kinds (n + 1) l

pub sum_by-add : {X : Type 0} (f h : X → ℕ) (xs : List X) → sum_by (λ x. f x + h x) xs ≡ sum_by f xs + sum_by h xs
sum_by-add f h [] = refl
sum_by-add f h (x ∷ xs) =
    let rest = sum_by-add f h xs in
    rw (sum_by-cons (λ y. f y + h y) x xs, sum_by-cons f x xs, sum_by-cons h x xs) (omega (arith, rest))

pub sum_by-zero : {X : Type 0} (f : X → ℕ) (xs : List X) → ((x : X) → f x ≡ 0) → sum_by f xs ≡ 0
sum_by-zero f [] none = refl
sum_by-zero f (x ∷ xs) none =
    let rest = sum_by-zero f xs none in
    let first = none x in
    rw sum_by-cons (omega (arith, rest, first))

-- a term that only one number has
pub counted : (k n : ℕ) (L : List ℕ) → sum_by (λ l. cond (l == n) k 0) L ≡ k * count_by (λ l. l == n) L
counted k n [] = omega arith
counted k n (l ∷ L) =
    let rest = counted k n L in
    let first : sum_by (λ l. cond (l == n) k 0) (l ∷ L) ≡ cond (l == n) k 0 + sum_by (λ l. cond (l == n) k 0) L = sum_by-cons (λ l. cond (l == n) k 0) l L in
    let second : count_by (λ l. l == n) (l ∷ L) ≡ cond (l == n) 1 0 + count_by (λ l. l == n) L = sum_by-cons (λ l. cond (l == n) 1 0) l L in
    ⊎_elim
    (λ same.
    let yes = eq-eqb l n same in
    let one : cond {A = ℕ} (l == n) 1 0 ≡ 1 = cond-true (l == n) 1 0 yes in
    let all : cond {A = ℕ} (l == n) k 0 ≡ k = cond-true (l == n) k 0 yes in
    let more : k * count_by (λ l. l == n) (l ∷ L) ≡ k * (1 + count_by (λ l. l == n) L) = ap (λ m. k * m) (second ∙ ap (λ (m : ℕ). m + count_by (λ l. l == n) L) one) in
    omega (arith, first, more, all, rest))
    (λ other.
    let no = ne_eqb l n other in
    let none : cond {A = ℕ} (l == n) 1 0 ≡ 0 = cond-false (l == n) 1 0 no in
    let nothing : cond {A = ℕ} (l == n) k 0 ≡ 0 = cond-false (l == n) k 0 no in
    let kept : count_by (λ l. l == n) (l ∷ L) ≡ count_by (λ l. l == n) L = omega (arith, second, none) in
    let more : k * count_by (λ l. l == n) (l ∷ L) ≡ k * count_by (λ l. l == n) L = ap (λ m. k * m) kept in
    omega (arith, first, more, nothing, rest))
    (cases_eq l n)

-- how often each of the numbers from n on is named
abbrev pub counts_from : List ℕ → ℕ → ℕ → List ℕ
counts_from L n m = map (λ a. count_by (λ l. l == a) L) (range_with_len n m)

pub weigh_counts : (f : ArcKind → ℕ) (L : List ℕ) (kinds : List ArcKind) (n : ℕ) → weigh_arcs f kinds (counts_from L n (length kinds)) ≡ sum_by (at f kinds n) L
weigh_counts f L [] n = sym (sum_by-zero (λ l. 0) L (λ l. refl))
weigh_counts f L (kind ∷ kinds) n =
    let rest = weigh_counts f L kinds (n + 1) in
    let one = counted (f kind) n L in
    let both = sum_by-add (λ l. cond (l == n) (f kind) 0) (at f kinds (n + 1)) L in
    omega (arith, rest, one, both)

pub at_before : (f : ArcKind → ℕ) (kinds : List ArcKind) (n l : ℕ) → l < n → at f kinds n l ≡ 0
at_before f [] n l before = refl
at_before f (kind ∷ kinds) n l before =
    let rest = at_before f kinds (n + 1) l (omega (arith, before)) in
    let none : cond {A = ℕ} (l == n) (f kind) 0 ≡ 0 = cond-false (l == n) (f kind) 0 (ne_eqb l n (λ e. omega (arith, e, before))) in
    omega (arith, rest, none)

pub at_place : (f : ArcKind → ℕ) (kinds : List ArcKind) (n j : ℕ) (kind : ArcKind) → slice_get kinds j ≡ Some kind → at f kinds n (n + j) ≡ f kind
at_place f [] n j kind h = cc
at_place f (k ∷ kinds) n zero kind h =
    let e : n + 0 ≡ n = omega arith in
    let same : k ≡ kind = cc in
    let here : cond {A = ℕ} (n == n) (f k) 0 ≡ f k = cond-true (n == n) (f k) 0 (eq-eqb n n refl) in
    let rest = at_before f kinds (n + 1) n (omega arith) in
    rw e (omega (arith, here, rest) ∙ ap f same)
at_place f (k ∷ kinds) n (suc j) kind h =
    let e : n + suc j ≡ n + 1 + j = omega arith in
    let none : cond {A = ℕ} (n + 1 + j == n) (f k) 0 ≡ 0 = cond-false (n + 1 + j == n) (f k) 0 (ne_eqb (n + 1 + j) n (λ e. omega (arith, e))) in
    let rest = at_place f kinds (n + 1) j kind h in
    rw e (omega (arith, none, rest))

-- at the number of an arc stands what f says of it
pub at_arc : (g : List TypeValue) (f : ArcKind → ℕ) (a : ℕ) (kind : ArcKind) → arc_at g a ≡ Some kind → at f (numbered g) 1 a ≡ f kind
at_arc g f zero kind h = cc
at_arc g f (suc i) kind h =
    let e : 1 + i ≡ suc i = omega arith in
    rw e at (at_place f (numbered g) 1 i kind (sym (arc_at-suc g i) ∙ h))

-- the numbers of a path, and its arcs
pub at_path : (g : List TypeValue) (f : ArcKind → ℕ) (t : ℕ) (numbers : List ℕ) (path : List TypeArc) → AreNumbersOf g t numbers path → sum_by (at f (numbered g) 1) numbers ≡ sum_by (λ e. f (kind_of t e)) path
at_path g f t [] [] are = refl
at_path g f t [] (e ∷ path) are = absurd are
at_path g f t (a ∷ numbers) [] are = absurd are
at_path g f t (a ∷ numbers) (e ∷ path) are =
    let first = at_arc g f a (kind_of t e) are.0 in
    let rest = at_path g f t numbers path are.1 in
    rw (sum_by-cons (at f (numbered g) 1) a numbers, sum_by-cons (λ (e : TypeArc). f (kind_of t e)) e path) (omega (arith, first, rest))
