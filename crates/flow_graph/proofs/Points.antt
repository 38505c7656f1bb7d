-- How many points a box has, and what a split does to them.
use Rattle.std.proofs.Common.{◌≡◌, ◌≢◌, ℕ, zero, suc, ◌+◌, ◌-◌, ◌*◌, ◌≤◌, ◌<◌, Bool, true, false, cond, List, length, get_or, set, refl, sym, ap, ◌∙◌, ⊎_elim, arith, All}
use Rattle.std.proofs.Math.Nat.{add-mul, mul-le-mul_right, mul_comm}
use Rattle.std.proofs.lemmas.Bool.{cases_eq, cases_Bool}
use Rattle.std.proofs.lemmas.List.{get_or-set_same, get_or-set_other}
use Rattle.packing_laws.specs.Instances.{IsAmong}
use Rattle.flow_graph.specs.Arcs.{TypeValue, numbered}
use Rattle.flow_graph.specs.Chords.{IsGenuine, count_in, high_part, is_chord, low_part, points_of, product_to, range_at}
use Rattle.flow_graph.specs.Laws.{PointsOfBox, PointsOfParts}
use Rattle.flow_graph.proofs.Chords.{chord_within}

product_same : (f h : ℕ → ℕ) (n : ℕ) → ((i : ℕ) → 1 ≤ i → i ≤ n → f i ≡ h i) → product_to f n ≡ product_to h n
product_same f h zero same = refl
product_same f h (suc n) same =
    let rest = product_same f h n (λ i low high. same i low (omega (arith, high))) in
    let last = same (suc n) (omega arith) (omega arith) in
    λ k. rest k * last k

product_some : (f : ℕ → ℕ) (n : ℕ) → ((i : ℕ) → 1 ≤ i → i ≤ n → 1 ≤ f i) → 1 ≤ product_to f n
product_some f zero each = omega arith
product_some f (suc n) each =
    let rest = product_some f n (λ i low high. each i low (omega (arith, high))) in
    let last = each (suc n) (omega arith) (omega arith) in
    let more : 1 * f (suc n) ≤ product_to f n * f (suc n) = mul-le-mul_right (f (suc n)) rest in
    omega (arith, last, more)

product_ones : (f : ℕ → ℕ) (n : ℕ) → ((i : ℕ) → 1 ≤ i → i ≤ n → f i ≡ 1) → product_to f n ≡ 1
product_ones f zero each = refl
product_ones f (suc n) each =
    let rest = product_ones f n (λ i low high. each i low (omega (arith, high))) in
    let last = each (suc n) (omega arith) (omega arith) in
    λ k. rest k * last k

-- where the product is 1, so is each factor
product_one : (f : ℕ → ℕ) (n : ℕ) → ((i : ℕ) → 1 ≤ i → i ≤ n → 1 ≤ f i) → product_to f n ≡ 1 → (i : ℕ) → 1 ≤ i → i ≤ n → f i ≡ 1
product_one f zero each one i low high = absurd (omega (arith, low, high))
product_one f (suc n) each one i low high =
    let front : 1 ≤ product_to f n = product_some f n (λ i low high. each i low (omega (arith, high))) in
    let last : 1 ≤ f (suc n) = each (suc n) (omega arith) (omega arith) in
    let more : 1 * f (suc n) ≤ product_to f n * f (suc n) = mul-le-mul_right (f (suc n)) front in
    let most : 1 * product_to f n ≤ f (suc n) * product_to f n = mul-le-mul_right (product_to f n) last in
    let turned : f (suc n) * product_to f n ≡ product_to f n * f (suc n) = mul_comm (f (suc n)) (product_to f n) in
    ⊎_elim
    (λ same. ap f same ∙ omega (arith, last, more, one))
    (λ other. product_one f n (λ i low high. each i low (omega (arith, high))) (omega (arith, front, most, turned, one)) i low (omega (arith, high, other)))
    (cases_eq i (suc n))

-- products that differ in one factor, which is a sum
product_split : (f h e : ℕ → ℕ) (p n : ℕ) → IsAmong p n → ((i : ℕ) → 1 ≤ i → i ≢ p → f i ≡ e i) → ((i : ℕ) → 1 ≤ i → i ≢ p → h i ≡ e i) → f p + h p ≡ e p → product_to f n + product_to h n ≡ product_to e n
product_split f h e p zero among left right sum = absurd (omega (arith, among.0, among.1))
product_split f h e p (suc n) among left right sum = ⊎_elim
    (λ same.
    let one : product_to f n ≡ product_to e n = product_same f e n (λ i low high. left i low (λ k. omega (arith, k, same, high))) in
    let two : product_to h n ≡ product_to e n = product_same h e n (λ i low high. right i low (λ k. omega (arith, k, same, high))) in
    let both : f (suc n) + h (suc n) ≡ e (suc n) = ap (λ i. f i + h i) (sym same) ∙ sum ∙ ap e same in
    let parts : (f (suc n) + h (suc n)) * product_to e n ≡ f (suc n) * product_to e n + h (suc n) * product_to e n = add-mul (f (suc n)) (h (suc n)) (product_to e n) in
    let whole : (f (suc n) + h (suc n)) * product_to e n ≡ e (suc n) * product_to e n = ap (λ m. m * product_to e n) both in
    let a : product_to f n * f (suc n) ≡ f (suc n) * product_to e n = ap (λ m. m * f (suc n)) one ∙ mul_comm (product_to e n) (f (suc n)) in
    let b : product_to h n * h (suc n) ≡ h (suc n) * product_to e n = ap (λ m. m * h (suc n)) two ∙ mul_comm (product_to e n) (h (suc n)) in
    let c : product_to e n * e (suc n) ≡ e (suc n) * product_to e n = mul_comm (product_to e n) (e (suc n)) in
    omega (arith, parts, whole, a, b, c))
    (λ other.
    let rest : product_to f n + product_to h n ≡ product_to e n = product_split f h e p n (among.0, omega (arith, among.1, other)) left right sum in
    let one : f (suc n) ≡ e (suc n) = left (suc n) (omega arith) (λ k. other (sym k)) in
    let two : h (suc n) ≡ e (suc n) = right (suc n) (omega arith) (λ k. other (sym k)) in
    let parts : (product_to f n + product_to h n) * e (suc n) ≡ product_to f n * e (suc n) + product_to h n * e (suc n) = add-mul (product_to f n) (product_to h n) (e (suc n)) in
    let whole : (product_to f n + product_to h n) * e (suc n) ≡ product_to e n * e (suc n) = ap (λ m. m * e (suc n)) rest in
    let a : product_to f n * f (suc n) ≡ product_to f n * e (suc n) = ap (λ m. product_to f n * m) one in
    let b : product_to h n * h (suc n) ≡ product_to h n * e (suc n) = ap (λ m. product_to h n * m) two in
    omega (arith, parts, whole, a, b))
    (cases_eq p (suc n))

-- what arc a adds to the product
abbrev factor : List TypeValue → List (ℕ × ℕ) → ℕ → ℕ
factor g ranges a = cond (is_chord g a) (count_in (range_at ranges a)) 1

factor_some : (b : Bool) (r : ℕ × ℕ) → r.0 ≤ r.1 → 1 ≤ cond b (count_in r) 1
factor_some true r order = omega (arith, order)
factor_some false r order = omega arith

range_order : (ranges : List (ℕ × ℕ)) → All (λ r. r.0 ≤ r.1) ranges → (a : ℕ) → 1 ≤ a → a ≤ length ranges → (range_at ranges a).0 ≤ (range_at ranges a).1
range_order ranges all a low high = all (a - 1) (0, 0) (omega (arith, low, high))

pub box_points : (g : List TypeValue) (ranges : List (ℕ × ℕ)) → length ranges ≡ length (numbered g) → All (λ r. r.0 ≤ r.1) ranges → PointsOfBox g ranges
box_points g ranges size all =
    let n : ℕ = length (numbered g) in
    let order : (a : ℕ) → 1 ≤ a → a ≤ n → (range_at ranges a).0 ≤ (range_at ranges a).1 = λ a low high. range_order ranges all a low (omega (arith, high, size)) in
    let each : (a : ℕ) → 1 ≤ a → a ≤ n → 1 ≤ factor g ranges a = λ a low high. factor_some (is_chord g a) (range_at ranges a) (order a low high) in
    record {
      some = product_some (factor g ranges) n each;
      one = (
        λ whole a chord.
            let within = chord_within g a chord in
            let ones = product_one (factor g ranges) n each whole a within.0 within.1 in
            let own : factor g ranges a ≡ count_in (range_at ranges a) = ap (λ (b : Bool). cond {A = ℕ} b (count_in (range_at ranges a)) 1) chord in
            let up = order a within.0 within.1 in
            omega (arith, ones, own, up),
        λ fixed. product_ones (factor g ranges) n (λ a low high. ⊎_elim
            (λ chord. let own : factor g ranges a ≡ count_in (range_at ranges a) = ap (λ (b : Bool). cond {A = ℕ} b (count_in (range_at ranges a)) 1) chord in let same = fixed a chord in omega (arith, own, same))
            (λ tree. ap (λ (b : Bool). cond {A = ℕ} b (count_in (range_at ranges a)) 1) tree)
            (cases_Bool (is_chord g a))),
      );
    }

-- the range of another arc stays, and the new one is there
pub range_other : (ranges : List (ℕ × ℕ)) (a : ℕ) (r : ℕ × ℕ) (b : ℕ) → 1 ≤ a → 1 ≤ b → b ≢ a → range_at (set ranges (a - 1) r) b ≡ range_at ranges b
range_other ranges a r b low from apart = get_or-set_other ranges (a - 1) (b - 1) r (0, 0) (λ e. apart (omega (arith, low, from, e)))

pub range_own : (ranges : List (ℕ × ℕ)) (a : ℕ) (r : ℕ × ℕ) → IsAmong a (length ranges) → range_at (set ranges (a - 1) r) a ≡ r
range_own ranges a r among = get_or-set_same ranges (a - 1) r (0, 0) (omega (arith, among.0, among.1))

pub part_points : (g : List TypeValue) (ranges : List (ℕ × ℕ)) → length ranges ≡ length (numbered g) → (a k : ℕ) → IsGenuine ranges a k → PointsOfParts g ranges a k
part_points g ranges size a k genuine =
    let n : ℕ = length (numbered g) in
    let r : ℕ × ℕ = range_at ranges a in
    let low = genuine.low in
    let high = genuine.high in
    let arc : IsAmong a n = (genuine.arc.0, omega (arith, genuine.arc.1, size)) in
    let other : (s : ℕ × ℕ) (b : ℕ) → 1 ≤ b → b ≢ a → factor g (set ranges (a - 1) s) b ≡ factor g ranges b = λ s b from apart. ap (λ (q : ℕ × ℕ). cond {A = ℕ} (is_chord g b) (count_in q) 1) (range_other ranges a s b genuine.arc.0 from apart) in
    let own : (s : ℕ × ℕ) → factor g (set ranges (a - 1) s) a ≡ cond (is_chord g a) (count_in s) 1 = λ s. ap (λ (q : ℕ × ℕ). cond {A = ℕ} (is_chord g a) (count_in q) 1) (range_own ranges a s genuine.arc) in
    let tree : is_chord g a ≡ false → (s : ℕ × ℕ) → points_of g (set ranges (a - 1) s) ≡ points_of g ranges = λ none s. product_same (factor g (set ranges (a - 1) s)) (factor g ranges) n (λ b from to. ⊎_elim
    (λ same. ap (factor g (set ranges (a - 1) s)) same ∙ own s ∙ ap (λ (c : Bool). cond {A = ℕ} c (count_in s) 1) none ∙ sym (ap (λ (c : Bool). cond {A = ℕ} c (count_in (range_at ranges a)) 1) none) ∙ sym (ap (factor g ranges) same))
    (λ apart. other s b from apart)
    (cases_eq b a)) in
    record {
      chord = λ chord.
          let whole : (s : ℕ × ℕ) → factor g (set ranges (a - 1) s) a ≡ count_in s = λ s. own s ∙ ap (λ (c : Bool). cond {A = ℕ} c (count_in s) 1) chord in
          let one = whole (r.0, k) in
          let two = whole (k + 1, r.1) in
          let all : factor g ranges a ≡ count_in r = ap (λ (c : Bool). cond {A = ℕ} c (count_in r) 1) chord in
          product_split (factor g (low_part ranges a k)) (factor g (high_part ranges a k)) (factor g ranges) a n arc (other (r.0, k)) (other (k + 1, r.1)) (omega (arith, one, two, all, low, high));
      low = λ none. tree none (r.0, k);
      high = λ none. tree none (k + 1, r.1);
    }
