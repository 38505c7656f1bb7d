-- What values that are a sum of paths cost, at any prices of the arcs.
use Rattle.std.proofs.Common.{◌≡◌, ℕ, zero, suc, ◌+◌, ◌-◌, ◌≤◌, ◌<◌, cond, ◌==◌, List, [], ◌∷◌, ◌++◌, length, get_or, refl, sym, ap, ◌∙◌, subst, ⊎_elim, arith, All, ℤ, pos, ◌+ℤ◌, ◌*ℤ◌}
use Rattle.std.specs.Prelude.{count_by}
use Rattle.std.specs.List.{AllZip}
use Rattle.std.proofs.Math.IntN.{*ℤ-zero, *ℤ_comm}
use Rattle.std.proofs.lemmas.Int.{ints}
use Rattle.std.proofs.lemmas.Bool.{cases_eq, eq-eqb, ne_eqb, cond-true, cond-false}
use Rattle.std.proofs.lemmas.List.Sums.{sum_by-cons}
use Rattle.std.proofs.lemmas.List.Elements.{All-append, All-nil, All-head, All-tail, All-cons}
use Rattle.packing_laws.specs.Instances.{IsAmong}
use Rattle.packing_laws.specs.Packings.{Content, Bins}
use Rattle.flow_graph.specs.declared.parts.TypeArc.{TypeArc}
use Rattle.flow_graph.specs.declared.parts.ArcKind.TheVariants.{Bin}
use Rattle.flow_graph.specs.Arcs.{TypeValue, numbered, first_arc, kind_of}
use Rattle.flow_graph.specs.Faithful.{AreNumbersOf}
use Rattle.flow_graph.proofs.ArcKinds.{arc_within}
use Rattle.flow_graph.proofs.Places.{has_numbers}
use Rattle.flow_graph.proofs.SignedProducts.{mul_add, one_mul}
use Rattle.flow_model.specs.Packed.{IsWayOf}
use Rattle.flow_model.proofs.PackedFlows.{all_ways}
use Rattle.flow_model.specs.Prices.{PricesAddUp, price_from, way_price, ways_price}

way_both : (f h : ℕ → ℤ) (L : List ℕ) → way_price (λ l. f l +ℤ h l) L ≡ way_price f L +ℤ way_price h L
way_both f h [] = omega (arith, ints)
way_both f h (l ∷ L) = let rest = way_both f h L in omega (arith, ints, rest)

way_nothing : (L : List ℕ) → way_price (λ l. pos 0) L ≡ pos 0
way_nothing [] = refl
way_nothing (l ∷ L) = let rest = way_nothing L in omega (arith, ints, rest)

-- a price that only one number has
counted : (c : ℤ) (n : ℕ) (L : List ℕ) → way_price (λ l. cond (l == n) c (pos 0)) L ≡ c *ℤ pos (count_by (λ l. l == n) L)
counted c n [] = sym (*ℤ-zero c)
counted c n (l ∷ L) =
    let rest = counted c n L in
    let more : count_by (λ l. l == n) (l ∷ L) ≡ cond (l == n) 1 0 + count_by (λ l. l == n) L = sum_by-cons (λ l. cond (l == n) 1 0) l L in
    ⊎_elim
    (λ same.
    let yes_here = eq-eqb l n same in
    let one : cond {A = ℕ} (l == n) 1 0 ≡ 1 = cond-true (l == n) 1 0 yes_here in
    let own : cond (l == n) c (pos 0) ≡ c = cond-true (l == n) c (pos 0) yes_here in
    let count : pos (count_by (λ l. l == n) (l ∷ L)) ≡ pos 1 +ℤ pos (count_by (λ l. l == n) L) = omega (arith, ints, more, one) in
    let product : c *ℤ pos (count_by (λ l. l == n) (l ∷ L)) ≡ c *ℤ (pos 1 +ℤ pos (count_by (λ l. l == n) L)) = ap (λ z. c *ℤ z) count in
    let parts = mul_add c (pos 1) (pos (count_by (λ l. l == n) L)) in
    let unit : c *ℤ pos 1 ≡ c = *ℤ_comm c (pos 1) ∙ one_mul c in
    omega (arith, ints, rest, own, product, parts, unit))
    (λ apart.
    let not_here = ne_eqb l n apart in
    let none : cond {A = ℕ} (l == n) 1 0 ≡ 0 = cond-false (l == n) 1 0 not_here in
    let own : cond (l == n) c (pos 0) ≡ pos 0 = cond-false (l == n) c (pos 0) not_here in
    let count : count_by (λ l. l == n) (l ∷ L) ≡ count_by (λ l. l == n) L = omega (arith, more, none) in
    let product : c *ℤ pos (count_by (λ l. l == n) (l ∷ L)) ≡ c *ℤ pos (count_by (λ l. l == n) L) = ap (λ m. c *ℤ pos m) count in
    omega (arith, ints, rest, own, product))
    (cases_eq l n)

-- the price of number l, where the values are those of the numbers from n on; 0 where l is none of them
abbrev price_at : (ℕ → ℤ) → ℕ → List ℕ → ℕ → ℤ
price_at price n [] l = pos 0
price_at price n (x ∷ values) l = cond (l == n) (price n) (pos 0) +ℤ price_at price (n + 1) values l

from_counts : (price : ℕ → ℤ) (n : ℕ) (values L : List ℕ) → ((j : ℕ) → j < length values → get_or values j 0 ≡ count_by (λ l. l == n + j) L) → price_from price n values ≡ way_price (price_at price n values) L
from_counts price n [] L each = sym (way_nothing L)
from_counts price n (x ∷ values) L each =
    let here : n + 0 ≡ n = omega arith in
    let count : x ≡ count_by (λ l. l == n) L = each 0 (omega arith) ∙ ap (λ (m : ℕ). count_by (λ l. l == m) L) here in
    let first : price n *ℤ pos x ≡ price n *ℤ pos (count_by (λ l. l == n) L) = ap (λ m. price n *ℤ pos m) count in
    let own = counted (price n) n L in
    let rest = from_counts price (n + 1) values L (λ j within. let next : n + suc j ≡ n + 1 + j = omega arith in each (suc j) (omega (arith, within)) ∙ ap (λ (m : ℕ). count_by (λ l. l == m) L) next) in
    let both = way_both (λ l. cond (l == n) (price n) (pos 0)) (price_at price (n + 1) values) L in
    omega (arith, ints, first, own, rest, both)

price_before : (price : ℕ → ℤ) (n : ℕ) (values : List ℕ) (l : ℕ) → l < n → price_at price n values l ≡ pos 0
price_before price n [] l before = refl
price_before price n (x ∷ values) l before =
    let rest = price_before price (n + 1) values l (omega (arith, before)) in
    let none : cond (l == n) (price n) (pos 0) ≡ pos 0 = cond-false (l == n) (price n) (pos 0) (ne_eqb l n (λ e. omega (arith, e, before))) in
    omega (arith, ints, rest, none)

price_there : (price : ℕ → ℤ) (n : ℕ) (values : List ℕ) (l : ℕ) → n ≤ l → l < n + length values → price_at price n values l ≡ price l
price_there price n [] l low high = absurd (omega (arith, low, high))
price_there price n (x ∷ values) l low high = ⊎_elim
    (λ same.
    let rest = price_before price (n + 1) values l (omega (arith, same)) in
    let own : cond (l == n) (price n) (pos 0) ≡ price l = cond-true (l == n) (price n) (pos 0) (eq-eqb l n same) ∙ ap price (sym same) in
    omega (arith, ints, rest, own))
    (λ apart.
    let rest = price_there price (n + 1) values l (omega (arith, low, apart)) (omega (arith, high)) in
    let none : cond (l == n) (price n) (pos 0) ≡ pos 0 = cond-false (l == n) (price n) (pos 0) (ne_eqb l n apart) in
    omega (arith, ints, rest, none))
    (cases_eq l n)

way_same : (Q : ℕ → Type 0) (f h : ℕ → ℤ) → ((l : ℕ) → Q l → f l ≡ h l) → (L : List ℕ) → All Q L → way_price f L ≡ way_price h L
way_same Q f h each [] all = refl
way_same Q f h each (l ∷ L) all =
    let rest = way_same Q f h each L (All-tail Q l L all) in
    let first = each l (All-head Q l L all) in
    omega (arith, ints, rest, first)

way_append : (f : ℕ → ℤ) (xs ys : List ℕ) → way_price f (xs ++ ys) ≡ way_price f xs +ℤ way_price f ys
way_append f [] ys = omega (arith, ints)
way_append f (x ∷ xs) ys = let rest = way_append f xs ys in omega (arith, ints, rest)

ways_joined : (f : ℕ → ℤ) (ways : List (List ℕ)) → way_price f (all_ways ways) ≡ ways_price f ways
ways_joined f [] = refl
ways_joined f (way ∷ ways) =
    let rest = ways_joined f ways in
    let first = way_append f way (all_ways ways) in
    omega (arith, ints, rest, first)

module _ (g : List TypeValue) where
  -- the number of an arc
  abbrev IsNumber : ℕ → Type 0
  IsNumber n = IsAmong n (length (numbered g))

  numbers_there : (t : ℕ) (numbers : List ℕ) (path : List TypeArc) → AreNumbersOf g t numbers path → All IsNumber numbers
  numbers_there t [] path are = All-nil IsNumber
  numbers_there t (n ∷ numbers) [] are = absurd are
  numbers_there t (n ∷ numbers) (e ∷ path) are = All-cons IsNumber n numbers (arc_within g n (kind_of t e) are.0) (numbers_there t numbers path are.1)

  way_there : (bin : ℕ × Content) (way : List ℕ) → IsAmong bin.0 (length g) → IsWayOf g bin way → All IsNumber way
  way_there bin way among is =
      let first : IsNumber (first_arc g bin.0) = arc_within g (first_arc g bin.0) (Bin bin.0) (has_numbers g bin.0 among).bin in
      subst (All IsNumber) (sym is.closed) (All-cons IsNumber (first_arc g bin.0) is.numbers first (numbers_there bin.0 is.numbers is.path is.are))

  abbrev IsOfGraph : ℕ × Content → Type 0
  IsOfGraph b = IsAmong b.0 (length g)

  ways_there : (bins : Bins) (ways : List (List ℕ)) → All IsOfGraph bins → AllZip (IsWayOf g) bins ways → All IsNumber (all_ways ways)
  ways_there [] [] of are = All-nil IsNumber
  ways_there [] (way ∷ ways) of are = absurd are
  ways_there (b ∷ bins) [] of are = absurd are
  ways_there (b ∷ bins) (way ∷ ways) of are =
      All-append IsNumber way (all_ways ways) (way_there b way (All-head IsOfGraph b bins of) are.0) (ways_there bins ways (All-tail IsOfGraph b bins of) are.1)

pub prices_add_up : PricesAddUp
prices_add_up g bins values price size of is =
    let L : List ℕ = all_ways is.ways in
    let sums = from_counts price 1 values L (λ j within.
    let place : suc j - 1 ≡ j = omega arith in
    let number : suc j ≡ 1 + j = omega arith in
    let own : get_or values (suc j - 1) 0 ≡ count_by (λ l. l == suc j) L = is.sum (suc j) (omega arith, within) in
    ap (λ m. get_or values m 0) (sym place) ∙ own ∙ ap (λ (m : ℕ). count_by (λ l. l == m) L) number) in
    let there = way_same (IsNumber g) (price_at price 1 values) price (λ l among. price_there price 1 values l among.0 (let high = among.1 in omega (arith, high, size))) L (ways_there g bins is.ways of is.each) in
    sums ∙ there ∙ ways_joined price is.ways
