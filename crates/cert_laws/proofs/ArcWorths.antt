-- What the prices of arcs are worth in a box: no more than the values in the box are priced for it.
use Rattle.std.proofs.Common.{◌≡◌, ℕ, zero, suc, ◌+◌, ◌-◌, ◌*◌, ◌≤◌, ◌<◌, cond, ◌==◌, List, [], ◌∷◌, get_or, refl, sym, ap, ◌∙◌, ⊎_elim, arith, All, ℤ, pos, negsuc, ◌+ℤ◌, ◌*ℤ◌, neg_ℤ, ◌≤ℤ◌}
use Rattle.std.specs.Prelude.{AllPairs}
use Rattle.std.proofs.Math.IntN.{*ℤ-zero, pos-*ℤ-pos, pos-*ℤ-negsuc, negsuc-*ℤ-pos, zero-*ℤ}
use Rattle.std.proofs.Math.Nat.{mul-le-mul_left}
use Rattle.std.proofs.lemmas.Bool.{cases_eq, eq-eqb, ne_eqb, cond-true, cond-false}
use Rattle.std.proofs.lemmas.Int.{ints}
use Rattle.std.proofs.lemmas.List.Elements.{All-head, All-tail}
use Rattle.cert_text.specs.declared.lines.ArcPrice.{ArcPrice}
use Rattle.flow_graph.specs.Chords.{range_at}
use Rattle.flow_graph.proofs.SignedProducts.{add_mul, mul_add}
use Rattle.flow_model.specs.Prices.{price_from}
use Rattle.path_prices.specs.Gains.{arc_price_in}
use Rattle.path_prices.specs.Worth.{arcs_worth, least_worth}
use Rattle.cert_laws.proofs.ItemWorths.{first_below, others_ascend}

-- arcs ascend
abbrev pub ArcPriceBefore : ArcPrice → ArcPrice → Type 0
ArcPriceBefore x y = x.arc < y.arc

pub price_sum : (f h : ℕ → ℤ) (n : ℕ) (values : List ℕ) → price_from (λ a. f a +ℤ h a) n values ≡ price_from f n values +ℤ price_from h n values
price_sum f h n [] = omega (arith, ints)
price_sum f h n (x ∷ values) =
    let rest = price_sum f h (n + 1) values in
    let first = add_mul (f n) (h n) (pos x) in
    omega (arith, ints, rest, first)

price_alike : (f h : ℕ → ℤ) → ((a : ℕ) → f a ≡ h a) → (n : ℕ) (values : List ℕ) → price_from f n values ≡ price_from h n values
price_alike f h same n values = λ k. price_from (λ a. same a k) n values

-- the price of one arc, where it has a smaller number, and where it is there
price_before : (b : ℕ) (c : ℤ) (n : ℕ) (values : List ℕ) → b < n → price_from (λ a. cond (b == a) c (pos 0)) n values ≡ pos 0
price_before b c n [] before = refl
price_before b c n (x ∷ values) before =
    let rest = price_before b c (n + 1) values (omega (arith, before)) in
    let none : cond (b == n) c (pos 0) *ℤ pos x ≡ pos 0 = ap (λ z. z *ℤ pos x) (cond-false (b == n) c (pos 0) (ne_eqb b n (λ e. omega (arith, e, before)))) ∙ zero-*ℤ (pos x) in
    omega (arith, ints, rest, none)

price_of_one : (b : ℕ) (c : ℤ) (n : ℕ) (values : List ℕ) → n ≤ b → price_from (λ a. cond (b == a) c (pos 0)) n values ≡ c *ℤ pos (get_or values (b - n) 0)
price_of_one b c n [] from = sym (*ℤ-zero c)
price_of_one b c n (x ∷ values) from = ⊎_elim
    (λ same.
    let rest = price_before b c (n + 1) values (omega (arith, same)) in
    let own : cond (b == n) c (pos 0) *ℤ pos x ≡ c *ℤ pos x = ap (λ z. z *ℤ pos x) (cond-true (b == n) c (pos 0) (eq-eqb b n same)) in
    let place : b - n ≡ 0 = omega (arith, same) in
    let there : c *ℤ pos (get_or (x ∷ values) (b - n) 0) ≡ c *ℤ pos x = ap (λ m. c *ℤ pos (get_or (x ∷ values) m 0)) place in
    omega (arith, ints, rest, own, there))
    (λ apart.
    let rest = price_of_one b c (n + 1) values (omega (arith, from, apart)) in
    let none : cond (b == n) c (pos 0) *ℤ pos x ≡ pos 0 = ap (λ z. z *ℤ pos x) (cond-false (b == n) c (pos 0) (ne_eqb b n apart)) ∙ zero-*ℤ (pos x) in
    let place : b - n ≡ suc (b - (n + 1)) = omega (arith, from, apart) in
    let there : c *ℤ pos (get_or (x ∷ values) (b - n) 0) ≡ c *ℤ pos (get_or values (b - (n + 1)) 0) = ap (λ m. c *ℤ pos (get_or (x ∷ values) m 0)) place in
    omega (arith, ints, rest, none, there))
    (cases_eq b n)

arc_not_listed : (xs : List ArcPrice) (a : ℕ) → All (λ x. a < x.arc) xs → arc_price_in xs a ≡ pos 0
arc_not_listed [] a above = refl
arc_not_listed (x ∷ xs) a above =
    let here = All-head (λ (y : ArcPrice). a < y.arc) x xs above in
    cond-false (x.arc == a) x.price (arc_price_in xs a) (ne_eqb x.arc a (λ e. omega (arith, e, here)))
    ∙ arc_not_listed xs a (All-tail (λ (y : ArcPrice). a < y.arc) x xs above)

arc_price_parts : (x : ArcPrice) (xs : List ArcPrice) → AllPairs ArcPriceBefore (x ∷ xs) → (a : ℕ) → arc_price_in (x ∷ xs) a ≡ cond (x.arc == a) x.price (pos 0) +ℤ arc_price_in xs a
arc_price_parts x xs order a = ⊎_elim
    (λ same.
    let test = eq-eqb x.arc a same in
    let own : arc_price_in (x ∷ xs) a ≡ x.price = cond-true (x.arc == a) x.price (arc_price_in xs a) test in
    let one : cond (x.arc == a) x.price (pos 0) ≡ x.price = cond-true (x.arc == a) x.price (pos 0) test in
    let none : arc_price_in xs a ≡ pos 0 = ap (arc_price_in xs) (sym same) ∙ arc_not_listed xs x.arc (first_below ArcPriceBefore x xs order) in
    omega (arith, ints, own, one, none))
    (λ apart.
    let test = ne_eqb x.arc a apart in
    let own : arc_price_in (x ∷ xs) a ≡ arc_price_in xs a = cond-false (x.arc == a) x.price (arc_price_in xs a) test in
    let one : cond (x.arc == a) x.price (pos 0) ≡ pos 0 = cond-false (x.arc == a) x.price (pos 0) test in
    omega (arith, ints, own, one))
    (cases_eq x.arc a)

times_negative : (e m : ℕ) → pos e *ℤ neg_ℤ (pos m) ≡ neg_ℤ (pos (e * m))
times_negative e zero = let none : e * 0 ≡ 0 = omega arith in *ℤ-zero (pos e) ∙ sym (ap (λ n. neg_ℤ (pos n)) none)
times_negative e (suc m) = pos-*ℤ-negsuc e m

-- the least worth of a range, so many times over, is no more than what a value of that many times the range is priced
least_below : (scale : ℕ) (r : ℕ × ℕ) (c : ℤ) (v : ℕ) → scale * r.0 ≤ v → v ≤ scale * r.1 → (pos scale *ℤ least_worth r c) ≤ℤ (c *ℤ pos v)
least_below scale r (pos n) v low high =
    let one = pos-*ℤ-pos n r.0 in
    let two : pos scale *ℤ (pos n *ℤ pos r.0) ≡ pos (scale * (n * r.0)) = ap (λ z. pos scale *ℤ z) one ∙ pos-*ℤ-pos scale (n * r.0) in
    let three = pos-*ℤ-pos n v in
    let less : n * (scale * r.0) ≤ n * v = mul-le-mul_left n low in
    omega (arith, ints, two, three, less)
least_below scale r (negsuc n) v low high =
    let one = negsuc-*ℤ-pos n r.1 in
    let two : pos scale *ℤ (negsuc n *ℤ pos r.1) ≡ neg_ℤ (pos (scale * (suc n * r.1))) = ap (λ z. pos scale *ℤ z) one ∙ times_negative scale (suc n * r.1) in
    let three = negsuc-*ℤ-pos n v in
    let less : suc n * v ≤ suc n * (scale * r.1) = mul-le-mul_left (suc n) high in
    omega (arith, ints, two, three, less)

price_nothing : (n : ℕ) (values : List ℕ) → price_from (λ a. pos 0) n values ≡ pos 0
price_nothing n [] = refl
price_nothing n (x ∷ values) =
    let rest = price_nothing (n + 1) values in
    let none = zero-*ℤ (pos x) in
    omega (arith, ints, rest, none)

module _ (scale : ℕ) (ranges : List (ℕ × ℕ)) (values : List ℕ) where
  -- the value of a listed arc is in its range, so many times over
  pub record IsHeld (x : ArcPrice) : Type 0 where
    pub number : 1 ≤ x.arc
    pub low : scale * (range_at ranges x.arc).0 ≤ get_or values (x.arc - 1) 0
    pub high : get_or values (x.arc - 1) 0 ≤ scale * (range_at ranges x.arc).1

  pub arcs_held : (xs : List ArcPrice) → AllPairs ArcPriceBefore xs → All IsHeld xs → (pos scale *ℤ arcs_worth ranges xs) ≤ℤ price_from (arc_price_in xs) 1 values
  arcs_held [] order all =
      let none = *ℤ-zero (pos scale) in
      let nothing = price_nothing 1 values in
      omega (arith, ints, none, nothing)
  arcs_held (x ∷ xs) order all =
      let rest = arcs_held xs (others_ascend ArcPriceBefore x xs order) (All-tail IsHeld x xs all) in
      let own : IsHeld x = All-head IsHeld x xs all in
      let worth = mul_add (pos scale) (least_worth (range_at ranges x.arc) x.price) (arcs_worth ranges xs) in
      let first = least_below scale (range_at ranges x.arc) x.price (get_or values (x.arc - 1) 0) own.low own.high in
      let parts = price_alike (arc_price_in (x ∷ xs)) (λ a. cond (x.arc == a) x.price (pos 0) +ℤ arc_price_in xs a) (arc_price_parts x xs order) 1 values in
      let both = price_sum (λ a. cond (x.arc == a) x.price (pos 0)) (arc_price_in xs) 1 values in
      let one = price_of_one x.arc x.price 1 values own.number in
      omega (arith, ints, rest, worth, first, parts, both, one)
