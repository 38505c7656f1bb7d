-- The prices that are not 0, as a line tells them, and what they are worth in a box.
use Rattle.std.proofs.Common.{◌≡◌, ℕ, zero, suc, ◌+◌, ◌^◌, ◌<◌, ◌≤◌, ◌==◌, List, [], ◌∷◌, length, get_or, refl, ap, ◌∙◌, subst, arith, All, Some, ℤ, pos, negsuc, ◌+ℤ◌, ◌*ℤ◌, ◌≤ℤ◌}
use Rattle.std.specs.Prelude.{AllPairs, slice_get, unsigned_abs}
use Rattle.std.proofs.Math.IntN.{zero-*ℤ}
use Rattle.std.proofs.lemmas.Int.{ints}
use Rattle.std.proofs.lemmas.Bool.{cond-false, cond-true, eq-eqb, ne_eqb}
use Rattle.std.proofs.lemmas.List.Elements.{All-cons, All-nil, All-weaker}
use Rattle.std.proofs.lemmas.List.Kept.{AllPairs-cons}
use Rattle.flow_graph.specs.declared.parts.ArcKind.{ArcKind}
use Rattle.flow_graph.specs.Balance.{weigh_signed}
use Rattle.flow_graph.specs.Chords.{range_at}
use Rattle.cert_text.specs.declared.lines.ArcPrice.{ArcPrice}
use Rattle.path_prices.specs.Gains.{arc_price_in}
use Rattle.path_prices.specs.Worth.{arcs_worth, least_worth}
use Rattle.fixed_leaf.specs.inner.Priced.{listed_from}

-- a listed price is that of one of the arcs, and not 0
pub record IsListed (n m : ℕ) (x : ArcPrice) : Type 0 where
  pub low : n ≤ x.arc
  pub high : x.arc < m
  pub some : 1 ≤ unsigned_abs x.price
  pub small : unsigned_abs x.price ≤ 2 ^ 62

listed_wider : (n m : ℕ) (xs : List ArcPrice) → All (IsListed (n + 1) m) xs → All (IsListed n m) xs
listed_wider n m xs all = All-weaker (IsListed (n + 1) m) (IsListed n m) (λ x own. record { low = let low = own.low in omega (arith, low); high = own.high; some = own.some; small = own.small }) xs all

pub all_listed : (n m : ℕ) (prices : List ℤ) → n + length prices ≤ m → ((k : ℕ) → unsigned_abs (get_or prices k (pos 0)) ≤ 2 ^ 62) → All (IsListed n m) (listed_from n prices)
all_listed n m [] room small = All-nil (IsListed n m)
all_listed n m (pos zero ∷ prices) room small = listed_wider n m (listed_from (n + 1) prices) (all_listed (n + 1) m prices (omega (arith, room)) (λ k. small (suc k)))
all_listed n m (pos (suc c) ∷ prices) room small = All-cons (IsListed n m) (record { arc = n; price = pos (suc c) }) (listed_from (n + 1) prices) (record { low = omega arith; high = omega (arith, room); some = omega arith; small = small 0 }) (listed_wider n m (listed_from (n + 1) prices) (all_listed (n + 1) m prices (omega (arith, room)) (λ k. small (suc k))))
all_listed n m (negsuc c ∷ prices) room small = All-cons (IsListed n m) (record { arc = n; price = negsuc c }) (listed_from (n + 1) prices) (record { low = omega arith; high = omega (arith, room); some = omega arith; small = small 0 }) (listed_wider n m (listed_from (n + 1) prices) (all_listed (n + 1) m prices (omega (arith, room)) (λ k. small (suc k))))

pub count_listed : (n : ℕ) (prices : List ℤ) → length (listed_from n prices) ≤ length prices
count_listed n [] = omega arith
count_listed n (pos zero ∷ prices) = let rest = count_listed (n + 1) prices in omega (arith, rest)
count_listed n (pos (suc c) ∷ prices) = let rest = count_listed (n + 1) prices in omega (arith, rest)
count_listed n (negsuc c ∷ prices) = let rest = count_listed (n + 1) prices in omega (arith, rest)

-- arcs ascend
abbrev pub Before : ArcPrice → ArcPrice → Type 0
Before x y = x.arc < y.arc

listed_behind : (n : ℕ) (c : ℤ) (prices : List ℤ) → ((k : ℕ) → unsigned_abs (get_or prices k (pos 0)) ≤ 2 ^ 62) → All (Before (record { arc = n; price = c })) (listed_from (n + 1) prices)
listed_behind n c prices small = All-weaker (IsListed (n + 1) (n + 1 + length prices)) (Before (record { arc = n; price = c })) (λ x own. let low = own.low in omega (arith, low)) (listed_from (n + 1) prices) (all_listed (n + 1) (n + 1 + length prices) prices (omega arith) small)

pub listed_ascend : (n : ℕ) (prices : List ℤ) → ((k : ℕ) → unsigned_abs (get_or prices k (pos 0)) ≤ 2 ^ 62) → AllPairs Before (listed_from n prices)
listed_ascend n [] small = λ i j d less within. absurd (omega (arith, within))
listed_ascend n (pos zero ∷ prices) small = listed_ascend (n + 1) prices (λ k. small (suc k))
listed_ascend n (pos (suc c) ∷ prices) small = AllPairs-cons Before (record { arc = n; price = pos (suc c) }) (listed_from (n + 1) prices) (listed_behind n (pos (suc c)) prices (λ k. small (suc k))) (listed_ascend (n + 1) prices (λ k. small (suc k)))
listed_ascend n (negsuc c ∷ prices) small = AllPairs-cons Before (record { arc = n; price = negsuc c }) (listed_from (n + 1) prices) (listed_behind n (negsuc c) prices (λ k. small (suc k))) (listed_ascend (n + 1) prices (λ k. small (suc k)))

-- no arc before the first is listed
not_before : (n a : ℕ) (prices : List ℤ) → a < n → arc_price_in (listed_from n prices) a ≡ pos 0
not_before n a [] before = refl
not_before n a (pos zero ∷ prices) before = not_before (n + 1) a prices (omega (arith, before))
not_before n a (pos (suc c) ∷ prices) before = cond-false (n == a) (pos (suc c)) (arc_price_in (listed_from (n + 1) prices) a) (ne_eqb n a (λ e. omega (arith, e, before))) ∙ not_before (n + 1) a prices (omega (arith, before))
not_before n a (negsuc c ∷ prices) before = cond-false (n == a) (negsuc c) (arc_price_in (listed_from (n + 1) prices) a) (ne_eqb n a (λ e. omega (arith, e, before))) ∙ not_before (n + 1) a prices (omega (arith, before))

-- the price of a listed arc, at its place
pub listed_price : (n : ℕ) (prices : List ℤ) (k : ℕ) → arc_price_in (listed_from n prices) (n + k) ≡ get_or prices k (pos 0)
listed_price n [] k = refl
listed_price n (pos zero ∷ prices) zero = not_before (n + 1) (n + 0) prices (omega arith)
listed_price n (pos (suc c) ∷ prices) zero = cond-true (n == n + 0) (pos (suc c)) (arc_price_in (listed_from (n + 1) prices) (n + 0)) (eq-eqb n (n + 0) (omega arith))
listed_price n (negsuc c ∷ prices) zero = cond-true (n == n + 0) (negsuc c) (arc_price_in (listed_from (n + 1) prices) (n + 0)) (eq-eqb n (n + 0) (omega arith))
listed_price n (pos zero ∷ prices) (suc k) = let place : n + suc k ≡ n + 1 + k = omega arith in ap (arc_price_in (listed_from (n + 1) prices)) place ∙ listed_price (n + 1) prices k
listed_price n (pos (suc c) ∷ prices) (suc k) = let place : n + suc k ≡ n + 1 + k = omega arith in cond-false (n == n + suc k) (pos (suc c)) (arc_price_in (listed_from (n + 1) prices) (n + suc k)) (ne_eqb n (n + suc k) (λ e. omega (arith, e))) ∙ ap (arc_price_in (listed_from (n + 1) prices)) place ∙ listed_price (n + 1) prices k
listed_price n (negsuc c ∷ prices) (suc k) = let place : n + suc k ≡ n + 1 + k = omega arith in cond-false (n == n + suc k) (negsuc c) (arc_price_in (listed_from (n + 1) prices) (n + suc k)) (ne_eqb n (n + suc k) (λ e. omega (arith, e))) ∙ ap (arc_price_in (listed_from (n + 1) prices)) place ∙ listed_price (n + 1) prices k

-- what prices are worth in a box, arc by arc
abbrev pub worth_from : List (ℕ × ℕ) → ℕ → List ℤ → ℤ
worth_from box n [] = pos 0
worth_from box n (c ∷ prices) = least_worth (range_at box n) c +ℤ worth_from box (n + 1) prices

pub listed_worth : (box : List (ℕ × ℕ)) (n : ℕ) (prices : List ℤ) → arcs_worth box (listed_from n prices) ≡ worth_from box n prices
listed_worth box n [] = refl
listed_worth box n (pos zero ∷ prices) =
    let rest = listed_worth box (n + 1) prices in
    let none = zero-*ℤ (pos (range_at box n).0) in
    omega (arith, ints, rest, none)
listed_worth box n (pos (suc c) ∷ prices) = ap (λ z. least_worth (range_at box n) (pos (suc c)) +ℤ z) (listed_worth box (n + 1) prices)
listed_worth box n (negsuc c ∷ prices) = ap (λ z. least_worth (range_at box n) (negsuc c) +ℤ z) (listed_worth box (n + 1) prices)

-- prices of arcs by kind, which no value in the box undercuts
pub worth_least : (f : ArcKind → ℤ) (box : List (ℕ × ℕ)) (n : ℕ) (prices : List ℤ) (kinds : List ArcKind) (values : List ℤ) → length prices ≡ length kinds → length values ≡ length kinds → ((k : ℕ) (x : ArcKind) → slice_get kinds k ≡ Some x → get_or prices k (pos 0) ≡ f x) → ((k : ℕ) → k < length kinds → (get_or prices k (pos 0) *ℤ get_or values k (pos 0)) ≤ℤ least_worth (range_at box (n + k)) (get_or prices k (pos 0))) → weigh_signed f kinds values ≤ℤ worth_from box n prices
worth_least f box n [] [] values one two is least = omega (arith, ints)
worth_least f box n [] (x ∷ kinds) values one two is least = absurd (omega (arith, one))
worth_least f box n (c ∷ prices) [] values one two is least = absurd (omega (arith, one))
worth_least f box n (c ∷ prices) (x ∷ kinds) [] one two is least = absurd (omega (arith, two))
worth_least f box n (c ∷ prices) (x ∷ kinds) (v ∷ values) one two is least =
    let rest = worth_least f box (n + 1) prices kinds values (omega (arith, one)) (omega (arith, two)) (λ k y at. is (suc k) y at) (λ k within. let place : n + suc k ≡ n + 1 + k = omega arith in subst (λ (m : ℕ). (get_or prices k (pos 0) *ℤ get_or values k (pos 0)) ≤ℤ least_worth (range_at box m) (get_or prices k (pos 0))) place (least (suc k) (omega (arith, within)))) in
    let place : n + 0 ≡ n = omega arith in
    let first : (c *ℤ v) ≤ℤ least_worth (range_at box n) c = subst (λ (m : ℕ). (c *ℤ v) ≤ℤ least_worth (range_at box m) c) place (least 0 (omega arith)) in
    let own : c *ℤ v ≡ f x *ℤ v = ap (λ z. z *ℤ v) (is 0 x refl) in
    omega (arith, ints, rest, first, own)

-- and which the value of one arc undercuts
pub worth_more : (f : ArcKind → ℤ) (box : List (ℕ × ℕ)) (n : ℕ) (prices : List ℤ) (kinds : List ArcKind) (values : List ℤ) (i : ℕ) → i < length kinds → length prices ≡ length kinds → length values ≡ length kinds → ((k : ℕ) (x : ArcKind) → slice_get kinds k ≡ Some x → get_or prices k (pos 0) ≡ f x) → ((k : ℕ) → k < length kinds → (get_or prices k (pos 0) *ℤ get_or values k (pos 0)) ≤ℤ least_worth (range_at box (n + k)) (get_or prices k (pos 0))) → ((get_or prices i (pos 0) *ℤ get_or values i (pos 0)) +ℤ pos 1) ≤ℤ least_worth (range_at box (n + i)) (get_or prices i (pos 0)) → (weigh_signed f kinds values +ℤ pos 1) ≤ℤ worth_from box n prices
worth_more f box n [] [] values i within one two is least more = absurd (omega (arith, within))
worth_more f box n [] (x ∷ kinds) values i within one two is least more = absurd (omega (arith, one))
worth_more f box n (c ∷ prices) [] values i within one two is least more = absurd (omega (arith, one))
worth_more f box n (c ∷ prices) (x ∷ kinds) [] i within one two is least more = absurd (omega (arith, two))
worth_more f box n (c ∷ prices) (x ∷ kinds) (v ∷ values) zero within one two is least more =
    let rest = worth_least f box (n + 1) prices kinds values (omega (arith, one)) (omega (arith, two)) (λ k y at. is (suc k) y at) (λ k within. let place : n + suc k ≡ n + 1 + k = omega arith in subst (λ (m : ℕ). (get_or prices k (pos 0) *ℤ get_or values k (pos 0)) ≤ℤ least_worth (range_at box m) (get_or prices k (pos 0))) place (least (suc k) (omega (arith, within)))) in
    let place : n + 0 ≡ n = omega arith in
    let first : ((c *ℤ v) +ℤ pos 1) ≤ℤ least_worth (range_at box n) c = subst (λ (m : ℕ). ((c *ℤ v) +ℤ pos 1) ≤ℤ least_worth (range_at box m) c) place more in
    let own : c *ℤ v ≡ f x *ℤ v = ap (λ z. z *ℤ v) (is 0 x refl) in
    omega (arith, ints, rest, first, own)
worth_more f box n (c ∷ prices) (x ∷ kinds) (v ∷ values) (suc i) within one two is least more =
    let moved : n + suc i ≡ n + 1 + i = omega arith in
    let rest = worth_more f box (n + 1) prices kinds values i (omega (arith, within)) (omega (arith, one)) (omega (arith, two)) (λ k y at. is (suc k) y at) (λ k within. let place : n + suc k ≡ n + 1 + k = omega arith in subst (λ (m : ℕ). (get_or prices k (pos 0) *ℤ get_or values k (pos 0)) ≤ℤ least_worth (range_at box m) (get_or prices k (pos 0))) place (least (suc k) (omega (arith, within)))) (subst (λ (m : ℕ). ((get_or prices i (pos 0) *ℤ get_or values i (pos 0)) +ℤ pos 1) ≤ℤ least_worth (range_at box m) (get_or prices i (pos 0))) moved more) in
    let place : n + 0 ≡ n = omega arith in
    let first : (c *ℤ v) ≤ℤ least_worth (range_at box n) c = subst (λ (m : ℕ). (c *ℤ v) ≤ℤ least_worth (range_at box m) c) place (least 0 (omega arith)) in
    let own : c *ℤ v ≡ f x *ℤ v = ap (λ z. z *ℤ v) (is 0 x refl) in
    omega (arith, ints, rest, first, own)
