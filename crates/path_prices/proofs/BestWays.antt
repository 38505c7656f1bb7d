-- The best ways from nodes: how large they are, and how one more arc changes them.
use Rattle.std.proofs.Common.{◌≡◌, ℕ, suc, ◌+◌, ◌-◌, ◌*◌, ◌^◌, ◌<◌, ◌≤◌, Bool, true, false, cond, ◌==◌, ℤ, pos, negsuc, ◌+ℤ◌, List, [], ◌∷◌, length, drop, get_or, set, to_z, of_z, SFits, w64, refl, sym, ap, ◌∙◌, subst, ⊎_elim, arith, drop-cons, length-drop}
use Rattle.std.specs.Prelude.{All, IsTrue, nat_eq, unsigned_abs}
use Rattle.std.specs.Int.{int_max, w128}
use Rattle.std.proofs.lemmas.Int.{ints, clamps, to_z-of_z, fits_signed_from_abs}
use Rattle.std.proofs.lemmas.Bool.{cases_lt, cases_eq, eq-eqb, eqb-true, ne_eqb}
use Rattle.std.proofs.lemmas.List.{get_or_past, length-set, get_or-set_same, get_or-set_other, drop_all}
use Rattle.arc_num.specs.declared.TheConstants.{MAX_PRICE, MAX_ARCS}
use Rattle.flow_graph.specs.declared.parts.TypeArc.{TypeArc}
use Rattle.path_prices.specs.inner.Tables.{IsWithin, AreWithin}
use Rattle.path_prices.specs.inner.Passes.{AreArcs, best_from, carried_in, no_arc, price_on}

-- each node has the best value, where the ways end at these values
pub record AreBest (price : ℕ → ℤ) (ends : List ℤ) (n : ℕ) (arcs : List TypeArc) (values : List ℤ) : Type 0 where
  pub size : length values ≡ length ends
  pub each : (v : ℕ) → v < length values → get_or values v (pos 0) ≡ best_from price (λ w. get_or ends w (pos 0)) n arcs v

pub within-abs : (b : ℕ) (z : ℤ) → unsigned_abs z ≤ b → IsWithin b z
within-abs b (pos n) h = record { low = omega (arith, ints, h); high = omega (arith, ints, h) }
within-abs b (negsuc n) h = record { low = omega (arith, ints, h); high = omega (arith, ints, h) }

pub within-more : (a b : ℕ) (z : ℤ) → a ≤ b → IsWithin a z → IsWithin b z
within-more a b z h is = let low = is.low in let high = is.high in record { low = omega (arith, ints, low, h); high = omega (arith, ints, high, h) }

pub within-sum : (a b : ℕ) (y z : ℤ) → IsWithin a y → IsWithin b z → IsWithin (a + b) (y +ℤ z)
within-sum a b y z one two =
    let low = one.low in let high = one.high in let low2 = two.low in let high2 = two.high in
    record { low = omega (arith, ints, low, low2); high = omega (arith, ints, high, high2) }

within-max : (b : ℕ) (y z : ℤ) → IsWithin b y → IsWithin b z → IsWithin b (int_max y z)
within-max b y z one two =
    let low = one.low in let high = one.high in let low2 = two.low in let high2 = two.high in
    record { low = omega (arith, ints, clamps, low, low2); high = omega (arith, ints, clamps, high, high2) }

pub either_way : {X : Type 0} (P : X → Type 0) (b : Bool) (x y : X) → P x → P y → P (cond b x y)
either_way P true x y h k = h
either_way P false x y h k = k

-- how large the best values are
pub best-within : (price ends : ℕ → ℤ) (b q : ℕ) → ((v : ℕ) → IsWithin b (ends v)) → (n : ℕ) (arcs : List TypeArc) → ((k : ℕ) → n ≤ k → k < n + length arcs → IsWithin q (price k)) → (v : ℕ) → IsWithin (b + length arcs * q) (best_from price ends n arcs v)
best-within price ends b q last n [] prices v = within-more b (b + length {A = TypeArc} [] * q) (ends v) (omega arith) (last v)
best-within price ends b q last n (e ∷ arcs) prices v =
    let more : b + length arcs * q ≤ b + length (e ∷ arcs) * q = omega arith in
    let rest : (k : ℕ) → suc n ≤ k → k < suc n + length arcs → IsWithin q (price k) = λ k low high. prices k (omega (arith, low)) (omega (arith, high)) in
    let here = best-within price ends b q last (suc n) arcs rest v in
    let there = best-within price ends b q last (suc n) arcs rest e.head in
    let first = prices n (omega arith) (omega arith) in
    let through : IsWithin (b + length (e ∷ arcs) * q) (price n +ℤ best_from price ends (suc n) arcs e.head) =
    within-more (q + (b + length arcs * q)) (b + length (e ∷ arcs) * q) (price n +ℤ best_from price ends (suc n) arcs e.head) (omega arith) (within-sum q (b + length arcs * q) (price n) (best_from price ends (suc n) arcs e.head) first there) in
    let stays = within-more (b + length arcs * q) (b + length (e ∷ arcs) * q) (best_from price ends (suc n) arcs v) more here in
    either_way (IsWithin (b + length (e ∷ arcs) * q)) (e.tail == v) (int_max (best_from price ends (suc n) arcs v) (price n +ℤ best_from price ends (suc n) arcs e.head)) (best_from price ends (suc n) arcs v)
    (within-max (b + length (e ∷ arcs) * q) (best_from price ends (suc n) arcs v) (price n +ℤ best_from price ends (suc n) arcs e.head) stays through)
    stays

item-small : (items : List ℕ) → All (λ x. x ≤ MAX_PRICE) items → (k : ℕ) → get_or items k 0 ≤ MAX_PRICE
item-small items small k = ⊎_elim
    (λ (lt : k < length items). small k 0 lt)
    (λ (ge : length items ≤ k). let past : get_or items k 0 ≡ 0 = get_or_past items k 0 ge in omega (arith, past))
    (cases_lt k (length items))

own-small : (own : List ℤ) → All (λ x. unsigned_abs x ≤ MAX_PRICE) own → (k : ℕ) → IsWithin MAX_PRICE (get_or own k (pos 0))
own-small own small k = ⊎_elim
    (λ (lt : k < length own). within-abs MAX_PRICE (get_or own k (pos 0)) (small k (pos 0) lt))
    (λ (ge : length own ≤ k). let past : get_or own k (pos 0) ≡ pos 0 = get_or_past own k (pos 0) ge in rw past (record { low = omega (arith, ints); high = omega (arith, ints) }))
    (cases_lt k (length own))

pub carried-small : (items : List ℕ) → All (λ x. x ≤ MAX_PRICE) items → (e : TypeArc) → carried_in items e ≤ MAX_PRICE
carried-small items small e = either_way (λ (n : ℕ). n ≤ MAX_PRICE) (e.item == 0) 0 (get_or items (e.item - 1) 0) (omega arith) (item-small items small (e.item - 1))

-- how large the price of an arc is
pub price-within : (items : List ℕ) (own : List ℤ) (arcs : List TypeArc) → All (λ x. x ≤ MAX_PRICE) items → All (λ x. unsigned_abs x ≤ MAX_PRICE) own → (k : ℕ) → IsWithin (2 ^ 63) (price_on items own arcs k)
price-within items own arcs small owns k =
    let one = own-small own owns k in
    let low = one.low in
    let high = one.high in
    let two = carried-small items small (get_or arcs k no_arc) in
    record { low = omega (arith, ints, low, two); high = omega (arith, ints, high, two) }

abs-within : (b : ℕ) (z : ℤ) → IsWithin b z → unsigned_abs z ≤ b
abs-within b (pos n) is = let high = is.high in omega (arith, ints, high)
abs-within b (negsuc n) is = let low = is.low in omega (arith, ints, low)

pub within-kept : (z : ℤ) → IsWithin (2 ^ 126) z → to_z w128 (of_z w128 z) ≡ z
within-kept z is = to_z-of_z w128 z (fits_signed_from_abs w128 z (let h = abs-within (2 ^ 126) z is in omega (arith, h)))

-- a price of an arc's own, as the code hands it on
pub own-handed : (own : List ℤ) → All (λ x. unsigned_abs x ≤ MAX_PRICE) own → (k : ℕ) → to_z w64 (of_z w64 (get_or own k (pos 0))) ≡ get_or own k (pos 0)
own-handed own owns k = to_z-of_z w64 (get_or own k (pos 0)) (fits_signed_from_abs w64 (get_or own k (pos 0)) (let h = abs-within MAX_PRICE (get_or own k (pos 0)) (own-small own owns k) in omega (arith, h)))

-- the best values of an extended row
pub more-best : (price : ℕ → ℤ) (ends : List ℤ) (arcs : List TypeArc) (k : ℕ) (d : TypeArc) (values : List ℤ) (x : ℤ) → k < length arcs → (get_or arcs k d).tail < length values → (get_or arcs k d).head < length values → AreBest price ends (suc k) (drop (suc k) arcs) values → x ≡ int_max (get_or values (get_or arcs k d).tail (pos 0)) (price k +ℤ get_or values (get_or arcs k d).head (pos 0)) → AreBest price ends k (drop k arcs) (set values (get_or arcs k d).tail x)
more-best price ends arcs k d values x within tail head are is =
    let e : TypeArc = get_or arcs k d in
    let rest : List TypeArc = drop (suc k) arcs in
    let last : ℕ → ℤ = λ (w : ℕ). get_or ends w (pos 0) in
    let wide : length (set values e.tail x) ≡ length values = length-set values e.tail x in
    let size = are.size in
    let best : ℕ → ℤ = best_from price last (suc k) rest in
    record {
      size = wide ∙ size;
      each = λ v low.
          let stands : v < length values = omega (arith, low, wide) in
          subst (λ (row : List TypeArc). get_or (set values e.tail x) v (pos 0) ≡ best_from price last k row v) (sym (drop-cons arcs k d within))
          (⊎_elim
          (λ (same : e.tail ≡ v).
          let own : get_or (set values e.tail x) v (pos 0) ≡ x = ap (λ (w : ℕ). get_or (set values e.tail x) w (pos 0)) (sym same) ∙ get_or-set_same values e.tail x (pos 0) tail in
          let here : get_or values e.tail (pos 0) ≡ best v = are.each e.tail tail ∙ ap best same in
          let there : get_or values e.head (pos 0) ≡ best e.head = are.each e.head head in
          let most : x ≡ int_max (best v) (price k +ℤ best e.head) = is ∙ (λ i. int_max (here i) (price k +ℤ there i)) in
          own ∙ most ∙ sym (ap (λ (b : Bool). cond b (int_max (best v) (price k +ℤ best e.head)) (best v)) (eq-eqb e.tail v same)))
          (λ apart.
          let other : v ≡ e.tail → ⊥ = λ h. apart (sym h) in
          get_or-set_other values e.tail v x (pos 0) other ∙ are.each v stands ∙ sym (ap (λ (b : Bool). cond b (int_max (best v) (price k +ℤ best e.head)) (best v)) (ne_eqb e.tail v apart)))
          (cases_eq e.tail v));
    }

-- before the first step each value is that of the node itself
pub best-start : (price : ℕ → ℤ) (arcs : List TypeArc) (n : ℕ) (ends : List ℤ) → length arcs ≤ n → AreBest price ends n (drop n arcs) ends
best-start price arcs n ends past = subst (λ (row : List TypeArc). AreBest price ends n row ends) (sym (drop_all n arcs past)) (record { size = refl; each = λ v low. refl })

module _ (arcs : List TypeArc) (items : List ℕ) (own ends : List ℤ) (are : AreArcs (length ends) (length items) arcs) (few : length arcs ≤ MAX_ARCS) (small : All (λ x. x ≤ MAX_PRICE) items) (owns : All (λ x. unsigned_abs x ≤ MAX_PRICE) own) (last : AreWithin (2 ^ 100) ends) where
  pub values-within : (n : ℕ) (values : List ℤ) → AreBest (price_on items own arcs) ends n (drop n arcs) values → (v : ℕ) → v < length values → IsWithin (2 ^ 101) (get_or values v (pos 0))
  values-within n values best v low =
      let short : length (drop n arcs) ≤ MAX_ARCS = omega (arith, length-drop n arcs, few) in
      let whole = best-within (price_on items own arcs) (λ w. get_or ends w (pos 0)) (2 ^ 100) (2 ^ 63) last n (drop n arcs) (λ k from to. price-within items own arcs small owns k) v in
      let room : 2 ^ 100 + length (drop n arcs) * 2 ^ 63 ≤ 2 ^ 101 = omega (arith, short) in
      subst (IsWithin (2 ^ 101)) (sym (best.each v low)) (within-more (2 ^ 100 + length (drop n arcs) * 2 ^ 63) (2 ^ 101) (best_from (price_on items own arcs) (λ w. get_or ends w (pos 0)) n (drop n arcs) v) room whole)

  pub all-within : (n : ℕ) (values : List ℤ) → AreBest (price_on items own arcs) ends n (drop n arcs) values → AreWithin (2 ^ 101) values
  all-within n values best v = ⊎_elim
      (λ (lt : v < length values). values-within n values best v lt)
      (λ (ge : length values ≤ v). let past : get_or values v (pos 0) ≡ pos 0 = get_or_past values v (pos 0) ge in rw past (record { low = omega (arith, ints); high = omega (arith, ints) }))
      (cases_lt v (length values))

  pub price-is : (k : ℕ) (p : ℤ) → p ≡ to_z w64 (of_z w64 (get_or own k (pos 0))) +ℤ pos (carried_in items (get_or arcs k no_arc)) → p ≡ price_on items own arcs k
  price-is k p is = is ∙ ap (λ z. z +ℤ pos (carried_in items (get_or arcs k no_arc))) (own-handed own owns k)

  sum-within : (k : ℕ) (n : ℕ) (values : List ℤ) → AreBest (price_on items own arcs) ends n (drop n arcs) values → (v : ℕ) → v < length values → IsWithin (2 ^ 126) (price_on items own arcs k +ℤ get_or values v (pos 0))
  sum-within k n values best v low = within-more (2 ^ 63 + 2 ^ 101) (2 ^ 126) (price_on items own arcs k +ℤ get_or values v (pos 0)) (omega arith) (within-sum (2 ^ 63) (2 ^ 101) (price_on items own arcs k) (get_or values v (pos 0)) (price-within items own arcs small owns k) (values-within n values best v low))

  value-kept : (n : ℕ) (values : List ℤ) → AreBest (price_on items own arcs) ends n (drop n arcs) values → (v : ℕ) → v < length values → to_z w128 (of_z w128 (get_or values v (pos 0))) ≡ get_or values v (pos 0)
  value-kept n values best v low = within-kept (get_or values v (pos 0)) (within-more (2 ^ 101) (2 ^ 126) (get_or values v (pos 0)) (omega arith) (values-within n values best v low))

  price-kept : (k : ℕ) → to_z w128 (of_z w128 (price_on items own arcs k)) ≡ price_on items own arcs k
  price-kept k = within-kept (price_on items own arcs k) (within-more (2 ^ 63) (2 ^ 126) (price_on items own arcs k) (omega arith) (price-within items own arcs small owns k))

  -- the sum of an arc's price and the value of a node, as the code takes it
  pub sum-is : (k : ℕ) (n : ℕ) (values : List ℤ) (v : ℕ) (p : ℤ) → AreBest (price_on items own arcs) ends n (drop n arcs) values → v < length values → p ≡ price_on items own arcs k → to_z w128 (of_z w128 p) +ℤ to_z w128 (of_z w128 (get_or values v (pos 0))) ≡ price_on items own arcs k +ℤ get_or values v (pos 0)
  sum-is k n values v p best low is = λ i. (ap (λ z. to_z w128 (of_z w128 z)) is ∙ price-kept k) i +ℤ value-kept n values best v low i

  pub sum-fits : (k : ℕ) (n : ℕ) (values : List ℤ) (v : ℕ) (p : ℤ) → AreBest (price_on items own arcs) ends n (drop n arcs) values → v < length values → p ≡ price_on items own arcs k → SFits w128 (to_z w128 (of_z w128 p) +ℤ to_z w128 (of_z w128 (get_or values v (pos 0))))
  sum-fits k n values v p best low is =
      let sum = price_on items own arcs k +ℤ get_or values v (pos 0) in
      let within = sum-within k n values best v low in
      subst (SFits w128) (sym (sum-is k n values v p best low is)) (fits_signed_from_abs w128 sum (let h = abs-within (2 ^ 126) sum within in omega (arith, h)))

  pub sum-kept : (k : ℕ) (n : ℕ) (values : List ℤ) (v : ℕ) (p : ℤ) → AreBest (price_on items own arcs) ends n (drop n arcs) values → v < length values → p ≡ price_on items own arcs k → to_z w128 (of_z w128 (to_z w128 (of_z w128 p) +ℤ to_z w128 (of_z w128 (get_or values v (pos 0))))) ≡ price_on items own arcs k +ℤ get_or values v (pos 0)
  sum-kept k n values v p best low is = ap (λ z. to_z w128 (of_z w128 z)) (sum-is k n values v p best low is) ∙ within-kept (price_on items own arcs k +ℤ get_or values v (pos 0)) (sum-within k n values best v low)

  pub tail-within : (k : ℕ) (n : ℕ) (values : List ℤ) → k < length arcs → AreBest (price_on items own arcs) ends n (drop n arcs) values → (get_or arcs k no_arc).tail < length values
  tail-within k n values within best = let rise = are.rise k no_arc within in let size = best.size in omega (arith, rise.1, rise.2, size)

  pub head-within : (k : ℕ) (n : ℕ) (values : List ℤ) → k < length arcs → AreBest (price_on items own arcs) ends n (drop n arcs) values → (get_or arcs k no_arc).head < length values
  head-within k n values within best = let rise = are.rise k no_arc within in let size = best.size in omega (arith, rise.2, size)

  -- one step of the loop, as the code takes it
  pub one-more : (k : ℕ) (values : List ℤ) (p m : ℤ) → k < length arcs → AreBest (price_on items own arcs) ends (suc k) (drop (suc k) arcs) values → p ≡ price_on items own arcs k
      → m ≡ int_max (to_z w128 (of_z w128 (get_or values (get_or arcs k no_arc).tail (pos 0)))) (to_z w128 (of_z w128 (to_z w128 (of_z w128 p) +ℤ to_z w128 (of_z w128 (get_or values (get_or arcs k no_arc).head (pos 0))))))
      → AreBest (price_on items own arcs) ends k (drop k arcs) (set values (get_or arcs k no_arc).tail (to_z w128 (of_z w128 m)))
  one-more k values p m within best is most =
      let e : TypeArc = get_or arcs k no_arc in
      let tail = tail-within k (suc k) values within best in
      let head = head-within k (suc k) values within best in
      let here : ℤ = get_or values e.tail (pos 0) in
      let there : ℤ = price_on items own arcs k +ℤ get_or values e.head (pos 0) in
      let clean : m ≡ int_max here there = most ∙ (λ i. int_max (value-kept (suc k) values best e.tail tail i) (sum-kept k (suc k) values e.head p best head is i)) in
      let wide : IsWithin (2 ^ 126) (int_max here there) = within-max (2 ^ 126) here there (within-more (2 ^ 101) (2 ^ 126) here (omega arith) (values-within (suc k) values best e.tail tail)) (sum-within k (suc k) values best e.head head) in
      let kept : to_z w128 (of_z w128 m) ≡ int_max here there = ap (λ z. to_z w128 (of_z w128 z)) clean ∙ within-kept (int_max here there) wide in
      more-best (price_on items own arcs) ends arcs k no_arc values (to_z w128 (of_z w128 m)) within tail head best kept

-- the test that an arc goes on, as the code makes it
pub goes-test : (own : ℤ) (carried : ℕ) (values : List ℤ) (tail head node : ℕ) (left p : ℤ) → unsigned_abs own ≤ MAX_PRICE → SFits w128 left → AreWithin (2 ^ 101) values → IsWithin (2 ^ 63) p → p ≡ to_z w64 (of_z w64 own) +ℤ pos carried → tail ≡ node
    → (IsTrue (nat_eq (of_z w128 left) (of_z w128 (to_z w128 (of_z w128 p) +ℤ to_z w128 (of_z w128 (get_or values head (pos 0)))))) → (tail ≡ node) × (left ≡ (own +ℤ pos carried) +ℤ get_or values head (pos 0)))
    × ((tail ≡ node) × (left ≡ (own +ℤ pos carried) +ℤ get_or values head (pos 0)) → IsTrue (nat_eq (of_z w128 left) (of_z w128 (to_z w128 (of_z w128 p) +ℤ to_z w128 (of_z w128 (get_or values head (pos 0)))))))
goes-test own carried values tail head node left p small fits values_in p_in is same =
    let there : ℤ = get_or values head (pos 0) in
    let kept : to_z w64 (of_z w64 own) ≡ own = to_z-of_z w64 own (fits_signed_from_abs w64 own (omega (arith, small))) in
    let plain : p ≡ own +ℤ pos carried = is ∙ ap (λ z. z +ℤ pos carried) kept in
    let one : to_z w128 (of_z w128 p) ≡ p = within-kept p (within-more (2 ^ 63) (2 ^ 126) p (omega arith) p_in) in
    let two : to_z w128 (of_z w128 there) ≡ there = within-kept there (within-more (2 ^ 101) (2 ^ 126) there (omega arith) (values_in head)) in
    let sum : to_z w128 (of_z w128 p) +ℤ to_z w128 (of_z w128 there) ≡ (own +ℤ pos carried) +ℤ there = λ i. (one ∙ plain) i +ℤ two i in
    let both : IsWithin (2 ^ 126) (p +ℤ there) = within-more (2 ^ 63 + 2 ^ 101) (2 ^ 126) (p +ℤ there) (omega arith) (within-sum (2 ^ 63) (2 ^ 101) p there p_in (values_in head)) in
    let wide : IsWithin (2 ^ 126) ((own +ℤ pos carried) +ℤ there) = subst (IsWithin (2 ^ 126)) (ap (λ z. z +ℤ there) plain) both in
    let whole : to_z w128 (of_z w128 ((own +ℤ pos carried) +ℤ there)) ≡ (own +ℤ pos carried) +ℤ there = within-kept ((own +ℤ pos carried) +ℤ there) wide in (
      λ test.
          let bits : of_z w128 left ≡ of_z w128 (to_z w128 (of_z w128 p) +ℤ to_z w128 (of_z w128 there)) = eqb-true (of_z w128 left) (of_z w128 (to_z w128 (of_z w128 p) +ℤ to_z w128 (of_z w128 there))) test in
          (same, sym (to_z-of_z w128 left fits) ∙ ap (to_z w128) (bits ∙ ap (of_z w128) sum) ∙ whole),
      λ pair. eq-eqb (of_z w128 left) (of_z w128 (to_z w128 (of_z w128 p) +ℤ to_z w128 (of_z w128 there))) (ap (of_z w128) (pair.1 ∙ sym sum)),
    )

-- a value, as the code hands it on
pub value-handed : (values : List ℤ) → AreWithin (2 ^ 101) values → (v : ℕ) → to_z w128 (of_z w128 (get_or values v (pos 0))) ≡ get_or values v (pos 0)
value-handed values are v = within-kept (get_or values v (pos 0)) (within-more (2 ^ 101) (2 ^ 126) (get_or values v (pos 0)) (omega arith) (are v))
