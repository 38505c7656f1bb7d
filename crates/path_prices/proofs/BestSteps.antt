-- How a best way is followed, arc by arc.
use Rattle.std.proofs.Common.{◌≡◌, inl, inr, ℕ, suc, ◌+◌, ◌-◌, ◌<◌, ◌≤◌, Bool, cond, ◌==◌, ℤ, pos, ◌+ℤ◌, List, [], ◌∷◌, ◌++◌, length, drop, get_or, refl, sym, ap, ◌∙◌, subst, ⊎_elim, arith, drop-cons, append_assoc, append-nil}
use Rattle.std.specs.Int.{int_max}
use Rattle.std.proofs.lemmas.Int.{ints}
use Rattle.std.proofs.lemmas.Bool.{cases_lt, cases_eq, eq-eqb, ne_eqb}
use Rattle.std.proofs.lemmas.List.{drop_all}
use Rattle.flow_graph.specs.declared.parts.TypeArc.{TypeArc}
use Rattle.flow_model.specs.Prices.{way_price}
use Rattle.path_prices.specs.inner.Passes.{AreArcs, ArePricesFrom, HoldsBest, IsBestOf, Leads, best_from, ends_at, no_arc, price_on}
use Rattle.path_prices.proofs.Leading.{best-skip, max-is, way_price-append}

-- before the arc at a place: the numbers so far lead to a node, and what is left is the best from there on
pub record IsOnBest (items : List ℕ) (own : List ℤ) (arcs : List TypeArc) (values : List ℤ) (first index node : ℕ) (left : ℤ) (numbers : List ℕ) : Type 0 where
  pub leads : (w : ℕ) (rest : List ℕ) → Leads (drop index arcs) (first + index) node w rest → Leads arcs first 1 w (numbers ++ rest)
  pub sum : (price : ℕ → ℤ) → ArePricesFrom price first items own arcs → HoldsBest price (length values - 1) first arcs values → way_price price numbers +ℤ left ≡ get_or values 1 (pos 0)
  pub best : (price : ℕ → ℤ) → ArePricesFrom price first items own arcs → HoldsBest price (length values - 1) first arcs values → left ≡ best_from price (ends_at (length values - 1)) (first + index) (drop index arcs) node

module _ (items : List ℕ) (own : List ℤ) (arcs : List TypeArc) (values : List ℤ) (first k : ℕ) (are : AreArcs (length values) (length items) arcs) (within : k < length arcs) where
  -- the value of the head is the best from there on over the arcs behind
  head-best : (price : ℕ → ℤ) → HoldsBest price (length values - 1) first arcs values → get_or values (get_or arcs k no_arc).head (pos 0) ≡ best_from price (ends_at (length values - 1)) (suc (first + k)) (drop (suc k) arcs) (get_or arcs k no_arc).head
  head-best price holds =
      let e : TypeArc = get_or arcs k no_arc in
      let rise = are.rise k no_arc within in
      let lower : (i : ℕ) → i < suc k → i < length arcs → (get_or arcs i no_arc).tail < e.head = λ i low inside. ⊎_elim
      (λ (lt : i < k). let before : (get_or arcs i no_arc).tail ≤ e.tail = are.order i k no_arc lt within in omega (arith, before, rise.1))
      (λ (ge : k ≤ i). let same : i ≡ k = omega (arith, ge, low) in let equal : (get_or arcs i no_arc).tail ≡ e.tail = ap (λ (j : ℕ). (get_or arcs j no_arc).tail) same in omega (arith, equal, rise.1))
      (cases_lt i k) in
      let next : first + suc k ≡ suc (first + k) = omega arith in
      holds e.head rise.2 ∙ best-skip price (ends_at (length values - 1)) first arcs e.head (suc k) lower ∙ ap (λ (n : ℕ). best_from price (ends_at (length values - 1)) n (drop (suc k) arcs) e.head) next

  -- a way over the arcs behind
  behind : (node w : ℕ) (rest : List ℕ) → Leads (drop (k + 1) arcs) (first + (k + 1)) node w rest → Leads (drop (suc k) arcs) (suc (first + k)) node w rest
  behind node w rest way =
      let one : k + 1 ≡ suc k = omega arith in
      let two : first + suc k ≡ suc (first + k) = omega arith in
      subst (λ (n : ℕ). Leads (drop (suc k) arcs) n node w rest) two (subst (λ (m : ℕ). Leads (drop m arcs) (first + m) node w rest) one way)

  best-behind : (price : ℕ → ℤ) (node : ℕ) → best_from price (ends_at (length values - 1)) (suc (first + k)) (drop (suc k) arcs) node ≡ best_from price (ends_at (length values - 1)) (first + (k + 1)) (drop (k + 1) arcs) node
  best-behind price node =
      let one : suc k ≡ k + 1 = omega arith in
      let two : suc (first + k) ≡ first + suc k = omega arith in
      ap (λ (n : ℕ). best_from price (ends_at (length values - 1)) n (drop (suc k) arcs) node) two ∙ ap (λ (m : ℕ). best_from price (ends_at (length values - 1)) (first + m) (drop m arcs) node) one

  -- the arc at the place, put before those behind
  with-arc : (P : List TypeArc → Type 0) → P (get_or arcs k no_arc ∷ drop (suc k) arcs) → P (drop k arcs)
  with-arc P h = subst P (sym (drop-cons arcs k no_arc within)) h

  -- the arc is left out
  pub pass-by : (node : ℕ) (left : ℤ) (numbers : List ℕ) → IsOnBest items own arcs values first k node left numbers → (((get_or arcs k no_arc).tail ≡ node) × (left ≡ price_on items own arcs k +ℤ get_or values (get_or arcs k no_arc).head (pos 0)) → ⊥) → IsOnBest items own arcs values first (k + 1) node left numbers
  pass-by node left numbers on not_over = record {
    leads = λ w rest way. on.leads w rest (with-arc (λ row. Leads row (first + k) node w rest) (inl (behind node w rest way)));
    sum = on.sum;
    best = λ price prices holds.
        let e : TypeArc = get_or arcs k no_arc in
        let best : ℕ → ℤ = best_from price (ends_at (length values - 1)) (suc (first + k)) (drop (suc k) arcs) in
        let there : ℤ = price (first + k) +ℤ best e.head in
        let whole : left ≡ cond (e.tail == node) (int_max (best node) there) (best node) = on.best price prices holds ∙ ap (λ (row : List TypeArc). best_from price (ends_at (length values - 1)) (first + k) row node) (drop-cons arcs k no_arc within) in
        let stays : left ≡ best node = ⊎_elim
        (λ (same : e.tail ≡ node).
        let most : left ≡ int_max (best node) there = whole ∙ ap (λ (b : Bool). cond b (int_max (best node) there) (best node)) (eq-eqb e.tail node same) in
        ⊎_elim
        (λ is. most ∙ is)
        (λ is.
        let over : left ≡ price_on items own arcs k +ℤ get_or values e.head (pos 0) = most ∙ is ∙ (λ i. prices k within i +ℤ sym (head-best price holds) i) in
        absurd (not_over (same, over)))
        (max-is (best node) there))
        (λ apart. whole ∙ ap (λ (b : Bool). cond b (int_max (best node) there) (best node)) (ne_eqb e.tail node apart))
        (cases_eq e.tail node) in
        stays ∙ best-behind price node;
  }

  -- the arc is taken
  pub go-on : (node : ℕ) (left : ℤ) (numbers : List ℕ) → IsOnBest items own arcs values first k node left numbers → (get_or arcs k no_arc).tail ≡ node → left ≡ price_on items own arcs k +ℤ get_or values (get_or arcs k no_arc).head (pos 0) → IsOnBest items own arcs values first (k + 1) (get_or arcs k no_arc).head (get_or values (get_or arcs k no_arc).head (pos 0)) (numbers ++ (first + k) ∷ [])
  go-on node left numbers on tail over = record {
    leads = λ w rest way.
        let e : TypeArc = get_or arcs k no_arc in
        subst (Leads arcs first 1 w) (sym (append_assoc numbers ((first + k) ∷ []) rest))
        (on.leads w ((first + k) ∷ rest) (with-arc (λ row. Leads row (first + k) node w ((first + k) ∷ rest)) (inr (rest, refl, tail, behind e.head w rest way))));
    sum = λ price prices holds.
        let before = on.sum price prices holds in
        let here = prices k within in
        let more = way_price-append price numbers ((first + k) ∷ []) in
        omega (arith, ints, before, here, more, over);
    best = λ price prices holds. head-best price holds ∙ best-behind price (get_or arcs k no_arc).head;
  }

-- behind the last arc
pub best-found : (items : List ℕ) (own : List ℤ) (arcs : List TypeArc) (values : List ℤ) (first index node : ℕ) (left : ℤ) (numbers : List ℕ) → length arcs ≤ index → IsOnBest items own arcs values first index node left numbers → (price : ℕ → ℤ) → ArePricesFrom price first items own arcs → HoldsBest price (length values - 1) first arcs values → IsBestOf price (length values - 1) first arcs (get_or values 1 (pos 0)) numbers
best-found items own arcs values first index node left numbers past on price prices holds =
    let none = drop_all index arcs past in
    let end : left ≡ ends_at (length values - 1) node = on.best price prices holds ∙ ap (λ (row : List TypeArc). best_from price (ends_at (length values - 1)) (first + index) row node) none in
    let sum = on.sum price prices holds in
    record {
      last = node;
      leads = subst (Leads arcs first 1 node) (append-nil numbers) (on.leads node [] (subst (λ (row : List TypeArc). Leads row (first + index) node node []) (sym none) (refl, refl)));
      sum = ap (λ z. way_price price numbers +ℤ z) (sym end) ∙ sum;
    }
