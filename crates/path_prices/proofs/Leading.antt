-- Ways over arcs in a row, and what the best of them are worth.
use Rattle.std.proofs.Common.{◌≡◌, ◌⊎◌, inl, inr, ℕ, zero, suc, ◌+◌, ◌*◌, ◌<◌, ◌≤◌, Bool, true, false, cond, ◌==◌, ℤ, pos, ◌+ℤ◌, ◌≤ℤ◌, List, [], ◌∷◌, ◌++◌, length, drop, get_or, refl, sym, ap, ◌∙◌, subst, ⊎_elim, arith}
use Rattle.std.specs.Prelude.{All}
use Rattle.std.specs.Int.{int_max}
use Rattle.std.proofs.lemmas.Int.{ints, clamps, by_lt_z}
use Rattle.std.proofs.lemmas.Bool.{cases_eq, eq-eqb, ne_eqb}
use Rattle.std.proofs.lemmas.List.Elements.{All-head, All-tail}
use Rattle.flow_graph.specs.declared.parts.TypeArc.{TypeArc}
use Rattle.flow_model.specs.Prices.{way_price}
use Rattle.path_prices.specs.inner.Tables.{IsWithin}
use Rattle.path_prices.specs.inner.Passes.{Leads, best_from, no_arc}
use Rattle.path_prices.proofs.BestWays.{within-more, within-sum}

pub way_price-append : (price : ℕ → ℤ) (xs ys : List ℕ) → way_price price (xs ++ ys) ≡ way_price price xs +ℤ way_price price ys
way_price-append price [] ys = omega (arith, ints)
way_price-append price (x ∷ xs) ys = let rest = way_price-append price xs ys in omega (arith, ints, rest)

-- the same prices give the same best values
pub best-shift : (price other ends : ℕ → ℤ) (n m : ℕ) (arcs : List TypeArc) → ((k : ℕ) → k < length arcs → price (n + k) ≡ other (m + k)) → (v : ℕ) → best_from price ends n arcs v ≡ best_from other ends m arcs v
best-shift price other ends n m [] same v = refl
best-shift price other ends n m (e ∷ arcs) same v =
    let more : (k : ℕ) → k < length arcs → price (suc n + k) ≡ other (suc m + k) = λ k low.
    let a : suc n + k ≡ n + suc k = omega arith in
    let b : m + suc k ≡ suc m + k = omega arith in
    ap price a ∙ same (suc k) (omega (arith, low)) ∙ ap other b in
    let here = best-shift price other ends (suc n) (suc m) arcs more v in
    let there = best-shift price other ends (suc n) (suc m) arcs more e.head in
    let a : n ≡ n + 0 = omega arith in
    let b : m + 0 ≡ m = omega arith in
    let first : price n ≡ other m = ap price a ∙ same 0 (omega arith) ∙ ap other b in
    λ i. cond (e.tail == v) (int_max (here i) (first i +ℤ there i)) (here i)

-- arcs out of lower nodes change nothing
pub best-skip : (price ends : ℕ → ℤ) (n : ℕ) (arcs : List TypeArc) (v j : ℕ) → ((k : ℕ) → k < j → k < length arcs → (get_or arcs k no_arc).tail < v) → best_from price ends n arcs v ≡ best_from price ends (n + j) (drop j arcs) v
best-skip price ends n [] v zero lower = refl
best-skip price ends n [] v (suc j) lower = refl
best-skip price ends n (e ∷ arcs) v zero lower = let same : n ≡ n + 0 = omega arith in ap (λ (m : ℕ). best_from price ends m (e ∷ arcs) v) same
best-skip price ends n (e ∷ arcs) v (suc j) lower =
    let first : e.tail < v = lower 0 (omega arith) (omega arith) in
    let other : e.tail ≡ v → ⊥ = λ h. omega (arith, h, first) in
    let rest = best-skip price ends (suc n) arcs v j (λ k low within. lower (suc k) (omega (arith, low)) (omega (arith, within))) in
    let same : suc n + j ≡ n + suc j = omega arith in
    ap (λ (b : Bool). cond b (int_max (best_from price ends (suc n) arcs v) (price n +ℤ best_from price ends (suc n) arcs e.head)) (best_from price ends (suc n) arcs v)) (ne_eqb e.tail v other) ∙ rest ∙ ap (λ (m : ℕ). best_from price ends m (drop j arcs) v) same

-- no way is worth more than the best
pub leads-most : (price ends : ℕ → ℤ) (arcs : List TypeArc) (n v w : ℕ) (numbers : List ℕ) → Leads arcs n v w numbers → (way_price price numbers +ℤ ends w) ≤ℤ best_from price ends n arcs v
leads-most price ends [] n v w numbers leads =
    let none : way_price price numbers ≡ pos 0 = ap (way_price price) leads.0 in
    let same : ends v ≡ ends w = ap ends leads.1 in
    omega (arith, ints, none, same)
leads-most price ends (e ∷ arcs) n v w numbers leads = ⊎_elim
    (λ past.
    let rest = leads-most price ends arcs (suc n) v w numbers past in
    let low : best_from price ends (suc n) arcs v ≤ℤ best_from price ends n (e ∷ arcs) v = stays (e.tail == v) (best_from price ends (suc n) arcs v) (price n +ℤ best_from price ends (suc n) arcs e.head) in
    omega (arith, ints, rest, low))
    (λ over.
    let rest = leads-most price ends arcs (suc n) e.head w over.0 over.3 in
    let parts : way_price price numbers ≡ price n +ℤ way_price price over.0 = ap (way_price price) over.1 in
    let low : (price n +ℤ best_from price ends (suc n) arcs e.head) ≤ℤ best_from price ends n (e ∷ arcs) v = goes (e.tail == v) (best_from price ends (suc n) arcs v) (price n +ℤ best_from price ends (suc n) arcs e.head) (eq-eqb e.tail v over.2) in
    omega (arith, ints, rest, parts, low))
    leads
  where
    stays : (b : Bool) (x y : ℤ) → x ≤ℤ cond b (int_max x y) x
    stays true x y = omega (arith, ints, clamps)
    stays false x y = omega (arith, ints)

    goes : (b : Bool) (x y : ℤ) → b ≡ true → y ≤ℤ cond b (int_max x y) x
    goes b x y h = rw h (omega (arith, ints, clamps))

-- the way that a best value is that of
pub record IsBestWay (price ends : ℕ → ℤ) (arcs : List TypeArc) (n v : ℕ) : Type 0 where
  pub last : ℕ
  pub numbers : List ℕ
  pub leads : Leads arcs n v last numbers
  pub worth : way_price price numbers +ℤ ends last ≡ best_from price ends n arcs v

pub max-is : (x y : ℤ) → (int_max x y ≡ x) ⊎ (int_max x y ≡ y)
max-is x y = grind (arith, ints)

pub best-way : (price ends : ℕ → ℤ) (arcs : List TypeArc) (n v : ℕ) → IsBestWay price ends arcs n v
best-way price ends [] n v = record { last = v; numbers = []; leads = (refl, refl); worth = omega (arith, ints) }
best-way price ends (e ∷ arcs) n v =
    let here : ℤ = best_from price ends (suc n) arcs v in
    let there : ℤ = price n +ℤ best_from price ends (suc n) arcs e.head in
    let one = best-way price ends arcs (suc n) v in
    let two = best-way price ends arcs (suc n) e.head in
    let stay : best_from price ends n (e ∷ arcs) v ≡ here → IsBestWay price ends (e ∷ arcs) n v = λ is. record { last = one.last; numbers = one.numbers; leads = inl one.leads; worth = one.worth ∙ sym is } in
    ⊎_elim
    (λ (same : e.tail ≡ v).
    let value : best_from price ends n (e ∷ arcs) v ≡ int_max here there = ap (λ (b : Bool). cond b (int_max here there) here) (eq-eqb e.tail v same) in
    ⊎_elim
    (λ is. stay (value ∙ is))
    (λ is.
    let sum : way_price price (n ∷ two.numbers) +ℤ ends two.last ≡ there = let worth = two.worth in omega (arith, ints, worth) in
    record { last = two.last; numbers = n ∷ two.numbers; leads = inr (two.numbers, refl, same, two.leads); worth = sum ∙ sym (value ∙ is) })
    (max-is here there))
    (λ apart. stay (ap (λ (b : Bool). cond b (int_max here there) here) (ne_eqb e.tail v apart)))
    (cases_eq e.tail v)

-- how large the price of a way is
pub leads-within : (price : ℕ → ℤ) (q : ℕ) (arcs : List TypeArc) (n v w : ℕ) (numbers : List ℕ) → ((k : ℕ) → n ≤ k → k < n + length arcs → IsWithin q (price k)) → Leads arcs n v w numbers → IsWithin (length arcs * q) (way_price price numbers)
leads-within price q [] n v w numbers prices leads = rw leads.0 (record { low = omega (arith, ints); high = omega (arith, ints) })
leads-within price q (e ∷ arcs) n v w numbers prices leads =
    let rest : (k : ℕ) → suc n ≤ k → k < suc n + length arcs → IsWithin q (price k) = λ k low high. prices k (omega (arith, low)) (omega (arith, high)) in
    ⊎_elim
    (λ past. within-more (length arcs * q) (length (e ∷ arcs) * q) (way_price price numbers) (omega arith) (leads-within price q arcs (suc n) v w numbers rest past))
    (λ over.
    let sum = within-sum q (length arcs * q) (price n) (way_price price over.0) (prices n (omega arith) (omega arith)) (leads-within price q arcs (suc n) e.head w over.0 rest over.3) in
    subst (λ (ns : List ℕ). IsWithin (length (e ∷ arcs) * q) (way_price price ns)) (sym over.1) (within-more (q + length arcs * q) (length (e ∷ arcs) * q) (price n +ℤ way_price price over.0) (omega arith) sum))
    leads

-- where a way ends
pub leads-last : (m : ℕ) (arcs : List TypeArc) (n v w : ℕ) (numbers : List ℕ) → All (λ e. e.head ≤ m) arcs → v ≤ m → Leads arcs n v w numbers → w ≤ m
leads-last m [] n v w numbers low first leads = subst (λ (u : ℕ). u ≤ m) leads.1 first
leads-last m (e ∷ arcs) n v w numbers low first leads =
    let rest = All-tail (λ (e : TypeArc). e.head ≤ m) e arcs low in
    ⊎_elim
    (λ past. leads-last m arcs (suc n) v w numbers rest first past)
    (λ over. leads-last m arcs (suc n) e.head w over.0 rest (All-head (λ (e : TypeArc). e.head ≤ m) e arcs low) over.3)
    leads

-- of two nodes: no way leads from one to the other, or one that no other exceeds
pub record IsDearest (price : ℕ → ℤ) (arcs : List TypeArc) (n v w : ℕ) : Type 0 where
  pub numbers : List ℕ
  pub leads : Leads arcs n v w numbers
  pub most : (other : List ℕ) → Leads arcs n v w other → way_price price other ≤ℤ way_price price numbers

pub dearest : (price : ℕ → ℤ) (arcs : List TypeArc) (n v w : ℕ) → ((numbers : List ℕ) → Leads arcs n v w numbers → ⊥) ⊎ IsDearest price arcs n v w
dearest price [] n v w = ⊎_elim
    (λ same. inr (record { numbers = []; leads = (refl, same); most = λ other leads. let none : way_price price other ≡ pos 0 = ap (way_price price) leads.0 in omega (arith, ints, none) }))
    (λ apart. inl (λ numbers leads. apart leads.1))
    (cases_eq v w)
dearest price (e ∷ arcs) n v w = ⊎_elim
    (λ (same : e.tail ≡ v). ⊎_elim
    (λ no_past. ⊎_elim
    (λ no_over. inl (λ numbers leads. ⊎_elim (λ past. no_past numbers past) (λ over. no_over over.0 over.3) leads))
    (λ over. inr (goes same over (λ other past. absurd (no_past other past))))
    (dearest price arcs (suc n) e.head w))
    (λ past. ⊎_elim
    (λ no_over. inr (stays past (λ other over. absurd (no_over over.0 over.3))))
    (λ over. ⊎_elim
    (λ up. inr (goes same over (λ other way. let most = past.most other way in omega (arith, ints, most, up))))
    (λ down. inr (stays past (λ other way. let most = over.most way.0 way.3 in let parts : way_price price other ≡ price n +ℤ way_price price way.0 = ap (way_price price) way.1 in omega (arith, ints, most, down, parts))))
    (order (way_price price past.numbers) (price n +ℤ way_price price over.numbers)))
    (dearest price arcs (suc n) e.head w))
    (dearest price arcs (suc n) v w))
    (λ apart. ⊎_elim
    (λ no_past. inl (λ numbers leads. ⊎_elim (λ past. no_past numbers past) (λ over. apart over.2) leads))
    (λ past. inr (stays past (λ other over. absurd (apart over.2))))
    (dearest price arcs (suc n) v w))
    (cases_eq e.tail v)
  where
    order : (x y : ℤ) → (x ≤ℤ y) ⊎ (y ≤ℤ x)
    order x y = by_lt_z x y (λ lt. inl (omega (arith, ints, lt))) (λ ge. inr ge)

    stays : (past : IsDearest price arcs (suc n) v w) → ((other : List ℕ) → ((rest : List ℕ) × (other ≡ n ∷ rest) × (e.tail ≡ v) × Leads arcs (suc n) e.head w rest) → way_price price other ≤ℤ way_price price past.numbers) → IsDearest price (e ∷ arcs) n v w
    stays past more = record { numbers = past.numbers; leads = inl past.leads; most = λ other leads. ⊎_elim (λ way. past.most other way) (λ way. more other way) leads }

    goes : e.tail ≡ v → (over : IsDearest price arcs (suc n) e.head w) → ((other : List ℕ) → Leads arcs (suc n) v w other → way_price price other ≤ℤ (price n +ℤ way_price price over.numbers)) → IsDearest price (e ∷ arcs) n v w
    goes same over more = record {
      numbers = n ∷ over.numbers;
      leads = inr (over.numbers, refl, same, over.leads);
      most = λ other leads. ⊎_elim
          (λ way. more other way)
          (λ way. let most = over.most way.0 way.3 in let parts : way_price price other ≡ price n +ℤ way_price price way.0 = ap (way_price price) way.1 in omega (arith, ints, most, parts))
          leads;
    }
