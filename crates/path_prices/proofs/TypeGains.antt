-- The gain of a type is what its source is worth, and what its bin arc costs.
use Rattle.std.proofs.Common.{◌≡◌, ℕ, suc, ◌+◌, ◌-◌, ◌*◌, ◌^◌, ◌<◌, ◌≤◌, Bool, true, false, cond, ◌==◌, ℤ, pos, ◌+ℤ◌, ◌-ℤ◌, to_z, of_z, w64, List, [], ◌∷◌, length, drop, get_or, slice_range, refl, sym, ap, ◌∙◌, subst, ⊎_elim, arith, length-drop}
use Rattle.std.specs.Prelude.{All, Some, unsigned_abs}
use Rattle.std.specs.Int.{int_max, w128}
use Rattle.std.proofs.lemmas.Int.{ints, to_z-of_z, fits_signed_from_abs}
use Rattle.std.proofs.lemmas.Bool.{cases_eq, eq-eqb, ne_eqb}
use Rattle.std.proofs.lemmas.List.Elements.{All-head, All-tail}
use Rattle.std.proofs.lemmas.List.{get_or-drop, get_or-take, length-take-le}
use Rattle.std.proofs.lemmas.List.Sums.{sum_by_more_le}
use Rattle.arc_num.specs.declared.TheConstants.{MAX_ARCS, MAX_PRICE}
use Rattle.packing_laws.specs.Instances.{IsAmong}
use Rattle.cert_text.specs.declared.lines.Prices.{Prices}
use Rattle.cert_text.specs.Lines.{ArePrices}
use Rattle.flow_graph.specs.declared.parts.TypeArc.{TypeArc}
use Rattle.flow_graph.specs.declared.parts.ArcKind.TheVariants.{Loss, Piece}
use Rattle.flow_graph.specs.Arcs.{TypeValue, IsFlowGraph, flow_type, first_arc, last_arc, arc_at, kind_of, numbered}
use Rattle.flow_graph.specs.Faithful.{IsNumberedPath}
use Rattle.flow_graph.proofs.Numbers.{length-numbered_from}
use Rattle.flow_graph.proofs.Places.{has_numbers}
use Rattle.flow_model.specs.Prices.{way_price}
use Rattle.path_prices.specs.Gains.{IsGain, arc_price_in, bin_price, carried_price, item_price_in, whole_price}
use Rattle.path_prices.specs.inner.Tables.{AreLaid, IsWithin}
use Rattle.path_prices.specs.inner.Passes.{ArePricesFrom, HoldsBest, HoldsTypeBest, IsBestOf, IsInRow, Leads, best_from, carried_in, ends_at, no_arc, price_on}
use Rattle.path_prices.proofs.BestWays.{within-kept, within-more}
use Rattle.path_prices.proofs.Leading.{best-shift, best-way, leads-most, leads-within}
use Rattle.path_prices.proofs.NumberedWays.{flow-type-is, kind-at, leads-path, path-leads, some-path}
use Rattle.path_prices.proofs.PriceSizes.{whole-within}

pub in-row : (g : List TypeValue) (t : ℕ) → IsAmong t (length g) → IsInRow g t
in-row g t among =
    let part = sum_by_more_le (λ (x : TypeValue). length x.arcs + 1) g (t - 1) (record { nodes = 1; arcs = [] }) (omega (arith, among.0, among.1)) in
    let long = length-numbered_from 1 g in
    record { low = omega arith; rise = omega arith; high = omega (arith, part, long) }

-- how long the part of a table is that is that of a type
pub part-size : (g : List TypeValue) (t : ℕ) (arcs : List ℤ) → IsInRow g t → length arcs ≡ length (numbered g) → length (slice_range arcs (first_arc g t) (last_arc g t)) ≡ length (flow_type g t).arcs
part-size g t arcs row size =
    let high = row.high in
    let rise = row.rise in
    let rest = length-drop (first_arc g t) arcs in
    let part = length-take-le (last_arc g t - first_arc g t) (drop (first_arc g t) arcs) (omega (arith, rest, high, rise, size)) in
    omega (arith, part)

-- the price of what an arc carries, in a table and in the row
carried-agrees : (p : Prices) (items : List ℕ) (t : ℕ) (e : TypeArc) → ((k : ℕ) → k < length items → get_or items k 0 ≡ item_price_in p.items (k + 1)) → e.item ≤ length items → carried_price p (Some (kind_of t e)) ≡ carried_in items e
carried-agrees p items t e holds most = ⊎_elim
    (λ (none : e.item ≡ 0).
    let test : (e.item == 0) ≡ true = eq-eqb e.item 0 none in
    ap (λ (b : Bool). carried_price p (Some (cond b (Loss t e.tail e.head) (Piece t e.tail e.head e.item e.form)))) test ∙ sym (ap (λ (b : Bool). cond b 0 (get_or items (e.item - 1) 0)) test))
    (λ some.
    let test : (e.item == 0) ≡ false = ne_eqb e.item 0 some in
    let low : e.item - 1 < length items = omega (arith, some, most) in
    let back : e.item - 1 + 1 ≡ e.item = omega (arith, some) in
    let price : get_or items (e.item - 1) 0 ≡ item_price_in p.items e.item = holds (e.item - 1) low ∙ ap (item_price_in p.items) back in
    ap (λ (b : Bool). carried_price p (Some (cond b (Loss t e.tail e.head) (Piece t e.tail e.head e.item e.form)))) test ∙ sym price ∙ sym (ap (λ (b : Bool). cond b 0 (get_or items (e.item - 1) 0)) test))
    (cases_eq e.item 0)

pub few-arcs : (g : List TypeValue) (t : ℕ) → IsFlowGraph g → IsAmong t (length g) → length (flow_type g t).arcs ≤ MAX_ARCS
few-arcs g t is among =
    let part = sum_by_more_le (λ (x : TypeValue). length x.arcs) g (t - 1) (record { nodes = 1; arcs = [] }) (omega (arith, among.0, among.1)) in
    let room = is.room in
    omega (arith, part, room)

module _ (g : List TypeValue) (t : ℕ) (is : IsFlowGraph g) (among : IsAmong t (length g)) (p : Prices) (are : ArePrices p) where
  -- the prices in the tables are those of the arcs by number
  pub prices-agree : (items : List ℕ) (arcs : List ℤ) → All (λ e. e.item ≤ length items) (flow_type g t).arcs → length arcs ≡ length (numbered g) → AreLaid p items arcs → ArePricesFrom (whole_price g p) (first_arc g t + 1) items (slice_range arcs (first_arc g t) (last_arc g t)) (flow_type g t).arcs
  prices-agree items arcs carry size laid k within =
      let row = in-row g t among in
      let own : get_or (slice_range arcs (first_arc g t) (last_arc g t)) k (pos 0) ≡ get_or arcs (first_arc g t + k) (pos 0) = get_or-take (last_arc g t - first_arc g t) (drop (first_arc g t) arcs) k (pos 0) (omega (arith, within)) ∙ get_or-drop (first_arc g t) arcs k (pos 0) in
      let place : first_arc g t + k + 1 ≡ first_arc g t + 1 + k = omega arith in
      let listed : get_or arcs (first_arc g t + k) (pos 0) ≡ arc_price_in p.arcs (first_arc g t + 1 + k) = laid.arcs_laid (first_arc g t + k) (let high = row.high in omega (arith, high, size, within)) ∙ ap (arc_price_in p.arcs) place in
      let kind = kind-at g t is among k within in
      let carried : carried_price p (arc_at g (first_arc g t + 1 + k)) ≡ carried_in items (get_or (flow_type g t).arcs k no_arc) = ap (carried_price p) kind ∙ carried-agrees p items t (get_or (flow_type g t).arcs k no_arc) laid.items_laid (carry k no_arc within) in
      λ i. sym (own ∙ listed) i +ℤ pos (carried i)

best-ends : (price ends other : ℕ → ℤ) (m n : ℕ) (arcs : List TypeArc) → All (λ e. e.head < m) arcs → ((w : ℕ) → w < m → ends w ≡ other w) → (v : ℕ) → v < m → best_from price ends n arcs v ≡ best_from price other n arcs v
best-ends price ends other m n [] heads same v low = same v low
best-ends price ends other m n (e ∷ arcs) heads same v low =
    let rest = All-tail (λ (e : TypeArc). e.head < m) e arcs heads in
    let here = best-ends price ends other m (suc n) arcs rest same v low in
    let there = best-ends price ends other m (suc n) arcs rest same e.head (All-head (λ (e : TypeArc). e.head < m) e arcs heads) in
    λ i. cond (e.tail == v) (int_max (here i) (price n +ℤ there i)) (here i)

module _ (g : List TypeValue) (t : ℕ) (is : IsFlowGraph g) (among : IsAmong t (length g)) (p : Prices) (are : ArePrices p) where
  -- what the passes leave in the table of values
  pub found-best : (items : List ℕ) (arcs own : List ℤ) (row : List TypeArc) (reset values : List ℤ) → All (λ e. e.item ≤ length items) (flow_type g t).arcs → length arcs ≡ length (numbered g) → AreLaid p items arcs → own ≡ slice_range arcs (first_arc g t) (last_arc g t) → row ≡ (flow_type g t).arcs → length reset ≡ (flow_type g t).nodes + 1 → length values ≡ length reset
      → ((v : ℕ) → v < length reset → get_or reset v (pos 0) ≡ ends_at (length reset - 1) v)
      → ((v : ℕ) → v < length values → get_or values v (pos 0) ≡ best_from (price_on items own row) (λ w. get_or reset w (pos 0)) 0 row v)
      → HoldsTypeBest g p t values
  found-best items arcs own row reset values carry size laid own_is row_is long same ends best v low =
      let type = flow-type-is g t is among in
      let whole : List TypeArc = (flow_type g t).arcs in
      let part : List ℤ = slice_range arcs (first_arc g t) (last_arc g t) in
      let last : ℕ → ℤ = λ (w : ℕ). get_or reset w (pos 0) in
      let agree = prices-agree g t is among p are items arcs carry size laid in
      let one : best_from (price_on items own row) last 0 row v ≡ best_from (price_on items part whole) last 0 whole v = λ i. best_from (price_on items (own_is i) (row_is i)) last 0 (row_is i) v in
      let two : best_from (price_on items part whole) last 0 whole v ≡ best_from (whole_price g p) last (first_arc g t + 1) whole v = best-shift (price_on items part whole) (whole_price g p) last 0 (first_arc g t + 1) whole (λ k within. ap (price_on items part whole) (omega arith) ∙ sym (agree k within)) v in
      let count : length reset - 1 ≡ (flow_type g t).nodes = omega (arith, long) in
      let three : best_from (whole_price g p) last (first_arc g t + 1) whole v ≡ best_from (whole_price g p) (ends_at (flow_type g t).nodes) (first_arc g t + 1) whole v = best-ends (whole_price g p) last (ends_at (flow_type g t).nodes) (length reset) (first_arc g t + 1) whole
      (λ k d within. let climbs = type.climbs k d within in omega (arith, climbs.2, long))
      (λ w below. ends w below ∙ ap (λ (n : ℕ). ends_at n w) count) v (omega (arith, low, same)) in
      best v low ∙ one ∙ two ∙ three

  -- no best way from the source ends anywhere but at the target
  target-last : (w : ℕ) (numbers : List ℕ) → Leads (flow_type g t).arcs (first_arc g t + 1) 1 w numbers → way_price (whole_price g p) numbers +ℤ ends_at (flow_type g t).nodes w ≡ best_from (whole_price g p) (ends_at (flow_type g t).nodes) (first_arc g t + 1) (flow_type g t).arcs 1 → w ≡ (flow_type g t).nodes
  target-last w numbers leads sum = ⊎_elim
      (λ same. same)
      (λ apart.
      let nodes : ℕ = (flow_type g t).nodes in
      let arcs : List TypeArc = (flow_type g t).arcs in
      let type = flow-type-is g t is among in
      let few : length arcs ≤ MAX_ARCS = few-arcs g t is among in
      let far : ends_at nodes w ≡ pos 0 -ℤ pos (2 ^ 100) = ap (λ (b : Bool). cond b (pos 0) (pos 0 -ℤ pos (2 ^ 100))) (ne_eqb w nodes apart) in
      let near : ends_at nodes nodes ≡ pos 0 = ap (λ (b : Bool). cond b (pos 0) (pos 0 -ℤ pos (2 ^ 100))) (eq-eqb nodes nodes refl) in
      let here = leads-within (whole_price g p) (2 ^ 63) arcs (first_arc g t + 1) 1 w numbers (λ k low high. whole-within g p are k) leads in
      let other = some-path g t is among in
      let way = leads-path g t is among other.0 other.1 in
      let there = leads-within (whole_price g p) (2 ^ 63) arcs (first_arc g t + 1) 1 nodes other.0 (λ k low high. whole-within g p are k) way in
      let most = leads-most (whole_price g p) (ends_at nodes) arcs (first_arc g t + 1) 1 nodes other.0 way in
      let high = here.high in
      let low = there.low in
      let size : length arcs * 2 ^ 63 ≤ 2 ^ 84 = omega (arith, few) in
      absurd (omega (arith, ints, sum, far, near, most, high, low, size)))
      (cases_eq w (flow_type g t).nodes)

  -- the value of the source
  source-is : (values : List ℤ) → 1 < length values → HoldsTypeBest g p t values → get_or values 1 (pos 0) ≡ best_from (whole_price g p) (ends_at (flow_type g t).nodes) (first_arc g t + 1) (flow_type g t).arcs 1
  source-is values source holds = holds 1 source

  at-target : ends_at (flow_type g t).nodes (flow_type g t).nodes ≡ pos 0
  at-target = ap (λ (b : Bool). cond b (pos 0) (pos 0 -ℤ pos (2 ^ 100))) (eq-eqb (flow_type g t).nodes (flow_type g t).nodes refl)

  pub gain-is : (values : List ℤ) → 1 < length values → HoldsTypeBest g p t values → IsGain g p t (whole_price g p (first_arc g t) +ℤ get_or values 1 (pos 0))
  gain-is values source holds =
      let nodes : ℕ = (flow_type g t).nodes in
      let arcs : List TypeArc = (flow_type g t).arcs in
      let value = source-is values source holds in
      let best = best-way (whole_price g p) (ends_at nodes) arcs (first_arc g t + 1) 1 in
      let worth = best.worth in
      let last : best.last ≡ nodes = target-last best.last best.numbers best.leads worth in
      let end : ends_at nodes best.last ≡ pos 0 = ap (ends_at nodes) last ∙ at-target in
      record {
        path = best.numbers;
        leads = path-leads g t is among best.numbers (subst (λ (w : ℕ). Leads arcs (first_arc g t + 1) 1 w best.numbers) last best.leads);
        price = omega (arith, ints, worth, end, value);
        greatest = λ numbers path.
            let most = leads-most (whole_price g p) (ends_at nodes) arcs (first_arc g t + 1) 1 nodes numbers (leads-path g t is among numbers path) in
            let near = at-target in
            omega (arith, ints, most, near, value);
      }

  -- the price of the bin arc, as it stands in the table
  pub bin-price-is : (items : List ℕ) (arcs : List ℤ) → length arcs ≡ length (numbered g) → AreLaid p items arcs → get_or arcs (first_arc g t - 1) (pos 0) ≡ whole_price g p (first_arc g t)
  bin-price-is items arcs size laid =
      let row = in-row g t among in
      let low = row.low in
      let rise = row.rise in
      let high = row.high in
      let back : first_arc g t - 1 + 1 ≡ first_arc g t = omega (arith, low) in
      let listed : get_or arcs (first_arc g t - 1) (pos 0) ≡ arc_price_in p.arcs (first_arc g t) = laid.arcs_laid (first_arc g t - 1) (omega (arith, low, rise, high, size)) ∙ ap (arc_price_in p.arcs) back in
      let none : carried_price p (arc_at g (first_arc g t)) ≡ 0 = ap (carried_price p) (has_numbers g t among).bin in
      omega (arith, ints, listed, none)

  -- a way that is worth as much as the source is a path of the greatest price
  pub best-path : (values : List ℤ) (numbers : List ℕ) → 1 < length values → HoldsTypeBest g p t values → IsBestOf (whole_price g p) (flow_type g t).nodes (first_arc g t + 1) (flow_type g t).arcs (get_or values 1 (pos 0)) numbers → IsNumberedPath g t numbers × IsGain g p t (bin_price g p t numbers)
  best-path values numbers source holds best =
      let nodes : ℕ = (flow_type g t).nodes in
      let sum = best.sum in
      let value = source-is values source holds in
      let last : best.last ≡ nodes = target-last best.last numbers best.leads (sum ∙ value) in
      let end : ends_at nodes best.last ≡ pos 0 = ap (ends_at nodes) last ∙ at-target in
      let same : whole_price g p (first_arc g t) +ℤ get_or values 1 (pos 0) ≡ bin_price g p t numbers = omega (arith, ints, sum, end) in
      (path-leads g t is among numbers (subst (λ (w : ℕ). Leads (flow_type g t).arcs (first_arc g t + 1) 1 w numbers) last best.leads), subst (IsGain g p t) same (gain-is values source holds))

-- the sum of the price of the bin arc and the value of the source, as the code takes it
pub sum-handed : (own value : ℤ) → unsigned_abs own ≤ MAX_PRICE → IsWithin (2 ^ 101) value → to_z w64 (of_z w64 own) +ℤ to_z w128 (of_z w128 value) ≡ own +ℤ value
sum-handed own value small within =
    let one : to_z w64 (of_z w64 own) ≡ own = to_z-of_z w64 own (fits_signed_from_abs w64 own (omega (arith, small))) in
    let two : to_z w128 (of_z w128 value) ≡ value = within-kept value (within-more (2 ^ 101) (2 ^ 126) value (omega arith) within) in
    λ i. one i +ℤ two i

-- the price of the bin arc in a table of small prices
pub bin-small : (g : List TypeValue) (t : ℕ) → IsAmong t (length g) → (arcs : List ℤ) → length arcs ≡ length (numbered g) → All (λ x. unsigned_abs x ≤ MAX_PRICE) arcs → unsigned_abs (get_or arcs (first_arc g t - 1) (pos 0)) ≤ MAX_PRICE
bin-small g t among arcs size small =
    let row = in-row g t among in
    let low = row.low in
    let rise = row.rise in
    let high = row.high in
    small (first_arc g t - 1) (pos 0) (omega (arith, low, rise, high, size))

-- the way that is pushed, in terms of the graph
pub laid-way : (g : List TypeValue) (t : ℕ) (is : IsFlowGraph g) (among : IsAmong t (length g)) (p : Prices) (are : ArePrices p) (items : List ℕ) (arcs own : List ℤ) (row : List TypeArc) (values : List ℤ) (bin : ℕ) (numbers : List ℕ) → All (λ e. e.item ≤ length items) (flow_type g t).arcs → length arcs ≡ length (numbered g) → AreLaid p items arcs → own ≡ slice_range arcs (first_arc g t) (last_arc g t) → row ≡ (flow_type g t).arcs → length values ≡ (flow_type g t).nodes + 1 → bin ≡ first_arc g t → HoldsTypeBest g p t values
    → ((price : ℕ → ℤ) → ArePricesFrom price (bin + 1) items own row → HoldsBest price (length values - 1) (bin + 1) row values → IsBestOf price (length values - 1) (bin + 1) row (get_or values 1 (pos 0)) numbers)
    → IsBestOf (whole_price g p) (flow_type g t).nodes (first_arc g t + 1) (flow_type g t).arcs (get_or values 1 (pos 0)) numbers
laid-way g t is among p are items arcs own row values bin numbers carry size laid own_is row_is count bin_is holds pushed =
    let whole : List TypeArc = (flow_type g t).arcs in
    let part : List ℤ = slice_range arcs (first_arc g t) (last_arc g t) in
    let n : length values - 1 ≡ (flow_type g t).nodes = omega (arith, count) in
    let agree = prices-agree g t is among p are items arcs carry size laid in
    let agree_here : ArePricesFrom (whole_price g p) (bin + 1) items own row = subst (λ (b : ℕ). ArePricesFrom (whole_price g p) (b + 1) items own row) (sym bin_is) (subst (λ (o : List ℤ). ArePricesFrom (whole_price g p) (first_arc g t + 1) items o row) (sym own_is) (subst (λ (r : List TypeArc). ArePricesFrom (whole_price g p) (first_arc g t + 1) items part r) (sym row_is) agree)) in
    let holds_here : HoldsBest (whole_price g p) (length values - 1) (bin + 1) row values = subst (λ (m : ℕ). HoldsBest (whole_price g p) m (bin + 1) row values) (sym n) (subst (λ (b : ℕ). HoldsBest (whole_price g p) (flow_type g t).nodes (b + 1) row values) (sym bin_is) (subst (λ (r : List TypeArc). HoldsBest (whole_price g p) (flow_type g t).nodes (first_arc g t + 1) r values) (sym row_is) holds)) in
    subst (λ (m : ℕ). IsBestOf (whole_price g p) m (first_arc g t + 1) whole (get_or values 1 (pos 0)) numbers) n
    (subst (λ (b : ℕ). IsBestOf (whole_price g p) (length values - 1) (b + 1) whole (get_or values 1 (pos 0)) numbers) bin_is
    (subst (λ (r : List TypeArc). IsBestOf (whole_price g p) (length values - 1) (bin + 1) r (get_or values 1 (pos 0)) numbers) row_is
    (pushed (whole_price g p) agree_here holds_here)))
