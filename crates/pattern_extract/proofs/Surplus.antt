-- What a flow carries of each item, and how much of it is surplus.
use Rattle.std.proofs.Common.{◌≡◌, ◌≢◌, ℕ, zero, suc, ◌+◌, ◌-◌, ◌*◌, ◌^◌, ◌<◌, ◌≤◌, Bool, true, false, cond, ◌==◌, List, [], ◌∷◌, length, get_or, set, map, drop, refl, sym, ap, ◌∙◌, subst, ⊎_elim, arith, All}
use Rattle.std.specs.Prelude.{Option, Some, None}
use Rattle.std.proofs.lemmas.Bool.{cases_lt, cases_eq, eq-eqb}
use Rattle.std.proofs.lemmas.List.{get_or_past, get_or-map, drop_more, drop_all, get_or-set_same, get_or-set_other}
use Rattle.std.proofs.lemmas.List.Sums.{sum_by-le}
use Rattle.std.proofs.lemmas.List.Elements.{All-contains}
use Rattle.std.proofs.lemmas.Option.{slice_get-get_or}
use Rattle.std.proofs.Math.Nat.{mul-le-mul_right}
use Rattle.arc_num.specs.declared.TheConstants.{MAX_ITEMS, MAX_DEMAND, MAX_UNITS, MAX_NUMBERED}
use Rattle.packing_laws.specs.declared.instances.Item.{Item}
use Rattle.packing_laws.specs.Instances.{InstanceValue, IsInstance, IsAmong, item_at, units_of, type_at}
use Rattle.packing_laws.specs.Packings.{Exists}
use Rattle.flow_graph.specs.declared.parts.TypeArc.{TypeArc}
use Rattle.flow_graph.specs.declared.parts.ArcKind.{ArcKind}
use Rattle.flow_graph.specs.declared.parts.ArcKind.TheVariants.{Bin, Loss, Piece}
use Rattle.flow_graph.specs.Arcs.{TypeValue, IsFlowGraph, flow_type, numbered}
use Rattle.flow_graph.specs.Faithful.{GraphOf, unit_of}
use Rattle.flow_graph.proofs.Numbers.{few_numbered}
use Rattle.flow_model.specs.Boxes.{limited, upper_of, root_range, root_ranges}
use Rattle.flow_model.specs.Flows.{IsFlow, carries, weigh_arcs}
use Rattle.pattern_extract.specs.inner.Walks.{weigh}
use Rattle.pattern_extract.specs.Trims.{surplus_at}
use Rattle.pattern_extract.specs.Extracts.{NamesItem}
use Rattle.pattern_extract.proofs.Weights.{weigh_arcs-weigh}
use Rattle.flow_graph.specs.Laws.{IsKindAt, is_bin, is_arc}
use Rattle.flow_graph.proofs.ArcKinds.{among_list}
use Rattle.pattern_extract.proofs.Places.{place_weight, one_if, kind_there}

pub limited-most : (n : ℕ) (limit : Option ℕ) → limited n limit ≤ n
limited-most n None = omega arith
limited-most n (Some q) = omega arith

pub upper-most : (I : InstanceValue) (kind : ArcKind) → upper_of I kind ≤ units_of I
upper-most I (Bin t) = limited-most (units_of I) (type_at I t).limit
upper-most I (Loss t tail head) = omega arith
upper-most I (Piece t tail head item form) = omega arith

pub units-small : (I : InstanceValue) → IsInstance I → units_of I ≤ MAX_UNITS
units-small I is =
    let most = sum_by-le (λ (x : Item). x.demand) MAX_DEMAND I.items (λ k d within. (is.items k d within).demand) in
    let few : length I.items * MAX_DEMAND ≤ MAX_ITEMS * MAX_DEMAND = mul-le-mul_right MAX_DEMAND is.item_count in
    omega (arith, most, few)

-- the value of an arc is at most its upper bound
pub value-most : (I : InstanceValue) (g : List TypeValue) (values : List ℕ) → IsFlow I g values → (k : ℕ) → k < length (numbered g) → get_or values k 0 ≤ upper_of I (get_or (numbered g) k (Bin 0))
value-most I g values flow k within =
    let place : k + 1 - 1 ≡ k = omega arith in
    let bound = flow.bounds (k + 1) (omega arith, omega (arith, within)) in
    let here : get_or values k 0 ≤ (get_or (root_ranges I g) k (0, 0)).1 = subst (λ (i : ℕ). get_or values i 0 ≤ (get_or (root_ranges I g) i (0, 0)).1) place bound.1 in
    let range = get_or-map (root_range I) (numbered g) k (Bin 0) (0, 0) within in
    subst (λ (r : ℕ × ℕ). get_or values k 0 ≤ r.1) range here

pub value-small : (I : InstanceValue) (g : List TypeValue) (values : List ℕ) → IsInstance I → IsFlow I g values → (k : ℕ) → get_or values k 0 ≤ MAX_UNITS
value-small I g values is flow k =
    ⊎_elim
    (λ within.
    let most = value-most I g values flow k within in
    let upper = upper-most I (get_or (numbered g) k (Bin 0)) in
    let units = units-small I is in
    omega (arith, most, upper, units))
    (λ past. let none = get_or_past values k 0 (let size = flow.size in omega (arith, past, size)) in omega (arith, none))
    (cases_lt k (length (numbered g)))

-- a sum of small values
pub weigh-most : (m : ℕ) (f : ℕ → ℕ) (xs : List ℕ) → ((k : ℕ) → f k ≤ 1) → ((k : ℕ) → get_or xs k 0 ≤ m) → weigh f xs ≤ length xs * m
weigh-most m f [] one small = omega arith
weigh-most m f (x ∷ xs) one small =
    let rest : weigh (λ k. f (suc k)) xs ≤ length xs * m = weigh-most m (λ k. f (suc k)) xs (λ k. one (suc k)) (λ k. small (suc k)) in
    let first : x ≤ m = small 0 in
    let times : f 0 * x ≤ 1 * x = mul-le-mul_right x (one 0) in
    let split : (1 + length xs) * m ≡ m + length xs * m = omega arith in
    let long : suc (length xs) * m ≡ (1 + length xs) * m = ap (λ (n : ℕ). n * m) (omega arith) in
    omega (arith, rest, first, times, split, long)

pub one-most : (b : Bool) → cond {A = ℕ} b 1 0 ≤ 1
one-most true = omega arith
one-most false = omega arith

pub place-most : (test : ArcKind → Bool) (kinds : List ArcKind) (k : ℕ) → get_or (map (one_if test) kinds) k 0 ≤ 1
place-most test [] k = omega arith
place-most test (kind ∷ kinds) zero = one-most (test kind)
place-most test (kind ∷ kinds) (suc k) = place-most test kinds k

pub total-small : (I : InstanceValue) (g : List TypeValue) (values : List ℕ) (test : ArcKind → Bool) → IsInstance I → IsFlowGraph g → IsFlow I g values → weigh_arcs (one_if test) (numbered g) values < 2 ^ 64
total-small I g values test is graph flow =
    let same = weigh_arcs-weigh (one_if test) (numbered g) values in
    let most = weigh-most MAX_UNITS (place_weight (one_if test) g) values (place-most test (numbered g)) (value-small I g values is flow) in
    let few = few_numbered g graph in
    let size = flow.size in
    let short : length values ≤ MAX_NUMBERED = omega (arith, few, size) in
    let bound : length values * MAX_UNITS ≤ MAX_NUMBERED * MAX_UNITS = mul-le-mul_right MAX_UNITS short in
    omega (arith, same, most, bound)

-- the arcs carry items that exist
pub either_names : (m : ℕ) (b : Bool) (t tail head item form : ℕ) → ((item ≡ 0 → ⊥) → IsAmong item m) → (b ≡ (item == 0)) → NamesItem m (cond b (Loss t tail head) (Piece t tail head item form))
either_names m true t tail head item form some is = tt
either_names m false t tail head item form some is = some (λ e. let bad : false ≡ true = is ∙ eq-eqb item 0 e in cc)

pub item-named : (I : InstanceValue) (g : List TypeValue) (k : ℕ) (kind : ArcKind) → GraphOf I g → IsKindAt g (suc k) kind → NamesItem (length I.items) kind
item-named I g k kind of (is_bin t among place same) = subst (NamesItem (length I.items)) (sym same) tt
item-named I g k kind of (is_arc t among j e at place same) =
    let own = of.exists (t - 1) (record { nodes = 1; arcs = [] }) (omega (arith, among.0, among.1)) in
    let exists : 1 ≤ e.item → Exists I (unit_of e) = All-contains (λ (f : TypeArc). 1 ≤ f.item → Exists I (unit_of f)) (flow_type g t).arcs e own (among_list (flow_type g t).arcs j e at) in
    subst (NamesItem (length I.items)) (sym same) (either_names (length I.items) (e.item == 0) t e.tail e.head e.item e.form (λ some. (exists (omega (arith, some))).item) refl)

pub items-named : (I : InstanceValue) (g : List TypeValue) → GraphOf I g → All (NamesItem (length I.items)) (numbered g)
items-named I g of k d within = item-named I g k (get_or (numbered g) k d) of (kind_there g k (get_or (numbered g) k d) (slice_get-get_or (numbered g) k d within))

-- one more arc of the row
pub row-more : (f : ArcKind → ℕ) (row : List ArcKind) (values : List ℕ) (n : ℕ) → length values ≡ length row → n < length row → weigh_arcs f (drop n row) (drop n values) ≡ f (get_or row n (Bin 0)) * get_or values n 0 + weigh_arcs f (drop (n + 1) row) (drop (n + 1) values)
row-more f row values n size within =
    let kinds = drop_more row n (Bin 0) within in
    let numbers = drop_more values n 0 (omega (arith, within, size)) in
    ap (λ (ks : List ArcKind). weigh_arcs f ks (drop n values)) kinds ∙ ap (λ (vs : List ℕ). weigh_arcs f (get_or row n (Bin 0) ∷ drop (n + 1) row) vs) numbers

pub row-end : (f : ArcKind → ℕ) (row : List ArcKind) (values : List ℕ) (n : ℕ) → length row ≤ n → weigh_arcs f (drop n row) (drop n values) ≡ 0
row-end f row values n end = ap (λ (ks : List ArcKind). weigh_arcs f ks (drop n values)) (drop_all n row end)

-- what is carried is the demand and the surplus, for the items so far
pub record IsSurplusSoFar (I : InstanceValue) (total : ℕ → ℕ) (n : ℕ) (surplus : List ℕ) : Type 0 where
  pub done : (i : ℕ) → IsAmong i (length I.items) → i ≤ n → total i ≡ (item_at I i).demand + surplus_at surplus i
  pub rest : (i : ℕ) → IsAmong i (length I.items) → n < i → total i ≡ surplus_at surplus i

pub surplus-more : (I : InstanceValue) (total : ℕ → ℕ) (n : ℕ) (surplus : List ℕ) (demand : ℕ) → IsSurplusSoFar I total n surplus → length surplus ≡ length I.items → n < length I.items → demand ≡ (item_at I (n + 1)).demand → demand ≤ get_or surplus n 0 → IsSurplusSoFar I total (n + 1) (set surplus n (get_or surplus n 0 - demand))
surplus-more I total n surplus demand sofar size within is most =
    let next : List ℕ = set surplus n (get_or surplus n 0 - demand) in
    let e : n + 1 - 1 ≡ n = omega arith in
    let value : get_or next n 0 ≡ get_or surplus n 0 - demand = get_or-set_same surplus n (get_or surplus n 0 - demand) 0 (omega (arith, within, size)) in
    let others : (i : ℕ) → i ≢ n + 1 → 1 ≤ i → surplus_at next i ≡ surplus_at surplus i = λ i other low. get_or-set_other surplus n (i - 1) (get_or surplus n 0 - demand) 0 (λ same. other (omega (arith, same, low))) in
    record {
      done = λ i among low. ⊎_elim
          (λ here.
          let before : total (n + 1) ≡ surplus_at surplus (n + 1) = sofar.rest (n + 1) (omega arith, omega (arith, within)) (omega arith) in
          let old : surplus_at surplus (n + 1) ≡ get_or surplus n 0 = ap (λ (k : ℕ). get_or surplus k 0) e in
          let new : surplus_at next (n + 1) ≡ get_or next n 0 = ap (λ (k : ℕ). get_or next k 0) e in
          subst (λ (j : ℕ). total j ≡ (item_at I j).demand + surplus_at next j) (sym here) (omega (arith, before, old, new, value, most, is)))
          (λ other. let before = sofar.done i among (omega (arith, other, low)) in let same = others i other among.0 in omega (arith, before, same))
          (cases_eq i (n + 1));
      rest = λ i among high. let before = sofar.rest i among (omega (arith, high)) in let same = others i (λ here. omega (arith, here, high)) among.0 in omega (arith, before, same);
    }

-- what comes of the arc at a place fits
pub units-fit : (row : List ArcKind) (values : List ℕ) (n i have : ℕ) → length values ≡ length row → n < length row → have + weigh_arcs (one_if (carries i)) (drop n row) (drop n values) ≡ weigh_arcs (one_if (carries i)) row values → weigh_arcs (one_if (carries i)) row values < 2 ^ 64 → have + one_if (carries i) (get_or row n (Bin 0)) * get_or values n 0 < 2 ^ 64
units-fit row values n i have size within all small =
    let more = row-more (one_if (carries i)) row values n size within in
    omega (arith, more, all, small)

pub units-next : (row : List ArcKind) (values : List ℕ) (n i have more : ℕ) → length values ≡ length row → n < length row → have + weigh_arcs (one_if (carries i)) (drop n row) (drop n values) ≡ weigh_arcs (one_if (carries i)) row values → more ≡ have + one_if (carries i) (get_or row n (Bin 0)) * get_or values n 0 → more + weigh_arcs (one_if (carries i)) (drop (n + 1) row) (drop (n + 1) values) ≡ weigh_arcs (one_if (carries i)) row values
units-next row values n i have more size within all is =
    let split = row-more (one_if (carries i)) row values n size within in
    omega (arith, split, all, is)

pub units-end : (row : List ArcKind) (values : List ℕ) (n i have : ℕ) → length row ≤ n → have + weigh_arcs (one_if (carries i)) (drop n row) (drop n values) ≡ weigh_arcs (one_if (carries i)) row values → have ≡ weigh_arcs (one_if (carries i)) row values
units-end row values n i have end all = let none = row-end (one_if (carries i)) row values n end in omega (arith, none, all)
