-- What the prices of items are worth: no more than what the arcs that carry these items are priced for it.
use Rattle.std.proofs.Common.{◌≡◌, ℕ, zero, suc, ◌+◌, ◌-◌, ◌*◌, ◌≤◌, ◌<◌, Bool, true, false, cond, ◌==◌, List, [], ◌∷◌, get_or, refl, sym, ap, ◌∙◌, ⊎_elim, arith, All, Some, sum_by}
use Rattle.std.specs.Prelude.{AllPairs}
use Rattle.std.proofs.Math.Nat.{mul-le-mul_right}
use Rattle.std.proofs.lemmas.Bool.{cases_eq, eq-eqb, ne_eqb, cond-true, cond-false}
use Rattle.std.proofs.lemmas.List.Elements.{All-head, All-tail}
use Rattle.std.proofs.lemmas.List.Sums.{sum_by-cons}
use Rattle.cert_text.specs.declared.lines.ItemPrice.{ItemPrice}
use Rattle.cert_text.specs.declared.lines.Prices.{Prices}
use Rattle.flow_graph.specs.declared.parts.ArcKind.{ArcKind}
use Rattle.flow_graph.specs.declared.parts.ArcKind.TheVariants.{Bin, Loss, Piece}
use Rattle.flow_model.specs.Flows.{carries, weigh_arcs}
use Rattle.flow_model.proofs.Ways.{one_if}
use Rattle.path_prices.specs.Gains.{carried_price, item_price_in}

-- of strictly ascending numbers the first is below the others, and the others ascend
pub first_below : {X : Type 0} (R : X → X → Type 0) (x : X) (xs : List X) → AllPairs R (x ∷ xs) → All (R x) xs
first_below R x xs order k d within = order zero (suc k) d (omega arith) (omega (arith, within))

pub others_ascend : {X : Type 0} (R : X → X → Type 0) (x : X) (xs : List X) → AllPairs R (x ∷ xs) → AllPairs R xs
others_ascend R x xs order i j d less within = order (suc i) (suc j) d (omega (arith, less)) (omega (arith, within))

pub weigh_sum : (f h : ArcKind → ℕ) (kinds : List ArcKind) (values : List ℕ) → weigh_arcs (λ kind. f kind + h kind) kinds values ≡ weigh_arcs f kinds values + weigh_arcs h kinds values
weigh_sum f h [] values = refl
weigh_sum f h (kind ∷ kinds) [] = refl
weigh_sum f h (kind ∷ kinds) (x ∷ values) = let rest = weigh_sum f h kinds values in omega (arith, rest)

pub weigh_times : (c : ℕ) (f : ArcKind → ℕ) (kinds : List ArcKind) (values : List ℕ) → weigh_arcs (λ kind. c * f kind) kinds values ≡ c * weigh_arcs f kinds values
weigh_times c f [] values = omega arith
weigh_times c f (kind ∷ kinds) [] = omega arith
weigh_times c f (kind ∷ kinds) (x ∷ values) = let rest = weigh_times c f kinds values in omega (arith, rest)

weigh_alike : (f h : ArcKind → ℕ) → ((kind : ArcKind) → f kind ≡ h kind) → (kinds : List ArcKind) (values : List ℕ) → weigh_arcs f kinds values ≡ weigh_arcs h kinds values
weigh_alike f h same kinds values = λ k. weigh_arcs (λ kind. same kind k) kinds values

times_unit : (c : ℕ) (b : Bool) → cond b c 0 ≡ c * cond b 1 0
times_unit c true = omega arith
times_unit c false = omega arith

weigh_unit : (c : ℕ) (test : ArcKind → Bool) (kinds : List ArcKind) (values : List ℕ) → weigh_arcs (λ kind. cond (test kind) c 0) kinds values ≡ c * weigh_arcs (one_if test) kinds values
weigh_unit c test kinds values = weigh_alike (λ kind. cond (test kind) c 0) (λ kind. c * one_if test kind) (λ kind. times_unit c (test kind)) kinds values ∙ weigh_times c (one_if test) kinds values

-- items ascend
abbrev pub ItemBefore : ItemPrice → ItemPrice → Type 0
ItemBefore x y = x.item < y.item

item_not_listed : (xs : List ItemPrice) (i : ℕ) → All (λ x. i < x.item) xs → item_price_in xs i ≡ 0
item_not_listed [] i above = refl
item_not_listed (x ∷ xs) i above =
    let here = All-head (λ (y : ItemPrice). i < y.item) x xs above in
    cond-false (x.item == i) x.price (item_price_in xs i) (ne_eqb x.item i (λ e. omega (arith, e, here)))
    ∙ item_not_listed xs i (All-tail (λ (y : ItemPrice). i < y.item) x xs above)

-- the price of what an arc carries
abbrev pub unit_price : List ItemPrice → ArcKind → ℕ
unit_price xs (Bin t) = 0
unit_price xs (Loss t tail head) = 0
unit_price xs (Piece t tail head item form) = item_price_in xs item

pub carried_is : (p : Prices) (kind : ArcKind) → carried_price p (Some kind) ≡ unit_price p.items kind
carried_is p (Bin t) = refl
carried_is p (Loss t tail head) = refl
carried_is p (Piece t tail head item form) = refl

item_price_parts : (x : ItemPrice) (xs : List ItemPrice) → AllPairs ItemBefore (x ∷ xs) → (i : ℕ) → item_price_in (x ∷ xs) i ≡ cond (i == x.item) x.price 0 + item_price_in xs i
item_price_parts x xs order i = ⊎_elim
    (λ same.
    let own : item_price_in (x ∷ xs) i ≡ x.price = cond-true (x.item == i) x.price (item_price_in xs i) (eq-eqb x.item i same) in
    let one : cond {A = ℕ} (i == x.item) x.price 0 ≡ x.price = cond-true (i == x.item) x.price 0 (eq-eqb i x.item (sym same)) in
    let none : item_price_in xs i ≡ 0 = ap (item_price_in xs) (sym same) ∙ item_not_listed xs x.item (first_below ItemBefore x xs order) in
    omega (arith, own, one, none))
    (λ apart.
    let own : item_price_in (x ∷ xs) i ≡ item_price_in xs i = cond-false (x.item == i) x.price (item_price_in xs i) (ne_eqb x.item i apart) in
    let one : cond {A = ℕ} (i == x.item) x.price 0 ≡ 0 = cond-false (i == x.item) x.price 0 (ne_eqb i x.item (λ e. apart (sym e))) in
    omega (arith, own, one))
    (cases_eq x.item i)

unit_price_parts : (x : ItemPrice) (xs : List ItemPrice) → AllPairs ItemBefore (x ∷ xs) → (kind : ArcKind) → unit_price (x ∷ xs) kind ≡ cond (carries x.item kind) x.price 0 + unit_price xs kind
unit_price_parts x xs order (Bin t) = refl
unit_price_parts x xs order (Loss t tail head) = refl
unit_price_parts x xs order (Piece t tail head item form) = item_price_parts x xs order item

module _ (scale : ℕ) (demands : List ℕ) (kinds : List ArcKind) (values : List ℕ) where
  -- what a listed item is asked for, so many times over, is carried
  abbrev pub IsCarried : ItemPrice → Type 0
  IsCarried x = scale * get_or demands (x.item - 1) 0 ≤ weigh_arcs (one_if (carries x.item)) kinds values

  abbrev worth : ItemPrice → ℕ
  worth x = get_or demands (x.item - 1) 0 * x.price

  pub items_carried : (xs : List ItemPrice) → AllPairs ItemBefore xs → All IsCarried xs → scale * sum_by worth xs ≤ weigh_arcs (unit_price xs) kinds values
  items_carried [] order all = omega arith
  items_carried (x ∷ xs) order all =
      let rest = items_carried xs (others_ascend ItemBefore x xs order) (All-tail IsCarried x xs all) in
      let own : IsCarried x = All-head IsCarried x xs all in
      let sum : sum_by worth (x ∷ xs) ≡ worth x + sum_by worth xs = sum_by-cons worth x xs in
      let parts = weigh_alike (unit_price (x ∷ xs)) (λ kind. cond (carries x.item kind) x.price 0 + unit_price xs kind) (unit_price_parts x xs order) kinds values in
      let both = weigh_sum (λ kind. cond (carries x.item kind) x.price 0) (unit_price xs) kinds values in
      let unit = weigh_unit x.price (carries x.item) kinds values in
      let first : scale * get_or demands (x.item - 1) 0 * x.price ≤ weigh_arcs (one_if (carries x.item)) kinds values * x.price = mul-le-mul_right x.price own in
      let whole : scale * sum_by worth (x ∷ xs) ≡ scale * (worth x + sum_by worth xs) = ap (λ n. scale * n) sum in
      omega (arith, rest, parts, both, unit, first, whole)
