-- The dimension and the type from which the material bound comes, step by step.
use Rattle.std.proofs.Common.{zero, suc, ◌≡◌, ℕ, ◌+◌, ◌-◌, ◌*◌, ◌<◌, ◌≤◌, ◌∙◌, ◌⊎◌, inl, inr, List, [], ◌∷◌, length, map, filter, max, Bool, false, cond, nat_lt, slice_index, Option, Some, None, MatchOption, refl, sym, ap, subst, arith, get_or}
use Rattle.std.proofs.lemmas.Bool.{cases_eq, cases_lt, cond-false, le-ltb}
use Rattle.std.proofs.lemmas.List.{get_or_default}
use Rattle.std.proofs.Math.Nat.{mul-le-mul_right, mul-le-mul_left, le_of_mul-le-mul_right}
use Rattle.packing_laws.specs.declared.instances.BinType.{BinType}
use Rattle.packing_laws.specs.declared.sources.Offer.{Offer}
use Rattle.packing_laws.specs.Instances.{InstanceValue, IsAmong, type_at}
use Rattle.packing_laws.specs.Floors.{least_of, greatest_of, numbers_to, material_of, material_in, floor_in, room_in, div_up, IsGreatestFloor, IsBestType, IsFirstBestType}
use Rattle.packing_laws.specs.inner.Offers.{IsFirstOf, IsGreatestOf, IsOfferOf, HasMore, IsBetterOf, IsBestOf, AreOffers}

-- each value at 1 to n is at most the greatest
greatest_of-ge : (f : ℕ → ℕ) (n e : ℕ) → 1 ≤ e → e ≤ n → f e ≤ greatest_of (map f (numbers_to n))
greatest_of-ge f zero e low high = absurd (omega (arith, low, high))
greatest_of-ge f (suc n) e low high = elim (cases_eq e (suc n)) [
  | inl last ↦ let same : f e ≡ f (suc n) = ap f last in omega arith
  | inr other ↦ let before : f e ≤ greatest_of (map f (numbers_to n)) = greatest_of-ge f n e low (omega (arith, high, other)) in omega arith
]

-- no dimension yet
pub greatest-start : (I : InstanceValue) → IsGreatestOf I 0 0 None
greatest-start I = record { is = refl; found = refl }

greatest-next : (I : InstanceValue) (n greatest : ℕ) → greatest ≡ greatest_of (map (floor_in I) (numbers_to n)) → greatest_of (map (floor_in I) (numbers_to (suc n))) ≡ max (floor_in I (suc n)) greatest
greatest-next I n greatest is = ap (λ m. max (floor_in I (suc n)) m) (sym is)

-- the next dimension has a greater floor
pub greatest-more : (I : InstanceValue) (n d greatest floor : ℕ) (dim : Option ℕ) → d ≡ suc n → floor ≡ floor_in I d → greatest < floor → IsGreatestOf I n greatest dim → IsGreatestOf I d floor (Some d)
greatest-more I n d greatest floor dim next is more old =
    subst (λ m. IsGreatestOf I m floor (Some m)) (sym next)
    (let here : floor ≡ floor_in I (suc n) = is ∙ ap (floor_in I) next in
    let whole : greatest_of (map (floor_in I) (numbers_to (suc n))) ≡ max (floor_in I (suc n)) greatest = greatest-next I n greatest old.is in
    record {
      is = omega (arith, here, whole, more);
      found = record {
        dim = (omega arith, omega arith);
        some = omega (arith, more);
        floor = sym here;
        first = λ e among.
            let most : floor_in I e ≤ greatest_of (map (floor_in I) (numbers_to n)) = greatest_of-ge (floor_in I) n e among.0 (omega (arith, among.1)) in
            omega (arith, most, old.is, more);
      };
    })

wider-first : (I : InstanceValue) (n greatest : ℕ) (dim : Option ℕ) → MatchOption dim (greatest ≡ 0) (IsFirstOf I n greatest) → MatchOption dim (greatest ≡ 0) (IsFirstOf I (suc n) greatest)
wider-first I n greatest None found = found
wider-first I n greatest (Some d) found = record { dim = (found.dim.0, omega (arith, found.dim.1)); some = found.some; floor = found.floor; first = found.first }

-- the next dimension has none
pub greatest-same : (I : InstanceValue) (n d greatest floor : ℕ) (dim : Option ℕ) → d ≡ suc n → floor ≡ floor_in I d → floor ≤ greatest → IsGreatestOf I n greatest dim → IsGreatestOf I d greatest dim
greatest-same I n d greatest floor dim next is less old =
    subst (λ m. IsGreatestOf I m greatest dim) (sym next)
    (let here : floor ≡ floor_in I (suc n) = is ∙ ap (floor_in I) next in
    let whole : greatest_of (map (floor_in I) (numbers_to (suc n))) ≡ max (floor_in I (suc n)) greatest = greatest-next I n greatest old.is in
    record { is = omega (arith, here, whole, less); found = wider-first I n greatest dim old.found })

-- all dimensions
pub greatest-none : (I : InstanceValue) (n greatest : ℕ) → n ≡ I.dims → IsGreatestOf I n greatest None → material_of I ≡ 0
greatest-none I n greatest all old =
    ap (λ m. greatest_of (map (floor_in I) (numbers_to m))) (sym all) ∙ sym old.is ∙ old.found

pub greatest-some : (I : InstanceValue) (n greatest d : ℕ) → n ≡ I.dims → IsGreatestOf I n greatest (Some d) → IsGreatestFloor I d × (material_of I ≡ 0 → ⊥)
greatest-some I n greatest d all old =
    let whole : material_of I ≡ greatest = ap (λ m. greatest_of (map (floor_in I) (numbers_to m))) (sym all) ∙ sym old.is in (
      record {
        dim = subst (IsAmong d) all old.found.dim;
        greatest = old.found.floor ∙ sym whole;
        first = λ e among. let below : floor_in I e < greatest = old.found.first e among in omega (arith, below, old.found.floor);
      },
      (λ none. omega (arith, none, whole, old.found.some)),
    )

-- more room for its cost than the best of some others
above-best : (ru cu rb cb rx cx : ℕ) → 0 < rb → ru * cb ≤ rb * cu → rb * cx < rx * cb → ru * cx ≤ rx * cu
above-best ru cu rb cb rx cx some best more =
    let one : ru * (rb * cx) ≤ ru * (rx * cb) = mul-le-mul_left ru (omega (arith, more)) in
    let two : rx * (ru * cb) ≤ rx * (rb * cu) = mul-le-mul_left rx best in
    le_of_mul-le-mul_right {m = ru * cx} {n = rx * cu} {k = rb} (omega (arith, one, two)) some

far-above-best : (ru cu rb cb rx cx : ℕ) → 0 < rb → 0 < ru → ru * cb ≤ rb * cu → rb * cx < rx * cb → ru * cx < rx * cu
far-above-best ru cu rb cb rx cx some also best more = elim (cases_lt (ru * cx) (rx * cu)) [
  | inl below ↦ below
  | inr above ↦
      let one : ru * suc (rb * cx) ≤ ru * (rx * cb) = mul-le-mul_left ru more in
      let two : rx * (ru * cb) ≤ rx * (rb * cu) = mul-le-mul_left rx best in
      let three : rx * cu * rb ≤ ru * cx * rb = mul-le-mul_right rb above in
      absurd (omega (arith, one, two, three, also))
]

module _ (I : InstanceValue) (d : ℕ) where
  -- a type without room
  pub offers-skipped : (n : ℕ) (best : Option Offer) → room_in I d (suc n) ≡ 0 → AreOffers I d n best → AreOffers I d (suc n) best
  offers-skipped n None none old = λ u among. elim (cases_eq u (suc n)) [
    | inl last ↦ ap (room_in I d) last ∙ none
    | inr other ↦ old u (among.0, omega (arith, among.1, other))
  ]
  offers-skipped n (Some o) none old = record {
    offer = old.offer;
    among = (old.among.0, omega (arith, old.among.1));
    best = λ u among. elim (cases_eq u (suc n)) [
      | inl last ↦
          let empty : room_in I d u ≡ 0 = ap (room_in I d) last ∙ none in
          let nothing : room_in I d u * o.cost ≡ 0 * o.cost = ap (λ r. r * o.cost) empty in
          omega (arith, nothing)
      | inr other ↦ old.best u (among.0, omega (arith, among.1, other))
    ];
    first = old.first;
  }

  -- a type against itself
  own-best : (u n : ℕ) (next : Offer) → u ≡ suc n → next.bin_type ≡ suc n → IsOfferOf I d next → room_in I d u * next.cost ≤ next.room * (type_at I u).cost
  own-best u n next last is offer =
      let same : u ≡ next.bin_type = last ∙ sym is in
      let room : room_in I d u ≡ next.room = ap (room_in I d) same ∙ sym offer.room in
      let cost : (type_at I u).cost ≡ next.cost = ap (λ t. (type_at I t).cost) same ∙ sym offer.cost in
      let left : room_in I d u * next.cost ≡ next.room * next.cost = ap (λ r. r * next.cost) room in
      let right : next.room * (type_at I u).cost ≡ next.room * next.cost = ap (λ z. next.room * z) cost in
      omega (arith, left, right)

  -- a type with room
  first-best : (n : ℕ) (next : Offer) → next.bin_type ≡ suc n → IsOfferOf I d next → ((u : ℕ) → IsAmong u n → room_in I d u ≡ 0) → IsBestOf I d (suc n) next
  first-best n next is offer none = record {
    offer = offer;
    among = (omega (arith, is), omega (arith, is));
    best = λ u among. elim (cases_eq u (suc n)) [
      | inl last ↦ own-best u n next last is offer
      | inr other ↦
          let nothing : room_in I d u * next.cost ≡ 0 * next.cost = ap (λ r. r * next.cost) (none u (among.0, omega (arith, among.1, other))) in
          omega (arith, nothing)
    ];
    first = λ u among some. absurd (omega (arith, some, none u (among.0, omega (arith, among.1, is))));
  }

  more-best : (n : ℕ) (b next : Offer) → next.bin_type ≡ suc n → IsOfferOf I d next → IsBestOf I d n b → HasMore next b → IsBestOf I d (suc n) next
  more-best n b next is offer old more = record {
    offer = offer;
    among = (omega (arith, is), omega (arith, is));
    best = λ u among. elim (cases_eq u (suc n)) [
      | inl last ↦ own-best u n next last is offer
      | inr other ↦ above-best (room_in I d u) (type_at I u).cost b.room b.cost next.room next.cost old.offer.some (old.best u (among.0, omega (arith, among.1, other))) more
    ];
    first = λ u among some. far-above-best (room_in I d u) (type_at I u).cost b.room b.cost next.room next.cost old.offer.some some (old.best u (among.0, omega (arith, among.1, is))) more;
  }

  kept-best : (n : ℕ) (b next : Offer) → next.bin_type ≡ suc n → IsOfferOf I d next → IsBestOf I d n b → next.room * b.cost ≤ b.room * next.cost → IsBestOf I d (suc n) b
  kept-best n b next is offer old less = record {
    offer = old.offer;
    among = (old.among.0, omega (arith, old.among.1));
    best = λ u among. elim (cases_eq u (suc n)) [
      | inl last ↦
          let same : u ≡ next.bin_type = last ∙ sym is in
          let room : room_in I d u ≡ next.room = ap (room_in I d) same ∙ sym offer.room in
          let cost : (type_at I u).cost ≡ next.cost = ap (λ t. (type_at I t).cost) same ∙ sym offer.cost in
          let left : room_in I d u * b.cost ≡ next.room * b.cost = ap (λ r. r * b.cost) room in
          let right : b.room * (type_at I u).cost ≡ b.room * next.cost = ap (λ z. b.room * z) cost in
          omega (arith, left, right, less)
      | inr other ↦ old.best u (among.0, omega (arith, among.1, other))
    ];
    first = old.first;
  }

  pub offers-more : (n : ℕ) (best : Option Offer) (next o : Offer) → next.bin_type ≡ suc n → IsOfferOf I d next → AreOffers I d n best → IsBetterOf best next o → AreOffers I d (suc n) (Some o)
  offers-more n None next o is offer old better = subst (IsBestOf I d (suc n)) (sym better) (first-best n next is offer old)
  offers-more n (Some b) next o is offer old (inl both) = subst (IsBestOf I d (suc n)) (sym both.1) (more-best n b next is offer old both.0)
  offers-more n (Some b) next o is offer old (inr both) = subst (IsBestOf I d (suc n)) (sym both.1) (kept-best n b next is offer old both.0)

  -- all types
  pub offers-best : (n : ℕ) (o : Offer) → n ≡ length I.types → IsBestOf I d n o → IsFirstBestType I d o.bin_type
  offers-best n o all best =
      let cost : (z : ℕ) → z * o.cost ≡ z * (type_at I o.bin_type).cost = λ z. ap (λ m. z * m) best.offer.cost in
      let room : (z : ℕ) → o.room * z ≡ room_in I d o.bin_type * z = λ z. ap (λ m. m * z) best.offer.room in
      record {
        best = record {
          bin_type = subst (IsAmong o.bin_type) all best.among;
          room = omega (arith, best.offer.some, best.offer.room);
          best = λ u among. omega (arith, best.best u (among.0, omega (arith, among.1, all)), cost (room_in I d u), room (type_at I u).cost);
        };
        first = λ u among other.
            let below : room_in I d u * o.cost < o.room * (type_at I u).cost = best.first u among other.room in
            let above : room_in I d o.bin_type * (type_at I u).cost ≤ room_in I d u * (type_at I o.bin_type).cost = other.best o.bin_type (best.among.0, omega (arith, best.among.1, all)) in
            omega (arith, below, above, cost (room_in I d u), room (type_at I u).cost);
      }

-- where nothing passes, nothing is kept
filter-none : {X : Type 0} (p : X → Bool) (xs : List X) → ((k : ℕ) → k < length xs → (d : X) → p (get_or xs k d) ≡ false) → filter p xs ≡ []
filter-none p [] none = refl
filter-none p (x ∷ xs) none =
    cond-false (p x) (x ∷ filter p xs) (filter p xs) (none zero (omega arith) x) ∙ filter-none p xs (λ k within d. none (suc k) (omega (arith, within)) d)

-- where no type has room, the floor is 0
pub offers-none : (I : InstanceValue) (d n : ℕ) → n ≡ length I.types → ((u : ℕ) → IsAmong u n → room_in I d u ≡ 0) → floor_in I d ≡ 0
offers-none I d n all none =
    let nothing : BinType = record { cap = []; cost = 0; limit = None } in
    let test : BinType → Bool = λ t. nat_lt 0 (slice_index t.cap (d - 1)) in
    let cost : BinType → ℕ = λ t. div_up (material_in I d * t.cost) (slice_index t.cap (d - 1)) in
    let empty : filter test I.types ≡ [] = filter-none test I.types
    (λ k within e.
    let index : suc k - 1 ≡ k = omega arith in
    let there : get_or I.types k e ≡ get_or I.types k nothing = get_or_default I.types k e nothing within in
    let room : slice_index (get_or I.types k nothing).cap (d - 1) ≡ 0 = rw index at (none (suc k) (omega arith, omega (arith, within, all))) in
    ap test there ∙ le-ltb 0 (slice_index (get_or I.types k nothing).cap (d - 1)) (omega (arith, room))) in
    ap (λ (ts : List BinType). least_of (map cost ts)) empty
