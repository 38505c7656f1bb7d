-- The single cost is that of some packing.
use Rattle.std.proofs.Common.{zero, suc, ◌≡◌, ℕ, ◌+◌, ◌-◌, ◌<◌, ◌≤◌, ◌∙◌, inl, inr, List, [], ◌∷◌, ◌++◌, length, map, filter, min, Bool, true, false, cond, ◌&&◌, Option, Some, None, is_none, refl, sym, subst, arith, get_or}
use Rattle.std.proofs.lemmas.Bool.{cases_lt, and_parts}
use Rattle.std.proofs.lemmas.List.{get_or_default}
use Rattle.std.proofs.lemmas.List.Folds.{Any-from_list_any}
use Rattle.packing_laws.specs.declared.instances.BinType.{BinType}
use Rattle.packing_laws.specs.declared.instances.Item.{Item}
use Rattle.packing_laws.specs.declared.packings.Bin.{Bin}
use Rattle.packing_laws.specs.declared.single.Choice.{Choice}
use Rattle.packing_laws.specs.Instances.{InstanceValue, IsInstance, type_at, item_at}
use Rattle.packing_laws.specs.Printed.{bins_of}
use Rattle.packing_laws.specs.Floors.{least_of, vector_fits, item_fits, single_costs, HasSingle, SingleIsReached}
use Rattle.packing_laws.specs.inner.Choices.{IsCheapest}
use Rattle.packing_laws.proofs.OneUnitBins.{AreApart, unit_bin, AreApart-start, AreApart-skipped, AreApart-more, AreApart-packing, AreApart-cost}

-- some element passes the test, and its value is the least of these
abbrev pub Reaches : {X : Type 0} → (X → ℕ) → (X → Bool) → List X → X → List ℕ → Type 0
Reaches f p xs d zs = (k : ℕ) × (k < length xs) × (p (get_or xs k d) ≡ true) × (f (get_or xs k d) ≡ least_of zs)

least_of-cons : (z : ℕ) (zs : List ℕ) → 0 < length zs → least_of (z ∷ zs) ≡ min z (least_of zs)
least_of-cons z [] some = absurd (omega arith)
least_of-cons z (y ∷ ys) some = refl

later : {X : Type 0} (f : X → ℕ) (p : X → Bool) (x : X) (xs : List X) (d : X) (zs : List ℕ) → Reaches f p xs d zs → Reaches f p (x ∷ xs) d zs
later f p x xs d zs r = (suc r.0, (let within : r.0 < length xs = r.1 in omega arith), r.2, r.3)

one_more : {X : Type 0} (f : X → ℕ) (p : X → Bool) (x : X) (xs : List X) (d : X) (b : Bool) (ys : List X) → p x ≡ b → (0 < length (map f ys) → Reaches f p xs d (map f ys)) → 0 < length (map f (cond b (x ∷ ys) ys)) → Reaches f p (x ∷ xs) d (map f (cond b (x ∷ ys) ys))
one_more f p x xs d false ys is rest some = later f p x xs d (map f ys) (rest some)
one_more f p x xs d true [] is rest some = (zero, omega arith, is, refl)
one_more f p x xs d true (y ∷ ys) is rest some =
    let r : Reaches f p xs d (map f (y ∷ ys)) = rest (omega arith) in
    elim (cases_lt (least_of (map f (y ∷ ys))) (f x)) [
      | inl below ↦
          let value : f (get_or xs r.0 d) ≡ least_of (map f (y ∷ ys)) = r.3 in
          (suc r.0, (let within : r.0 < length xs = r.1 in omega arith), r.2, omega arith)
      | inr above ↦ (zero, omega arith, is, omega arith)
    ]

pub least_of-reached : {X : Type 0} (f : X → ℕ) (p : X → Bool) (xs : List X) (d : X) → 0 < length (map f (filter p xs)) → Reaches f p xs d (map f (filter p xs))
least_of-reached f p [] d some = absurd (omega arith)
least_of-reached f p (x ∷ xs) d some = one_more f p x xs d (p x) (filter p xs) refl (least_of-reached f p xs d) some

no-limit : (limit : Option ℕ) → is_none limit ≡ true → limit ≡ None
no-limit None is = refl
no-limit (Some q) is = cc

-- a type without limit at the least cost, of those that some form fits, is a cheapest choice with that form
choice-at : (I : InstanceValue) (x : Item) (k j : ℕ) (v : List ℕ) → 0 < length (single_costs I x) → k < length I.types → (type_at I (suc k)).limit ≡ None → (type_at I (suc k)).cost ≡ least_of (single_costs I x) → j < length x.forms → get_or x.forms j v ≡ v → vector_fits v (type_at I (suc k)).cap ≡ true → IsCheapest I x (record { bin_type = suc k; form = suc j; cost = (type_at I (suc k)).cost })
choice-at I x k j v some within unlimited least inner here fits =
    let e : suc j - 1 ≡ j = omega arith in
    let form : v ≡ get_or x.forms (suc j - 1) [] = rw e (sym here ∙ get_or_default x.forms j v [] inner) in
    record {
      choice = record {
        among = (omega arith, omega arith);
        of_type = record {
          bin_type = refl;
          unlimited = unlimited;
          form = (omega arith, omega arith);
          fits = subst (λ (w : List ℕ). vector_fits w (type_at I (suc k)).cap ≡ true) form fits;
          cost = refl;
        };
      };
      some = some;
      least = least;
    }

-- an item that fits some type without limit has a cheapest choice
pub cheapest-exists : (I : InstanceValue) (x : Item) → 0 < length (single_costs I x) → (c : Choice) × IsCheapest I x c
cheapest-exists I x some =
    let nothing : BinType = record { cap = []; cost = 0; limit = None } in
    let r = least_of-reached (λ (t : BinType). t.cost) (λ (t : BinType). is_none t.limit && item_fits x t) I.types nothing some in
    let t : BinType = get_or I.types r.0 nothing in
    let both : (is_none t.limit ≡ true) × (item_fits x t ≡ true) = and_parts (is_none t.limit) (item_fits x t) r.2 in
    let any = Any-from_list_any (λ (v : List ℕ). vector_fits v t.cap) x.forms both.1 in
    let e : suc r.0 - 1 ≡ r.0 = omega arith in
    let same : t ≡ type_at I (suc r.0) = rw e refl in (
      record { bin_type = suc r.0; form = suc any.0; cost = (type_at I (suc r.0)).cost },
      choice-at I x r.0 any.0 any.1 some r.1
          (subst (λ (u : BinType). u.limit ≡ None) same (no-limit t.limit both.0))
          (subst (λ (u : BinType). u.cost ≡ least_of (single_costs I x)) same r.3)
          any.2 any.3
          (subst (λ (u : BinType). vector_fits any.1 u.cap ≡ true) same any.4),
    )

-- bins for the first items
pub apart-exists : (I : InstanceValue) (n : ℕ) → IsInstance I → HasSingle I → n ≤ length I.items → (bins : List Bin) × AreApart I n bins
apart-exists I zero inside single within = ([], AreApart-start I)
apart-exists I (suc n) inside single within =
    let before = apart-exists I n inside single (omega arith) in
    let e : n + 1 - 1 ≡ n = omega arith in
    let x : Item = item_at I (n + 1) in
    let costs : 0 < x.demand → 0 < length (single_costs I x) = rw e (single n (record { demand = 0; forms = [] }) (omega arith)) in
    let up : n + 1 ≡ suc n = omega arith in
    elim (cases_lt 0 x.demand) [
      | inl some ↦
          let c = cheapest-exists I x (costs some) in
          let bins : List Bin = before.0 ++ unit_bin c.0 (n + 1) x.demand ∷ [] in
          (bins, subst (λ (m : ℕ). AreApart I m bins) up (AreApart-more I n before.0 x c.0 inside (omega arith) refl some c.1 before.1))
      | inr none ↦ (before.0, subst (λ (m : ℕ). AreApart I m before.0) up (AreApart-skipped I n before.0 x (omega arith) refl (omega arith) before.1))
    ]

pub single_is_reached : SingleIsReached
single_is_reached I inside single =
    let apart = apart-exists I (length I.items) inside single (omega arith) in
    (bins_of apart.0, (AreApart-packing I (length I.items) apart.0 (omega arith) apart.1).packing, AreApart-cost I (length I.items) apart.0 (omega arith) apart.1)
