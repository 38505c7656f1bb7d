-- An item has one cap at most.
use Rattle.std.proofs.Common.{◌≡◌, ℕ, ◌<◌, ◌≤◌, ◌∙◌, inl, inr, List, All, Contains, sym, ap, subst, arith, get_or}
use Rattle.std.specs.List.Sorted.{IsStrictlySortedBy}
use Rattle.std.specs.Ordering.{nat_cmp}
use Rattle.std.specs.Cmp.{nat_cmp_is}
use Rattle.std.specs.declared.cmp.Ordering.TheVariants.{Less, Equal}
use Rattle.std.proofs.lemmas.Bool.{cases_eq, cases_lt}
use Rattle.std.proofs.lemmas.List.{get_or_default}
use Rattle.std.proofs.lemmas.Map.Keys.{Less-from_sorted}
use Rattle.packing_laws.specs.declared.instances.ItemCap.{ItemCap}
use Rattle.packing_laws.specs.Instances.{InstanceValue, cap_cmp}
use Rattle.packing_laws.specs.Packings.{Content, KeepsCaps, count_of_item}

never-below : (j k : ItemCap) → j.item ≡ k.item → cap_cmp j k ≡ Less → ⊥
never-below j k same less =
    let equal : Equal ≡ nat_cmp j.item k.item = nat_cmp_is j.item k.item Equal same in
    let bad : Equal ≡ Less = equal ∙ less in
    cc

pub caps-once : (caps : List ItemCap) → IsStrictlySortedBy cap_cmp caps → (c : ItemCap) → Contains caps c → All (λ k. k.item ≡ c.item → k.count ≡ c.count) caps
caps-once caps sorted c found n e within same =
    let m : ℕ = found.0 in
    let there : get_or caps m e ≡ c = get_or_default caps m e c found.1 ∙ found.2 in
    let item : (get_or caps n e).item ≡ (get_or caps m e).item = same ∙ sym (ap (λ (k : ItemCap). k.item) there) in
    elim (cases_eq n m) [
      | inl here ↦ ap (λ j. (get_or caps j e).count) here ∙ ap (λ (k : ItemCap). k.count) there
      | inr apart ↦ elim (cases_lt n m) [
        | inl below ↦ absurd (never-below (get_or caps n e) (get_or caps m e) item (Less-from_sorted cap_cmp caps n m e sorted below found.1))
        | inr above ↦ absurd (never-below (get_or caps m e) (get_or caps n e) (sym item) (Less-from_sorted cap_cmp caps m n e sorted (omega (arith, above, apart)) within))
      ]
    ]

-- a content that keeps all caps keeps each
pub cap-keeps : (I : InstanceValue) (c : Content) (k : ItemCap) → Contains I.caps k → KeepsCaps I c → count_of_item k.item c ≤ k.count
cap-keeps I c k found kept = subst (λ (j : ItemCap). count_of_item j.item c ≤ j.count) found.2 (kept found.0 k found.1)
