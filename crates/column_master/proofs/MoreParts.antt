-- What is found in lists of parts to which the next arc is added.
use Rattle.std.proofs.Common.{◌≡◌, ℕ, ◌+◌, ◌≤◌, cond, ◌==◌, List, [], ◌∷◌, ◌++◌, get_or, false, refl, sym, ap, ◌∙◌, subst, ⊎_elim, All, arith}
use Rattle.std.proofs.lemmas.Bool.{cases_eq, eq-eqb, ne_eqb, cond-true, cond-false}
use Rattle.std.proofs.lemmas.List.Elements.{All-head, All-tail}
use Rattle.cert_text.specs.declared.lines.ArcPart.{ArcPart}
use Rattle.cert_laws.specs.Needs.{part_in}
use Rattle.column_master.specs.inner.Listings.{HoldsFirst}

-- an arc with a greater number than all of the list is not in it
pub part_in_none : (n : ℕ) (xs : List ArcPart) → All (λ x. x.arc ≤ n) xs → part_in xs (n + 1) ≡ 0
part_in_none n [] low = refl
part_in_none n (x ∷ xs) low =
    let head = All-head (λ (x : ArcPart). x.arc ≤ n) x xs low in
    let apart : (x.arc == n + 1) ≡ false = ne_eqb x.arc (n + 1) (λ same. omega (arith, head, same)) in
    cond-false (x.arc == n + 1) x.value (part_in xs (n + 1)) apart ∙ part_in_none n xs (All-tail (λ (x : ArcPart). x.arc ≤ n) x xs low)

-- the part that is added is found
part_in_last : (n : ℕ) (xs : List ArcPart) (y : ArcPart) → All (λ x. x.arc ≤ n) xs → y.arc ≡ n + 1 → part_in (xs ++ y ∷ []) (n + 1) ≡ y.value
part_in_last n [] y low next = cond-true (y.arc == n + 1) y.value 0 (eq-eqb y.arc (n + 1) next)
part_in_last n (x ∷ xs) y low next =
    let head = All-head (λ (x : ArcPart). x.arc ≤ n) x xs low in
    let apart : (x.arc == n + 1) ≡ false = ne_eqb x.arc (n + 1) (λ same. omega (arith, head, same)) in
    cond-false (x.arc == n + 1) x.value (part_in (xs ++ y ∷ []) (n + 1)) apart ∙ part_in_last n xs y (All-tail (λ (x : ArcPart). x.arc ≤ n) x xs low) next

-- and the others are found as before
part_in_before : (a : ℕ) (xs : List ArcPart) (y : ArcPart) → (y.arc ≡ a → ⊥) → part_in (xs ++ y ∷ []) a ≡ part_in xs a
part_in_before a [] y apart = cond-false (y.arc == a) y.value 0 (ne_eqb y.arc a apart)
part_in_before a (x ∷ xs) y apart = ap (λ (rest : ℕ). cond (x.arc == a) x.value rest) (part_in_before a xs y apart)

-- the next value is 0
pub holds_nothing_more : (n : ℕ) (xs new : List ArcPart) (values : List ℕ) → new ≡ xs → All (λ x. x.arc ≤ n) xs → get_or values n 0 ≡ 0 → HoldsFirst n xs values → HoldsFirst (n + 1) new values
holds_nothing_more n xs new values same low zero holds k within = ⊎_elim
    (λ (here : k ≡ n). subst (λ (j : ℕ). get_or values j 0 ≡ part_in new (j + 1)) (sym here) (zero ∙ sym (part_in_none n xs low) ∙ ap (λ (parts : List ArcPart). part_in parts (n + 1)) (sym same)))
    (λ other. holds k (omega (arith, within, other)) ∙ ap (λ (parts : List ArcPart). part_in parts (k + 1)) (sym same))
    (cases_eq k n)

-- the next value is a part
pub holds_more : (n : ℕ) (xs new : List ArcPart) (y : ArcPart) (values : List ℕ) → new ≡ xs ++ y ∷ [] → All (λ x. x.arc ≤ n) xs → y.arc ≡ n + 1 → get_or values n 0 ≡ y.value → HoldsFirst n xs values → HoldsFirst (n + 1) new values
holds_more n xs new y values same low next own holds k within = ⊎_elim
    (λ (here : k ≡ n). subst (λ (j : ℕ). get_or values j 0 ≡ part_in new (j + 1)) (sym here) (own ∙ sym (part_in_last n xs y low next) ∙ ap (λ (parts : List ArcPart). part_in parts (n + 1)) (sym same)))
    (λ other. holds k (omega (arith, within, other)) ∙ sym (part_in_before (k + 1) xs y (λ equal. omega (arith, equal, next, within, other))) ∙ ap (λ (parts : List ArcPart). part_in parts (k + 1)) (sym same))
    (cases_eq k n)
