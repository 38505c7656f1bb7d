-- What is equal where an order answers so.
use Rattle.std.proofs.Common.{◌≡◌, ℕ, ◌<◌, ◌∙◌, List, [], ◌∷◌, refl, sym}
use Rattle.std.specs.Ordering.{nat_cmp, ordering_then}
use Rattle.std.specs.Cmp.Lexicographic.{slice_cmp}
use Rattle.std.specs.declared.cmp.Ordering.{Ordering}
use Rattle.std.specs.declared.cmp.Ordering.TheVariants.{Less, Equal, Greater}
use Rattle.std.proofs.lemmas.Cmp.{ranked, by_ranked}

-- two answers in a row
pub then_equal : (o p : Ordering) → ordering_then o p ≡ Equal → (o ≡ Equal) × (p ≡ Equal)
then_equal Less p h = absurd (let bad : Less ≡ Equal = h in cc)
then_equal Equal p h = (refl, h)
then_equal Greater p h = absurd (let bad : Greater ≡ Equal = h in cc)

pub number_equal : (x y : ℕ) → nat_cmp x y ≡ Equal → x ≡ y
number_equal x y h =
    by_ranked (x < y) (x ≡ y) (y < x) (nat_cmp x y) (ranked x y (nat_cmp x y) refl)
    (λ is lt. absurd (let bad : Less ≡ Equal = sym is ∙ h in cc))
    (λ is same. same)
    (λ is gt. absurd (let bad : Greater ≡ Equal = sym is ∙ h in cc))

-- lists whose elements are equal where their order answers so
pub list_equal : {X : Type 0} (cmp : X → X → Ordering) → ((x y : X) → cmp x y ≡ Equal → x ≡ y) → (xs ys : List X) → slice_cmp cmp xs ys ≡ Equal → xs ≡ ys
list_equal cmp each [] [] h = refl
list_equal cmp each [] (y ∷ ys) h = absurd (let bad : Less ≡ Equal = h in cc)
list_equal cmp each (x ∷ xs) [] h = absurd (let bad : Greater ≡ Equal = h in cc)
list_equal cmp each (x ∷ xs) (y ∷ ys) h =
    let parts = then_equal (cmp x y) (slice_cmp cmp xs ys) h in
    let first : x ≡ y = each x y parts.0 in
    let rest : xs ≡ ys = list_equal cmp each xs ys parts.1 in
    λ i. first i ∷ rest i
