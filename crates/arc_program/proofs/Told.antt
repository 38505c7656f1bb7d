-- What holds of what is told.
use Rattle.std.proofs.Common.{◌≡◌, ℕ, List, refl, sym, subst, Some, None, IfSome, IsSome}
use Rattle.std.proofs.lemmas.Bool.{false≢true}
use Rattle.arc_io.specs.Bytes.{Told}

-- what holds of each that may be told
pub if_told : (told : Told) (P : List ℕ → Type 0) → ((bytes : List ℕ) → told ≡ Some bytes → P bytes) → IfSome told P
if_told None P h = tt
if_told (Some bytes) P h = h bytes refl

-- what holds of what is told
pub at_told : (told : Told) (P : List ℕ → Type 0) (bytes : List ℕ) → told ≡ Some bytes → IfSome told P → P bytes
at_told told P bytes e h = subst (λ (t : Told). IfSome t P) e h

-- what holds wherever something is told
pub where_told : (told : Told) (P : Type 0) → IsSome told → IfSome told (λ _. P) → P
where_told None P some h = absurd (false≢true some)
where_told (Some bytes) P some h = h

pub is_told : (told : Told) (bytes : List ℕ) → told ≡ Some bytes → IsSome told
is_told told bytes e = subst (λ (t : Told). IsSome t) (sym e) refl
