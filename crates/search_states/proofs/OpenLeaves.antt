-- Leaves that are not closed.
use Rattle.std.proofs.Common.{◌≡◌, ℕ, ◌<◌, Option, None, Some, get_or, length, ◌⊎◌, inl, inr, ⊎_elim, arith, subst, false, true, refl}
use Rattle.std.specs.Prelude.{IfSome, IsNone, slice_get}
use Rattle.std.proofs.lemmas.Bool.{cases_lt}
use Rattle.std.proofs.lemmas.Option.{slice_get-get_or, slice_get_cases}
use Rattle.cert_text.specs.declared.lines.Claim.{Claim}
use Rattle.cert_text.specs.declared.lines.Claim.TheVariants.{Bound, Empty}
use Rattle.search_tree.specs.declared.places.Place.{Place}
use Rattle.search_tree.specs.declared.places.SplitAt.{SplitAt}
use Rattle.search_tree.specs.Trees.{LeavesReach, Reaches}
use Rattle.search_states.specs.declared.states.State.{State}
use Rattle.search_states.specs.States.{IsOpen, IsOpenLeaf, goal_of}

reaches_or_not : (a b : Claim) → Reaches a b ⊎ (Reaches a b → ⊥)
reaches_or_not Empty b = inl tt
reaches_or_not (Bound x) Empty = inr (λ none. none)
reaches_or_not (Bound x) (Bound y) = ⊎_elim
    (λ (below : x < y). inr (λ reach. omega (arith, reach, below)))
    (λ above. inl (omega (arith, above)))
    (cases_lt x y)

no_split : (t : Option SplitAt) → IsNone t → t ≡ None
no_split None none = refl
no_split (Some s) none = absurd (let bad : true ≡ false = none in cc)

-- where no leaf is open, each is closed
pub all_closed : (s : State) (goal : Claim) → ((i : ℕ) (p : Place) → i < length s.tree.places → slice_get s.tree.places i ≡ Some p → IsOpen p goal → ⊥) → LeavesReach goal s.tree
all_closed s goal none = λ k d within leaf.
    let p : Place = get_or s.tree.places k d in
    ⊎_elim
    (λ reach. reach)
    (λ not. absurd (none k p within (slice_get-get_or s.tree.places k d within) (no_split p.split leaf, not)))
    (reaches_or_not p.shown.claim goal)

-- an open leaf, by its index
pub open_at : (s : State) (goal : Claim) → goal ≡ goal_of s.best → (i : ℕ) → i < length s.tree.places → ((p : Place) → slice_get s.tree.places i ≡ Some p → IsOpen p goal) → IsOpenLeaf s i
open_at s goal is i within all = ⊎_elim
    (λ found. record { place = found.0; read = found.2; is_open = subst (λ (c : Claim). IsOpen found.0 c) is (all found.0 found.2) })
    (λ past. absurd (let none = past.0 in omega (arith, none, within)))
    (slice_get_cases s.tree.places i).1

pub some_weaker : {X : Type 0} (o : Option X) (P Q : X → Type 0) → ((x : X) → P x → Q x) → IfSome o P → IfSome o Q
some_weaker None P Q so some = tt
some_weaker (Some x) P Q so some = so x some
