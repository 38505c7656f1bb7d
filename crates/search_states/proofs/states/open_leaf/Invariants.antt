use Rattle.std.proofs.Common.{◌≡◌, ℕ, ◌<◌, IfSome, IsNone, length}
use Rattle.std.specs.Prelude.{slice_get, Some}
use Rattle.search_tree.specs.declared.places.Place.{Place}
use Rattle.search_states.specs.States.{IsOpen}
use Rattle.search_states.proofs.states.open_leaf.Given as goal

abbrev pub invariant-loop-index : goal.invariant-loop-index
invariant-loop-index l = record {
  found : IfSome l.open (λ i. (i < length l.places) × ((p : Place) → slice_get l.places i ≡ Some p → IsOpen p l.goal));
  none : IsNone l.open → (i : ℕ) (p : Place) → i < l.index → slice_get l.places i ≡ Some p → IsOpen p l.goal → ⊥;
}
