-- What holds of the start, of the capacity and of sums with the pieces' weights holds of all that states use.
use Rattle.std.proofs.Common.{◌≡◌, ℕ, zero, suc, ◌-◌, ◌<◌, ◌≤◌, List, [], ◌∷◌, length, replicate, sym, ap, ◌∙◌, subst, ⊎_elim, arith}
use Rattle.std.specs.Prelude.{All}
use Rattle.std.proofs.lemmas.List.{get_or-map, length-replicate}
use Rattle.weight_vec.specs.Weight.{plus}
use Rattle.weight_vec.proofs.Places.{length-plus}
use Rattle.label_graph.specs.declared.parts.Piece.{Piece}
use Rattle.label_graph.specs.declared.parts.Mark.{Mark}
use Rattle.label_graph.specs.declared.parts.Mark.TheVariants.{Loss, Piece as Carries}
use Rattle.label_graph.specs.Graph.{piece_weight}
use Rattle.level_graph.specs.declared.states.State.{State}
use Rattle.level_graph.specs.Levels.{Step, ReachedIn, IsReached, target}
use Rattle.level_graph.specs.LevelLaws.{AreWeighed}
use Rattle.level_graph.proofs.Reached.{reached-low}

-- what holds of the weights of all pieces holds of the weight of a piece by its number
pub weight-holds : {N : ℕ} (P : List ℕ → Type 0) (pieces : List (Piece N)) → All (λ q. P q.weight) pieces → (p : ℕ) → 1 ≤ p → p ≤ length pieces → P (piece_weight pieces p)
weight-holds {N} P pieces all p low high =
    let lt : p - 1 < length pieces = omega arith in
    let none : Piece N = record { item = 0; form = 0; weight = []; copies = 0 } in
    subst P (sym (get_or-map (λ (q : Piece N). q.weight) pieces (p - 1) none [] lt)) (all (p - 1) none lt)

module _ {N : ℕ} (pieces : List (Piece N)) (room : List ℕ) (P : List ℕ → Type 0) (start : P (replicate N 0)) (full : P room) (weights : All (λ q. P q.weight) pieces) (sums : (x y : List ℕ) → P x → P y → P (plus x y)) where
  target-holds : (ps : List (Piece N)) → P (target ps room).used
  target-holds [] = start
  target-holds (q ∷ ps) = full

  step-holds : (r s : State N) (m : Mark) → 1 ≤ r.piece → P r.used → Step pieces room r m s → P s.used
  step-holds r s (Carries p) low h step = subst P (sym (ap (λ (z : State N). z.used) step.4)) (sums r.used (piece_weight pieces r.piece) h (weight-holds P pieces weights r.piece low step.1))
  step-holds r s Loss low h step =
      ⊎_elim
      (λ w. subst P (sym (ap (λ (z : State N). z.used) w.1)) h)
      (λ w. subst P (sym (ap (λ (z : State N). z.used) w.1)) (target-holds pieces))
      step

  used-holds_at : (n : ℕ) (s : State N) → ReachedIn pieces room n s → P s.used
  used-holds_at zero s h = subst P (sym (ap (λ (z : State N). z.used) h)) start
  used-holds_at (suc n) s h = step-holds h.0 s h.2.0 (reached-low pieces room h.0 (n, h.1)) (used-holds_at n h.0 h.1) h.2.1

  pub used-holds : (s : State N) → IsReached pieces room s → P s.used
  used-holds s h = used-holds_at h.0 s h.1

-- each state uses a weight of as many places as the graph has
pub used-sized : {N : ℕ} (pieces : List (Piece N)) (room : List ℕ) → AreWeighed pieces room → (s : State N) → IsReached pieces room s → length s.used ≡ N
used-sized {N} pieces room weighed = used-holds pieces room (λ x. length x ≡ N) (length-replicate N 0) weighed.sized weighed.pieces_sized (λ x y h k. length-plus x y (h ∙ sym k) ∙ h)
