-- When one more copy fits, and what follows from it.
use Rattle.std.proofs.Common.{◌≡◌, ℕ, zero, suc, ◌+◌, ◌<◌, ◌≤◌, Bool, true, false, List, [], ◌∷◌, length, get_or, nat_lt, nat_le, nat_eq, ◌&&◌, refl, ◌∙◌, ⊎_elim, Some, None, arith}
use Rattle.std.proofs.lemmas.Bool.{ltb-true, leb-true, eqb-true, lt-ltb, le-leb, eq-eqb, and_parts, and_from, and_right, cases_Bool}
use Rattle.weight_vec.specs.Weight.{AtMost, Before, plus}
use Rattle.weight_vec.proofs.Orders.{slice_cmp-plus}
use Rattle.label_graph.specs.declared.parts.Piece.{Piece}
use Rattle.level_graph.specs.declared.states.State.{State}
use Rattle.level_graph.specs.Levels.{StateBefore}
use Rattle.level_graph.specs.inner.Layers.{at_most, taken}
use Rattle.level_graph.proofs.StateOrder.{before-copies, before-used, before-cases}

pub at_most-sound : (xs ys : List ℕ) → at_most xs ys ≡ true → (d : ℕ) → get_or xs d 0 ≤ get_or ys d 0
at_most-sound [] ys h d = omega arith
at_most-sound (x ∷ xs) [] h zero = let e : x ≡ 0 = eqb-true x 0 (and_parts (nat_eq x 0) (at_most xs []) h).0 in omega arith
at_most-sound (x ∷ xs) [] h (suc d) = at_most-sound xs [] (and_parts (nat_eq x 0) (at_most xs []) h).1 d
at_most-sound (x ∷ xs) (y ∷ ys) h zero = leb-true x y (and_parts (nat_le x y) (at_most xs ys) h).0
at_most-sound (x ∷ xs) (y ∷ ys) h (suc d) = at_most-sound xs ys (and_parts (nat_le x y) (at_most xs ys) h).1 d

pub at_most-complete : (xs ys : List ℕ) → ((d : ℕ) → get_or xs d 0 ≤ get_or ys d 0) → at_most xs ys ≡ true
at_most-complete [] ys h = refl
at_most-complete (x ∷ xs) [] h = and_from (nat_eq x 0) (at_most xs []) (eq-eqb x 0 (let le : x ≤ 0 = h 0 in omega arith)) (at_most-complete xs [] (λ d. h (suc d)))
at_most-complete (x ∷ xs) (y ∷ ys) h = and_from (nat_le x y) (at_most xs ys) (le-leb x y (h 0)) (at_most-complete xs ys (λ d. h (suc d)))

module _ {N : ℕ} (piece : Piece N) (room : List ℕ) where
  abbrev pub after : State N → State N
  after s = record { piece = s.piece; copies = s.copies + 1; used = plus s.used piece.weight }

  abbrev pub is_taken : State N → Bool
  is_taken s = nat_lt s.copies piece.copies && at_most (plus s.used piece.weight) room

  pub taken-some : (s : State N) → s.copies < piece.copies → AtMost (plus s.used piece.weight) room → taken piece room s ≡ Some (record { piece = s.piece; copies = s.copies + 1; used = plus s.used piece.weight })
  taken-some s lt fits =
      let e : is_taken s ≡ true = and_from (nat_lt s.copies piece.copies) (at_most (plus s.used piece.weight) room) (lt-ltb s.copies piece.copies lt) (at_most-complete (plus s.used piece.weight) room fits) in
      rw e refl

  pub taken-too_heavy : (s : State N) → (AtMost (plus s.used piece.weight) room → ⊥) → taken piece room s ≡ None
  taken-too_heavy s heavy =
      ⊎_elim
      (λ t. absurd (heavy (at_most-sound (plus s.used piece.weight) room t)))
      (λ f. let e : is_taken s ≡ false = and_right (nat_lt s.copies piece.copies) (at_most (plus s.used piece.weight) room) f in rw e refl)
      (cases_Bool (at_most (plus s.used piece.weight) room))

  pub taken-is : (s t : State N) → taken piece room s ≡ Some t → (s.copies < piece.copies) × AtMost (plus s.used piece.weight) room × (t ≡ record { piece = s.piece; copies = s.copies + 1; used = plus s.used piece.weight })
  taken-is s t h =
      ⊎_elim
      (λ e. let parts = and_parts (nat_lt s.copies piece.copies) (at_most (plus s.used piece.weight) room) e in
      let same : Some (record { piece = s.piece; copies = s.copies + 1; used = plus s.used piece.weight }) ≡ Some t = rw e at h in
      (ltb-true s.copies piece.copies parts.0, at_most-sound (plus s.used piece.weight) room parts.1, cc))
      (λ e. absurd (let bad : None ≡ Some t = rw e at h in cc))
      (cases_Bool (is_taken s))

  -- takes keep the order of states of one piece
  pub taken-keeps_order : (s t s' t' : State N) → s.piece ≡ t.piece → length s.used ≡ N → length t.used ≡ N → length piece.weight ≡ N → taken piece room s ≡ Some s' → taken piece room t ≡ Some t' → StateBefore s t → StateBefore s' t'
  taken-keeps_order s t s' t' here sized sized' weight_sized gives gives' before =
      let first = taken-is s s' gives in
      let second = taken-is t t' gives' in
      let by_copies : s.copies < t.copies → StateBefore (after s) (after t) = λ lt. before-copies (after s) (after t) here (omega arith) in
      let by_used : s.copies ≡ t.copies → Before s.used t.used → StateBefore (after s) (after t) = λ same less. before-used (after s) (after t) here (omega arith) (slice_cmp-plus s.used t.used piece.weight (omega arith) (omega arith) ∙ less) in
      rw (first.2, second.2) (⊎_elim by_copies (λ w. by_used w.0 w.1) (before-cases s t here before))
