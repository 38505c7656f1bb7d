-- Copies of a piece for which there is no room count for nothing.
use Rattle.std.proofs.Common.{◌≡◌, ℕ, zero, suc, ◌+◌, ◌-◌, ◌*◌, ◌<◌, ◌≤◌, List, get_or, sym, ap, ◌∙◌, subst, inl, inr, ⊎_elim, arith}
use Rattle.std.proofs.lemmas.Bool.{cases_lt}
use Rattle.weight_vec.specs.Weight.{AtMost, lower, minus, plus}
use Rattle.weight_vec.proofs.Places.{get_or-plus}
use Rattle.label_graph.specs.declared.parts.Piece.{Piece}
use Rattle.label_graph.specs.Graph.{piece_weight}
use Rattle.level_graph.specs.declared.states.State.{State}
use Rattle.level_graph.specs.Levels.{piece_copies}
use Rattle.lift_build.specs.inner.Rooms.{left_taking, IsFull, HasEnoughCopies, HasCopiesFor}
use Rattle.lift_build.proofs.Takings.{IsRoom, take-fits, take-heavy, fits-or}

module _ (cap w : List ℕ) where
  pub full-heavy : (x : List ℕ) → IsFull cap w 0 x → AtMost (plus x w) cap → ⊥
  full-heavy x full fits =
      let one : suc 0 * get_or w full.0 0 ≡ get_or w full.0 0 = grind arith in
      omega (arith, full.1, fits full.0, get_or-plus x w full.0)

  -- with one of the copies taken
  pub full-next : (n : ℕ) (x : List ℕ) → IsFull cap w (suc n) x → IsFull cap w n (plus x w)
  full-next n x full =
      let more : suc (suc n) * get_or w full.0 0 ≡ get_or w full.0 0 + suc n * get_or w full.0 0 = grind arith in
      (full.0, omega (arith, full.1, get_or-plus x w full.0))

  pub full-above : (n : ℕ) (x y : List ℕ) → AtMost x y → IsFull cap w n x → IsFull cap w n y
  full-above n x y above full = (full.0, omega (arith, full.1, above full.0))

-- what is left is the same for any numbers of copies that are enough
module _ (N : ℕ) (cap w : List ℕ) (behind : List ℕ → List ℕ) (is : IsRoom N cap behind) where
  pub taking-enough : (n m : ℕ) (x : List ℕ) → m ≤ n → IsFull cap w m x → left_taking cap w behind n x ≡ left_taking cap w behind m x
  taking-enough n zero x le full = take-heavy N cap w behind is n x (full-heavy cap w x full)
  taking-enough zero (suc m) x le full = absurd (omega arith)
  taking-enough (suc n) (suc m) x le full =
      let rest = taking-enough n m (plus x w) (omega arith) (full-next cap w m x full) in
      ⊎_elim
      (λ fits. take-fits N cap w behind is n x fits ∙ (λ i. lower (behind x) (minus (rest i) w)) ∙ sym (take-fits N cap w behind is m x fits))
      (λ heavy. take-heavy N cap w behind is (suc n) x heavy ∙ sym (take-heavy N cap w behind is (suc m) x heavy))
      (fits-or N cap w behind is x)

module _ {N : ℕ} (pieces : List (Piece N)) (cap : List ℕ) where
  pub copies-fewer : (copies : ℕ) (s : State N) → HasCopiesFor pieces cap copies s → copies ≤ s.copies
  copies-fewer copies s has = ⊎_elim (λ same. omega (arith, same)) (λ enough. enough.0) has

  -- copies that are enough are so at a state that uses more
  enough-above : (s t : State N) → s.piece ≡ t.piece → s.copies ≡ t.copies → AtMost s.used t.used → HasEnoughCopies pieces cap s → HasEnoughCopies pieces cap t
  enough-above s t piece copies above enough =
      subst (λ (c : ℕ). IsFull cap (piece_weight pieces t.piece) (piece_copies pieces t.piece - c) t.used) copies
      (subst (λ (p : ℕ). IsFull cap (piece_weight pieces p) (piece_copies pieces p - s.copies) t.used) piece
      (full-above cap (piece_weight pieces s.piece) (piece_copies pieces s.piece - s.copies) s.used t.used above enough))

  pub copies-both : (copies : ℕ) (s t : State N) → s.piece ≡ t.piece → AtMost s.used t.used → HasCopiesFor pieces cap copies s → HasCopiesFor pieces cap s.copies t → HasCopiesFor pieces cap copies t
  copies-both copies s t piece above one two =
      ⊎_elim
      (λ same. ⊎_elim
      (λ equal. inl (equal ∙ same))
      (λ enough. inr (omega (arith, enough.0, same), enough-above s t piece same above enough.1))
      one)
      (λ enough. inr (omega (arith, enough.0, copies-fewer copies s one), enough.1))
      two

  -- where one more copy fits and is left, one is left at the state too
  pub copies-left : (copies : ℕ) (s : State N) → HasCopiesFor pieces cap copies s → copies < piece_copies pieces s.piece → AtMost (plus s.used (piece_weight pieces s.piece)) cap → s.copies < piece_copies pieces s.piece
  copies-left copies s has few fits =
      ⊎_elim
      (λ lt. lt)
      (λ ge. ⊎_elim
      (λ same. omega (arith, same))
      (λ enough.
      let none : piece_copies pieces s.piece - s.copies ≡ 0 = omega arith in
      absurd (full-heavy cap (piece_weight pieces s.piece) s.used (subst (λ (n : ℕ). IsFull cap (piece_weight pieces s.piece) n s.used) none enough.1) fits))
      has)
      (cases_lt s.copies (piece_copies pieces s.piece))

  -- and once it is taken
  pub copies-next : (copies : ℕ) (s : State N) → HasCopiesFor pieces cap copies s → s.copies < piece_copies pieces s.piece → HasCopiesFor pieces cap (copies + 1) (record { piece = s.piece; copies = s.copies + 1; used = plus s.used (piece_weight pieces s.piece) })
  copies-next copies s has left =
      ⊎_elim
      (λ same. inl (ap (λ (c : ℕ). c + 1) same))
      (λ enough.
      let w = piece_weight pieces s.piece in
      let n = piece_copies pieces s.piece - (s.copies + 1) in
      let one : piece_copies pieces s.piece - s.copies ≡ suc n = omega arith in
      inr (omega (arith, enough.0), full-next cap w n s.used (subst (λ (m : ℕ). IsFull cap w m s.used) one enough.1)))
      has
