-- Tables tell sums, and weights that are lifted by them stand for the weights.
use Rattle.std.proofs.Common.{◌≡◌, ℕ, suc, ◌+◌, ◌-◌, ◌*◌, ◌^◌, ◌<◌, ◌≤◌, ◌⊎◌, List, [], ◌∷◌, ◌++◌, length, get_or, set, refl, sym, ap, ◌∙◌, subst, inl, inr, ⊎_elim, arith}
use Rattle.std.proofs.lemmas.Bool.{cases_lt}
use Rattle.std.proofs.lemmas.List.{get_or_past, get_or_read, get_or-map, get_or_append_left, get_or_push, length-append, get_or-set_same, get_or-set_other}
use Rattle.weight_vec.specs.Weight.{AtMost}
use Rattle.label_graph.specs.declared.parts.Piece.{Piece}
use Rattle.label_graph.specs.Graph.{piece_weight}
use Rattle.level_graph.specs.Levels.{piece_copies}
use Rattle.lift_build.specs.inner.Rooms.{left_before, room_left, IsFull, HasCopiesFor, IsUnder}
use Rattle.level_graph.specs.declared.states.State.{State}
use Rattle.lift_build.specs.inner.Tables.{IsTable, HasMember, MayBeNext, AreZeros, TellsSums, IsRow, AreRows, IsFirstRow, IsNextRow, IsLiftAt, IsLiftBy}
use Rattle.lift_build.proofs.Takings.{taking-sums}
use Rattle.lift_build.proofs.Lifts.{before-is_room, room-within, under-copies, under-both}

pub parts-more : (P : ℕ → ℕ → Type 0) (parts : List ℕ) (i v : ℕ) → i < length parts → ((d : ℕ) → d < i → P d (get_or parts d 0)) → P i v → (d : ℕ) → d < i + 1 → P d (get_or (set parts i v) d 0)
parts-more P parts i v within old here d lt =
    ⊎_elim
    (λ low. subst (P d) (sym (get_or-set_other parts i d v 0 (omega arith))) (old d low))
    (λ ge.
    let e : d ≡ i = omega arith in
    subst (λ (j : ℕ). P j (get_or (set parts i v) j 0)) (sym e) (subst (P i) (sym (get_or-set_same parts i v 0 within)) here))
    (cases_lt d i)

-- with one more element
pub row-more : {X : Type 0} (P : ℕ → X → Type 0) (none : X) (row : List X) (n : ℕ) (x : X) → length row ≡ n → ((d : ℕ) → d < n → P d (get_or row d none)) → P n x → (d : ℕ) → d < n + 1 → P d (get_or (row ++ x ∷ []) d none)
row-more P none row n x count old here d lt =
    ⊎_elim
    (λ low. subst (P d) (sym (get_or_append_left row (x ∷ []) none d (omega arith))) (old d low))
    (λ ge.
    let e : d ≡ n = omega arith in
    subst (P d) (sym (get_or_push row x none d (omega arith))) (subst (λ (j : ℕ). P j x) (sym e) here))
    (cases_lt d n)

-- the table that is told of is a table
pub tells-table : {N : ℕ} (pieces : List (Piece N)) (cap : List ℕ) (m d : ℕ) (table : List ℕ) → TellsSums pieces cap m d table → IsTable table
tells-table pieces cap m d table tells =
    ⊎_elim
    (λ none. record { under = λ r lt. absurd (omega arith); rises = λ r q le lt. absurd (omega arith) })
    (λ is. is.ordered)
    tells

pub tells-count : {N : ℕ} (pieces : List (Piece N)) (cap : List ℕ) (m d : ℕ) (table : List ℕ) → TellsSums pieces cap m d table → (length table ≡ 0) ⊎ (length table ≡ get_or cap d 0 + 1)
tells-count pieces cap m d table tells = ⊎_elim (λ none. inl none) (λ is. inr is.count) tells

module _ {N : ℕ} (pieces : List (Piece N)) (cap : List ℕ) where
  -- the table of no pieces
  pub zeros-tell : (d : ℕ) (table : List ℕ) → AreZeros (get_or cap d 0 + 1) table → TellsSums pieces cap 0 d table
  unfolding left_before
  zeros-tell d table zeros =
      ⊎_elim
      (λ none. inl none)
      (λ count. inr (record {
        count = count;
        ordered = record { under = λ r lt. omega (arith, zeros.zero r); rises = λ r q le lt. omega (arith, zeros.zero r, zeros.zero q) };
        sums = λ c x fits. (0, (omega arith, zeros.zero 0), omega (arith, fits d), omega arith);
      }))
      zeros.count_is

  pub first-row : (row : List (List ℕ)) → IsFirstRow N cap row → IsRow pieces cap 0 row
  first-row row is = record { count = is.count; each = λ d lt. zeros-tell d (get_or row d []) (is.each d lt) }

  module _ (sized : length cap ≡ N) where
    -- the table of one piece more
    pub next-tells : (m d : ℕ) (behind table : List ℕ) → TellsSums pieces cap m d behind → MayBeNext behind (get_or (piece_weight pieces (length pieces - m)) d 0) (piece_copies pieces (length pieces - m)) table → TellsSums pieces cap (suc m) d table
    unfolding left_before
    next-tells m d behind table tells may =
        let w = piece_weight pieces (length pieces - m) in
        let b = piece_copies pieces (length pieces - m) in
        ⊎_elim
        (λ none. inl none)
        (λ next. ⊎_elim
        (λ missing. inl (next.count ∙ missing))
        (λ is. inr (record {
          count = next.count ∙ is.count;
          ordered = next.ordered;
          sums = λ c x fits.
              let has = taking-sums N cap w (left_before pieces cap m 0) (before-is_room pieces cap sized m 0) d (HasMember behind) (λ y low. is.sums 0 y low) (b - c) x fits in
              let by = has.1 in
              let made : by.0 + by.1 * get_or w d 0 ≡ has.0 = by.4 in
              let low : has.0 < length table = omega (arith, has.2, next.count, is.count) in
              let member = next.multiples by.0 by.1 by.2 (omega (arith, by.3)) (omega arith) in
              (has.0, (low, subst (λ (v : ℕ). get_or table v 0 ≡ v) made member), has.2, has.3);
        }))
        tells)
        may

    pub next-row : (m : ℕ) (behind row : List (List ℕ)) (piece : Piece N) → piece_weight pieces (length pieces - m) ≡ piece.weight → piece_copies pieces (length pieces - m) ≡ piece.copies → IsRow pieces cap m behind → IsNextRow behind piece row → IsRow pieces cap (suc m) row
    next-row m behind row piece weight copies is next = record {
      count = next.count;
      each = λ d lt. next-tells m d (get_or behind d []) (get_or row d []) (is.each d lt)
          (subst (λ (w : List ℕ). MayBeNext (get_or behind d []) (get_or w d 0) (piece_copies pieces (length pieces - m)) (get_or row d [])) (sym weight)
          (subst (λ (b : ℕ). MayBeNext (get_or behind d []) (get_or piece.weight d 0) b (get_or row d [])) (sym copies) (next.each d lt)));
    }

    -- a weight that is lifted by the tables of the pieces to come lies between the weight and what is left
    pub lift-high : (m c : ℕ) (row : List (List ℕ)) (used lifted : List ℕ) → AtMost used cap → length used ≡ N → IsRow pieces cap m row → IsLiftBy N row cap used lifted → AtMost used lifted × AtMost lifted (left_before pieces cap m c used)
    lift-high m c row used lifted fits used_sized is by = (
      λ d. ⊎_elim (λ lt. (by.each d lt).low) (λ ge. omega (arith, get_or_past used d 0 (omega arith))) (cases_lt d N),
      λ d. ⊎_elim
          (λ lt.
          let at = by.each d lt in
          ⊎_elim
          (λ none. omega (arith, at.left_out none, (before-is_room pieces cap sized m c).above used fits d))
          (λ table. let has = table.sums c used fits in omega (arith, at.sums has.0 has.1 has.2, has.3))
          (is.each d lt))
          (λ ge. omega (arith, get_or_past lifted d 0 (omega (arith, by.sized))))
          (cases_lt d N),
    )

-- a state that is lifted by the tables of its pieces to come stands for the state
pub lifted-under : {N : ℕ} (pieces : List (Piece N)) (cap : List ℕ) → length cap ≡ N → (s : State N) (row : List (List ℕ)) (lifted : List ℕ) → AtMost s.used cap → length s.used ≡ N → IsRow pieces cap (length pieces + 1 - s.piece) row → IsLiftBy N row cap s.used lifted → IsUnder pieces cap s (record { piece = s.piece; copies = s.copies; used = lifted })
unfolding room_left
lifted-under pieces cap sized s row lifted fits used_sized is by =
    let high = lift-high pieces cap sized (length pieces + 1 - s.piece) s.copies row s.used lifted fits used_sized is by in
    record { piece = refl; copies = inl refl; above = high.0; below = high.1 }

pub lifted-fits : {N : ℕ} (pieces : List (Piece N)) (cap : List ℕ) → length cap ≡ N → (s : State N) (row : List (List ℕ)) (lifted : List ℕ) → AtMost s.used cap → length s.used ≡ N → IsRow pieces cap (length pieces + 1 - s.piece) row → IsLiftBy N row cap s.used lifted → AtMost lifted cap
lifted-fits pieces cap sized s row lifted fits used_sized is by d = omega (arith, (lifted-under pieces cap sized s row lifted fits used_sized is by).below d, room-within pieces cap sized s d)

-- and so does the state that has more copies taken besides, where those that are left are enough
pub lifted-more : {N : ℕ} (pieces : List (Piece N)) (cap : List ℕ) → length cap ≡ N → (s : State N) (row : List (List ℕ)) (lifted : List ℕ) → AtMost s.used cap → length s.used ≡ N → IsRow pieces cap (length pieces + 1 - s.piece) row → IsLiftBy N row cap s.used lifted → (copies : ℕ) → HasCopiesFor pieces cap s.copies (record { piece = s.piece; copies = copies; used = lifted }) → IsUnder pieces cap s (record { piece = s.piece; copies = copies; used = lifted })
lifted-more {N} pieces cap sized s row lifted fits used_sized is by copies has =
    let mid : State N = record { piece = s.piece; copies = s.copies; used = lifted } in
    let last : State N = record { piece = s.piece; copies = copies; used = lifted } in
    under-both pieces cap sized s mid last (lifted-under pieces cap sized s row lifted fits used_sized is by)
    (under-copies pieces cap sized mid last (lifted-fits pieces cap sized s row lifted fits used_sized is by) refl has)

-- rows of tables, from that of no pieces on
module _ {N : ℕ} (pieces : List (Piece N)) (cap : List ℕ) where
  pub rows-start : (n : ℕ) (row : List (List ℕ)) (rows : List (List (List ℕ))) → n ≡ 1 → rows ≡ row ∷ [] → IsFirstRow N cap row → AreRows pieces cap n rows
  rows-start n row rows one are first = record {
    count = ap length are ∙ sym one;
    each = λ m lt.
        let e : 0 ≡ m = omega arith in
        subst (λ (rs : List (List (List ℕ))). IsRow pieces cap m (get_or rs m [])) (sym are) (subst (λ (k : ℕ). IsRow pieces cap k (get_or (row ∷ []) k [])) e (first-row pieces cap row first));
  }

  pub piece-weight : (j : ℕ) (piece : Piece N) → 1 ≤ j → j ≤ length pieces → piece ≡ get_or pieces (j - 1) piece → (piece_weight pieces j ≡ piece.weight) × (piece_copies pieces j ≡ piece.copies)
  piece-weight j piece low high at =
      let lt : j - 1 < length pieces = omega arith in
      (get_or-map (λ (q : Piece N). q.weight) pieces (j - 1) piece [] lt ∙ ap (λ (q : Piece N). q.weight) (sym at), get_or-map (λ (q : Piece N). q.copies) pieces (j - 1) piece 0 lt ∙ ap (λ (q : Piece N). q.copies) (sym at))

  -- the copies of a piece, told by the piece
  pub piece-copies : (j : ℕ) (piece : Piece N) → 1 ≤ j → j ≤ length pieces → piece ≡ get_or pieces (j - 1) piece → (copies more : ℕ) (used : List ℕ) → copies ≤ more → (more ≡ copies) ⊎ IsFull cap piece.weight (piece.copies - more) used → HasCopiesFor pieces cap copies (record { piece = j; copies = more; used = used })
  piece-copies j piece low high at copies more used le told =
      let parts = piece-weight j piece low high at in
      ⊎_elim
      (λ same. inl (sym same))
      (λ full. inr (
        le,
        subst (λ (w : List ℕ). IsFull cap w (piece_copies pieces j - more) used) (sym parts.0)
            (subst (λ (b : ℕ). IsFull cap piece.weight (b - more) used) (sym parts.1) full),
      ))
      told

  module _ (sized : length cap ≡ N) (j n : ℕ) (rows : List (List (List ℕ))) (low : 1 ≤ j) (high : j ≤ length pieces) (here : n ≡ length pieces - j + 1) (are : AreRows pieces cap n rows) (behind : List (List ℕ)) (at : behind ≡ get_or rows (n - 1) behind) where
    pub behind-row : IsRow pieces cap (n - 1) behind
    behind-row =
        let lt : n - 1 < n = omega arith in
        let same : behind ≡ get_or rows (n - 1) [] = get_or_read rows (n - 1) behind (omega (arith, are.count)) at [] in
        subst (λ (row : List (List ℕ)). IsRow pieces cap (n - 1) row) (sym same) (are.each (n - 1) lt)

    pub rows-next : (n' : ℕ) (row : List (List ℕ)) (piece : Piece N) → n' ≡ n + 1 → piece ≡ get_or pieces (j - 1) piece → IsNextRow behind piece row → AreRows pieces cap n' (rows ++ row ∷ [])
    rows-next n' row piece more piece_at next =
        let k : length pieces - (n - 1) ≡ j = omega arith in
        let parts = piece-weight j piece low high piece_at in
        let new : IsRow pieces cap (suc (n - 1)) row = next-row pieces cap sized (n - 1) behind row piece (ap (λ (p : ℕ). piece_weight pieces p) k ∙ parts.0) (ap (λ (p : ℕ). piece_copies pieces p) k ∙ parts.1) behind-row next in
        let last : suc (n - 1) ≡ n = omega arith in
        record {
          count = omega (arith, length-append rows (row ∷ []), are.count);
          each = λ m lt. row-more (IsRow pieces cap) [] rows n row are.count are.each (subst (λ (i : ℕ). IsRow pieces cap i row) last new) m (omega arith);
        }

    pub behind-few : ((d : ℕ) → get_or cap d 0 < 2 ^ 32) → (d : ℕ) → d < N → length (get_or behind d []) ≤ 2 ^ 32
    behind-few ranged d lt = ⊎_elim (λ none. omega arith) (λ count. omega (arith, ranged d)) (tells-count pieces cap (n - 1) d (get_or behind d []) (behind-row.each d lt))

    pub behind-tables : (d : ℕ) → d < N → IsTable (get_or behind d [])
    behind-tables d lt = tells-table pieces cap (n - 1) d (get_or behind d []) (behind-row.each d lt)

-- a lift in one dimension
module _ (table : List ℕ) (most used : ℕ) (fits : used ≤ most) (is : IsTable table) where
  pub lift-by : (sum : ℕ) → most - used < length table → sum ≡ get_or table (most - used) 0 → IsLiftAt table most used (most - sum)
  lift-by sum within same =
      let low = is.under (most - used) within in
      record {
        low = omega arith;
        left_out = λ none. absurd (omega arith);
        sums = λ s member room. omega (arith, is.rises s (most - used) (omega arith) within, member.1, low);
      }

  pub no_lift : length table ≤ most - used → (length table ≡ 0) ⊎ (length table ≡ most + 1) → IsLiftAt table most used used
  no_lift past count = ⊎_elim
      (λ none. record { low = omega arith; left_out = λ e. refl; sums = λ s member room. absurd (omega (arith, member.0)) })
      (λ whole. absurd (omega arith))
      count
