-- Steps from the source to the target are choices of copies, each by one list of marks.
use Rattle.std.proofs.Common.{◌≡◌, ℕ, zero, suc, ◌+◌, ◌-◌, ◌*◌, ◌<◌, ◌≤◌, List, [], ◌∷◌, ◌++◌, length, get_or, map, replicate, refl, sym, ap, ◌∙◌, subst, inl, inr, ⊎_elim, arith, append_assoc}
use Rattle.std.proofs.lemmas.Bool.{cases_lt, eq-eqb, ne_eqb}
use Rattle.std.proofs.lemmas.List.{get_or-map, length-append, ext_get_or}
use Rattle.std.proofs.Math.Seq.{get_or-append_seam}
use Rattle.weight_vec.specs.Weight.{AtMost, plus}
use Rattle.weight_vec.proofs.Places.{get_or-plus, get_or-zeros}
use Rattle.label_graph.specs.declared.parts.GraphArc.{GraphArc}
use Rattle.label_graph.specs.declared.parts.Piece.{Piece}
use Rattle.label_graph.specs.declared.parts.Mark.{Mark}
use Rattle.label_graph.specs.declared.parts.Mark.TheVariants.{Loss, Piece as Carries}
use Rattle.label_graph.specs.Graph.{IsPath, IsContent, piece_weight, mark_copies}
use Rattle.level_graph.specs.declared.states.State.{State}
use Rattle.level_graph.specs.Levels.{Step, IsLevels, source, target, piece_copies}
use Rattle.level_graph.specs.LevelLaws.{content_weight, IsChoice, HasChoice, HasOnePath}
use Rattle.level_graph.proofs.Reached.{target-source}
use Rattle.level_graph.proofs.Counting.{beyond}
use Rattle.level_graph.proofs.Leading.{marks_along, copies_in, copies-marks, Leads, path-leads, leads-path, path-one, source-node, target-node}

-- so many copies of piece k, and then some marks
abbrev pub takes_then : ℕ → ℕ → List Mark → List Mark
takes_then k zero marks = marks
takes_then k (suc n) marks = Carries k ∷ takes_then k n marks

-- so many copies of each piece from k on, as the marks of a path
abbrev pub marks_of : ℕ → List ℕ → List Mark
marks_of k [] = []
marks_of k (n ∷ content) = takes_then k n (Loss ∷ marks_of (k + 1) content)

copies-same : (k n : ℕ) (marks : List Mark) → copies_in k (takes_then k n marks) ≡ n + copies_in k marks
copies-same k zero marks = omega arith
copies-same k (suc n) marks =
    let one : mark_copies k (Carries k) ≡ 1 = rw (eq-eqb k k refl) refl in
    omega (arith, copies-same k n marks)

copies-other : (p k n : ℕ) (marks : List Mark) → (k ≡ p → ⊥) → copies_in p (takes_then k n marks) ≡ copies_in p marks
copies-other p k zero marks apart = refl
copies-other p k (suc n) marks apart =
    let none : mark_copies p (Carries k) ≡ 0 = rw (ne_eqb k p apart) refl in
    omega (arith, copies-other p k n marks apart)

copies-below : (p k : ℕ) (content : List ℕ) → p < k → copies_in p (marks_of k content) ≡ 0
copies-below p k [] lt = refl
copies-below p k (n ∷ content) lt =
    let past : copies_in p (marks_of k (n ∷ content)) ≡ 0 + copies_in p (marks_of (k + 1) content) = copies-other p k n (Loss ∷ marks_of (k + 1) content) (λ same. omega arith) in
    let rest : copies_in p (marks_of (k + 1) content) ≡ 0 = copies-below p (k + 1) content (omega arith) in
    omega arith

pub copies-of : (content : List ℕ) (k i : ℕ) → i < length content → copies_in (k + i) (marks_of k content) ≡ get_or content i 0
copies-of [] k i lt = absurd (omega arith)
copies-of (n ∷ content) k zero lt =
    let same : k ≡ k + 0 = omega arith in
    let here : copies_in k (marks_of k (n ∷ content)) ≡ n + (0 + copies_in k (marks_of (k + 1) content)) = copies-same k n (Loss ∷ marks_of (k + 1) content) in
    let count : copies_in k (marks_of k (n ∷ content)) ≡ n = omega (arith, copies-below k (k + 1) content (omega arith)) in
    subst (λ (p : ℕ). copies_in p (marks_of k (n ∷ content)) ≡ n) same count
copies-of (n ∷ content) k (suc i) lt =
    let same : k + 1 + i ≡ k + suc i = omega arith in
    let later : copies_in (k + 1 + i) (marks_of (k + 1) content) ≡ get_or content i 0 = copies-of content (k + 1) i (omega arith) in
    let past : copies_in (k + suc i) (marks_of k (n ∷ content)) ≡ 0 + copies_in (k + suc i) (marks_of (k + 1) content) = copies-other (k + suc i) k n (Loss ∷ marks_of (k + 1) content) (λ e. omega arith) in
    let rest : copies_in (k + suc i) (marks_of (k + 1) content) ≡ get_or content i 0 = subst (λ (p : ℕ). copies_in p (marks_of (k + 1) content) ≡ get_or content i 0) same later in
    let value : get_or (n ∷ content) (suc i) 0 ≡ get_or content i 0 = refl in
    omega arith

module _ {N : ℕ} (pieces : List (Piece N)) (room : List ℕ) where
  abbrev pub weight_at : ℕ → ℕ → ℕ
  weight_at p d = get_or (piece_weight pieces p) d 0

  -- what the copies of the pieces from p on weigh
  abbrev pub rest_weight : ℕ → ℕ → List ℕ → ℕ
  rest_weight p d [] = 0
  rest_weight p d (n ∷ content) = n * weight_at p d + rest_weight (p + 1) d content

  -- so many more copies of the state's piece, and of those after it
  record Onward (s : State N) (n : ℕ) (rest : List ℕ) : Type 0 where
    whole : s.piece + length rest ≡ length pieces
    copies : s.copies + n ≤ piece_copies pieces s.piece
    more : (i : ℕ) → i < length rest → get_or rest i 0 ≤ piece_copies pieces (s.piece + 1 + i)
    fits : (d : ℕ) → get_or s.used d 0 + n * weight_at s.piece d + rest_weight (s.piece + 1) d rest ≤ get_or room d 0

  step-ends : (m : Mark) (t : State N) → Step pieces room (target pieces room) m t → ⊥
  step-ends (Carries p) t step = omega (arith, step.1, beyond pieces room pieces)
  step-ends Loss t step = ⊎_elim (λ w. omega (arith, w.0, beyond pieces room pieces)) (λ w. omega (arith, w.0, beyond pieces room pieces)) step

  leads-end : (marks : List Mark) → Leads pieces room (target pieces room) marks (target pieces room) → marks ≡ []
  leads-end [] h = refl
  leads-end (m ∷ marks) h = absurd (step-ends m h.0 h.1)

  leads-onward : (marks : List Mark) (s : State N) → s.piece ≤ length pieces → s.copies ≤ piece_copies pieces s.piece → AtMost s.used room → Leads pieces room s marks (target pieces room) → (n : ℕ) × (rest : List ℕ) × Onward s n rest × (marks ≡ takes_then s.piece n (Loss ∷ marks_of (s.piece + 1) rest))
  leads-onward [] s low copies fits h = absurd (let e : s.piece ≡ (target pieces room).piece = ap (λ (z : State N). z.piece) h in omega (arith, beyond pieces room pieces))
  leads-onward (Carries p ∷ marks) s low copies fits h =
      let u : State N = record { piece = s.piece; copies = s.copies + 1; used = plus s.used (piece_weight pieces s.piece) } in
      let step = h.1 in
      let later = leads-onward marks u low (omega (arith, step.2)) step.3 (subst (λ (z : State N). Leads pieces room z marks (target pieces room)) step.4 h.2) in
      let on = later.2 in (
        suc later.0,
        later.1,
        record {
          whole = on.whole;
          copies = omega (arith, on.copies);
          more = on.more;
          fits = λ d. omega (arith, on.fits d, get_or-plus s.used (piece_weight pieces s.piece) d);
        },
        λ i. Carries (step.0 i) ∷ later.3 i,
      )
  leads-onward (Loss ∷ marks) s low copies fits h =
      ⊎_elim
      (λ w.
      let u : State N = record { piece = s.piece + 1; copies = 0; used = s.used } in
      let later = leads-onward marks u (omega (arith, w.0)) (omega arith) fits (subst (λ (z : State N). Leads pieces room z marks (target pieces room)) w.1 h.2) in
      let on = later.2 in (
        0,
        later.0 ∷ later.1,
        record {
          whole = omega (arith, on.whole);
          copies = omega arith;
          more = more_of s later.0 later.1 on;
          fits = λ d. omega (arith, on.fits d);
        },
        ap (λ (ms : List Mark). Loss ∷ ms) later.3,
      ))
      (λ w.
      let none = leads-end marks (subst (λ (z : State N). Leads pieces room z marks (target pieces room)) w.1 h.2) in (
        0,
        [],
        record {
          whole = omega (arith, w.0);
          copies = omega arith;
          more = λ i lt. absurd (omega arith);
          fits = λ d. omega (arith, fits d);
        },
        ap (λ (ms : List Mark). Loss ∷ ms) none,
      ))
      h.1
    where
      more_of : (s : State N) (n : ℕ) (rest : List ℕ) → Onward (record { piece = s.piece + 1; copies = 0; used = s.used }) n rest → (i : ℕ) → i < length (n ∷ rest) → get_or (n ∷ rest) i 0 ≤ piece_copies pieces (s.piece + 1 + i)
      more_of s n rest on zero lt = let same : s.piece + 1 ≡ s.piece + 1 + 0 = omega arith in subst (λ (p : ℕ). n ≤ piece_copies pieces p) same (omega (arith, on.copies))
      more_of s n rest on (suc i) lt = let same : s.piece + 1 + 1 + i ≡ s.piece + 1 + suc i = omega arith in subst (λ (p : ℕ). get_or rest i 0 ≤ piece_copies pieces p) same (on.more i (omega arith))

  abbrev pub state_at : ℕ → ℕ → List ℕ → State N
  state_at p c x = record { piece = p; copies = c; used = x }

  takes-lead : (n p c : ℕ) (x : List ℕ) (marks : List Mark) (t : State N) → p ≤ length pieces → c + n ≤ piece_copies pieces p → ((d : ℕ) → get_or x d 0 + n * weight_at p d ≤ get_or room d 0) → ((c' : ℕ) (y : List ℕ) → ((d : ℕ) → get_or y d 0 ≡ get_or x d 0 + n * weight_at p d) → Leads pieces room (state_at p c' y) marks t) → Leads pieces room (state_at p c x) (takes_then p n marks) t
  takes-lead zero p c x marks t low copies fits on = on c x (λ d. omega arith)
  takes-lead (suc n) p c x marks t low copies fits on =
      let y : List ℕ = plus x (piece_weight pieces p) in (
        state_at p (c + 1) y,
        (refl, low, omega arith, (λ d. omega (arith, fits d, get_or-plus x (piece_weight pieces p) d)), refl),
        takes-lead n p (c + 1) y marks t low (omega arith) (λ d. omega (arith, fits d, get_or-plus x (piece_weight pieces p) d)) (λ c' z h. on c' z (λ d. omega (arith, h d, get_or-plus x (piece_weight pieces p) d))),
      )

  rest-leads : (rest : List ℕ) (p c : ℕ) (x : List ℕ) → p + length rest ≡ length pieces → ((i : ℕ) → i < length rest → get_or rest i 0 ≤ piece_copies pieces (p + 1 + i)) → ((d : ℕ) → get_or x d 0 + rest_weight (p + 1) d rest ≤ get_or room d 0) → Leads pieces room (state_at p c x) (Loss ∷ marks_of (p + 1) rest) (target pieces room)
  rest-leads [] p c x whole more fits = (target pieces room, inr (omega arith, refl), refl)
  rest-leads (n ∷ rest) p c x whole more fits =
      let same : p + 1 + 0 ≡ p + 1 = omega arith in
      let copies : n ≤ piece_copies pieces (p + 1) = subst (λ (q : ℕ). n ≤ piece_copies pieces q) same (more 0 (omega arith)) in (
        state_at (p + 1) 0 x,
        inl (omega arith, refl),
        takes-lead n (p + 1) 0 x (Loss ∷ marks_of (p + 1 + 1) rest) (target pieces room) (omega arith) (omega arith) (λ d. omega (arith, fits d))
            (λ c' y h. rest-leads rest (p + 1) c' y (omega arith)
            (λ i lt. let shift : p + 1 + suc i ≡ p + 1 + 1 + i = omega arith in subst (λ (q : ℕ). get_or rest i 0 ≤ piece_copies pieces q) shift (more (suc i) (omega arith)))
            (λ d. omega (arith, fits d, h d))),
      )

  -- the weight of a content, piece by piece
  weights-same : (front ps : List (Piece N)) (content : List ℕ) (p d : ℕ) → pieces ≡ front ++ ps → p ≡ length front + 1 → length content ≡ length ps → content_weight ps d content ≡ rest_weight p d content
  weights-same front [] [] p d split at sized = refl
  weights-same front [] (n ∷ content) p d split at sized = absurd (omega arith)
  weights-same front (q ∷ ps) [] p d split at sized = absurd (omega arith)
  weights-same front (q ∷ ps) (n ∷ content) p d split at sized =
      let index : p - 1 ≡ length front = omega arith in
      let lt : length front < length (front ++ q ∷ ps) = omega (arith, length-append front (q ∷ ps)) in
      let seam : get_or (map (λ (z : Piece N). z.weight) (front ++ q ∷ ps)) (length front) [] ≡ q.weight = get_or-map (λ (z : Piece N). z.weight) (front ++ q ∷ ps) (length front) q [] lt ∙ ap (λ (z : Piece N). z.weight) (get_or-append_seam front q ps q) in
      let here : piece_weight pieces p ≡ q.weight = rw (index, split) seam in
      let weight : weight_at p d ≡ get_or q.weight d 0 = ap (λ (w : List ℕ). get_or w d 0) here in
      let rest : content_weight ps d content ≡ rest_weight (p + 1) d content = weights-same (front ++ q ∷ []) ps content (p + 1) d (split ∙ sym (append_assoc front (q ∷ []) ps)) (omega (arith, length-append front (q ∷ []))) (omega arith) in
      let product : n * weight_at p d ≡ n * get_or q.weight d 0 = ap (λ (w : ℕ). n * w) weight in
      omega arith

  abbrev pub zeros : List ℕ
  zeros = replicate N 0

  leads-choice : (marks : List Mark) → Leads pieces room (source N) marks (target pieces room) → (content : List ℕ) × IsChoice pieces room content × (marks ≡ marks_of 1 content)
  leads-choice marks h =
      ⊎_elim
      (λ some.
      let on = leads-onward marks (source N) (omega arith) (omega arith) (λ d. omega (arith, get_or-zeros N d)) h in
      let o = on.2 in
      let content : List ℕ = on.0 ∷ on.1 in
      let sized : length content ≡ length pieces = omega (arith, o.whole) in (
        content,
        record {
          whole = sized;
          copies = copies_of on.0 on.1 o;
          fits = λ d. omega (arith, o.fits d, weights-same [] pieces content 1 d refl (omega arith) sized, get_or-zeros N d);
        },
        on.3,
      ))
      (λ none.
      let no_pieces : length pieces ≡ 0 = omega arith in
      let nothing = leads-end marks (subst (λ (z : State N). Leads pieces room z marks (target pieces room)) (sym (target-source pieces room no_pieces)) h) in (
        [],
        record {
          whole = sym no_pieces;
          copies = λ p lt. absurd (omega arith);
          fits = λ d. omega (arith, weights-same [] pieces [] 1 d refl (omega arith) (sym no_pieces));
        },
        nothing,
      ))
      (cases_lt 0 (length pieces))
    where
      copies_of : (n : ℕ) (rest : List ℕ) → Onward (source N) n rest → (p : ℕ) → p < length pieces → get_or (n ∷ rest) p 0 ≤ piece_copies pieces (p + 1)
      copies_of n rest o zero lt = omega (arith, o.copies)
      copies_of n rest o (suc i) lt = let same : 1 + 1 + i ≡ suc i + 1 = omega arith in subst (λ (q : ℕ). get_or rest i 0 ≤ piece_copies pieces q) same (o.more i (omega (arith, o.whole)))

  choice-leads : (content : List ℕ) → IsChoice pieces room content → Leads pieces room (source N) (marks_of 1 content) (target pieces room)
  choice-leads [] choice = sym (target-source pieces room (sym choice.whole))
  choice-leads (n ∷ rest) choice =
      let sized : 1 + length rest ≡ length pieces = omega (arith, choice.whole) in
      let fits : (d : ℕ) → get_or zeros d 0 + n * weight_at 1 d + rest_weight (1 + 1) d rest ≤ get_or room d 0 = λ d. omega (arith, choice.fits d, weights-same [] pieces (n ∷ rest) 1 d refl (omega arith) choice.whole, get_or-zeros N d) in
      takes-lead n 1 0 zeros (Loss ∷ marks_of (1 + 1) rest) (target pieces room) (omega arith) (omega (arith, choice.copies 0 (omega arith))) (λ d. omega (arith, fits d))
      (λ c y h. rest-leads rest 1 c y sized
      (λ i lt. let same : suc i + 1 ≡ 1 + 1 + i = omega arith in subst (λ (q : ℕ). get_or rest i 0 ≤ piece_copies pieces q) same (choice.copies (suc i) (omega arith)))
      (λ d. omega (arith, fits d, h d)))

  module _ (states : List (State N)) (arcs : List GraphArc) (are : IsLevels pieces room states arcs) where
    content-along : (content : List ℕ) (path : List GraphArc) → length content ≡ length pieces → marks_along path ≡ marks_of 1 content → IsContent (length pieces) content path
    content-along content path sized marks =
        record {
          whole = sized;
          copies = λ p lt.
              let same : 1 + p ≡ p + 1 = omega arith in
              copies-marks (p + 1) path ∙ ap (copies_in (p + 1)) marks ∙ subst (λ (q : ℕ). copies_in q (marks_of 1 content) ≡ get_or content p 0) same (copies-of content 1 p (omega arith));
        }

    path-choice : (path : List GraphArc) → IsPath arcs 1 (length states) path → (content : List ℕ) × IsChoice pieces room content × (marks_along path ≡ marks_of 1 content)
    path-choice path h = leads-choice (marks_along path) (path-leads pieces room states arcs are path 1 (length states) (source N) (target pieces room) (source-node pieces room states arcs are) (target-node pieces room states arcs are) h)

    pub has_choice : (path : List GraphArc) → IsPath arcs 1 (length states) path → HasChoice pieces room path
    has_choice path h =
        let made = path-choice path h in
        record { content = made.0; choice = made.1; along = content-along made.0 path made.1.whole made.2 }

    pub has_one_path : (content : List ℕ) → IsChoice pieces room content → HasOnePath arcs 1 (length states) (length pieces) content
    has_one_path content choice =
        let made = leads-path pieces room states arcs are (marks_of 1 content) 1 (length states) (source N) (target pieces room) (source-node pieces room states arcs are) (target-node pieces room states arcs are) (choice-leads content choice) in
        record {
          path = made.0;
          leads = made.1;
          along = content-along content made.0 choice.whole made.2;
          only = λ other h along.
              let theirs = path-choice other h in
              let again = content-along theirs.0 other theirs.1.whole theirs.2 in
              let same : theirs.0 ≡ content = ext_get_or 0 theirs.0 content (theirs.1.whole ∙ sym choice.whole) (λ p lt.
              let size = theirs.1.whole in
              let in_range : p < length pieces = omega arith in
              sym (again.copies p in_range) ∙ along.copies p in_range) in
              path-one pieces room states arcs are other made.0 1 (length states) (length states) h made.1 (theirs.2 ∙ ap (marks_of 1) same ∙ sym made.2);
        }
