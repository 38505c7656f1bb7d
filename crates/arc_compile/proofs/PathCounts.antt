-- How many units of a form the arcs of a path carry.
use Rattle.std.proofs.Common.{zero, suc, ◌≡◌, ℕ, ◌+◌, ◌-◌, ◌*◌, ◌<◌, ◌≤◌, inl, inr, ⊎_elim, Bool, true, false, cond, ◌==◌, ◌&&◌, List, [], ◌∷◌, length, ap, ap₂, subst₂, sym, refl, ◌∙◌, subst, arith, get_or, slice_index}
use Rattle.std.specs.Prelude.{◌⊎◌, All, AllPairs, Contains}
use Rattle.std.proofs.lemmas.Bool.{cases_lt, cases_eq, cases_order, cases_Bool, and_from, and_parts, eqb-true, eq-eqb, ne_eqb, cond-true, cond-false, false_from_ne_true}
use Rattle.std.proofs.lemmas.List.{get_or-map}
use Rattle.std.proofs.lemmas.List.Elements.{All-cons, All-head, All-tail, All-contains}
use Rattle.std.proofs.lemmas.List.Sums.{sum_by-cons, get_or-le-sum_by}
use Rattle.std.proofs.Math.Nat.{mul-le-mul_right}
use Rattle.packing_laws.specs.declared.packings.Count.{Count}
use Rattle.packing_laws.specs.Instances.{InstanceValue, IsInstance, type_at, item_at, form_at}
use Rattle.packing_laws.specs.Packings.{Content, Fits, IsWithin, count_of_item, count_of_form, weight_in}
use Rattle.packing_laws.specs.Printed.{SameContent}
use Rattle.packing_laws.proofs.PackedItems.{vector_fits-from, positive_term}
use Rattle.label_graph.specs.declared.parts.GraphArc.{GraphArc}
use Rattle.label_graph.specs.declared.parts.Mark.{Mark}
use Rattle.label_graph.specs.declared.parts.Mark.TheVariants.{Loss, Piece as Carries}
use Rattle.label_graph.specs.declared.parts.Piece.{Piece}
use Rattle.label_graph.specs.Graph.{IsKnown, mark_copies, copies_along}
use Rattle.arc_compile.specs.Extended.{extended_weight}
use Rattle.arc_compile.specs.Exact.{with_mark, content_along}
use Rattle.arc_compile.specs.Pieces.{padded, IsPiece}
use Rattle.arc_compile.proofs.PathContents.{no_piece, piece_at, unit_at, item-at, form-at}
use Rattle.arc_compile.proofs.HeldPieces.{AreApart, HoldPieces}
use Rattle.arc_compile.proofs.PieceChoices.{choice_of}
use Rattle.arc_compile.proofs.ExtendedWeights.{form_vector}

-- the count is of this form
abbrev pub is_form : ℕ → ℕ → Count → Bool
is_form i f n = (n.item == i) && (n.form == f)

pub is_form-from : (i f : ℕ) (n : Count) → n.item ≡ i → n.form ≡ f → is_form i f n ≡ true
is_form-from i f n item form = and_from (n.item == i) (n.form == f) (eq-eqb n.item i item) (eq-eqb n.form f form)

pub is_form-parts : (i f : ℕ) (n : Count) → is_form i f n ≡ true → (n.item ≡ i) × (n.form ≡ f)
is_form-parts i f n h = let both = and_parts (n.item == i) (n.form == f) h in (eqb-true n.item i both.0, eqb-true n.form f both.1)

-- one more count
pub count-more : (i f : ℕ) (n : Count) (c : Content) → count_of_form i f (n ∷ c) ≡ cond (is_form i f n) n.count 0 + count_of_form i f c
count-more i f n c = sum_by-cons (λ (m : Count). cond (is_form i f m) m.count 0) n c

module _ {N : ℕ} (pieces : List (Piece N)) where
  -- pieces of one form have one number
  pub one_number : AllPairs AreApart pieces → (p q : ℕ) → IsKnown pieces (Carries p) → IsKnown pieces (Carries q) → (piece_at pieces p).item ≡ (piece_at pieces q).item → (piece_at pieces p).form ≡ (piece_at pieces q).form → p ≡ q
  one_number apart p q hp hq item form = elim (cases_order p q) [
    | inl e ↦ e
    | inr (inl lt) ↦ absurd (apart (p - 1) (q - 1) (no_piece pieces) (omega (arith, hp.0)) (omega (arith, hq.0, hq.1)) (item, form))
    | inr (inr gt) ↦ absurd (apart (q - 1) (p - 1) (no_piece pieces) (omega (arith, hq.0)) (omega (arith, hp.0, hp.1)) (sym item, sym form))
  ]

  -- a mark carries a unit of a piece's form where it carries the piece
  pub mark-counts : AllPairs AreApart pieces → (p : ℕ) → IsKnown pieces (Carries p) → (m : Mark) (c : Content) → IsKnown pieces m → count_of_form (piece_at pieces p).item (piece_at pieces p).form (with_mark pieces m c) ≡ mark_copies p m + count_of_form (piece_at pieces p).item (piece_at pieces p).form c
  mark-counts apart p hp Loss c h = omega arith
  mark-counts apart p hp (Carries q) c h =
      let i = (piece_at pieces p).item in
      let f = (piece_at pieces p).form in
      let n = unit_at pieces q in
      let more : count_of_form i f (n ∷ c) ≡ cond (is_form i f n) 1 0 + count_of_form i f c = count-more i f n c in
      ⊎_elim
      (λ e.
      let item : n.item ≡ i = item-at pieces q h ∙ ap (λ (k : ℕ). (piece_at pieces k).item) e in
      let form : n.form ≡ f = form-at pieces q h ∙ ap (λ (k : ℕ). (piece_at pieces k).form) e in
      let one : ◌≡◌ {A = ℕ} (cond (is_form i f n) 1 0) 1 = cond-true (is_form i f n) 1 0 (is_form-from i f n item form) in
      let copy : mark_copies p (Carries q) ≡ 1 = cond-true (q == p) 1 0 (eq-eqb q p e) in
      omega arith)
      (λ ne.
      let other : is_form i f n ≡ false = false_from_ne_true (is_form i f n) (λ same. let parts = is_form-parts i f n same in ne (one_number apart q p h hp (sym (item-at pieces q h) ∙ parts.0) (sym (form-at pieces q h) ∙ parts.1))) in
      let none : ◌≡◌ {A = ℕ} (cond (is_form i f n) 1 0) 0 = cond-false (is_form i f n) 1 0 other in
      let no_copy : mark_copies p (Carries q) ≡ 0 = cond-false (q == p) 1 0 (ne_eqb q p ne) in
      omega arith)
      (cases_eq q p)

  -- as many units of a piece's form as copies of the piece
  pub path-counts : AllPairs AreApart pieces → (p : ℕ) → IsKnown pieces (Carries p) → (path : List GraphArc) → All (λ e. IsKnown pieces e.mark) path → count_of_form (piece_at pieces p).item (piece_at pieces p).form (content_along pieces path) ≡ copies_along p path
  path-counts apart p hp [] known = refl
  path-counts apart p hp (e ∷ path) known =
      let first = mark-counts apart p hp e.mark (content_along pieces path) (All-head (λ (x : GraphArc). IsKnown pieces x.mark) e path known) in
      let rest = path-counts apart p hp path (All-tail (λ (x : GraphArc). IsKnown pieces x.mark) e path known) in
      omega arith

  pub mark-none : (i f : ℕ) → All (λ q. ((q.item ≡ i) × (q.form ≡ f)) → ⊥) pieces → (m : Mark) (c : Content) → IsKnown pieces m → count_of_form i f (with_mark pieces m c) ≡ count_of_form i f c
  mark-none i f none Loss c h = refl
  mark-none i f none (Carries q) c h =
      let n = unit_at pieces q in
      let more : count_of_form i f (n ∷ c) ≡ cond (is_form i f n) 1 0 + count_of_form i f c = count-more i f n c in
      let other : is_form i f n ≡ false = false_from_ne_true (is_form i f n) (λ same. let parts = is_form-parts i f n same in none (q - 1) (no_piece pieces) (omega (arith, h.0, h.1)) (sym (item-at pieces q h) ∙ parts.0, sym (form-at pieces q h) ∙ parts.1)) in
      let nothing : ◌≡◌ {A = ℕ} (cond (is_form i f n) 1 0) 0 = cond-false (is_form i f n) 1 0 other in
      omega arith

  -- no unit of a form that no piece has
  pub path-none : (i f : ℕ) → All (λ q. ((q.item ≡ i) × (q.form ≡ f)) → ⊥) pieces → (path : List GraphArc) → All (λ e. IsKnown pieces e.mark) path → count_of_form i f (content_along pieces path) ≡ 0
  path-none i f none [] known = refl
  path-none i f none (e ∷ path) known =
      mark-none i f none e.mark (content_along pieces path) (All-head (λ (x : GraphArc). IsKnown pieces x.mark) e path known)
      ∙ path-none i f none path (All-tail (λ (x : GraphArc). IsKnown pieces x.mark) e path known)

pub both_or_not : (a b i f : ℕ) → ((a ≡ i) × (b ≡ f)) ⊎ (((a ≡ i) × (b ≡ f)) → ⊥)
both_or_not a b i f =
    ⊎_elim
    (λ item. ⊎_elim (λ form. inl (item, form)) (λ form. inr (λ both. form both.1)) (cases_eq b f))
    (λ item. inr (λ both. item both.0))
    (cases_eq a i)

-- the piece of a form, or none
pub find_piece : {N : ℕ} (pieces : List (Piece N)) (d : Piece N) (i f : ℕ) → ((k : ℕ) × (k < length pieces) × ((get_or pieces k d).item ≡ i) × ((get_or pieces k d).form ≡ f)) ⊎ All (λ q. ((q.item ≡ i) × (q.form ≡ f)) → ⊥) pieces
find_piece [] d i f = inr (λ k x lt. absurd (omega arith))
find_piece (q ∷ pieces) d i f =
    ⊎_elim
    (λ later. inl (suc later.0, (let lt : later.0 < length pieces = later.1 in omega arith), later.2, later.3))
    (λ none.
    ⊎_elim
    (λ here. inl (zero, omega arith, here.0, here.1))
    (λ not_here. inr (All-cons (λ r. ((r.item ≡ i) × (r.form ≡ f)) → ⊥) q pieces not_here none))
    (both_or_not q.item q.form i f))
    (find_piece pieces d i f)

module _ {N : ℕ} (I : InstanceValue) (t : ℕ) (known : IsInstance I) (pieces : List (Piece N)) (held : HoldPieces I t pieces) (c : Content) (fits : Fits I t c) (within : IsWithin I c) where
  -- a form of which there is a unit in the content is that of a piece
  pub unit-piece : (k : ℕ) (d : Count) → k < length c → 0 < (get_or c k d).count → (q : Piece N) × Contains pieces q × (q.item ≡ (get_or c k d).item) × (q.form ≡ (get_or c k d).form)
  unit-piece k d lt some =
      let n = get_or c k d in
      let exists = fits.exists k d lt in
      let v = form_at I n.item n.form in
      let cap = (type_at I t).cap in
      let size = (form_vector I known n.item n.form exists.item exists.form).size in
      let asked : cond (n.item == n.item) n.count 0 ≤ count_of_item n.item c = get_or-le-sum_by (λ (m : Count). cond (m.item == n.item) m.count 0) c k d lt in
      let own : cond (n.item == n.item) n.count 0 ≡ n.count = cond-true (n.item == n.item) n.count 0 (eq-eqb n.item n.item refl) in
      let demand : 0 < (item_at I n.item).demand = omega (arith, within n.item exists.item) in
      let each : (j : ℕ) → j < length v → get_or v j 0 ≤ get_or cap j 0 =
      λ j inner.
      let e : j + 1 - 1 ≡ j = omega arith in
      let whole : weight_in I (j + 1) c ≤ get_or cap (j + 1 - 1) 0 = fits.weight (j + 1) (omega arith, omega arith) in
      let part : n.count * get_or v (j + 1 - 1) 0 ≤ weight_in I (j + 1) c = get_or-le-sum_by (λ (m : Count). m.count * slice_index (form_at I m.item m.form) (j + 1 - 1)) c k d lt in
      let both : n.count * get_or v (j + 1 - 1) 0 ≤ get_or cap (j + 1 - 1) 0 = omega arith in
      let here : n.count * get_or v j 0 ≤ get_or cap j 0 = subst (λ (x : ℕ). n.count * get_or v x 0 ≤ get_or cap x 0) e both in
      let one : 1 * get_or v j 0 ≤ n.count * get_or v j 0 = mul-le-mul_right (get_or v j 0) some in
      omega arith
      in
      let q : Piece N = record { item = n.item; form = n.form; weight = padded N (extended_weight I n.item n.form); copies = (item_at I n.item).demand } in
      let is : IsPiece I t q = record { item_is = exists.item; form_is = exists.form; demanded = demand; fits = vector_fits-from v cap each; weighs = refl; copied = refl } in
      (q, held.all q is, refl, refl)

  -- no unit of a form that no piece has
  pub content-none : (i f : ℕ) → All (λ q. ((q.item ≡ i) × (q.form ≡ f)) → ⊥) pieces → count_of_form i f c ≡ 0
  content-none i f none =
      ⊎_elim
      (λ some.
      let nothing : Count = record { item = 0; form = 0; count = 0 } in
      let found = positive_term (λ (n : Count). cond (is_form i f n) n.count 0) c some in
      let n = get_or c found.0 nothing in
      let term : 0 < cond (is_form i f n) n.count 0 = found.2 nothing in
      ⊎_elim
      (λ here.
      let parts = is_form-parts i f n here in
      let own : cond (is_form i f n) n.count 0 ≡ n.count = cond-true (is_form i f n) n.count 0 here in
      let piece = unit-piece found.0 nothing found.1 (omega arith) in
      absurd (All-contains (λ (q : Piece N). ((q.item ≡ i) × (q.form ≡ f)) → ⊥) pieces piece.0 none piece.1 (piece.2 ∙ parts.0, piece.3 ∙ parts.1)))
      (λ elsewhere.
      let nothing : cond (is_form i f n) n.count 0 ≡ 0 = cond-false (is_form i f n) n.count 0 elsewhere in
      absurd (omega arith))
      (cases_Bool (is_form i f n)))
      (λ nothing. omega arith)
      (cases_lt 0 (count_of_form i f c))

  -- a path with the copies of the content's choice has its content
  pub same_content : (path : List GraphArc) → All (λ e. IsKnown pieces e.mark) path → ((p : ℕ) → p < length pieces → copies_along (p + 1) path ≡ get_or (choice_of pieces c) p 0) → SameContent (content_along pieces path) c
  same_content path marks copies i f =
      ⊎_elim
      (λ found.
      let k : ℕ = found.0 in
      let lt : k < length pieces = found.1 in
      let q = get_or pieces k (no_piece pieces) in
      let e : k + 1 - 1 ≡ k = omega arith in
      let item : (piece_at pieces (k + 1)).item ≡ i = ap (λ (j : ℕ). (get_or pieces j (no_piece pieces)).item) e ∙ found.2 in
      let form : (piece_at pieces (k + 1)).form ≡ f = ap (λ (j : ℕ). (get_or pieces j (no_piece pieces)).form) e ∙ found.3 in
      let along : count_of_form (piece_at pieces (k + 1)).item (piece_at pieces (k + 1)).form (content_along pieces path) ≡ copies_along (k + 1) path = path-counts pieces held.apart (k + 1) (omega arith, omega arith) path marks in
      let there : count_of_form i f (content_along pieces path) ≡ copies_along (k + 1) path = subst₂ (λ (x y : ℕ). count_of_form x y (content_along pieces path) ≡ copies_along (k + 1) path) item form along in
      let number : get_or (choice_of pieces c) k 0 ≡ count_of_form q.item q.form c = get_or-map (λ (r : Piece N). count_of_form r.item r.form c) pieces k (no_piece pieces) 0 lt in
      let here : count_of_form q.item q.form c ≡ count_of_form i f c = ap₂ (λ (x y : ℕ). count_of_form x y c) found.2 found.3 in
      there ∙ (copies k lt ∙ (number ∙ here)))
      (λ none. path-none pieces i f none path marks ∙ sym (content-none i f none))
      (find_piece pieces (no_piece pieces) i f)
