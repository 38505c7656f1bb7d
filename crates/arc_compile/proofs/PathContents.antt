-- What the arcs of a path carry, as a content.
use Rattle.std.proofs.Common.{◌≡◌, ℕ, ◌+◌, ◌-◌, ◌*◌, ◌<◌, List, [], ◌∷◌, length, ap, ap₂, refl, ◌∙◌, arith, get_or}
use Rattle.std.specs.Prelude.{All}
use Rattle.std.proofs.lemmas.List.{get_or-map}
use Rattle.std.proofs.lemmas.List.Elements.{All-nil, All-cons, All-head, All-tail, All-contains}
use Rattle.std.proofs.lemmas.List.Sums.{sum_by-cons}
use Rattle.packing_laws.specs.declared.packings.Count.{Count}
use Rattle.packing_laws.specs.Instances.{InstanceValue}
use Rattle.packing_laws.specs.Packings.{Content, Exists}
use Rattle.weight_vec.proofs.Places.{get_or-padded}
use Rattle.label_graph.specs.declared.parts.GraphArc.{GraphArc}
use Rattle.label_graph.specs.declared.parts.Mark.{Mark}
use Rattle.label_graph.specs.declared.parts.Mark.TheVariants.{Loss, Piece as Carries}
use Rattle.label_graph.specs.declared.parts.Piece.{Piece}
use Rattle.label_graph.specs.Graph.{IsKnown, IsPath, mark_weight, weight_in as path_weight}
use Rattle.arc_compile.specs.Extended.{extended_in, extended_weight}
use Rattle.arc_compile.specs.Exact.{marked_item, marked_form, with_mark, content_along}
use Rattle.arc_compile.proofs.HeldPieces.{IsFormPiece}

-- the unit that a mark with a piece carries
abbrev pub unit_at : {N : ℕ} → List (Piece N) → ℕ → Count
unit_at pieces p = record { item = marked_item pieces (Carries p); form = marked_form pieces (Carries p); count = 1 }

module _ {N : ℕ} (pieces : List (Piece N)) where
  abbrev pub no_piece : Piece N
  no_piece = record { item = 0; form = 0; weight = []; copies = 0 }

  -- the piece with this number
  abbrev pub piece_at : ℕ → Piece N
  piece_at p = get_or pieces (p - 1) no_piece

  pub number-at : (p : ℕ) → IsKnown pieces (Carries p) → p - 1 < length pieces
  number-at p h = omega (arith, h.0, h.1)

  pub item-at : (p : ℕ) → IsKnown pieces (Carries p) → marked_item pieces (Carries p) ≡ (piece_at p).item
  item-at p h = get_or-map (λ (q : Piece N). q.item) pieces (p - 1) no_piece 0 (number-at p h)

  pub form-at : (p : ℕ) → IsKnown pieces (Carries p) → marked_form pieces (Carries p) ≡ (piece_at p).form
  form-at p h = get_or-map (λ (q : Piece N). q.form) pieces (p - 1) no_piece 0 (number-at p h)

  pub weight-at : (p : ℕ) → IsKnown pieces (Carries p) → mark_weight pieces (Carries p) ≡ (piece_at p).weight
  weight-at p h = get_or-map (λ (q : Piece N). q.weight) pieces (p - 1) no_piece [] (number-at p h)

  -- the marks of a path are those of arcs
  pub path-known : (arcs path : List GraphArc) (a b : ℕ) → All (λ e. IsKnown pieces e.mark) arcs → IsPath arcs a b path → All (λ e. IsKnown pieces e.mark) path
  path-known arcs [] a b known leads = All-nil (λ (e : GraphArc). IsKnown pieces e.mark)
  path-known arcs (e ∷ path) a b known leads =
      All-cons (λ (x : GraphArc). IsKnown pieces x.mark) e path
      (All-contains (λ (x : GraphArc). IsKnown pieces x.mark) arcs e known leads.0)
      (path-known arcs path e.head b known leads.2)

module _ {N : ℕ} (I : InstanceValue) (pieces : List (Piece N)) (each : All (IsFormPiece I) pieces) where
  pub piece-known : (p : ℕ) → IsKnown pieces (Carries p) → IsFormPiece I (piece_at pieces p)
  piece-known p h = each (p - 1) (no_piece pieces) (number-at pieces p h)

  -- the unit of a mark exists
  pub unit-exists : (p : ℕ) → IsKnown pieces (Carries p) → Exists I (unit_at pieces p)
  unit-exists p h =
      let q = piece_at pieces p in
      let is : IsFormPiece I q = piece-known p h in
      let exists : Exists I (record { item = q.item; form = q.form; count = 1 }) = record { item = is.item_is; form = is.form_is } in
      rw (item-at pieces p h, form-at pieces p h) exists

  pub mark-exists : (m : Mark) (c : Content) → IsKnown pieces m → All (Exists I) c → All (Exists I) (with_mark pieces m c)
  mark-exists Loss c h exists = exists
  mark-exists (Carries p) c h exists = All-cons (Exists I) (unit_at pieces p) c (unit-exists p h) exists

  pub mark-weighs : (d : ℕ) (m : Mark) (c : Content) → IsKnown pieces m → extended_in I d (with_mark pieces m c) ≡ get_or (mark_weight pieces m) d 0 + extended_in I d c
  mark-weighs d Loss c h = omega arith
  mark-weighs d (Carries p) c h =
      let n = unit_at pieces p in
      let q = piece_at pieces p in
      let is : IsFormPiece I q = piece-known p h in
      let whole : extended_in I d (n ∷ c) ≡ 1 * get_or (extended_weight I n.item n.form) d 0 + extended_in I d c = sum_by-cons (λ (m : Count). m.count * get_or (extended_weight I m.item m.form) d 0) n c in
      let form : extended_weight I n.item n.form ≡ extended_weight I q.item q.form = ap₂ (extended_weight I) (item-at pieces p h) (form-at pieces p h) in
      let unit : get_or (extended_weight I n.item n.form) d 0 ≡ get_or (extended_weight I q.item q.form) d 0 = ap (λ (v : List ℕ). get_or v d 0) form in
      let weight : get_or (mark_weight pieces (Carries p)) d 0 ≡ get_or (extended_weight I q.item q.form) d 0 = ap (λ (w : List ℕ). get_or w d 0) (weight-at pieces p h ∙ is.weighs) ∙ get_or-padded (extended_weight I q.item q.form) (N - length (extended_weight I q.item q.form)) d in
      omega arith

  -- the forms along a path exist
  pub content-exists : (path : List GraphArc) → All (λ e. IsKnown pieces e.mark) path → All (Exists I) (content_along pieces path)
  content-exists [] known = All-nil (Exists I)
  content-exists (e ∷ path) known =
      mark-exists e.mark (content_along pieces path)
      (All-head (λ (x : GraphArc). IsKnown pieces x.mark) e path known)
      (content-exists path (All-tail (λ (x : GraphArc). IsKnown pieces x.mark) e path known))

  -- a content weighs as its path
  pub content-weighs : (d : ℕ) (path : List GraphArc) → All (λ e. IsKnown pieces e.mark) path → extended_in I d (content_along pieces path) ≡ path_weight pieces d path
  content-weighs d [] known = refl
  content-weighs d (e ∷ path) known =
      let first = mark-weighs d e.mark (content_along pieces path) (All-head (λ (x : GraphArc). IsKnown pieces x.mark) e path known) in
      let rest = content-weighs d path (All-tail (λ (x : GraphArc). IsKnown pieces x.mark) e path known) in
      omega arith
