-- The pieces of a type are what a level graph is made of.
use Rattle.std.proofs.Common.{◌≡◌, ℕ, ◌-◌, ◌<◌, ◌≤◌, List, [], ◌∷◌, length, refl, ap, sym, ◌∙◌, arith, get_or, None}
use Rattle.std.specs.Ordering.{nat_cmp}
use Rattle.std.specs.Cmp.Lexicographic.{slice_cmp}
use Rattle.std.specs.declared.cmp.Ordering.TheVariants.{Less, Equal}
use Rattle.std.proofs.lemmas.List.{get_or_default, get_or_append_left}
use Rattle.std.proofs.lemmas.Map.Keys.{Less-from_sorted}
use Rattle.std.proofs.lemmas.Cmp.{nat_cmp_total, nat_list_cmp_total, tied_itself}
use Rattle.packing_laws.specs.Instances.{InstanceValue, IsInstance, IsAmong, IsForm, IsItem, item_at, form_at}
use Rattle.weight_vec.specs.Weight.{AtMost, IsZero}
use Rattle.weight_vec.proofs.Places.{get_or-padded}
use Rattle.label_graph.specs.declared.parts.Piece.{Piece}
use Rattle.level_graph.specs.Levels.{IsPieceList}
use Rattle.arc_compile.specs.Extended.{counted_by_caps, extended_weight, extended_capacity}
use Rattle.arc_compile.specs.Pieces.{padded, IsPiece, ArePieces, piece_cmp}
use Rattle.arc_compile.proofs.ExtendedWeights.{form_within}
use Rattle.arc_compile.proofs.HeldPieces.{IsFormPiece, form_pieces}

module _ {N : ℕ} (I : InstanceValue) where
  -- two pieces of one form are not in order
  pub apart : (p q : Piece N) → IsFormPiece I p → IsFormPiece I q → piece_cmp p q ≡ Less → (p.item ≡ q.item) × (p.form ≡ q.form) → ⊥
  apart p q hp hq less same =
      let weight : p.weight ≡ q.weight = hp.weighs ∙ (ap (λ (i : ℕ). padded N (extended_weight I i p.form)) same.0 ∙ (ap (λ (f : ℕ). padded N (extended_weight I q.item f)) same.1 ∙ sym hq.weighs)) in
      let by_weight : slice_cmp nat_cmp q.weight p.weight ≡ Equal = ap (slice_cmp nat_cmp q.weight) weight ∙ tied_itself nat_list_cmp_total q.weight in
      let by_item : nat_cmp p.item q.item ≡ Equal = ap (λ (i : ℕ). nat_cmp i q.item) same.0 ∙ tied_itself nat_cmp_total q.item in
      let by_form : nat_cmp p.form q.form ≡ Equal = ap (λ (f : ℕ). nat_cmp f q.form) same.1 ∙ tied_itself nat_cmp_total q.form in
      let equal : piece_cmp p q ≡ Equal = rw (by_weight, by_item, by_form) refl in
      cc

  -- the form of a piece
  pub form_known : IsInstance I → (q : Piece N) → IsFormPiece I q → IsForm I.dims (form_at I q.item q.form)
  form_known known q h =
      let item : IsItem I.dims (item_at I q.item) = known.items (q.item - 1) (record { demand = 0; forms = [] }) (omega (arith, h.item_is.0, h.item_is.1)) in
      item.forms (q.form - 1) [] (omega (arith, h.form_is.0, h.form_is.1))

  -- each piece weighs something
  pub heavy : IsInstance I → (q : Piece N) → IsFormPiece I q → IsZero q.weight → ⊥
  heavy known q h zero_weight =
      let v = form_at I q.item q.form in
      let weight = extended_weight I q.item q.form in
      let form = form_known known q h in
      let k = form.weighs.0 in
      let there : get_or v k 0 ≡ form.weighs.1 = get_or_default v k 0 form.weighs.1 form.weighs.2 ∙ form.weighs.3 in
      let above : 0 < form.weighs.1 = form.weighs.4 in
      let here : get_or q.weight k 0 ≡ get_or weight k 0 = ap (λ (w : List ℕ). get_or w k 0) h.weighs ∙ get_or-padded weight (N - length weight) k in
      let front : get_or weight k 0 ≡ get_or v k 0 = get_or_append_left v (counted_by_caps I q.item) 0 k form.weighs.2 in
      let none : get_or q.weight k 0 ≡ 0 = zero_weight k in
      omega arith

module _ {N : ℕ} (I : InstanceValue) (t : ℕ) where
  pub fit : IsInstance I → IsAmong t (length I.types) → (q : Piece N) → IsPiece I t q → AtMost q.weight (padded N (extended_capacity I t))
  fit known among q h d =
      let weight = extended_weight I q.item q.form in
      let cap = extended_capacity I t in
      let most : get_or weight d 0 ≤ get_or cap d 0 = form_within I known t among q.item q.form h.item_is h.form_is h.fits d in
      let here : get_or q.weight d 0 ≡ get_or weight d 0 = ap (λ (w : List ℕ). get_or w d 0) h.weighs ∙ get_or-padded weight (N - length weight) d in
      let room : get_or (padded N cap) d 0 ≡ get_or cap d 0 = get_or-padded cap (N - length cap) d in
      omega arith

  pub is_piece_list : IsInstance I → IsAmong t (length I.types) → (pieces : List (Piece N)) → length pieces ≤ 8000 → ArePieces I t pieces → IsPieceList pieces (padded N (extended_capacity I t))
  is_piece_list known among pieces few h =
      let each = form_pieces I t pieces h.each in
      record {
        few = few;
        apart = λ i j d lt in_range. apart I (get_or pieces i d) (get_or pieces j d) (each i d (omega arith)) (each j d in_range) (Less-from_sorted piece_cmp pieces i j d h.order lt in_range);
        fit = λ k d lt. fit known among (get_or pieces k d) (h.each k d lt);
        heavy = λ k d lt. heavy I known (get_or pieces k d) (each k d lt);
        copied = λ k d lt. let piece = h.each k d lt in omega (arith, piece.demanded, piece.copied);
      }
