-- Each type has pieces: the forms that fit it, gathered item by item and put in order.
use Rattle.std.proofs.Common.{◌≡◌, ℕ, zero, suc, ◌+◌, ◌-◌, ◌<◌, ◌≤◌, ◌⊎◌, List, [], ◌∷◌, ◌++◌, length, get_or, refl, sym, ap, ◌∙◌, subst, inl, inr, ⊎_elim, arith}
use Rattle.std.specs.Prelude.{AllPairs}
use Rattle.std.specs.List.Sorted.{IsStrictlySortedBy}
use Rattle.std.specs.Ordering.{nat_cmp}
use Rattle.std.specs.Cmp.{IsTotalOrder}
use Rattle.std.specs.Cmp.Lexicographic.{slice_cmp}
use Rattle.std.specs.declared.cmp.Ordering.TheVariants.{Less, Equal}
use Rattle.std.proofs.lemmas.Bool.{cases_lt, cases_order, cases_Bool}
use Rattle.std.proofs.lemmas.Cmp.{nat_cmp_total, nat_list_cmp_total, on_total, then_total, back_total, tied_itself}
use Rattle.std.proofs.lemmas.List.Elements.{recursion_from_All}
use Rattle.packing_laws.specs.declared.instances.Item.{Item}
use Rattle.packing_laws.specs.Floors.{vector_fits}
use Rattle.packing_laws.specs.Instances.{InstanceValue, type_at, item_at}
use Rattle.label_graph.specs.declared.parts.Piece.{Piece}
use Rattle.label_graph.proofs.InOrder.{rest-up, in_order, before-compare, number-before, number-same}
use Rattle.arc_compile.specs.declared.ranks.Ranked.{Ranked}
use Rattle.arc_compile.specs.Extended.{counted_by_caps}
use Rattle.arc_compile.specs.Pieces.{padded, ArePieces}
use Rattle.arc_compile.specs.inner.Ranks.{form_of, AddsForms, AreRanked, rank_cmp, pieces_from}
use Rattle.arc_compile.proofs.RankLemmas.{same_rank, forms_push, forms_skip, items_push, items_skip, are_pieces}

module _ {N : ℕ} where
  pub rank_total : IsTotalOrder (rank_cmp {N = N})
  rank_total = then_total (back_total (on_total (λ (r : Ranked N). r.weight.0) nat_list_cmp_total)) (then_total (on_total (λ (r : Ranked N). r.item) nat_cmp_total) (on_total (λ (r : Ranked N). r.form) nat_cmp_total))

  abbrev pub RankBefore : Ranked N → Ranked N → Type 0
  RankBefore p q = rank_cmp p q ≡ Less

  -- ranks of one weight stand by item and form
  pub by_number : (p q : Ranked N) → p.weight.0 ≡ q.weight.0 → RankBefore p q ⊎ ((p ≡ q) ⊎ RankBefore q p)
  by_number p q weight =
      let there : slice_cmp nat_cmp q.weight.0 p.weight.0 ≡ Equal = ap (slice_cmp nat_cmp q.weight.0) weight ∙ tied_itself nat_list_cmp_total q.weight.0 in
      let back : slice_cmp nat_cmp p.weight.0 q.weight.0 ≡ Equal = ap (slice_cmp nat_cmp p.weight.0) (sym weight) ∙ tied_itself nat_list_cmp_total p.weight.0 in
      elim (cases_order p.item q.item) [
        | inl item ↦ elim (cases_order p.form q.form) [
          | inl form ↦ inr (inl (same_rank p q weight item form))
          | inr (inl lt) ↦ inl (rw (there, number-same p.item q.item item, number-before p.form q.form lt) refl)
          | inr (inr gt) ↦ inr (inr (rw (back, number-same q.item p.item (sym item), number-before q.form p.form gt) refl))
        ]
        | inr (inl lt) ↦ inl (rw (there, number-before p.item q.item lt) refl)
        | inr (inr gt) ↦ inr (inr (rw (back, number-before q.item p.item gt) refl))
      ]

  pub rank-compare : (p q : Ranked N) → RankBefore p q ⊎ ((p ≡ q) ⊎ RankBefore q p)
  rank-compare p q =
      ⊎_elim
      (λ heavier. inl (rw heavier refl))
      (λ other. ⊎_elim (λ same. by_number p q (sym same)) (λ lighter. inr (inr (rw lighter refl))) other)
      (before-compare q.weight.0 p.weight.0)

  pub sorted_from_pairs : (ranked : List (Ranked N)) → AllPairs RankBefore ranked → IsStrictlySortedBy rank_cmp ranked
  unfolding IsStrictlySortedBy
  sorted_from_pairs [] up = tt
  sorted_from_pairs (r ∷ ranked) up =
      (recursion_from_All (λ (q : Ranked N). RankBefore r q) ranked (λ k d lt. up zero (suc k) d (omega arith) (omega arith)), sorted_from_pairs ranked (rest-up RankBefore r ranked up))

  -- the first forms of an item that fit
  pub forms_exist : (i : ℕ) (x : Item) (cap further : List ℕ) (old : List (Ranked N)) (f : ℕ) → (new : List (Ranked N)) × AddsForms i x cap further f old new
  forms_exist i x cap further old zero = (old, λ r. (λ m. inl m, λ m. ⊎_elim (λ there. there) (λ k. absurd (omega (arith, k.form_is.0, k.form_is.1))) m))
  forms_exist i x cap further old (suc f) =
      let so_far = forms_exist i x cap further old f in
      let one : f + 1 ≡ suc f = omega arith in
      ⊎_elim
      (λ fits.
      let rank : Ranked N = record { weight = record { 0 = padded N (form_of x (f + 1) ++ further) }; item = i; form = f + 1 } in
      let new : List (Ranked N) = so_far.0 ++ rank ∷ [] in
      (new, subst (λ (n : ℕ). AddsForms i x cap further n old new) one (forms_push i x cap further f old so_far.0 rank fits refl refl refl so_far.1)))
      (λ unfit. (so_far.0, subst (λ (n : ℕ). AddsForms i x cap further n old so_far.0) one (forms_skip i x cap further f old so_far.0 unfit so_far.1)))
      (cases_Bool (vector_fits (form_of x (f + 1)) cap))

  -- the forms of the first items that fit a type
  pub ranks_exist : (I : InstanceValue) (t i : ℕ) → (ranked : List (Ranked N)) × AreRanked I t i ranked
  ranks_exist I t zero = ([], λ r. (λ m. absurd (let lt : m.0 < 0 = m.1 in omega arith), λ k. absurd (omega (arith, k.item_is.0, k.item_is.1))))
  ranks_exist I t (suc i) =
      let old = ranks_exist I t i in
      let one : i + 1 ≡ suc i = omega arith in
      let x = item_at I (i + 1) in
      ⊎_elim
      (λ demand.
      let new = forms_exist (i + 1) x (type_at I t).cap (counted_by_caps I (i + 1)) old.0 (length x.forms) in
      (new.0, subst (λ (n : ℕ). AreRanked I t n new.0) one (items_push I t i x old.0 new.0 refl demand old.1 new.1)))
      (λ none. (old.0, subst (λ (n : ℕ). AreRanked I t n old.0) one (items_skip I t i x old.0 refl (omega arith) old.1)))
      (cases_lt 0 x.demand)

-- the pieces of a type
pub pieces_exist : (N : ℕ) (I : InstanceValue) (t : ℕ) → (pieces : List (Piece N)) × ArePieces I t pieces
pieces_exist N I t =
    let ranked = ranks_exist {N = N} I t (length I.items) in
    let sorted = in_order RankBefore rank_total.trans rank-compare ranked.0 in
    let same : AreRanked I t (length I.items) sorted.0 = λ r. (λ m. (ranked.1 r).0 ((sorted.2 r).0 m), λ k. (sorted.2 r).1 ((ranked.1 r).1 k)) in
    (pieces_from I sorted.0, are_pieces I t sorted.0 same (sorted_from_pairs sorted.0 sorted.1))
