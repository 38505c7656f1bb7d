-- Ranks of forms, one form and one item after the other.
use Rattle.std.proofs.Common.{◌≡◌, ℕ, ◌+◌, ◌-◌, ◌<◌, ◌≤◌, true, false, List, [], ◌∷◌, ◌++◌, length, refl, ap, sym, subst, ◌∙◌, inl, inr, ⊎_elim, arith, get_or, map, take}
use Rattle.std.specs.Prelude.{Contains}
use Rattle.std.proofs.lemmas.Bool.{cases_lt, false≢true}
use Rattle.std.proofs.lemmas.List.Elements.{Contains-push, Contains-append_left, Contains-push_cases, All-map, All-contains_itself}
use Rattle.std.proofs.lemmas.List.{get_or_default, get_or-map, length-map, take_more}
use Rattle.std.proofs.lemmas.List.Sums.{sum_by-append}
use Rattle.std.specs.List.{AllByRecursion}
use Rattle.std.specs.List.Sorted.{IsStrictlySortedBy}
use Rattle.std.specs.declared.cmp.Ordering.TheVariants.{Less}
use Rattle.label_graph.specs.declared.parts.Piece.{Piece}
use Rattle.packing_laws.specs.declared.instances.Item.{Item}
use Rattle.packing_laws.specs.Floors.{vector_fits}
use Rattle.packing_laws.specs.Instances.{InstanceValue, type_at, item_at}
use Rattle.arc_compile.specs.declared.ranks.Ranked.{Ranked}
use Rattle.arc_compile.specs.Extended.{counted_by_caps}
use Rattle.arc_compile.specs.Pieces.{padded, IsPiece, ArePieces, piece_cmp}
use Rattle.arc_compile.specs.inner.Ranks.{form_of, IsRankedOf, AddsForms, IsRanked, AreRanked, rank_cmp, piece_from, pieces_from, forms_of}

-- a form by its place
pub form_by_place : (x : Item) (f : ℕ) (v : List ℕ) → f < length x.forms → v ≡ get_or x.forms f v → form_of x (f + 1) ≡ v
form_by_place x f v lt e =
    let n : f + 1 - 1 ≡ f = omega arith in
    ap (λ (k : ℕ). get_or x.forms k []) n ∙ (get_or_default x.forms f [] v lt ∙ sym e)

-- the forms of one more item
pub forms_more : (xs : List Item) (i : ℕ) (x : Item) → i < length xs → x ≡ get_or xs i x → forms_of (take (i + 1) xs) ≡ forms_of (take i xs) + length x.forms
forms_more xs i x lt e =
    let more : take (i + 1) xs ≡ take i xs ++ x ∷ [] = take_more xs i x lt ∙ ap (λ (y : Item). take i xs ++ y ∷ []) (sym e) in
    ap forms_of more ∙ (sum_by-append (λ (y : Item). length y.forms) (take i xs) (x ∷ []) ∙ omega arith)

-- an item by its place
pub item_by_place : (I : InstanceValue) (i : ℕ) (x : Item) → i < length I.items → x ≡ get_or I.items i x → item_at I (i + 1) ≡ x
item_by_place I i x lt e =
    let n : i + 1 - 1 ≡ i = omega arith in
    ap (λ (k : ℕ). get_or I.items k (record { demand = 0; forms = [] })) n ∙ (get_or_default I.items i (record { demand = 0; forms = [] }) x lt ∙ sym e)

module _ {N : ℕ} where
  pub more_forms : (i : ℕ) (x : Item) (cap further : List ℕ) (f : ℕ) (r : Ranked N) → IsRankedOf i x cap further f r → IsRankedOf i x cap further (f + 1) r
  more_forms i x cap further f r h = record { item_is = h.item_is; form_is = (h.form_is.0, omega (arith, h.form_is.1)); fits = h.fits; weighs = h.weighs }

  pub fewer_forms : (i : ℕ) (x : Item) (cap further : List ℕ) (f : ℕ) (r : Ranked N) → r.form ≤ f → IsRankedOf i x cap further (f + 1) r → IsRankedOf i x cap further f r
  fewer_forms i x cap further f r l h = record { item_is = h.item_is; form_is = (h.form_is.0, l); fits = h.fits; weighs = h.weighs }

  -- ranks of equal parts are equal
  pub same_rank : (p q : Ranked N) → p.weight.0 ≡ q.weight.0 → p.item ≡ q.item → p.form ≡ q.form → p ≡ q
  same_rank p q w i f = λ k. record { weight = record { 0 = w k }; item = i k; form = f k }

  -- one more form that fits
  pub forms_push : (i : ℕ) (x : Item) (cap further : List ℕ) (f : ℕ) (old new : List (Ranked N)) (rank : Ranked N) → vector_fits (form_of x (f + 1)) cap ≡ true → rank.item ≡ i → rank.form ≡ f + 1 → rank.weight.0 ≡ padded N (form_of x (f + 1) ++ further) → AddsForms i x cap further f old new → AddsForms i x cap further (f + 1) old (new ++ rank ∷ [])
  forms_push i x cap further f old new rank fits ri rf rw h r = (
    λ m. ⊎_elim
        (λ before. ⊎_elim (λ o. inl o) (λ k. inr (more_forms i x cap further f r k)) ((h r).0 before))
        (λ e. inr (subst (λ (q : Ranked N). IsRankedOf i x cap further (f + 1) q) e is_new))
        (Contains-push_cases new rank r m),
    λ m. ⊎_elim
        (λ o. Contains-append_left new (rank ∷ []) r ((h r).1 (inl o)))
        (λ k. ⊎_elim
        (λ lt. subst (λ (q : Ranked N). Contains (new ++ rank ∷ []) q) (at_new k lt) (Contains-push new rank))
        (λ le. Contains-append_left new (rank ∷ []) r ((h r).1 (inr (fewer_forms i x cap further f r le k))))
        (cases_lt f r.form))
        m,
  )
    where
      is_new : IsRankedOf i x cap further (f + 1) rank
      is_new = record {
        item_is = ri;
        form_is = (omega (arith, rf), omega (arith, rf));
        fits = subst (λ (g : ℕ). vector_fits (form_of x g) cap ≡ true) (sym rf) fits;
        weighs = subst (λ (g : ℕ). rank.weight.0 ≡ padded N (form_of x g ++ further)) (sym rf) rw;
      }

      at_new : IsRankedOf i x cap further (f + 1) r → f < r.form → rank ≡ r
      at_new k lt =
          let e : r.form ≡ f + 1 = omega (arith, k.form_is.1) in
          same_rank rank r (rw ∙ (ap (λ (g : ℕ). padded N (form_of x g ++ further)) (sym e) ∙ sym k.weighs)) (ri ∙ sym k.item_is) (rf ∙ sym e)

  -- one more form that does not fit
  pub forms_skip : (i : ℕ) (x : Item) (cap further : List ℕ) (f : ℕ) (old new : List (Ranked N)) → vector_fits (form_of x (f + 1)) cap ≡ false → AddsForms i x cap further f old new → AddsForms i x cap further (f + 1) old new
  forms_skip i x cap further f old new unfit h r = (
    λ m. ⊎_elim (λ o. inl o) (λ k. inr (more_forms i x cap further f r k)) ((h r).0 m),
    λ m. ⊎_elim
        (λ o. (h r).1 (inl o))
        (λ k. ⊎_elim
        (λ lt. absurd (clash k lt))
        (λ le. (h r).1 (inr (fewer_forms i x cap further f r le k)))
        (cases_lt f r.form))
        m,
  )
    where
      clash : IsRankedOf i x cap further (f + 1) r → f < r.form → ⊥
      clash k lt =
          let e : r.form ≡ f + 1 = omega (arith, k.form_is.1) in
          false≢true (sym unfit ∙ subst (λ (g : ℕ). vector_fits (form_of x g) cap ≡ true) e k.fits)

  pub more_items : (I : InstanceValue) (t i : ℕ) (r : Ranked N) → IsRanked I t i r → IsRanked I t (i + 1) r
  more_items I t i r h = record { item_is = (h.item_is.0, omega (arith, h.item_is.1)); demanded = h.demanded; ranked = h.ranked }

  -- one more item with a demand
  pub items_push : (I : InstanceValue) (t i : ℕ) (x : Item) (old new : List (Ranked N)) → item_at I (i + 1) ≡ x → 0 < x.demand → AreRanked I t i old → AddsForms (i + 1) x (type_at I t).cap (counted_by_caps I (i + 1)) (length x.forms) old new → AreRanked I t (i + 1) new
  items_push I t i x old new at demand h a r = (
    λ m. ⊎_elim (λ o. more_items I t i r ((h r).0 o)) (λ k. is_new k) ((a r).0 m),
    λ k. ⊎_elim
        (λ lt. (a r).1 (inr (of_new k lt)))
        (λ le. (a r).1 (inl ((h r).1 (record { item_is = (k.item_is.0, le); demanded = k.demanded; ranked = k.ranked }))))
        (cases_lt i r.item),
  )
    where
      is_new : IsRankedOf (i + 1) x (type_at I t).cap (counted_by_caps I (i + 1)) (length x.forms) r → IsRanked I t (i + 1) r
      is_new k =
          let there : item_at I r.item ≡ x = ap (item_at I) k.item_is ∙ at in
          record {
            item_is = (omega (arith, k.item_is), omega (arith, k.item_is));
            demanded = subst (λ (y : Item). 0 < y.demand) (sym there) demand;
            ranked = subst (λ (y : Item). IsRankedOf r.item y (type_at I t).cap (counted_by_caps I r.item) (length y.forms) r) (sym there) (record { item_is = refl; form_is = k.form_is; fits = k.fits; weighs = k.weighs ∙ ap (λ (j : ℕ). padded N (form_of x r.form ++ counted_by_caps I j)) (sym k.item_is) });
          }

      of_new : IsRanked I t (i + 1) r → i < r.item → IsRankedOf (i + 1) x (type_at I t).cap (counted_by_caps I (i + 1)) (length x.forms) r
      of_new k lt =
          let e : r.item ≡ i + 1 = omega (arith, k.item_is.1) in
          let there : item_at I r.item ≡ x = ap (item_at I) e ∙ at in
          let ranked = subst (λ (y : Item). IsRankedOf r.item y (type_at I t).cap (counted_by_caps I r.item) (length y.forms) r) there k.ranked in
          record { item_is = e; form_is = ranked.form_is; fits = ranked.fits; weighs = ranked.weighs ∙ ap (λ (j : ℕ). padded N (form_of x r.form ++ counted_by_caps I j)) e }

  -- one more item without a demand
  pub items_skip : (I : InstanceValue) (t i : ℕ) (x : Item) (old : List (Ranked N)) → item_at I (i + 1) ≡ x → x.demand ≡ 0 → AreRanked I t i old → AreRanked I t (i + 1) old
  items_skip I t i x old at demand h r = (
    λ m. more_items I t i r ((h r).0 m),
    λ k. ⊎_elim
        (λ lt. absurd (clash k lt))
        (λ le. (h r).1 (record { item_is = (k.item_is.0, le); demanded = k.demanded; ranked = k.ranked }))
        (cases_lt i r.item),
  )
    where
      clash : IsRanked I t (i + 1) r → i < r.item → ⊥
      clash k lt =
          let e : r.item ≡ i + 1 = omega (arith, k.item_is.1) in
          let there : item_at I r.item ≡ x = ap (item_at I) e ∙ at in
          let demanded : 0 < x.demand = subst (λ (y : Item). 0 < y.demand) there k.demanded in
          omega arith

-- what a function gives of a member is a member of what it gives
pub contains_map : {X Y : Type 0} (f : X → Y) (xs : List X) (x : X) → Contains xs x → Contains (map f xs) (f x)
contains_map f xs x m =
    let lt : m.0 < length xs = m.1 in
    (m.0, omega (arith, length-map xs f), get_or-map f xs m.0 x (f x) lt ∙ ap f m.2)

-- the ranks of a type, as pieces
module _ {N : ℕ} (I : InstanceValue) where
  pub above : (r : Ranked N) (ranked : List (Ranked N)) → AllByRecursion (λ q. rank_cmp r q ≡ Less) ranked → AllByRecursion (λ q. piece_cmp (piece_from I r) q ≡ Less) (map (piece_from I) ranked)
  above r [] h = h
  above r (q ∷ ranked) h = (h.0, above r ranked h.1)

  -- pieces stand in the order of their ranks
  pub pieces_in_order : (ranked : List (Ranked N)) → IsStrictlySortedBy rank_cmp ranked → IsStrictlySortedBy piece_cmp (pieces_from I ranked)
  unfolding IsStrictlySortedBy
  pieces_in_order [] h = h
  pieces_in_order (r ∷ ranked) h = (above r ranked h.0, pieces_in_order ranked h.1)

  pub is_piece : (t : ℕ) (r : Ranked N) → IsRanked I t (length I.items) r → IsPiece I t (piece_from I r)
  is_piece t r h = record { item_is = h.item_is; form_is = h.ranked.form_is; demanded = h.demanded; fits = h.ranked.fits; weighs = h.ranked.weighs; copied = refl }

  pub rank_of : Piece N → Ranked N
  rank_of q = record { weight = record { 0 = q.weight }; item = q.item; form = q.form }

  pub is_rank : (t : ℕ) (q : Piece N) → IsPiece I t q → IsRanked I t (length I.items) (rank_of q)
  unfolding rank_of
  is_rank t q h = record { item_is = h.item_is; demanded = h.demanded; ranked = record { item_is = refl; form_is = h.form_is; fits = h.fits; weighs = h.weighs } }

  pub piece_again : (t : ℕ) (q : Piece N) → IsPiece I t q → piece_from I (rank_of q) ≡ q
  unfolding rank_of
  piece_again t q h = λ k. record { item = q.item; form = q.form; weight = q.weight; copies = (sym h.copied) k }

  -- the pieces of a type are those of its ranks
  pub are_pieces : (t : ℕ) (ranked : List (Ranked N)) → AreRanked I t (length I.items) ranked → IsStrictlySortedBy rank_cmp ranked → ArePieces I t (pieces_from I ranked)
  are_pieces t ranked h up = record {
    each = All-map (IsPiece I t) (piece_from I) ranked (λ k d lt. is_piece t (get_or ranked k d) ((h (get_or ranked k d)).0 (All-contains_itself ranked k d lt)));
    all = λ q k. subst (λ (p : Piece N). Contains (pieces_from I ranked) p) (piece_again t q k) (contains_map (piece_from I) ranked (rank_of q) ((h (rank_of q)).1 (is_rank t q k)));
    order = pieces_in_order ranked up;
  }
