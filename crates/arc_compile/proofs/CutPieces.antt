-- The pieces of a type in as many places as extended weights have are those in more places, cut.
use Rattle.std.proofs.Common.{◌≡◌, ℕ, suc, ◌-◌, ◌≤◌, List, [], ◌∷◌, ◌++◌, length, get_or, take, map, replicate, refl, sym, ap, ◌∙◌, subst, arith, length-append}
use Rattle.std.specs.Prelude.{All, Contains}
use Rattle.std.specs.List.{AllByRecursion}
use Rattle.std.specs.List.Sorted.{IsStrictlySortedBy}
use Rattle.std.specs.Ordering.{nat_cmp, ordering_then}
use Rattle.std.specs.declared.cmp.Ordering.{Ordering}
use Rattle.std.specs.declared.cmp.Ordering.TheVariants.{Less}
use Rattle.std.proofs.Math.Seq.{take-append_seam}
use Rattle.std.proofs.lemmas.List.{get_or_past, append-nil, length-replicate}
use Rattle.std.proofs.lemmas.List.Elements.{All-map}
use Rattle.packing_laws.specs.Instances.{InstanceValue, IsInstance, IsVector}
use Rattle.weight_vec.proofs.Places.{get_or-padded}
use Rattle.label_graph.specs.declared.parts.Piece.{Piece}
use Rattle.label_graph.specs.Cuts.{IsPadded, cut_piece}
use Rattle.level_graph.proofs.CutWeights.{cmp-cut}
use Rattle.level_graph.proofs.Members.{contains_map}
use Rattle.arc_compile.specs.Extended.{places_of, extended_weight}
use Rattle.arc_compile.specs.Pieces.{padded, IsPiece, ArePieces, piece_cmp}
use Rattle.arc_compile.proofs.ExtendedWeights.{weight_vector}

-- a vector padded and cut to its places is that vector
pub cut-padded : (n N : ℕ) (v : List ℕ) → length v ≡ n → take n (padded N v) ≡ padded n v
cut-padded n N v sized =
    let none : n - length v ≡ 0 = omega arith in
    let back : take (length v) (v ++ replicate (N - length v) 0) ≡ v = take-append_seam v (replicate (N - length v) 0) in
    let whole : padded n v ≡ v = ap (λ (k : ℕ). v ++ replicate k 0) none ∙ append-nil v in
    subst (λ (k : ℕ). take k (padded N v) ≡ v) sized back ∙ sym whole

pub padded-padded : (n N : ℕ) (v : List ℕ) → length v ≡ n → IsPadded n (padded N v)
padded-padded n N v sized d le = get_or-padded v (N - length v) d ∙ get_or_past v d 0 (omega arith)

pub length-padded : (N : ℕ) (v : List ℕ) → length v ≤ N → length (padded N v) ≡ N
length-padded N v le = omega (arith, length-append v (replicate (N - length v) 0), length-replicate {A = ℕ} (N - length v) 0)

module _ {N : ℕ} (I : InstanceValue) (t : ℕ) (known : IsInstance I) (wide : places_of I ≤ N) where
  pub vector : (q : Piece N) → IsPiece I t q → IsVector (places_of I) (extended_weight I q.item q.form)
  vector q h = weight_vector I known q.item q.form h.item_is h.form_is

  pub weight-sized : (q : Piece N) → IsPiece I t q → length q.weight ≡ N
  weight-sized q h = ap length h.weighs ∙ length-padded N (extended_weight I q.item q.form) (omega (arith, (vector q h).size))

  pub weight-padded : (q : Piece N) → IsPiece I t q → IsPadded (places_of I) q.weight
  weight-padded q h = subst (IsPadded (places_of I)) (sym h.weighs) (padded-padded (places_of I) N (extended_weight I q.item q.form) (vector q h).size)

  pub piece-cut : (q : Piece N) → IsPiece I t q → IsPiece I t (cut_piece (places_of I) q)
  piece-cut q h = record {
    item_is = h.item_is;
    form_is = h.form_is;
    demanded = h.demanded;
    fits = h.fits;
    weighs = ap (take (places_of I)) h.weighs ∙ cut-padded (places_of I) N (extended_weight I q.item q.form) (vector q h).size;
    copied = h.copied;
  }

  -- each piece is the cut of one
  pub piece-lift : (q : Piece (places_of I)) → IsPiece I t q → (p : Piece N) × IsPiece I t p × (cut_piece (places_of I) p ≡ q)
  piece-lift q h =
      let v = extended_weight I q.item q.form in
      let sized = (weight_vector I known q.item q.form h.item_is h.form_is).size in
      let same : take (places_of I) (padded N v) ≡ q.weight = cut-padded (places_of I) N v sized ∙ sym h.weighs in (
        record { item = q.item; form = q.form; weight = padded N v; copies = q.copies },
        record { item_is = h.item_is; form_is = h.form_is; demanded = h.demanded; fits = h.fits; weighs = refl; copied = h.copied },
        (λ i. record { item = q.item; form = q.form; weight = same i; copies = q.copies }),
      )

  pub order-cut : (p q : Piece N) → IsPiece I t p → IsPiece I t q → piece_cmp (cut_piece (places_of I) p) (cut_piece (places_of I) q) ≡ piece_cmp p q
  order-cut p q hp hq = ap (λ (o : Ordering). ordering_then o (ordering_then (nat_cmp p.item q.item) (nat_cmp p.form q.form))) (cmp-cut (places_of I) q.weight p.weight (weight-sized q hq ∙ sym (weight-sized p hp)) (weight-padded q hq) (weight-padded p hp))

  pub above-cut : (p : Piece N) → IsPiece I t p → (qs : List (Piece N)) → All (IsPiece I t) qs → AllByRecursion (λ q. piece_cmp p q ≡ Less) qs → AllByRecursion (λ q. piece_cmp (cut_piece (places_of I) p) q ≡ Less) (map (cut_piece (places_of I)) qs)
  above-cut p hp [] each h = h
  above-cut p hp (q ∷ qs) each h = (order-cut p q hp (each 0 p (omega arith)) ∙ h.0, above-cut p hp qs (λ k d lt. each (suc k) d (omega arith)) h.1)

  pub sorted-cut : (ps : List (Piece N)) → All (IsPiece I t) ps → IsStrictlySortedBy piece_cmp ps → IsStrictlySortedBy piece_cmp (map (cut_piece (places_of I)) ps)
  unfolding IsStrictlySortedBy
  sorted-cut [] each h = h
  sorted-cut (p ∷ ps) each h =
      let rest : All (IsPiece I t) ps = λ k d lt. each (suc k) d (omega arith) in
      (above-cut p (each 0 p (omega arith)) ps rest h.0, sorted-cut ps rest h.1)

  pub are_pieces-cut : (pieces : List (Piece N)) → ArePieces I t pieces → ArePieces I t (map (cut_piece (places_of I)) pieces)
  are_pieces-cut pieces h = record {
    each = All-map (IsPiece I t) (cut_piece (places_of I)) pieces (λ k d lt. piece-cut (get_or pieces k d) (h.each k d lt));
    all = λ q is.
        let p = piece-lift q is in
        subst (Contains (map (cut_piece (places_of I)) pieces)) p.2 (contains_map (cut_piece (places_of I)) pieces p.0 (h.all p.0 p.1));
    order = sorted-cut pieces h.each h.order;
  }

  -- the weights are padded
  pub weights-padded : (pieces : List (Piece N)) → ArePieces I t pieces → All (λ q. IsPadded (places_of I) q.weight) pieces
  weights-padded pieces h k d lt = weight-padded (get_or pieces k d) (h.each k d lt)
