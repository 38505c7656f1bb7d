-- A content that fits a type and is within the demands is a choice of pieces.
use Rattle.std.proofs.Common.{zero, suc, ◌≡◌, ℕ, ◌+◌, ◌-◌, ◌*◌, ◌≤◌, ⊎_elim, Bool, true, false, cond, ◌==◌, ◌&&◌, List, [], ◌∷◌, length, map, sum_by, ap, ap₂, sym, refl, ◌∙◌, arith, get_or}
use Rattle.std.specs.Prelude.{All, AllPairs}
use Rattle.std.proofs.lemmas.Bool.{cases_Bool, and_parts, eqb-true, cond-true, cond-false, false_from_ne_true}
use Rattle.std.proofs.lemmas.List.{get_or-map, length-map}
use Rattle.std.proofs.lemmas.List.Sums.{sum_by-cons, sum_by-le, sum_by-le-sum_by}
use Rattle.std.proofs.Math.Nat.{add-mul}
use Rattle.packing_laws.specs.declared.packings.Count.{Count}
use Rattle.packing_laws.specs.Instances.{InstanceValue, IsInstance, item_at}
use Rattle.packing_laws.specs.Packings.{Content, Fits, IsWithin, count_of_item, count_of_form}
use Rattle.packing_laws.proofs.Sums.{sum_by-le-sum_by as sum-le_each}
use Rattle.weight_vec.proofs.Places.{get_or-padded}
use Rattle.label_graph.specs.declared.parts.Piece.{Piece}
use Rattle.level_graph.specs.Levels.{piece_copies}
use Rattle.level_graph.specs.LevelLaws.{content_weight, IsChoice}
use Rattle.arc_compile.specs.Extended.{extended_in, extended_weight, extended_capacity}
use Rattle.arc_compile.specs.Pieces.{padded}
use Rattle.arc_compile.proofs.PathContents.{no_piece}
use Rattle.arc_compile.proofs.HeldPieces.{IsFormPiece, AreApart, HoldPieces}
use Rattle.arc_compile.proofs.ExtendedWeights.{within_capacity}

-- how many units of each piece are in a content
abbrev pub choice_of : {N : ℕ} → List (Piece N) → Content → List ℕ
choice_of pieces c = map (λ q. count_of_form q.item q.form c) pieces

pub test-le : (a b : Bool) (n : ℕ) → cond (a && b) n 0 ≤ cond a n 0
test-le true true n = omega arith
test-le true false n = omega arith
test-le false b n = omega arith

pub form-le_item : (i f : ℕ) (c : Content) → count_of_form i f c ≤ count_of_item i c
form-le_item i f c = sum_by-le-sum_by (λ (n : Count). cond ((n.item == i) && (n.form == f)) n.count 0) (λ (n : Count). cond (n.item == i) n.count 0) c (λ n. test-le (n.item == i) (n.form == f) n.count)

module _ {X : Type 0} where
  pub sum-none : (f : X → ℕ) (xs : List X) → All (λ x. f x ≡ 0) xs → sum_by f xs ≡ 0
  sum-none f xs none =
      let most : sum_by f xs ≤ length xs * 0 = sum_by-le f 0 xs (λ k d lt. let e : f (get_or xs k d) ≡ 0 = none k d lt in omega arith) in
      omega arith

  pub sum-both : (f g : X → ℕ) (xs : List X) → sum_by (λ x. f x + g x) xs ≡ sum_by f xs + sum_by g xs
  sum-both f g [] = refl
  sum-both f g (x ∷ xs) =
      let rest : sum_by (λ x. f x + g x) xs ≡ sum_by f xs + sum_by g xs = sum-both f g xs in
      let whole : sum_by (λ x. f x + g x) (x ∷ xs) ≡ f x + g x + sum_by (λ x. f x + g x) xs = sum_by-cons (λ (y : X). f y + g y) x xs in
      let first : sum_by f (x ∷ xs) ≡ f x + sum_by f xs = sum_by-cons f x xs in
      let second : sum_by g (x ∷ xs) ≡ g x + sum_by g xs = sum_by-cons g x xs in
      omega arith

module _ {N : ℕ} (w : ℕ → ℕ → ℕ) where
  abbrev pub is_of : Count → Piece N → Bool
  is_of n q = (n.item == q.item) && (n.form == q.form)

  pub is_of-parts : (n : Count) (q : Piece N) → is_of n q ≡ true → (n.item ≡ q.item) × (n.form ≡ q.form)
  is_of-parts n q h = let both = and_parts (n.item == q.item) (n.form == q.form) h in (eqb-true n.item q.item both.0, eqb-true n.form q.form both.1)

  -- a count is of at most one of the pieces
  pub count-once : (n : Count) (pieces : List (Piece N)) → AllPairs AreApart pieces → sum_by (λ q. cond (is_of n q) n.count 0 * w q.item q.form) pieces ≤ n.count * w n.item n.form
  count-once n [] apart = omega arith
  count-once n (q ∷ pieces) apart =
      let f : Piece N → ℕ = λ q. cond (is_of n q) n.count 0 * w q.item q.form in
      let whole : sum_by f (q ∷ pieces) ≡ f q + sum_by f pieces = sum_by-cons f q pieces in
      ⊎_elim
      (λ here.
      let same = is_of-parts n q here in
      let first : f q ≡ n.count * w n.item n.form = ap₂ (λ (k m : ℕ). k * m) (cond-true (is_of n q) n.count 0 here) (ap₂ w (sym same.0) (sym same.1)) in
      let others : sum_by f pieces ≡ 0 = sum-none f pieces (
      λ k d lt.
      let r = get_or pieces k d in
      let not_here : is_of n r ≡ false = false_from_ne_true (is_of n r) (λ there. let other = is_of-parts n r there in apart zero (suc k) d (omega arith) (omega arith) (sym same.0 ∙ other.0, sym same.1 ∙ other.1)) in
      let nothing : f r ≡ 0 * w r.item r.form = ap (λ (m : ℕ). m * w r.item r.form) (cond-false (is_of n r) n.count 0 not_here) in
      omega arith
      ) in
      omega arith)
      (λ elsewhere.
      let nothing : f q ≡ 0 * w q.item q.form = ap (λ (m : ℕ). m * w q.item q.form) (cond-false (is_of n q) n.count 0 elsewhere) in
      let others : sum_by f pieces ≤ n.count * w n.item n.form = count-once n pieces (λ i j d lt in_range. apart (suc i) (suc j) d (omega arith) (omega arith)) in
      omega arith)
      (cases_Bool (is_of n q))

  -- the units of the pieces are among those of the content
  pub counts-le : (c : Content) (pieces : List (Piece N)) → AllPairs AreApart pieces → sum_by (λ q. count_of_form q.item q.form c * w q.item q.form) pieces ≤ sum_by (λ n. n.count * w n.item n.form) c
  counts-le [] pieces apart =
      let nothing : sum_by (λ (q : Piece N). 0 * w q.item q.form) pieces ≡ 0 = sum-none (λ (q : Piece N). 0 * w q.item q.form) pieces (λ k d lt. omega arith) in
      omega arith
  counts-le (n ∷ c) pieces apart =
      let f : Piece N → ℕ = λ q. cond (is_of n q) n.count 0 * w q.item q.form in
      let g : Piece N → ℕ = λ q. count_of_form q.item q.form c * w q.item q.form in
      let h : Piece N → ℕ = λ q. count_of_form q.item q.form (n ∷ c) * w q.item q.form in
      let parts : sum_by h pieces ≤ sum_by (λ q. f q + g q) pieces = sum_by-le-sum_by h (λ q. f q + g q) pieces (
      λ q.
      let whole : count_of_form q.item q.form (n ∷ c) ≡ cond (is_of n q) n.count 0 + count_of_form q.item q.form c = sum_by-cons (λ (m : Count). cond ((m.item == q.item) && (m.form == q.form)) m.count 0) n c in
      let scaled : h q ≡ (cond (is_of n q) n.count 0 + count_of_form q.item q.form c) * w q.item q.form = ap (λ (m : ℕ). m * w q.item q.form) whole in
      let spread : (cond (is_of n q) n.count 0 + count_of_form q.item q.form c) * w q.item q.form ≡ f q + g q = add-mul (cond (is_of n q) n.count 0) (count_of_form q.item q.form c) (w q.item q.form) in
      omega arith
      ) in
      let both : sum_by (λ q. f q + g q) pieces ≡ sum_by f pieces + sum_by g pieces = sum-both f g pieces in
      let first : sum_by f pieces ≤ n.count * w n.item n.form = count-once n pieces apart in
      let rest : sum_by g pieces ≤ sum_by (λ n. n.count * w n.item n.form) c = counts-le c pieces apart in
      let whole : sum_by (λ n. n.count * w n.item n.form) (n ∷ c) ≡ n.count * w n.item n.form + sum_by (λ n. n.count * w n.item n.form) c = sum_by-cons (λ (m : Count). m.count * w m.item m.form) n c in
      omega arith

-- the weight of a choice, as a sum
pub choice-weight : {N : ℕ} (number : Piece N → ℕ) (d : ℕ) (pieces : List (Piece N)) → content_weight pieces d (map number pieces) ≡ sum_by (λ q. number q * get_or q.weight d 0) pieces
choice-weight number d [] = refl
choice-weight {N} number d (q ∷ pieces) =
    let rest : content_weight pieces d (map number pieces) ≡ sum_by (λ q. number q * get_or q.weight d 0) pieces = choice-weight number d pieces in
    let whole : sum_by (λ q. number q * get_or q.weight d 0) (q ∷ pieces) ≡ number q * get_or q.weight d 0 + sum_by (λ q. number q * get_or q.weight d 0) pieces = sum_by-cons (λ (r : Piece N). number r * get_or r.weight d 0) q pieces in
    omega arith

module _ {N : ℕ} (I : InstanceValue) (t : ℕ) (known : IsInstance I) (pieces : List (Piece N)) (held : HoldPieces I t pieces) where
  -- a piece weighs as its form
  pub piece-weighs : (q : Piece N) → IsFormPiece I q → (d : ℕ) → get_or q.weight d 0 ≡ get_or (extended_weight I q.item q.form) d 0
  piece-weighs q h d = ap (λ (v : List ℕ). get_or v d 0) h.weighs ∙ get_or-padded (extended_weight I q.item q.form) (N - length (extended_weight I q.item q.form)) d

  -- a choice weighs no more than its content
  pub choice-le_content : (d : ℕ) (c : Content) → content_weight pieces d (choice_of pieces c) ≤ extended_in I d c
  choice-le_content d c =
      let w : ℕ → ℕ → ℕ = λ i f. get_or (extended_weight I i f) d 0 in
      let number : Piece N → ℕ = λ q. count_of_form q.item q.form c in
      let choice : content_weight pieces d (choice_of pieces c) ≡ sum_by (λ q. number q * get_or q.weight d 0) pieces = choice-weight number d pieces in
      let forms : sum_by (λ q. number q * get_or q.weight d 0) pieces ≤ sum_by (λ q. number q * w q.item q.form) pieces = sum-le_each (λ (q : Piece N). number q * get_or q.weight d 0) (λ (q : Piece N). number q * w q.item q.form) pieces (
      λ k x lt.
      let q = get_or pieces k x in
      let same : number q * get_or q.weight d 0 ≡ number q * w q.item q.form = ap (λ (m : ℕ). number q * m) (piece-weighs q (held.each k x lt) d) in
      omega arith
      ) in
      let spread : sum_by (λ q. number q * w q.item q.form) pieces ≤ sum_by (λ n. n.count * w n.item n.form) c = counts-le w c pieces held.apart in
      omega arith

  pub is_choice : (c : Content) → Fits I t c → IsWithin I c → IsChoice pieces (padded N (extended_capacity I t)) (choice_of pieces c)
  is_choice c fits within = record {
    whole = length-map pieces (λ (q : Piece N). count_of_form q.item q.form c);
    copies = λ p lt.
        let q = get_or pieces p (no_piece pieces) in
        let is = held.each p (no_piece pieces) lt in
        let e : p ≡ p + 1 - 1 = omega arith in
        let number : get_or (choice_of pieces c) p 0 ≡ count_of_form q.item q.form c = get_or-map (λ (r : Piece N). count_of_form r.item r.form c) pieces p (no_piece pieces) 0 lt in
        let part : count_of_form q.item q.form c ≤ count_of_item q.item c = form-le_item q.item q.form c in
        let most : count_of_item q.item c ≤ (item_at I q.item).demand = within q.item is.item_is in
        let copies : get_or (map (λ (r : Piece N). r.copies) pieces) p 0 ≡ q.copies = get_or-map (λ (r : Piece N). r.copies) pieces p (no_piece pieces) 0 lt in
        let same : get_or (map (λ (r : Piece N). r.copies) pieces) p 0 ≡ piece_copies pieces (p + 1) = ap (λ (k : ℕ). get_or (map (λ (r : Piece N). r.copies) pieces) k 0) e in
        omega (arith, is.copied);
    fits = λ d.
        let cap = extended_capacity I t in
        let room : get_or (padded N cap) d 0 ≡ get_or cap d 0 = get_or-padded cap (N - length cap) d in
        omega (arith, choice-le_content d c, within_capacity I known t fits.bin_type c fits d);
  }
