-- Lists in order: of any two elements the order tells which comes first, so each list has one in order with its members.
use Rattle.std.proofs.Common.{◌≡◌, ℕ, zero, suc, ◌<◌, ◌⊎◌, ◌↔◌, List, [], ◌∷◌, length, get_or, refl, sym, ◌∙◌, subst, inl, inr, ⊎_elim, arith}
use Rattle.std.specs.Prelude.{Contains, All, AllPairs}
use Rattle.std.specs.Ordering.{nat_cmp}
use Rattle.std.specs.declared.cmp.Ordering.TheVariants.{Less, Equal}
use Rattle.std.proofs.lemmas.Bool.{cases_order}
use Rattle.std.proofs.lemmas.Bool.Decides.{nat_tests}
use Rattle.std.proofs.lemmas.Cmp.{nat_list_cmp_total}
use Rattle.std.proofs.lemmas.List.Elements.{Contains-get_or}
use Rattle.weight_vec.specs.Weight.{Before}
use Rattle.label_graph.specs.declared.parts.Mark.{Mark}
use Rattle.label_graph.specs.declared.parts.Mark.TheVariants.{Loss, Piece as Carries}
use Rattle.label_graph.specs.declared.parts.GraphArc.{GraphArc}
use Rattle.label_graph.specs.Graph.{ArcBefore, MarkBefore}
use Rattle.label_graph.proofs.Members.{contains_cons, contains_here, contains_there}

module _ {X : Type 0} (R : X → X → Type 0) where
  pub pairs-none : AllPairs R []
  pairs-none i j d lt within = absurd (let bad : j < 0 = within in omega arith)

  pub pairs-cons : (x : X) (xs : List X) → All (R x) xs → AllPairs R xs → AllPairs R (x ∷ xs)
  pairs-cons x xs first rest i zero d lt within = absurd (omega arith)
  pairs-cons x xs first rest zero (suc j) d lt within = first j d (omega arith)
  pairs-cons x xs first rest (suc i) (suc j) d lt within = rest i j d (omega arith) (omega arith)

  pub first-before : (y : X) (ys : List X) (x : X) → AllPairs R (y ∷ ys) → Contains ys x → R y x
  first-before y ys x up m =
      let lt : m.0 < length ys = m.1 in
      let pair : R y (get_or ys m.0 x) = up 0 (suc m.0) x (omega arith) (omega arith) in
      subst (λ (z : X). R y z) m.2 pair

  pub rest-up : (y : X) (ys : List X) → AllPairs R (y ∷ ys) → AllPairs R ys
  rest-up y ys up i j d lt in_range = up (suc i) (suc j) d (omega arith) (omega arith)

module _ {X : Type 0} where
  in-cons : (x : X) (xs : List X) (z : X) → (x ≡ z) ⊎ Contains xs z → Contains (x ∷ xs) z
  in-cons x xs z m = ⊎_elim (λ same. subst (λ (w : X). Contains (x ∷ xs) w) same (contains_here x xs)) (λ later. contains_there x xs z later) m

-- a list in order with one more member
record IsInserted {X : Type 0} (R : X → X → Type 0) (x : X) (ys : List X) : Type 0 where
  list : List X
  ordered : AllPairs R list
  exact : (z : X) → Contains list z ↔ ((x ≡ z) ⊎ Contains ys z)

module _ {X : Type 0} (R : X → X → Type 0) (trans : (x y z : X) → R x y → R y z → R x z) (compare : (x y : X) → R x y ⊎ ((x ≡ y) ⊎ R y x)) where
  insert : (x : X) (ys : List X) → AllPairs R ys → IsInserted R x ys
  insert x [] up = record { list = x ∷ []; ordered = pairs-cons R x [] (λ k d lt. absurd (omega arith)) up; exact = λ z. (contains_cons x [] z, in-cons x [] z) }
  insert x (y ∷ ys) up =
      ⊎_elim
      (λ before. record {
        list = x ∷ y ∷ ys;
        ordered = pairs-cons R x (y ∷ ys) (λ k d lt.
            let z = get_or (y ∷ ys) k d in
            ⊎_elim
            (λ same. subst (λ (w : X). R x w) same before)
            (λ later. trans x y z before (first-before R y ys z up later))
            (contains_cons y ys z (Contains-get_or (y ∷ ys) k d lt))) up;
        exact = λ z. (contains_cons x (y ∷ ys) z, in-cons x (y ∷ ys) z);
      })
      (λ other. ⊎_elim
      (λ same. record {
        list = y ∷ ys;
        ordered = up;
        exact = λ z. (
          λ m. inr m,
          λ m. ⊎_elim (λ e. subst (λ (w : X). Contains (y ∷ ys) w) (sym same ∙ e) (contains_here y ys)) (λ there. there) m,
        );
      })
      (λ after.
      let rest = insert x ys (rest-up R y ys up) in
      record {
        list = y ∷ rest.list;
        ordered = pairs-cons R y rest.list (λ k d lt.
            let z = get_or rest.list k d in
            ⊎_elim
            (λ same. subst (λ (w : X). R y w) same after)
            (λ later. first-before R y ys z up later)
            ((rest.exact z).0 (Contains-get_or rest.list k d lt))) rest.ordered;
        exact = λ z. (
          λ m. ⊎_elim
              (λ same. inr (in-cons y ys z (inl same)))
              (λ later. ⊎_elim (λ same. inl same) (λ there. inr (contains_there y ys z there)) ((rest.exact z).0 later))
              (contains_cons y rest.list z m),
          λ m. ⊎_elim
              (λ same. contains_there y rest.list z ((rest.exact z).1 (inl same)))
              (λ there. ⊎_elim
              (λ same. in-cons y rest.list z (inl same))
              (λ later. contains_there y rest.list z ((rest.exact z).1 (inr later)))
              (contains_cons y ys z there))
              m,
        );
      })
      other)
      (compare x y)

  -- a list in order with the members of the given one
  pub in_order : (xs : List X) → (ys : List X) × AllPairs R ys × ((x : X) → Contains ys x ↔ Contains xs x)
  in_order [] = ([], pairs-none R, λ x. (λ m. m, λ m. m))
  in_order (x ∷ xs) =
      let rest = in_order xs in
      let all = insert x rest.0 rest.1 in (
        all.list,
        all.ordered,
        (λ z. (
          λ m. ⊎_elim (λ same. in-cons x xs z (inl same)) (λ later. contains_there x xs z ((rest.2 z).0 later)) ((all.exact z).0 m),
          λ m. (all.exact z).1 (⊎_elim (λ same. inl same) (λ later. inr ((rest.2 z).1 later)) (contains_cons x xs z m)),
        )),
      )

pub number-before : (x y : ℕ) → x < y → nat_cmp x y ≡ Less
number-before x y h = grind (arith, nat_tests)

pub number-same : (x y : ℕ) → x ≡ y → nat_cmp x y ≡ Equal
number-same x y h = grind (arith, nat_tests)

pub before-trans : (xs ys zs : List ℕ) → Before xs ys → Before ys zs → Before xs zs
before-trans xs ys zs h k = nat_list_cmp_total.trans xs ys zs h k

pub before-compare : (xs ys : List ℕ) → Before xs ys ⊎ ((xs ≡ ys) ⊎ Before ys xs)
before-compare [] [] = inr (inl refl)
before-compare [] (y ∷ ys) = inl refl
before-compare (x ∷ xs) [] = inr (inr refl)
before-compare (x ∷ xs) (y ∷ ys) = elim (cases_order x y) [
  | inl e ↦
      ⊎_elim
      (λ before. inl (rw (number-same x y e) before))
      (λ other. ⊎_elim (λ same. inr (inl (λ i. e i ∷ same i))) (λ after. inr (inr (rw (number-same y x (sym e)) after))) other)
      (before-compare xs ys)
  | inr (inl lt) ↦ inl (rw (number-before x y lt) refl)
  | inr (inr gt) ↦ inr (inr (rw (number-before y x gt) refl))
]

-- either the first numbers are in order, or they are the same and the rest is
abbrev FirstThen : ℕ → ℕ → Type 0 → Type 0
FirstThen a b P = (a < b) ⊎ ((a ≡ b) × P)

first-trans : (a b c : ℕ) (P Q R : Type 0) → (P → Q → R) → FirstThen a b P → FirstThen b c Q → FirstThen a c R
first-trans a b c P Q R rest h k =
    ⊎_elim
    (λ lt. ⊎_elim (λ more. inl (omega arith)) (λ w. inl (omega (arith, w.0))) k)
    (λ v. ⊎_elim (λ lt. inl (omega (arith, v.0))) (λ w. inr (v.0 ∙ w.0, rest v.1 w.1)) k)
    h

first-compare : (a b : ℕ) (P E Q : Type 0) → P ⊎ (E ⊎ Q) → FirstThen a b P ⊎ (((a ≡ b) × E) ⊎ FirstThen b a Q)
first-compare a b P E Q rest = elim (cases_order a b) [
  | inl e ↦ ⊎_elim (λ p. inl (inr (e, p))) (λ other. ⊎_elim (λ same. inr (inl (e, same))) (λ q. inr (inr (inr (sym e, q)))) other) rest
  | inr (inl lt) ↦ inl (inl lt)
  | inr (inr gt) ↦ inr (inr (inl gt))
]

mark-trans : (k m n : Mark) → MarkBefore k m → MarkBefore m n → MarkBefore k n
mark-trans Loss Loss n h l = l
mark-trans Loss (Carries q) Loss h l = l
mark-trans Loss (Carries q) (Carries r) h l = tt
mark-trans (Carries p) Loss n h l = absurd h
mark-trans (Carries p) (Carries q) Loss h l = l
mark-trans (Carries p) (Carries q) (Carries r) h l = omega arith

mark-compare : (m n : Mark) → MarkBefore m n ⊎ ((m ≡ n) ⊎ MarkBefore n m)
mark-compare Loss Loss = inr (inl refl)
mark-compare Loss (Carries q) = inl tt
mark-compare (Carries p) Loss = inr (inr tt)
mark-compare (Carries p) (Carries q) = elim (cases_order p q) [
  | inl e ↦ inr (inl (λ i. Carries (e i)))
  | inr (inl lt) ↦ inl lt
  | inr (inr gt) ↦ inr (inr gt)
]

pub arc-trans : (e f x : GraphArc) → ArcBefore e f → ArcBefore f x → ArcBefore e x
arc-trans e f x h k =
    first-trans e.tail f.tail x.tail (FirstThen e.head f.head (MarkBefore e.mark f.mark)) (FirstThen f.head x.head (MarkBefore f.mark x.mark)) (FirstThen e.head x.head (MarkBefore e.mark x.mark))
    (first-trans e.head f.head x.head (MarkBefore e.mark f.mark) (MarkBefore f.mark x.mark) (MarkBefore e.mark x.mark) (mark-trans e.mark f.mark x.mark))
    h k

pub arc-compare : (e f : GraphArc) → ArcBefore e f ⊎ ((e ≡ f) ⊎ ArcBefore f e)
arc-compare e f =
    let marks = mark-compare e.mark f.mark in
    let heads = first-compare e.head f.head (MarkBefore e.mark f.mark) (e.mark ≡ f.mark) (MarkBefore f.mark e.mark) marks in
    ⊎_elim
    (λ before. inl before)
    (λ other. ⊎_elim
    (λ same. inr (inl (λ i. record { tail = same.0 i; head = same.1.0 i; mark = same.1.1 i })))
    (λ after. inr (inr after))
    other)
    (first-compare e.tail f.tail (FirstThen e.head f.head (MarkBefore e.mark f.mark)) ((e.head ≡ f.head) × (e.mark ≡ f.mark)) (FirstThen f.head e.head (MarkBefore f.mark e.mark)) heads)
