-- Lists by number, and numbers that come from others.
use Rattle.std.proofs.Common.{◌≡◌, ℕ, zero, suc, ◌+◌, ◌-◌, ◌<◌, ◌≤◌, List, [], ◌∷◌, ◌++◌, length, get_or, refl, sym, ap, ◌∙◌, subst, ⊎_elim, arith}
use Rattle.std.specs.Prelude.{Contains}
use Rattle.std.specs.List.{range_with_len}
use Rattle.std.proofs.lemmas.Bool.{cases_lt}
use Rattle.std.proofs.lemmas.List.{get_or_append_left, length-append}
use Rattle.std.proofs.lemmas.List.FromFn.{length-range_with_len, get_or-range_with_len}
use Rattle.std.proofs.Math.Seq.{get_or-append_seam}
use Rattle.label_graph.proofs.Fewer.{no_longer}
use Rattle.joint_graph.specs.Merged.{node_into}

-- a list of so many numbers, each of which goes with its place
pub record IsTable (Goes : ℕ → ℕ → Type 0) (n : ℕ) : Type 0 where
  pub list : List ℕ
  pub sized : length list ≡ n
  pub each : (w : ℕ) → 1 ≤ w → w ≤ n → Goes w (node_into list w)

module _ (Goes : ℕ → ℕ → Type 0) where
  pub table : (n : ℕ) → ((w : ℕ) → 1 ≤ w → w ≤ n → (x : ℕ) × Goes w x) → IsTable Goes n
  table zero all = record { list = []; sized = refl; each = λ w low high. absurd (omega arith) }
  table (suc n) all =
      let old = table n (λ w low high. all w low (omega arith)) in
      let next = all (suc n) (omega arith) (omega arith) in
      let longer : length (old.list ++ next.0 ∷ []) ≡ length old.list + 1 = length-append old.list (next.0 ∷ []) in
      record {
        list = old.list ++ next.0 ∷ [];
        sized = omega (arith, longer, old.sized);
        each = λ w low high. ⊎_elim
            (λ early. subst (λ (x : ℕ). Goes w x) (sym (get_or_append_left old.list (next.0 ∷ []) 0 (w - 1) (omega (arith, old.sized)))) (old.each w low (omega arith)))
            (λ late.
            let same : suc n ≡ w = omega arith in
            let index : w - 1 ≡ length old.list = omega (arith, old.sized) in
            let last : node_into (old.list ++ next.0 ∷ []) w ≡ next.0 = ap (λ (k : ℕ). get_or (old.list ++ next.0 ∷ []) k 0) index ∙ get_or-append_seam old.list next.0 [] 0 in
            subst (λ (x : ℕ). Goes w x) (sym last) (subst (λ (v : ℕ). Goes v next.0) same next.1))
            (cases_lt w (suc n));
      }

-- the numbers up to n
module _ (n : ℕ) where
  up_to-there : (x : ℕ) → 1 ≤ x → x ≤ n → Contains (range_with_len 1 n) x
  up_to-there x low high =
      let at : get_or (range_with_len 1 n) (x - 1) x ≡ 1 + (x - 1) = get_or-range_with_len 1 n (x - 1) x (omega arith) in
      (x - 1, omega (arith, length-range_with_len 1 n), omega (arith, at))

  up_to-from : (x : ℕ) → Contains (range_with_len 1 n) x → (1 ≤ x) × (x ≤ n)
  up_to-from x m =
      let lt : m.0 < length (range_with_len 1 n) = m.1 in
      let low : m.0 < n = omega (arith, length-range_with_len 1 n) in
      let at : get_or (range_with_len 1 n) m.0 x ≡ 1 + m.0 = get_or-range_with_len 1 n m.0 x low in
      let here : get_or (range_with_len 1 n) m.0 x ≡ x = m.2 in
      (omega arith, omega arith)

-- numbers up to n that come from numbers up to m are no more
pub no-more : (into : List ℕ) (m n : ℕ) → ((w : ℕ) → 1 ≤ w → w ≤ n → (v : ℕ) × (1 ≤ v) × (v ≤ m) × (node_into into v ≡ w)) → n ≤ m
no-more into m n onto =
    let fewer : length (range_with_len 1 n) ≤ length (range_with_len 1 m) = no_longer (λ (x y : ℕ). x < y) (λ x h. omega arith) (λ (v w : ℕ). node_into into v ≡ w) (λ v x z a b. sym a ∙ b) (range_with_len 1 n) (range_with_len 1 m)
    (λ i j d lt high. omega (arith, get_or-range_with_len 1 n i d (omega (arith, length-range_with_len 1 n)), get_or-range_with_len 1 n j d (omega (arith, length-range_with_len 1 n))))
    (λ w m_w. let low = up_to-from n w m_w in let v = onto w low.0 low.1 in (v.0, up_to-there m v.0 v.1 v.2, v.3)) in
    omega (arith, length-range_with_len 1 n, length-range_with_len 1 m)

-- two ways to number the same things with all numbers up to m and up to n are one where each rises as the other does
module _ (Inner : ℕ → Type 0) (f h : ℕ → ℕ) where
  not-below : (m : ℕ) → ((w : ℕ) → 1 ≤ w → w ≤ m → (v : ℕ) × Inner v × (f v ≡ w)) → ((v : ℕ) → Inner v → 1 ≤ h v) → ((v w : ℕ) → Inner v → Inner w → f v < f w → h v < h w) → (n v : ℕ) → Inner v → f v ≡ n → n ≤ m → n ≤ h v
  not-below m onto low rises zero v inner at high = omega arith
  not-below m onto low rises (suc n) v inner at high =
      ⊎_elim
      (λ more.
      let w = onto n (omega arith) (omega arith) in
      let less : h w.0 < h v = rises w.0 v w.1 inner (omega (arith, w.2)) in
      let rest : n ≤ h w.0 = not-below m onto low rises n w.0 w.1 w.2 (omega arith) in
      omega arith)
      (λ none. omega (arith, low v inner))
      (cases_lt 0 n)

pub record AreAll (Inner : ℕ → Type 0) (f : ℕ → ℕ) (m : ℕ) : Type 0 where
  pub low : (v : ℕ) → Inner v → 1 ≤ f v
  pub high : (v : ℕ) → Inner v → f v ≤ m
  pub onto : (w : ℕ) → 1 ≤ w → w ≤ m → (v : ℕ) × Inner v × (f v ≡ w)

module _ (Inner : ℕ → Type 0) (f h : ℕ → ℕ) (m n : ℕ) (one : AreAll Inner f m) (two : AreAll Inner h n) (rises : (v w : ℕ) → Inner v → Inner w → f v < f w → h v < h w) (back : (v w : ℕ) → Inner v → Inner w → h v < h w → f v < f w) where
  pub numbers-one : (v : ℕ) → Inner v → f v ≡ h v
  numbers-one v inner =
      let up : f v ≤ h v = not-below Inner f h m one.onto two.low rises (f v) v inner refl (one.high v inner) in
      let down : h v ≤ f v = not-below Inner h f n two.onto one.low back (h v) v inner refl (two.high v inner) in
      omega arith

  pub counts-one : m ≡ n
  counts-one =
      let up : m ≤ n = ⊎_elim (λ some. let v = one.onto m some (omega arith) in omega (arith, v.2, numbers-one v.0 v.1, two.high v.0 v.1)) (λ none. omega arith) (cases_lt 0 m) in
      let down : n ≤ m = ⊎_elim (λ some. let v = two.onto n some (omega arith) in omega (arith, v.2, numbers-one v.0 v.1, one.high v.0 v.1)) (λ none. omega arith) (cases_lt 0 n) in
      omega arith
