-- The heaviest ways on to a node, with one more arc in front.
use Rattle.std.proofs.Common.{◌≡◌, ◌≢◌, ℕ, suc, ◌+◌, ◌<◌, ◌≤◌, ◌⊎◌, Option, Some, None, List, [], ◌∷◌, length, get_or, replicate, max, refl, sym, ap, ◌∙◌, subst, inl, inr, ⊎_elim, arith}
use Rattle.std.specs.Prelude.{Contains}
use Rattle.std.proofs.lemmas.Bool.{cases_lt}
use Rattle.std.proofs.lemmas.List.{length-replicate}
use Rattle.weight_vec.specs.Weight.{higher, plus}
use Rattle.weight_vec.proofs.Places.{get_or-higher, get_or-plus, get_or-zeros, length-higher}
use Rattle.label_graph.specs.declared.parts.Piece.{Piece}
use Rattle.label_graph.specs.declared.parts.GraphArc.{GraphArc}
use Rattle.label_graph.specs.Graph.{IsPath, weight_in, mark_weight}
use Rattle.label_graph.proofs.Members.{contains_cons, contains_here, contains_there, contains_nothing}
use Rattle.joint_graph.specs.Ways.{AreHeaviest, IsWay}
use Rattle.joint_graph.specs.inner.Passes.{relax}

pub length-sum : (xs ys : List ℕ) → length ys ≤ length xs → length (plus xs ys) ≡ length xs
length-sum [] [] h = refl
length-sum [] (y ∷ ys) h = absurd (omega arith)
length-sum (x ∷ xs) [] h = refl
length-sum (x ∷ xs) (y ∷ ys) h = ap suc (length-sum xs ys (omega arith))

-- without arcs a node has a way to itself alone
module _ {N : ℕ} (pieces : List (Piece N)) (b : ℕ) where
  pub way-itself : (v : ℕ) → v ≡ b → AreHeaviest pieces [] v b (replicate N 0)
  way-itself v same =
      record {
        sized = length-replicate N 0;
        each = λ d. record { path = []; leads = same; weighs = sym (get_or-zeros N d); most = λ other h. only_empty d other h };
      }
    where
      only_empty : (d : ℕ) (other : List GraphArc) → IsPath [] v b other → weight_in pieces d other ≤ get_or (replicate N 0) d 0
      only_empty d [] h = omega arith
      only_empty d (e ∷ other) h = absurd (contains_nothing e h.0)

  pub way-nowhere : (v : ℕ) → v ≢ b → (path : List GraphArc) → IsPath [] v b path → ⊥
  way-nowhere v ne [] h = ne h
  way-nowhere v ne (e ∷ path) h = contains_nothing e h.0

module _ {N : ℕ} (pieces : List (Piece N)) (b : ℕ) (e : GraphArc) (arcs : List GraphArc) (after : (f : GraphArc) → Contains arcs f → e.tail ≤ f.tail) (climbs : (f : GraphArc) → Contains (e ∷ arcs) f → f.tail < f.head) where
  widened : (path : List GraphArc) (a : ℕ) → IsPath arcs a b path → IsPath (e ∷ arcs) a b path
  widened [] a h = h
  widened (f ∷ path) a h = (contains_there e arcs f h.0, h.1, widened path f.head h.2)

  -- a way on from another node does not use the arc
  narrowed : (path : List GraphArc) (a : ℕ) → a ≢ e.tail → IsPath (e ∷ arcs) a b path → IsPath arcs a b path
  narrowed [] a ne h = h
  narrowed (f ∷ path) a ne h =
      let there : Contains arcs f = ⊎_elim (λ same. absurd (ne (sym h.1 ∙ sym (ap (λ (x : GraphArc). x.tail) same)))) (λ later. later) (contains_cons e arcs f h.0) in
      let onward : f.head ≢ e.tail = omega (arith, after f there, climbs f h.0) in
      (there, h.1, narrowed path f.head onward h.2)

  -- a way over the arc begins with it
  record Over (path : List GraphArc) : Type 0 where
    rest : List GraphArc
    begins : path ≡ e ∷ rest
    leads : IsPath arcs e.head b rest

  split : (path : List GraphArc) → IsPath (e ∷ arcs) e.tail b path → IsPath arcs e.tail b path ⊎ Over path
  split [] h = inl h
  split (f ∷ path) h =
      ⊎_elim
      (λ same.
      let up : e.head ≢ e.tail = omega (arith, climbs e (contains_here e arcs)) in
      let rest : IsPath (e ∷ arcs) e.head b path = subst (λ (x : GraphArc). IsPath (e ∷ arcs) x.head b path) (sym same) h.2 in
      inr (record { rest = path; begins = ap (λ (x : GraphArc). x ∷ path) (sym same); leads = narrowed path e.head up rest }))
      (λ later.
      let up : f.head ≢ e.tail = omega (arith, after f later, climbs f h.0) in
      inl (later, h.1, narrowed path f.head up h.2))
      (contains_cons e arcs f h.0)

  kept-way : (v : ℕ) (weights : List ℕ) → AreHeaviest pieces arcs v b weights → ((other : List GraphArc) → IsPath (e ∷ arcs) v b other → (d : ℕ) → weight_in pieces d other ≤ get_or weights d 0) → AreHeaviest pieces (e ∷ arcs) v b weights
  kept-way v weights are most =
      record {
        sized = are.sized;
        each = λ d.
            let way = are.each d in
            record { path = way.path; leads = widened way.path v way.leads; weighs = way.weighs; most = λ other h. most other h d };
      }

  pub way-other : (v : ℕ) (way : Option (List ℕ)) → v ≢ e.tail → IsWay pieces arcs v b way → IsWay pieces (e ∷ arcs) v b way
  way-other v None ne is = λ path h. is path (narrowed path v ne h)
  way-other v (Some weights) ne is = kept-way v weights is (λ other h d. (is.each d).most other (narrowed other v ne h))

  abbrev weight : List ℕ
  weight = mark_weight pieces e.mark

  over-weight : (path : List GraphArc) (d : ℕ) (o : Over path) → weight_in pieces d path ≡ get_or weight d 0 + weight_in pieces d o.rest
  over-weight path d o = ap (weight_in pieces d) o.begins

  -- the way over the arc
  over-way : (behind : List ℕ) → AreHeaviest pieces arcs e.head b behind → (d : ℕ) → (path : List GraphArc) × IsPath (e ∷ arcs) e.tail b path × (weight_in pieces d path ≡ get_or (plus behind weight) d 0)
  over-way behind are d =
      let way = are.each d in (
        e ∷ way.path,
        (contains_here e arcs, refl, widened way.path e.head way.leads),
        omega (arith, way.weighs, get_or-plus behind weight d),
      )

  pub way-tail : (here behind : Option (List ℕ)) → length weight ≤ N → IsWay pieces arcs e.tail b here → IsWay pieces arcs e.head b behind → IsWay pieces (e ∷ arcs) e.tail b (relax weight here behind)
  way-tail None None narrow one two = λ path h. ⊎_elim (λ old. one path old) (λ o. two o.rest o.leads) (split path h)
  way-tail (Some here) None narrow one two =
      kept-way e.tail here one (λ other h d. ⊎_elim (λ old. (one.each d).most other old) (λ o. absurd (two o.rest o.leads)) (split other h))
  way-tail None (Some behind) narrow one two =
      record {
        sized = length-sum behind weight (omega (arith, two.sized)) ∙ two.sized;
        each = λ d.
            let way = over-way behind two d in
            record {
              path = way.0;
              leads = way.1;
              weighs = way.2;
              most = λ other h. ⊎_elim
                  (λ old. absurd (one other old))
                  (λ o. omega (arith, over-weight other d o, (two.each d).most o.rest o.leads, get_or-plus behind weight d))
                  (split other h);
            };
      }
  way-tail (Some here) (Some behind) narrow one two =
      let sum : length (plus behind weight) ≡ N = length-sum behind weight (omega (arith, two.sized)) ∙ two.sized in
      record {
        sized = length-higher here (plus behind weight) (one.sized ∙ sym sum) ∙ one.sized;
        each = λ d.
            let old_way = one.each d in
            let way = over-way behind two d in
            let value : get_or (higher here (plus behind weight)) d 0 ≡ max (get_or here d 0) (get_or (plus behind weight) d 0) = get_or-higher here (plus behind weight) d in
            let most : (other : List GraphArc) → IsPath (e ∷ arcs) e.tail b other → weight_in pieces d other ≤ get_or (higher here (plus behind weight)) d 0 = λ other h. ⊎_elim
            (λ old. omega (arith, value, old_way.most other old))
            (λ o. omega (arith, value, over-weight other d o, (two.each d).most o.rest o.leads, get_or-plus behind weight d))
            (split other h) in
            ⊎_elim
            (λ lt. record { path = way.0; leads = way.1; weighs = omega (arith, value, way.2); most = most })
            (λ ge. record { path = old_way.path; leads = widened old_way.path e.tail old_way.leads; weighs = omega (arith, value, old_way.weighs); most = most })
            (cases_lt (get_or here d 0) (get_or (plus behind weight) d 0));
      }
