-- Heights of the nodes of a type: no arc costs more than it falls, and each height is the price of a path that ends where no arc
-- goes on.
use Rattle.std.proofs.Common.{◌≡◌, ◌≢◌, ◌⊎◌, ℕ, zero, suc, ◌+◌, ◌≤◌, ◌<◌, cond, ◌==◌, List, [], ◌∷◌, length, get_or, refl, sym, ap, ◌∙◌, subst, inl, inr, ⊎_elim, arith, Some, ℤ, pos, ◌+ℤ◌, ◌≤ℤ◌}
use Rattle.std.specs.Prelude.{AllPairs, Contains, slice_get}
use Rattle.std.proofs.lemmas.Bool.{cases_eq, eq-eqb, ne_eqb, cond-true, cond-false}
use Rattle.std.proofs.lemmas.Int.{ints, by_lt_z}
use Rattle.flow_graph.specs.declared.parts.TypeArc.{TypeArc}
use Rattle.flow_graph.specs.Arcs.{TypeValue, ArcBefore, arc_at, kind_of}
use Rattle.flow_graph.specs.Faithful.{IsPath, AreNumbersOf}
use Rattle.flow_graph.proofs.ArcKinds.{among_list}
use Rattle.flow_model.specs.Prices.{way_price}

-- one of the others is one of the list
contains_later : (e : TypeArc) (arcs : List TypeArc) (f : TypeArc) → Contains arcs f → Contains (e ∷ arcs) f
contains_later e arcs f has = (suc has.0, omega (arith, has.1), has.2)

contains_first : (e : TypeArc) (arcs : List TypeArc) → Contains (e ∷ arcs) e
contains_first e arcs = (zero, omega arith, refl)

path_more : (e : TypeArc) (arcs : List TypeArc) (a b : ℕ) (path : List TypeArc) → IsPath arcs a b path → IsPath (e ∷ arcs) a b path
path_more e arcs a b [] leads = leads
path_more e arcs a b (f ∷ path) leads = (contains_later e arcs f leads.0, leads.1, path_more e arcs f.head b path leads.2)

-- a path of arcs that rise from no node below another stays where it is, or ends above that node
path_goes : (arcs : List TypeArc) (s a b : ℕ) (path : List TypeArc) → ((f : TypeArc) → Contains arcs f → (s ≤ f.tail) × (f.tail < f.head)) → IsPath arcs a b path → (a ≡ b) ⊎ (s < b)
path_goes arcs s a b [] up leads = inl leads
path_goes arcs s a b (f ∷ path) up leads =
    let here = up f leads.0 in
    ⊎_elim
    (λ same. inr (omega (arith, same, here.0, here.1)))
    (λ above. inr above)
    (path_goes arcs s f.head b path up leads.2)

module _ (g : List TypeValue) (t : ℕ) (price : ℕ → ℤ) where
  -- a path from a node to one where no arc goes on, and its price
  pub record Way (arcs : List TypeArc) (v : ℕ) (z : ℤ) : Type 0 where
    pub last : ℕ
    pub path : List TypeArc
    pub numbers : List ℕ
    pub leads : IsPath arcs v last path
    pub are : AreNumbersOf g t numbers path
    pub costs : way_price price numbers ≡ z
    pub stops : (e : TypeArc) → Contains arcs e → e.tail ≡ last → ⊥

  -- the arcs, the first of them with number n, stand in order and rise
  pub record AreArcs (n : ℕ) (arcs : List TypeArc) : Type 0 where
    pub numbers : (k : ℕ) (e : TypeArc) → slice_get arcs k ≡ Some e → arc_at g (n + k) ≡ Some (kind_of t e)
    pub ordered : AllPairs ArcBefore arcs
    pub rise : (e : TypeArc) → Contains arcs e → e.tail < e.head

  pub record Heights (n : ℕ) (arcs : List TypeArc) : Type 0 where
    pub height : ℕ → ℤ
    pub falls : (k : ℕ) (e : TypeArc) → slice_get arcs k ≡ Some e → (price (n + k) +ℤ height e.head) ≤ℤ height e.tail
    pub ways : (v : ℕ) → Way arcs v (height v)

  module _ (n : ℕ) (e : TypeArc) (arcs : List TypeArc) (are : AreArcs n (e ∷ arcs)) where
    others : AreArcs (n + 1) arcs
    others = record {
      numbers = λ k f at. let place : n + suc k ≡ n + 1 + k = omega arith in subst (λ (m : ℕ). arc_at g m ≡ Some (kind_of t f)) place (are.numbers (suc k) f at);
      ordered = λ i j d less within. are.ordered (suc i) (suc j) d (omega (arith, less)) (omega (arith, within));
      rise = λ f has. are.rise f (contains_later e arcs f has);
    }

    before : (f : TypeArc) → ArcBefore e f → e.tail ≤ f.tail
    before f = ⊎_elim (λ less. omega (arith, less)) (λ same. let tail = same.0 in omega (arith, tail))

    above : (f : TypeArc) → Contains arcs f → (e.tail ≤ f.tail) × (f.tail < f.head)
    above f has =
        let pair = are.ordered zero (suc has.0) f (omega arith) (omega (arith, has.1)) in
        (before f (subst (ArcBefore e) has.2 pair), are.rise f (contains_later e arcs f has))

    stops_too : (v : ℕ) (z : ℤ) (w : Way arcs v z) → e.tail ≢ w.last → (f : TypeArc) (k : ℕ) → k < length (e ∷ arcs) → get_or (e ∷ arcs) k f ≡ f → f.tail ≡ w.last → ⊥
    stops_too v z w apart f zero within same ends = apart (ap (λ (x : TypeArc). x.tail) same ∙ ends)
    stops_too v z w apart f (suc k) within same ends = w.stops f (k, omega (arith, within), same) ends

    -- a path that does not end at the tail of the first arc ends where no arc goes on, the first arc included
    longer : (v : ℕ) (z : ℤ) (w : Way arcs v z) → e.tail ≢ w.last → Way (e ∷ arcs) v z
    longer v z w apart = record {
      last = w.last;
      path = w.path;
      numbers = w.numbers;
      leads = path_more e arcs v w.last w.path w.leads;
      are = w.are;
      costs = w.costs;
      stops = λ f has ends. stops_too v z w apart f has.0 has.1 has.2 ends;
    }

    goes_past : (v : ℕ) (z : ℤ) (w : Way arcs v z) → (v ≡ w.last) ⊎ (e.tail < w.last)
    goes_past v z w = path_goes arcs e.tail v w.last w.path above w.leads

    -- the first arc, and the path from where it ends
    ahead : (z : ℤ) → Way arcs e.head z → Way (e ∷ arcs) e.tail (price n +ℤ z)
    ahead z w =
        let up = are.rise e (contains_first e arcs) in
        let apart : e.tail ≢ w.last = λ same. ⊎_elim (λ here. omega (arith, up, here, same)) (λ past. omega (arith, past, same)) (goes_past e.head z w) in
        let place : n + 0 ≡ n = omega arith in
        record {
          last = w.last;
          path = e ∷ w.path;
          numbers = n ∷ w.numbers;
          leads = (contains_first e arcs, refl, path_more e arcs e.head w.last w.path w.leads);
          are = (subst (λ (m : ℕ). arc_at g m ≡ Some (kind_of t e)) place (are.numbers zero e refl), w.are);
          costs = ap (λ y. price n +ℤ y) w.costs;
          stops = λ f has ends. stops_too e.head z w apart f has.0 has.1 has.2 ends;
        }

    -- the height of the tail of the first arc, where those of the other nodes stand
    record Top (rest : Heights (n + 1) arcs) : Type 0 where
      top : ℤ
      first : (price n +ℤ rest.height e.head) ≤ℤ top
      later : (f : TypeArc) → Contains arcs f → f.tail ≡ e.tail → rest.height e.tail ≤ℤ top
      way : Way (e ∷ arcs) e.tail top

    top_of : (rest : Heights (n + 1) arcs) → Top rest
    top_of rest =
        let new : ℤ = price n +ℤ rest.height e.head in
        let old : ℤ = rest.height e.tail in
        let w = rest.ways e.tail in
        let over = ahead (rest.height e.head) (rest.ways e.head) in
        ⊎_elim
        (λ same. record {
          top = new;
          first = omega (arith, ints);
          later = λ f has tail. absurd (w.stops f has (tail ∙ same));
          way = over;
        })
        (λ apart. by_lt_z old new
        (λ less. record { top = new; first = omega (arith, ints); later = λ f has tail. omega (arith, ints, less); way = over })
        (λ more. record { top = old; first = more; later = λ f has tail. omega (arith, ints); way = longer e.tail old w apart }))
        (cases_eq e.tail w.last)

    module _ (rest : Heights (n + 1) arcs) (top : Top rest) where
      abbrev height : ℕ → ℤ
      height v = cond (v == e.tail) top.top (rest.height v)

      height_tail : (v : ℕ) → v ≡ e.tail → height v ≡ top.top
      height_tail v same = cond-true (v == e.tail) top.top (rest.height v) (eq-eqb v e.tail same)

      height_other : (v : ℕ) → v ≢ e.tail → height v ≡ rest.height v
      height_other v apart = cond-false (v == e.tail) top.top (rest.height v) (ne_eqb v e.tail apart)

      falls : (k : ℕ) (f : TypeArc) → slice_get (e ∷ arcs) k ≡ Some f → (price (n + k) +ℤ height f.head) ≤ℤ height f.tail
      falls zero f at =
          let same : e ≡ f = cc in
          let up = are.rise e (contains_first e arcs) in
          let head = height_other e.head (λ h. omega (arith, up, h)) in
          let tail = height_tail e.tail refl in
          let place : price (n + 0) ≡ price n = ap price (omega arith) in
          let first = top.first in
          subst (λ (x : TypeArc). (price (n + 0) +ℤ height x.head) ≤ℤ height x.tail) same (omega (arith, ints, head, tail, place, first))
      falls (suc k) f at =
          let has = among_list arcs k f at in
          let up = above f has in
          let head = height_other f.head (λ h. omega (arith, up.0, up.1, h)) in
          let place : price (n + suc k) ≡ price (n + 1 + k) = ap price (omega arith) in
          let own = rest.falls k f at in
          ⊎_elim
          (λ same.
          let tail = height_tail f.tail same in
          let moved : rest.height f.tail ≡ rest.height e.tail = ap rest.height same in
          let later = top.later f has same in
          omega (arith, ints, head, place, own, tail, moved, later))
          (λ apart. let tail = height_other f.tail apart in omega (arith, ints, head, place, own, tail))
          (cases_eq f.tail e.tail)

      ways : (v : ℕ) → Way (e ∷ arcs) v (height v)
      ways v = ⊎_elim
          (λ same. subst (λ (u : ℕ). Way (e ∷ arcs) u (height u)) (sym same) (subst (Way (e ∷ arcs) e.tail) (sym (height_tail e.tail refl)) top.way))
          (λ apart.
          let w = rest.ways v in
          let off : e.tail ≢ w.last = λ same. ⊎_elim (λ here. apart (here ∙ sym same)) (λ past. omega (arith, past, same)) (goes_past v (rest.height v) w) in
          subst (Way (e ∷ arcs) v) (sym (height_other v apart)) (longer v (rest.height v) w off))
          (cases_eq v e.tail)

    raised : Heights (n + 1) arcs → Heights n (e ∷ arcs)
    raised rest =
        let top = top_of rest in
        record { height = height rest top; falls = falls rest top; ways = ways rest top }

  pub heights : (n : ℕ) (arcs : List TypeArc) → AreArcs n arcs → Heights n arcs
  heights n [] are = record {
    height = λ v. pos 0;
    falls = λ k e at. cc;
    ways = λ v. record {
      last = v;
      path = [];
      numbers = [];
      leads = refl;
      are = tt;
      costs = refl;
      stops = λ e has same. omega (arith, has.1);
    };
  }
  heights n (e ∷ arcs) are = raised n e arcs are (heights (n + 1) arcs (others n e arcs are))
