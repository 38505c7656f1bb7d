-- Arcs with items and forms in place of marks, sorted: the arcs of a graph by tail, head, item and form.
use Rattle.std.proofs.Common.{◌≡◌, ◌≢◌, ℕ, ◌-◌, ◌<◌, ◌≤◌, true, false, List, [], length, get_or, map, refl, sym, ap, ◌∙◌, subst, inl, inr, ⊎_elim, arith}
use Rattle.std.specs.Prelude.{◌↔◌, All, Contains, AllPairs}
use Rattle.std.specs.Bool.{Decides}
use Rattle.std.specs.Cmp.{IsTotalOrder}
use Rattle.std.specs.Ordering.{nat_cmp, ordering_then, eq_by_cmp, is_lt}
use Rattle.std.specs.List.Sorted.{IsSorted, IsPermutation}
use Rattle.std.specs.declared.cmp.Ordering.{Ordering}
use Rattle.std.specs.declared.cmp.Ordering.TheVariants.{Less, Equal, Greater}
use Rattle.std.proofs.lemmas.Bool.{false≢true, cases_lt}
use Rattle.std.proofs.lemmas.Map.Views.{tells_apart}
use Rattle.level_graph.proofs.Members.{contains_map, from_map}
use Rattle.std.proofs.lemmas.Cmp.{ranked, by_ranked, nat_cmp_total, on_total, then_total, eq_by_cmp_equiv}
use Rattle.std.proofs.lemmas.List.{get_or-map, length-map}
use Rattle.std.proofs.lemmas.List.Elements.{All-contains, Contains-get_or}
use Rattle.std.proofs.lemmas.List.Sorted.{Contains-permutation, IsPermutation-sym, length_permutation}
use Rattle.std.proofs.lemmas.Map.Keys.{IsDistinct-IsPermutation}
use Rattle.std.proofs.lemmas.Map.Made.{AllPairs-from_IsDistinct, IsDistinct-from_AllPairs}
use Rattle.packing_laws.proofs.Merging.{pairs_from_sorted}
use Rattle.label_graph.specs.declared.parts.GraphArc.{GraphArc}
use Rattle.label_graph.specs.declared.parts.Mark.{Mark}
use Rattle.label_graph.specs.declared.parts.Mark.TheVariants.{Loss, Piece as Carries}
use Rattle.label_graph.specs.declared.parts.Piece.{Piece}
use Rattle.label_graph.specs.Graph as graph
use Rattle.label_graph.specs.Graph.{IsKnown, MarkBefore}
use Rattle.flow_graph.specs.declared.parts.TypeArc.{TypeArc}
use Rattle.flow_graph.specs.Arcs.{ArcBefore}
use Rattle.arc_compile.specs.Exact.{marked_item, marked_form}
use Rattle.arc_compile.specs.Compiled.{type_arc, AreNamed, AreNumbered}

-- the order of arcs
abbrev pub arc_cmp : TypeArc → TypeArc → Ordering
arc_cmp a b = ordering_then (nat_cmp a.tail b.tail) (ordering_then (nat_cmp a.head b.head) (ordering_then (nat_cmp a.item b.item) (nat_cmp a.form b.form)))

pub arc_total : IsTotalOrder arc_cmp
arc_total = then_total (on_total (λ (a : TypeArc). a.tail) nat_cmp_total) (then_total (on_total (λ (a : TypeArc). a.head) nat_cmp_total) (then_total (on_total (λ (a : TypeArc). a.item) nat_cmp_total) (on_total (λ (a : TypeArc). a.form) nat_cmp_total)))

-- an order that asks two numbers first
pub then_cases : {G : Type 0} (x y : ℕ) (rest : Ordering) → (x < y → ordering_then (nat_cmp x y) rest ≡ Less → G) → (x ≡ y → ordering_then (nat_cmp x y) rest ≡ rest → G) → (y < x → G) → G
then_cases x y rest less same more =
    by_ranked (x < y) (x ≡ y) (y < x) (nat_cmp x y) (ranked x y (nat_cmp x y) refl)
    (λ is lt. less lt (ap (λ (o : Ordering). ordering_then o rest) is))
    (λ is e. same e (ap (λ (o : Ordering). ordering_then o rest) is))
    (λ is gt. more gt)

pub not_less : {G : Type 0} (o : Ordering) → is_lt o ≡ false → o ≡ Less → G
not_less o late e = absurd (false≢true (sym late ∙ ap is_lt e))

-- an arc that is not after another, and differs from it, is before it
pub before_from_cmp : (a b : TypeArc) → a ≢ b → is_lt (arc_cmp b a) ≡ false → ArcBefore a b
before_from_cmp a b apart late =
    let forms = nat_cmp b.form a.form in
    let items = ordering_then (nat_cmp b.item a.item) forms in
    let heads = ordering_then (nat_cmp b.head a.head) items in
    then_cases b.tail a.tail heads
    (λ lt is. not_less (arc_cmp b a) late is)
    (λ tail is. inr (
      sym tail,
      then_cases b.head a.head items
          (λ lt less. not_less heads (ap is_lt (sym is) ∙ late) less)
          (λ head on. inr (
            sym head,
            then_cases b.item a.item forms
                (λ lt less. not_less items (ap is_lt (sym (is ∙ on)) ∙ late) less)
                (λ item from. inr (
                  sym item,
                  by_ranked (b.form < a.form) (b.form ≡ a.form) (a.form < b.form) forms (ranked b.form a.form forms refl)
                      (λ less lt. not_less forms (ap is_lt (sym (is ∙ (on ∙ from))) ∙ late) less)
                      (λ same form. absurd (apart (λ k. record { tail = sym tail k; head = sym head k; item = sym item k; form = sym form k })))
                      (λ more gt. gt),
                ))
                (λ gt. inl gt),
          ))
          (λ gt. inl gt),
    ))
    (λ gt. inl gt)

pub cmp_exact : (a b : TypeArc) → arc_cmp a b ≡ Equal → a ≡ b
cmp_exact a b equal =
    let forms = nat_cmp a.form b.form in
    let items = ordering_then (nat_cmp a.item b.item) forms in
    let heads = ordering_then (nat_cmp a.head b.head) items in
    then_cases a.tail b.tail heads
    (λ lt is. absurd (let bad : Less ≡ Equal = sym is ∙ equal in cc))
    (λ tail is. then_cases a.head b.head items
    (λ lt less. absurd (let bad : Less ≡ Equal = sym less ∙ (sym is ∙ equal) in cc))
    (λ head on. then_cases a.item b.item forms
    (λ lt less. absurd (let bad : Less ≡ Equal = sym less ∙ (sym on ∙ (sym is ∙ equal)) in cc))
    (λ item from. by_ranked (a.form < b.form) (a.form ≡ b.form) (b.form < a.form) forms (ranked a.form b.form forms refl)
    (λ less lt. absurd (let bad : Less ≡ Equal = sym less ∙ (sym from ∙ (sym on ∙ (sym is ∙ equal))) in cc))
    (λ same form. λ k. record { tail = tail k; head = head k; item = item k; form = form k })
    (λ more gt. absurd (let bad : Greater ≡ Equal = sym more ∙ (sym from ∙ (sym on ∙ (sym is ∙ equal))) in cc)))
    (λ gt. absurd (late_item gt is on)))
    (λ gt. absurd (late_head gt is)))
    (λ gt. absurd (late_tail gt))
  where
    late_tail : b.tail < a.tail → ⊥
    late_tail gt = by_ranked (a.tail < b.tail) (a.tail ≡ b.tail) (b.tail < a.tail) (nat_cmp a.tail b.tail) (ranked a.tail b.tail (nat_cmp a.tail b.tail) refl)
        (λ is lt. omega arith) (λ is e. omega arith)
        (λ is more. let bad : Greater ≡ Equal = sym (ap (λ (o : Ordering). ordering_then o (ordering_then (nat_cmp a.head b.head) (ordering_then (nat_cmp a.item b.item) (nat_cmp a.form b.form)))) is) ∙ equal in cc)

    late_head : b.head < a.head → arc_cmp a b ≡ ordering_then (nat_cmp a.head b.head) (ordering_then (nat_cmp a.item b.item) (nat_cmp a.form b.form)) → ⊥
    late_head gt at = by_ranked (a.head < b.head) (a.head ≡ b.head) (b.head < a.head) (nat_cmp a.head b.head) (ranked a.head b.head (nat_cmp a.head b.head) refl)
        (λ is lt. omega arith) (λ is e. omega arith)
        (λ is more. let bad : Greater ≡ Equal = sym (ap (λ (o : Ordering). ordering_then o (ordering_then (nat_cmp a.item b.item) (nat_cmp a.form b.form))) is) ∙ (sym at ∙ equal) in cc)

    late_item : b.item < a.item → arc_cmp a b ≡ ordering_then (nat_cmp a.head b.head) (ordering_then (nat_cmp a.item b.item) (nat_cmp a.form b.form)) → ordering_then (nat_cmp a.head b.head) (ordering_then (nat_cmp a.item b.item) (nat_cmp a.form b.form)) ≡ ordering_then (nat_cmp a.item b.item) (nat_cmp a.form b.form) → ⊥
    late_item gt at on = by_ranked (a.item < b.item) (a.item ≡ b.item) (b.item < a.item) (nat_cmp a.item b.item) (ranked a.item b.item (nat_cmp a.item b.item) refl)
        (λ is lt. omega arith) (λ is e. omega arith)
        (λ is more. let bad : Greater ≡ Equal = sym (ap (λ (o : Ordering). ordering_then o (nat_cmp a.form b.form)) is) ∙ (sym on ∙ (sym at ∙ equal)) in cc)

module _ {N : ℕ} (pieces : List (Piece N)) (named : AreNamed pieces) where
  pub item_at : (p : ℕ) (d : Piece N) → IsKnown pieces (Carries p) → marked_item pieces (Carries p) ≡ (get_or pieces (p - 1) d).item
  item_at p d known = get_or-map (λ (q : Piece N). q.item) pieces (p - 1) d 0 (omega (arith, known.0, known.1))

  pub form_at : (p : ℕ) (d : Piece N) → IsKnown pieces (Carries p) → marked_form pieces (Carries p) ≡ (get_or pieces (p - 1) d).form
  form_at p d known = get_or-map (λ (q : Piece N). q.form) pieces (p - 1) d 0 (omega (arith, known.0, known.1))

  pub named_at : (p : ℕ) → IsKnown pieces (Carries p) → (1 ≤ marked_item pieces (Carries p)) × (1 ≤ marked_form pieces (Carries p))
  named_at p known =
      let d : Piece N = record { item = 0; form = 0; weight = []; copies = 0 } in
      let h = named.items (p - 1) d (omega (arith, known.0, known.1)) in
      (subst (λ (x : ℕ). 1 ≤ x) (sym (item_at p d known)) h.0, subst (λ (x : ℕ). 1 ≤ x) (sym (form_at p d known)) h.1)

  -- no two pieces are of one form
  pub one_piece : (p q : ℕ) → IsKnown pieces (Carries p) → IsKnown pieces (Carries q) → marked_item pieces (Carries p) ≡ marked_item pieces (Carries q) → marked_form pieces (Carries p) ≡ marked_form pieces (Carries q) → p < q → ⊥
  one_piece p q kp kq items forms lt =
      let d : Piece N = record { item = 0; form = 0; weight = []; copies = 0 } in
      named.apart (p - 1) (q - 1) d (omega (arith, kp.0)) (omega (arith, kq.0, kq.1)) (sym (item_at p d kp) ∙ (items ∙ item_at q d kq), sym (form_at p d kp) ∙ (forms ∙ form_at q d kq))

  -- marks that carry the same form are the same
  pub one_mark : (m n : Mark) → IsKnown pieces m → IsKnown pieces n → marked_item pieces m ≡ marked_item pieces n → marked_form pieces m ≡ marked_form pieces n → m ≡ n
  one_mark Loss Loss km kn items forms = refl
  one_mark Loss (Carries q) km kn items forms = absurd (omega (arith, (named_at q kn).0, items))
  one_mark (Carries p) Loss km kn items forms = absurd (omega (arith, (named_at p km).0, items))
  one_mark (Carries p) (Carries q) km kn items forms =
      ⊎_elim
      (λ lt. absurd (one_piece p q km kn items forms lt))
      (λ le. ⊎_elim
      (λ gt. absurd (one_piece q p kn km (sym items) (sym forms) gt))
      (λ ge. ap Carries (omega (arith, le, ge)))
      (cases_lt q p))
      (cases_lt p q)

  -- a mark carries no item exactly where it carries no form
  pub mark_both : (m : Mark) → IsKnown pieces m → (marked_item pieces m ≡ 0) ↔ (marked_form pieces m ≡ 0)
  mark_both Loss known = (λ e. refl, λ e. refl)
  mark_both (Carries p) known = let both = named_at p known in (λ e. absurd (omega (arith, both.0, e)), λ e. absurd (omega (arith, both.1, e)))

module _ {N : ℕ} (pieces : List (Piece N)) (named : AreNamed pieces) (arcs : List GraphArc) (known : All (λ e. IsKnown pieces e.mark) arcs) (ordered : AllPairs graph.ArcBefore arcs) where
  pub known_of : (e : GraphArc) → Contains arcs e → IsKnown pieces e.mark
  known_of e m = All-contains (λ (a : GraphArc). IsKnown pieces a.mark) arcs e known m

  -- arcs that become the same are the same
  pub one_arc : (e f : GraphArc) → Contains arcs e → Contains arcs f → type_arc pieces e ≡ type_arc pieces f → e ≡ f
  one_arc e f me mf same =
      let tail : e.tail ≡ f.tail = ap (λ (a : TypeArc). a.tail) same in
      let head : e.head ≡ f.head = ap (λ (a : TypeArc). a.head) same in
      let mark : e.mark ≡ f.mark = one_mark pieces named e.mark f.mark (known_of e me) (known_of f mf) (ap (λ (a : TypeArc). a.item) same) (ap (λ (a : TypeArc). a.form) same) in
      λ k. record { tail = tail k; head = head k; mark = mark k }

  pub mark_before_itself : (m : Mark) → MarkBefore m m → ⊥
  mark_before_itself Loss h = h
  mark_before_itself (Carries p) h = omega arith

  pub arc_before_itself : (e f : GraphArc) → e ≡ f → graph.ArcBefore e f → ⊥
  arc_before_itself e f same before =
      let on : graph.ArcBefore e e = subst (λ (a : GraphArc). graph.ArcBefore e a) (sym same) before in
      ⊎_elim (λ lt. omega arith) (λ h. ⊎_elim (λ lt. omega arith) (λ k. mark_before_itself e.mark k.1) h.1) on

  -- no two arcs become the same
  pub apart : AllPairs (λ a b. a ≢ b) (map (type_arc pieces) arcs)
  apart i j d lt in_range same =
      let sized : length (map (type_arc pieces) arcs) ≡ length arcs = length-map arcs (type_arc pieces) in
      let z : GraphArc = record { tail = 0; head = 0; mark = Loss } in
      let e = get_or arcs i z in
      let f = get_or arcs j z in
      let low : i < length arcs = omega arith in
      let high : j < length arcs = omega arith in
      arc_before_itself e f
      (one_arc e f (Contains-get_or arcs i z low) (Contains-get_or arcs j z high)
      (sym (get_or-map (type_arc pieces) arcs i z d low) ∙ (same ∙ get_or-map (type_arc pieces) arcs j z d high)))
      (ordered i j z lt high)

  pub same_arc : (a b : TypeArc) → Decides (eq_by_cmp arc_cmp a b) (a ≡ b)
  same_arc a b = (tells_apart cmp_exact a b, λ e. subst (λ (x : TypeArc). eq_by_cmp arc_cmp a x ≡ true) e ((eq_by_cmp_equiv arc_total).refl a))

  -- the arcs, sorted
  pub are_numbered : (numbered : List TypeArc) → IsPermutation (map (type_arc pieces) arcs) numbered → IsSorted arc_cmp numbered → AreNumbered pieces arcs numbered
  are_numbered numbered permuted sorted =
      let all = map (type_arc pieces) arcs in
      let distinct = AllPairs-from_IsDistinct same_arc numbered (IsDistinct-IsPermutation (eq_by_cmp arc_cmp) (λ x y. (eq_by_cmp_equiv arc_total).symm x y) all numbered permuted (IsDistinct-from_AllPairs same_arc all apart)) in
      record {
        ordered = λ i j d lt in_range. before_from_cmp (get_or numbered i d) (get_or numbered j d) (distinct i j d lt in_range) (pairs_from_sorted arc_total numbered sorted i j d lt in_range);
        count = length_permutation all numbered permuted ∙ length-map arcs (type_arc pieces);
        same = λ a. (
          λ m. from_map (type_arc pieces) arcs a (Contains-permutation numbered all a (IsPermutation-sym all numbered permuted) m),
          λ h. Contains-permutation all numbered a permuted (subst (λ (x : TypeArc). Contains all x) h.2 (contains_map (type_arc pieces) arcs h.0 h.1)),
        );
      }

  -- a numbered arc has no item exactly where it has no form
  pub numbered_marks : (numbered : List TypeArc) → AreNumbered pieces arcs numbered → (a : TypeArc) → Contains numbered a → (a.item ≡ 0) ↔ (a.form ≡ 0)
  numbered_marks numbered is a m =
      let h = (is.same a).0 m in
      subst (λ (b : TypeArc). (b.item ≡ 0) ↔ (b.form ≡ 0)) h.2 (mark_both pieces named h.0.mark (known_of h.0 h.1))
