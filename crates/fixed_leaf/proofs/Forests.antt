-- The joints of a graph are a forest, and what is left over at a node by its place is what is left over at it by type and number.
use Rattle.std.proofs.Common.{◌≡◌, ℕ, suc, ◌+◌, ◌-◌, ◌<◌, ◌≤◌, true, false, cond, ◌==◌, List, [], ◌∷◌, length, take, get_or, refl, sym, ap, ◌∙◌, subst, ⊎_elim, arith, Some, sum_by, ℤ, pos, ◌-ℤ◌, ◌*ℤ◌}
use Rattle.std.specs.Prelude.{Option, slice_get}
use Rattle.std.specs.Option.{IsSomeAnd}
use Rattle.std.proofs.lemmas.Int.{ints}
use Rattle.std.proofs.lemmas.Bool.{and_from, both_ways, cases_eq, eq-eqb, eqb-true, ne_eqb, and_parts}
use Rattle.std.proofs.lemmas.List.{get_or_default}
use Rattle.std.proofs.lemmas.Option.{slice_get-get_or, get_or_from_slice_get, slice_get_within}
use Rattle.packing_laws.specs.Instances.{IsAmong}
use Rattle.flow_graph.specs.declared.parts.TypeArc.{TypeArc}
use Rattle.flow_graph.specs.declared.parts.ArcKind.{ArcKind}
use Rattle.flow_graph.specs.declared.parts.ArcKind.TheVariants.{Bin}
use Rattle.flow_graph.specs.Arcs.{TypeValue, ArcBefore, IsFlowGraph, arc_at, first_arc, flow_type, kind_of, numbered}
use Rattle.flow_graph.specs.Balance.{signed_total, weigh_signed}
use Rattle.flow_graph.specs.Chords.{IsTreeArcOf, ends_in, is_first_after, is_tree}
use Rattle.flow_graph.specs.Ends.{comes_in, goes_out}
use Rattle.flow_graph.specs.Laws.{IsKindAt, is_bin, is_arc}
use Rattle.flow_graph.proofs.ArcKinds.{among_list, arc_climbs, comes_kind, goes_kind, kind_at, kind_cases, nothing, number_of, type_is}
use Rattle.flow_graph.proofs.SignedSums.{unit_if, weigh_less}
use Rattle.flow_graph.proofs.Trees.{one_tree_arc}
use Rattle.flow_model.specs.Models.{node_place}
use Rattle.flow_model.proofs.NodePlaces.{place_fits, place_test}
use Rattle.fixed_leaf.specs.declared.joints.Joint.{Joint}
use Rattle.fixed_leaf.specs.inner.Nets.{AreJoints, IsForest, IsJointOf, away, excess_at, head_place, joint_at, tail_place}

tail_of_kind : (g : List TypeValue) (t : ℕ) (e : TypeArc) → tail_place g (kind_of t e) ≡ node_place g t e.tail
tail_of_kind g t e = kind_cases (λ kind. tail_place g kind ≡ node_place g t e.tail) t e refl refl

head_of_kind : (g : List TypeValue) (t : ℕ) (e : TypeArc) → head_place g (kind_of t e) ≡ node_place g t e.head
head_of_kind g t e = kind_cases (λ kind. head_place g kind ≡ node_place g t e.head) t e refl refl

ends_of_kind : (t : ℕ) (e : TypeArc) → ends_in t e.head (kind_of t e) ≡ true
ends_of_kind t e =
    let both = and_from (t == t) (e.head == e.head) (eq-eqb t t refl) (eq-eqb e.head e.head refl) in
    kind_cases (λ kind. ends_in t e.head kind ≡ true) t e both both

module _ (g : List TypeValue) (is : IsFlowGraph g) where
  -- a node of a type, by the place of which it is told
  source_at : (t : ℕ) → IsAmong t (length g) → IsAmong 1 (flow_type g t).nodes
  source_at t among = (omega arith, (type_is g is t among).source)

  target_at : (t : ℕ) → IsAmong t (length g) → IsAmong (flow_type g t).nodes (flow_type g t).nodes
  target_at t among = ((type_is g is t among).source, omega arith)

  climbs : (t : ℕ) → IsAmong t (length g) → (k : ℕ) (e : TypeArc) → slice_get (flow_type g t).arcs k ≡ Some e → (1 ≤ e.tail) × (e.tail < e.head) × (e.head ≤ (flow_type g t).nodes)
  climbs t among k e at = arc_climbs (flow_type g t) (type_is g is t among) e (among_list (flow_type g t).arcs k e at)

  -- the place of the node that an arc goes out of is that of a node where it does
  pub tail_test : (t v : ℕ) → IsAmong t (length g) → IsAmong v (flow_type g t).nodes → (a : ℕ) (kind : ArcKind) → IsKindAt g a kind → (tail_place g kind == node_place g t v) ≡ goes_out g t v kind
  tail_test t v among node a kind (is_bin s type place own) = subst (λ (x : ArcKind). (tail_place g x == node_place g t v) ≡ goes_out g t v x) (sym own) (place_test g s (flow_type g s).nodes t v type (target_at s type) among node)
  tail_test t v among node a kind (is_arc s type k e at place own) =
      let up = climbs s type k e at in
      let test = place_test g s e.tail t v type (up.0, omega (arith, up.1, up.2)) among node in
      subst (λ (x : ArcKind). (tail_place g x == node_place g t v) ≡ goes_out g t v x) (sym own) (ap (λ (p : ℕ). p == node_place g t v) (tail_of_kind g s e) ∙ test ∙ sym (goes_kind g t v s e))

  pub head_test : (t v : ℕ) → IsAmong t (length g) → IsAmong v (flow_type g t).nodes → (a : ℕ) (kind : ArcKind) → IsKindAt g a kind → (head_place g kind == node_place g t v) ≡ comes_in t v kind
  head_test t v among node a kind (is_bin s type place own) = subst (λ (x : ArcKind). (head_place g x == node_place g t v) ≡ comes_in t v x) (sym own) (place_test g s 1 t v type (source_at s type) among node)
  head_test t v among node a kind (is_arc s type k e at place own) =
      let up = climbs s type k e at in
      let test = place_test g s e.head t v type (omega (arith, up.0, up.1), up.2) among node in
      subst (λ (x : ArcKind). (head_place g x == node_place g t v) ≡ comes_in t v x) (sym own) (ap (λ (p : ℕ). p == node_place g t v) (head_of_kind g s e) ∙ test ∙ sym (comes_kind t v s e))

  -- both places are those of nodes
  pub tail_fits : (a : ℕ) (kind : ArcKind) → IsKindAt g a kind → IsAmong (tail_place g kind) (sum_by (λ x. x.nodes) g)
  tail_fits a kind (is_bin s type place own) = subst (λ (x : ArcKind). IsAmong (tail_place g x) (sum_by (λ x. x.nodes) g)) (sym own) (place_fits g s (flow_type g s).nodes type (target_at s type))
  tail_fits a kind (is_arc s type k e at place own) =
      let up = climbs s type k e at in
      subst (λ (x : ArcKind). IsAmong (tail_place g x) (sum_by (λ x. x.nodes) g)) (sym own) (subst (λ (p : ℕ). IsAmong p (sum_by (λ x. x.nodes) g)) (sym (tail_of_kind g s e)) (place_fits g s e.tail type (up.0, omega (arith, up.1, up.2))))

  pub head_fits : (a : ℕ) (kind : ArcKind) → IsKindAt g a kind → IsAmong (head_place g kind) (sum_by (λ x. x.nodes) g)
  head_fits a kind (is_bin s type place own) = subst (λ (x : ArcKind). IsAmong (head_place g x) (sum_by (λ x. x.nodes) g)) (sym own) (place_fits g s 1 type (source_at s type))
  head_fits a kind (is_arc s type k e at place own) =
      let up = climbs s type k e at in
      subst (λ (x : ArcKind). IsAmong (head_place g x) (sum_by (λ x. x.nodes) g)) (sym own) (subst (λ (p : ℕ). IsAmong p (sum_by (λ x. x.nodes) g)) (sym (head_of_kind g s e)) (place_fits g s e.head type (omega (arith, up.0, up.1), up.2)))

  -- a tree arc by its number: an arc of a type that goes up
  pub record TreeAt (a : ℕ) (kind : ArcKind) : Type 0 where
    pub t : ℕ
    pub of_type : IsAmong t (length g)
    pub place : ℕ
    pub arc : TypeArc
    pub here : slice_get (flow_type g t).arcs place ≡ Some arc
    pub number : a ≡ first_arc g t + 1 + place
    pub low : 1 ≤ arc.tail
    pub up : arc.tail < arc.head
    pub high : arc.head ≤ (flow_type g t).nodes
    pub from : tail_place g kind ≡ node_place g t arc.tail
    pub to : head_place g kind ≡ node_place g t arc.head
    pub first : IsTreeArcOf g t arc.head a

  no_bin : (a t : ℕ) → arc_at g a ≡ Some (Bin t) → is_tree g a ≡ false
  no_bin a t at = ap (is_first_after (take (a - 1) (numbered g))) at

  pub tree_at : (a : ℕ) (kind : ArcKind) → arc_at g a ≡ Some kind → is_tree g a ≡ true → IsKindAt g a kind → TreeAt a kind
  tree_at a kind at tree (is_bin s type place own) = absurd (both_ways (is_tree g a) (no_bin a s (at ∙ ap Some own)) tree)
  tree_at a kind at tree (is_arc s type k e here number own) =
      let up = climbs s type k e here in
      record {
        t = s;
        of_type = type;
        place = k;
        arc = e;
        here = here;
        number = number;
        low = up.0;
        up = up.1;
        high = up.2;
        from = ap (tail_place g) own ∙ tail_of_kind g s e;
        to = ap (head_place g) own ∙ head_of_kind g s e;
        first = (tree, subst (λ (o : Option ArcKind). IsSomeAnd o (λ x. ends_in s e.head x ≡ true)) (sym at) (ap (ends_in s e.head) own ∙ ends_of_kind s e));
      }

  -- arcs of a type stand by the nodes that they go out of
  tails_rise : (t i j : ℕ) (e f : TypeArc) → IsAmong t (length g) → slice_get (flow_type g t).arcs i ≡ Some e → slice_get (flow_type g t).arcs j ≡ Some f → i < j → e.tail ≤ f.tail
  tails_rise t i j e f among here there before =
      let arcs : List TypeArc = (flow_type g t).arcs in
      let order : ArcBefore (get_or arcs i nothing) (get_or arcs j nothing) = (type_is g is t among).ordered i j nothing before (slice_get_within arcs j f there) in
      let first : (get_or arcs i nothing).tail ≡ e.tail = ap (λ (x : TypeArc). x.tail) (get_or_from_slice_get arcs i e nothing here) in
      let second : (get_or arcs j nothing).tail ≡ f.tail = ap (λ (x : TypeArc). x.tail) (get_or_from_slice_get arcs j f nothing there) in
      ⊎_elim
      (λ lower. omega (arith, lower, first, second))
      (λ rest. let same = rest.0 in omega (arith, same, first, second))
      order

  same_node : (s u t v : ℕ) → IsAmong s (length g) → IsAmong u (flow_type g s).nodes → IsAmong t (length g) → IsAmong v (flow_type g t).nodes → node_place g s u ≡ node_place g t v → (s ≡ t) × (u ≡ v)
  same_node s u t v one node two other same =
      let parts = and_parts (s == t) (u == v) (sym (place_test g s u t v one node two other) ∙ eq-eqb (node_place g s u) (node_place g t v) same) in
      (eqb-true s t parts.0, eqb-true u v parts.1)

  trees_apart : (a b : ℕ) (x y : ArcKind) (p : TreeAt a x) (q : TreeAt b y) → a ≤ b → tail_place g x ≡ head_place g y → ⊥
  trees_apart a b x y p q before same =
      let places : node_place g p.t p.arc.tail ≡ node_place g q.t q.arc.head = sym p.from ∙ same ∙ q.to in
      let node = same_node p.t p.arc.tail q.t q.arc.head p.of_type (p.low, let up = p.up in let high = p.high in omega (arith, up, high)) q.of_type (let low = q.low in let up = q.up in omega (arith, low, up), q.high) places in
      let moved : slice_get (flow_type g q.t).arcs p.place ≡ Some p.arc = subst (λ (t : ℕ). slice_get (flow_type g t).arcs p.place ≡ Some p.arc) node.0 p.here in
      let firsts : first_arc g p.t ≡ first_arc g q.t = ap (first_arc g) node.0 in
      let one = p.number in
      let two = q.number in
      let up = q.up in
      ⊎_elim
      (λ (equal : p.place ≡ q.place).
      let arcs : Some p.arc ≡ Some q.arc = sym moved ∙ ap (slice_get (flow_type g q.t).arcs) equal ∙ q.here in
      let tails : p.arc.tail ≡ q.arc.tail = tails_same p.arc q.arc arcs in
      omega (arith, tails, up, node.1))
      (λ apart.
      let rise = tails_rise q.t p.place q.place p.arc q.arc q.of_type moved q.here (omega (arith, apart, firsts, one, two, before)) in
      omega (arith, rise, up, node.1))
      (cases_eq p.place q.place)
    where
      tails_same : (e f : TypeArc) → Some e ≡ Some f → e.tail ≡ f.tail
      tails_same e f same = cc

  trees_single : (a b : ℕ) (x y : ArcKind) (p : TreeAt a x) (q : TreeAt b y) → a < b → head_place g x ≡ head_place g y → ⊥
  trees_single a b x y p q before same =
      let places : node_place g p.t p.arc.head ≡ node_place g q.t q.arc.head = sym p.to ∙ same ∙ q.to in
      let node = same_node p.t p.arc.head q.t q.arc.head p.of_type (let low = p.low in let up = p.up in omega (arith, low, up), p.high) q.of_type (let low = q.low in let up = q.up in omega (arith, low, up), q.high) places in
      let moved : IsTreeArcOf g q.t q.arc.head a = subst (λ (t : ℕ). IsTreeArcOf g t q.arc.head a) node.0 (subst (λ (v : ℕ). IsTreeArcOf g p.t v a) node.1 p.first) in
      let low = q.low in
      let up = q.up in
      let one = one_tree_arc g is q.t q.of_type q.arc.head (omega (arith, low, up)) q.high in
      let here = one.only a moved in
      let there = one.only b q.first in
      omega (arith, here, there, before)

  module _ (joints : List Joint) (are : AreJoints g joints) where
    abbrev kind : ℕ → ArcKind
    kind k = get_or (numbered g) k (Bin 0)

    at : (k : ℕ) → k < length joints → slice_get (numbered g) k ≡ Some (kind k)
    at k within = let size = are.size in slice_get-get_or (numbered g) k (Bin 0) (omega (arith, within, size))

    own : (k : ℕ) → k < length joints → IsJointOf g (suc k) (kind k) (joint_at joints k)
    own k within = are.each k (kind k) (at k within)

    kind_here : (k : ℕ) → k < length joints → IsKindAt g (suc k) (kind k)
    kind_here k within = kind_at g (suc k) (kind k) (number_of g k (kind k) (at k within))

    pub tree_here : (k : ℕ) → k < length joints → (joint_at joints k).tree ≡ true → TreeAt (suc k) (kind k)
    tree_here k within tree = tree_at (suc k) (kind k) (number_of g k (kind k) (at k within)) (sym (own k within).tree ∙ tree) (kind_here k within)

    joint_default : (k : ℕ) (d : Joint) → k < length joints → joint_at joints k ≡ get_or joints k d
    joint_default k d within = get_or_default joints k (record { tail = 0; head = 0; tree = false }) d within

    pub is_forest : (n : ℕ) → n ≡ sum_by (λ x. x.nodes) g → IsForest n joints
    is_forest n whole = record {
      tails = λ k d within.
          let same : (get_or joints k d).tail ≡ (joint_at joints k).tail = ap (λ (j : Joint). j.tail) (sym (joint_default k d within)) in
          let there = (own k within).tail in
          let fits = tail_fits (suc k) (kind k) (kind_here k within) in
          omega (arith, same, there, fits.1, whole);
      heads = λ k d within.
          let same : (get_or joints k d).head ≡ (joint_at joints k).head = ap (λ (j : Joint). j.head) (sym (joint_default k d within)) in
          let there = (own k within).head in
          let fits = head_fits (suc k) (kind k) (kind_here k within) in
          omega (arith, same, there, fits.1, whole);
      apart = λ i j before within first second same.
          let low : i < length joints = omega (arith, before, within) in
          let one = (own i low).tail in
          let two = (own j within).head in
          trees_apart (suc i) (suc j) (kind i) (kind j) (tree_here i low first) (tree_here j within second) (omega (arith, before)) (omega (arith, one, two, same));
      single = λ i j before within first second same.
          let low : i < length joints = omega (arith, before, within) in
          let one = (own i low).head in
          let two = (own j within).head in
          trees_single (suc i) (suc j) (kind i) (kind j) (tree_here i low first) (tree_here j within second) (omega (arith, before)) (omega (arith, one, two, same));
    }

    same_test : (a b c d : ℕ) → a + 1 ≡ c → b + 1 ≡ d → (a == b) ≡ (c == d)
    same_test a b c d one two = ⊎_elim
        (λ same. eq-eqb a b same ∙ sym (eq-eqb c d (omega (arith, one, two, same))))
        (λ apart. ne_eqb a b apart ∙ sym (ne_eqb c d (λ e. apart (omega (arith, one, two, e)))))
        (cases_eq a b)

    away_is : (p t v : ℕ) → IsAmong t (length g) → IsAmong v (flow_type g t).nodes → p + 1 ≡ node_place g t v → (k : ℕ) (x : ArcKind) → slice_get (numbered g) k ≡ Some x → away p (joint_at joints k) ≡ (unit_if (goes_out g t v) x -ℤ unit_if (comes_in t v) x)
    away_is p t v among node place k x here =
        let mine = are.each k x here in
        let kinds = kind_at g (suc k) x (number_of g k x here) in
        let from = same_test (joint_at joints k).tail p (tail_place g x) (node_place g t v) mine.tail place ∙ tail_test t v among node (suc k) x kinds in
        let to = same_test (joint_at joints k).head p (head_place g x) (node_place g t v) mine.head place ∙ head_test t v among node (suc k) x kinds in
        λ i. cond (from i) (pos 1) (pos 0) -ℤ cond (to i) (pos 1) (pos 0)

    -- what is left over at a node
    pub excess_is : (p t v : ℕ) → IsAmong t (length g) → IsAmong v (flow_type g t).nodes → p + 1 ≡ node_place g t v → (values : List ℤ) → excess_at p joints values ≡ signed_total (goes_out g t v) g values -ℤ signed_total (comes_in t v) g values
    excess_is p t v among node place values =
        weighed p (λ x. unit_if (goes_out g t v) x -ℤ unit_if (comes_in t v) x) joints (numbered g) values are.size (away_is p t v among node place)
        ∙ weigh_less (unit_if (goes_out g t v)) (unit_if (comes_in t v)) (numbered g) values
      where
        weighed : (p : ℕ) (f : ArcKind → ℤ) (js : List Joint) (kinds : List ArcKind) (values : List ℤ) → length js ≡ length kinds → ((k : ℕ) (x : ArcKind) → slice_get kinds k ≡ Some x → away p (joint_at js k) ≡ f x) → excess_at p js values ≡ weigh_signed f kinds values
        weighed p f [] [] values size each = refl
        weighed p f [] (x ∷ kinds) values size each = absurd (omega (arith, size))
        weighed p f (j ∷ js) [] values size each = absurd (omega (arith, size))
        weighed p f (j ∷ js) (x ∷ kinds) [] size each = refl
        weighed p f (j ∷ js) (x ∷ kinds) (c ∷ values) size each =
            let rest = weighed p f js kinds values (omega (arith, size)) (λ k y at. each (suc k) y at) in
            let first : away p j *ℤ c ≡ f x *ℤ c = ap (λ z. z *ℤ c) (each 0 x refl) in
            omega (arith, ints, rest, first)
