-- The joints of the arcs of a graph, one after the other.
use Rattle.std.proofs.Common.{◌≡◌, ℕ, zero, suc, ◌+◌, ◌-◌, ◌<◌, Bool, false, not, ◌==◌, ◌&&◌, List, [], ◌∷◌, ◌++◌, length, take, replicate, get_or, refl, sym, ap, ◌∙◌, subst, ⊎_elim, arith, length-append, All, Some, sum_by}
use Rattle.std.specs.Prelude.{slice_get, ◌||◌}
use Rattle.std.specs.List.{list_any}
use Rattle.std.proofs.lemmas.Bool.{cases_eq}
use Rattle.std.proofs.lemmas.Option.{slice_get-get_or, slice_get_within}
use Rattle.std.proofs.lemmas.List.{get_or_append_left, get_or-append_right, get_or_default, length-replicate, take_all}
use Rattle.std.proofs.lemmas.List.Folds.{list_any_more}
use Rattle.arc_num.specs.declared.TheConstants.{MAX_ITEMS}
use Rattle.packing_laws.specs.Instances.{InstanceValue, IsAmong, IsInstance}
use Rattle.flow_graph.specs.declared.parts.ArcKind.{ArcKind}
use Rattle.flow_graph.specs.declared.parts.ArcKind.TheVariants.{Bin}
use Rattle.flow_graph.specs.Arcs.{TypeValue, IsFlowGraph, arc_at, flow_type, kind_of, numbered}
use Rattle.flow_graph.specs.Chords.{ends_in, is_first_after}
use Rattle.flow_graph.specs.Faithful.{GraphOf}
use Rattle.flow_graph.specs.Laws.{IsKindAt, is_bin, is_arc}
use Rattle.flow_graph.proofs.ArcKinds.{among_list, arc_climbs, kind_at, kind_cases, number_of, type_is}
use Rattle.flow_model.specs.Models.{node_place}
use Rattle.flow_model.specs.Tallies.{AreStarts}
use Rattle.flow_model.specs.inner.Sums.{IsPlaced, head_in, tail_in}
use Rattle.flow_model.proofs.ArcsKnown.{known_graph}
use Rattle.flow_model.proofs.NodePlaces.{all_placed, place_test, target_place}
use Rattle.fixed_leaf.specs.declared.joints.Joint.{Joint}
use Rattle.fixed_leaf.specs.inner.Nets.{AreJoints, IsJointAt, IsJointOf, Reaches, ends_at, head_place, joint_at, no_joint, tail_place, tree_after}

any_same : {X : Type 0} (p q : X → Bool) (n : ℕ) (xs : List X) → ((k : ℕ) (x : X) → slice_get xs k ≡ Some x → p x ≡ q x) → list_any p (take n xs) ≡ list_any q (take n xs)
any_same p q zero xs same = refl
any_same p q (suc n) [] same = refl
any_same p q (suc n) (x ∷ xs) same = λ i. same 0 x refl i || any_same p q n xs (λ k y at. same (suc k) y at) i

-- each arc has its places in tables by place
pub places : (I : InstanceValue) (g : List TypeValue) (starts : List ℕ) (n : ℕ) → IsInstance I → IsFlowGraph g → GraphOf I g → AreStarts g starts → n ≡ sum_by (λ x. x.nodes) g → All (IsPlaced n starts) (numbered g)
places I g starts n instance is of are whole =
    let long : length (replicate n 0) ≡ n = length-replicate {A = ℕ} n 0 in
    subst (λ (m : ℕ). All (IsPlaced m starts) (numbered g)) long
    (all_placed I g (record { starts = starts; inflow = replicate n 0; outflow = replicate n 0; items = replicate MAX_ITEMS 0 }) (known_graph I g instance is of)
    (record { starts = are; inflow = long ∙ whole; outflow = long ∙ whole; items = length-replicate {A = ℕ} MAX_ITEMS 0 }))

-- the starts so far end in how many nodes there are
pub last_start : (g : List TypeValue) (starts : List ℕ) (count n : ℕ) → AreStarts g starts → count ≡ length g → n ≡ get_or starts count n → n ≡ sum_by (λ x. x.nodes) g
last_start g starts count n are every read =
    let within : count < length starts = let size = are.size in omega (arith, size, every) in
    read ∙ get_or_default starts count n 0 within ∙ ap (λ (k : ℕ). get_or starts k 0) every ∙ are.each (length g) (omega arith) ∙ ap (sum_by (λ (x : TypeValue). x.nodes)) (take_all (length g) g (omega arith))

module _ (g : List TypeValue) (is : IsFlowGraph g) (starts : List ℕ) (are : AreStarts g starts) where
  start_at : (t : ℕ) → IsAmong t (length g) → (v : ℕ) → get_or starts (t - 1) 0 + v ≡ node_place g t v
  start_at t among v = ap (λ (m : ℕ). m + v) (are.each (t - 1) (omega (arith, among.0, among.1)))

  head_is : (a : ℕ) (kind : ArcKind) → IsKindAt g a kind → head_in starts kind ≡ head_place g kind
  head_is a kind (is_bin t among place own) = subst (λ (x : ArcKind). head_in starts x ≡ head_place g x) (sym own) (start_at t among 1)
  head_is a kind (is_arc t among k e at place own) = subst (λ (x : ArcKind). head_in starts x ≡ head_place g x) (sym own) (kind_cases (λ x. head_in starts x ≡ head_place g x) t e (start_at t among e.head) (start_at t among e.head))

  tail_is : (a : ℕ) (kind : ArcKind) → IsKindAt g a kind → tail_in starts kind ≡ tail_place g kind
  tail_is a kind (is_bin t among place own) = subst (λ (x : ArcKind). tail_in starts x ≡ tail_place g x) (sym own) (are.each t among.1 ∙ sym (target_place g t among))
  tail_is a kind (is_arc t among k e at place own) = subst (λ (x : ArcKind). tail_in starts x ≡ tail_place g x) (sym own) (kind_cases (λ x. tail_in starts x ≡ tail_place g x) t e (start_at t among e.tail) (start_at t among e.tail))

  -- an arc that is no bin arc comes into the node at a place exactly where it ends in that node
  ends_same : (p t v : ℕ) → IsAmong t (length g) → IsAmong v (flow_type g t).nodes → p + 1 ≡ node_place g t v → (a : ℕ) (kind : ArcKind) → IsKindAt g a kind → ends_at starts p kind ≡ ends_in t v kind
  ends_same p t v among node place a kind (is_bin s type number own) = subst (λ (x : ArcKind). ends_at starts p x ≡ ends_in t v x) (sym own) refl
  ends_same p t v among node place a kind (is_arc s type k e at number own) =
      let up = arc_climbs (flow_type g s) (type_is g is s type) e (among_list (flow_type g s).arcs k e at) in
      let test : (get_or starts (s - 1) 0 + e.head == p + 1) ≡ ((s == t) && (e.head == v)) = (λ i. start_at s type e.head i == place i) ∙ place_test g s e.head t v type (omega (arith, up.0, up.1), up.2) among node in
      subst (λ (x : ArcKind). ends_at starts p x ≡ ends_in t v x) (sym own) (kind_cases (λ x. ends_at starts p x ≡ ends_in t v x) s e test test)

  -- the joints of the arcs before a place, and the nodes that these reach
  pub record AreJointsTo (i : ℕ) (joints : List Joint) (reached : List Bool) : Type 0 where
    pub size : length joints ≡ i
    pub each : (k : ℕ) (kind : ArcKind) → k < i → slice_get (numbered g) k ≡ Some kind → IsJointOf g (suc k) kind (joint_at joints k)
    pub reaches : (p : ℕ) → get_or reached p false ≡ list_any (ends_at starts p) (take i (numbered g))

  -- the joint of the next arc
  next_of : (k : ℕ) (kind : ArcKind) (joints : List Joint) (reached : List Bool) (joint : Joint) → slice_get (numbered g) k ≡ Some kind → AreJointsTo k joints reached → IsJointAt starts kind reached joint → IsKindAt g (suc k) kind → IsJointOf g (suc k) kind joint
  next_of k kind joints reached joint at so_far here (is_bin t among place own) =
      let arc : arc_at g (suc k) ≡ Some (Bin t) = number_of g k kind at ∙ ap Some own in
      record {
        tail = here.tail ∙ tail_is (suc k) kind (is_bin t among place own);
        head = here.head ∙ head_is (suc k) kind (is_bin t among place own);
        tree = here.tree ∙ ap (λ (x : ArcKind). tree_after reached x joint.head) own ∙ sym (ap (is_first_after (take (suc k - 1) (numbered g))) arc);
      }
  next_of k kind joints reached joint at so_far here (is_arc t among j e there place own) =
      let known : IsKindAt g (suc k) kind = is_arc t among j e there place own in
      let up = arc_climbs (flow_type g t) (type_is g is t among) e (among_list (flow_type g t).arcs j e there) in
      let head : joint.head + 1 ≡ node_place g t e.head = here.head ∙ head_is (suc k) kind known ∙ ap (head_place g) own ∙ kind_cases (λ x. head_place g x ≡ node_place g t e.head) t e refl refl in
      let arc : arc_at g (suc k) ≡ Some (kind_of t e) = number_of g k kind at ∙ ap Some own in
      let one : suc k - 1 ≡ k = omega arith in
      let any : list_any (ends_at starts joint.head) (take k (numbered g)) ≡ list_any (ends_in t e.head) (take k (numbered g)) = any_same (ends_at starts joint.head) (ends_in t e.head) k (numbered g) (λ m x found. ends_same joint.head t e.head among (omega (arith, up.0, up.1), up.2) head (suc m) x (kind_at g (suc m) x (number_of g m x found))) in
      let first : is_first_after (take k (numbered g)) (Some (kind_of t e)) ≡ not (list_any (ends_in t e.head) (take k (numbered g))) = kind_cases (λ x. is_first_after (take k (numbered g)) (Some x) ≡ not (list_any (ends_in t e.head) (take k (numbered g)))) t e refl refl in
      let tree : tree_after reached (kind_of t e) joint.head ≡ not (get_or reached joint.head false) = kind_cases (λ x. tree_after reached x joint.head ≡ not (get_or reached joint.head false)) t e refl refl in
      record {
        tail = here.tail ∙ tail_is (suc k) kind known;
        head = here.head ∙ head_is (suc k) kind known;
        tree = here.tree ∙ ap (λ (x : ArcKind). tree_after reached x joint.head) own ∙ tree ∙ ap not (so_far.reaches joint.head ∙ any) ∙ sym first ∙ sym (λ i. is_first_after (take (one i) (numbered g)) (arc i));
      }

  pub joints_more : (k : ℕ) (kind : ArcKind) (joints next : List Joint) (reached after : List Bool) (joint : Joint) → k < length (numbered g) → kind ≡ get_or (numbered g) k kind → AreJointsTo k joints reached → IsJointAt starts kind reached joint → Reaches starts kind reached after → next ≡ joints ++ joint ∷ [] → AreJointsTo (k + 1) next after
  joints_more k kind joints next reached after joint within own so_far here reaches more =
      let at : slice_get (numbered g) k ≡ Some kind = slice_get-get_or (numbered g) k kind within ∙ ap Some (sym own) in
      let size = so_far.size in
      subst (λ (js : List Joint). AreJointsTo (k + 1) js after) (sym more) (record {
        size = let long = length-append joints (joint ∷ []) in omega (arith, long, size);
        each = λ m x before found. ⊎_elim
            (λ (same : m ≡ k).
            let none : m - k ≡ 0 = omega (arith, same) in
            let kinds : kind ≡ x = some_same kind x (sym at ∙ ap (slice_get (numbered g)) (sym same) ∙ found) in
            let read : joint_at (joints ++ joint ∷ []) m ≡ joint = get_or-append_right joints (joint ∷ []) k m no_joint size (omega (arith, same)) ∙ ap (λ (j : ℕ). get_or (joint ∷ []) j no_joint) none in
            subst (IsJointOf g (suc m) x) (sym read) (subst (λ (y : ArcKind). IsJointOf g (suc m) y joint) kinds (subst (λ (j : ℕ). IsJointOf g (suc j) kind joint) (sym same) (next_of k kind joints reached joint at so_far here (kind_at g (suc k) kind (number_of g k kind at))))))
            (λ apart.
            let read : joint_at (joints ++ joint ∷ []) m ≡ joint_at joints m = get_or_append_left joints (joint ∷ []) no_joint m (omega (arith, before, apart, size)) in
            subst (IsJointOf g (suc m) x) (sym read) (so_far.each m x (omega (arith, before, apart)) found))
            (cases_eq m k);
        reaches = λ p. reaches.each p ∙ (λ i. so_far.reaches p i || ends_at starts p (own i)) ∙ sym (list_any_more (ends_at starts p) (numbered g) k kind within);
      })
    where
      some_same : (x y : ArcKind) → Some x ≡ Some y → x ≡ y
      some_same x y h = cc

  -- the same where the row is told by an equation
  pub joints_step : (k : ℕ) (row : List ArcKind) (d : ArcKind) (joints next : List Joint) (reached after : List Bool) (joint : Joint) → row ≡ numbered g → k < length row → AreJointsTo k joints reached → IsJointAt starts (get_or row k d) reached joint → Reaches starts (get_or row k d) reached after → next ≡ joints ++ joint ∷ [] → AreJointsTo (k + 1) next after
  joints_step k row d joints next reached after joint same within so_far here reaches more =
      let inside : k < length (numbered g) = subst (λ (r : List ArcKind). k < length r) same within in
      joints_more k (get_or (numbered g) k d) joints next reached after joint inside (get_or_default (numbered g) k d (get_or (numbered g) k d) inside) so_far (subst (λ (r : List ArcKind). IsJointAt starts (get_or r k d) reached joint) same here) (subst (λ (r : List ArcKind). Reaches starts (get_or r k d) reached after) same reaches) more

  pub joints_all : (i : ℕ) (joints : List Joint) (reached : List Bool) → i ≡ length (numbered g) → AreJointsTo i joints reached → AreJoints g joints
  joints_all i joints reached all are = record {
    size = are.size ∙ all;
    each = λ k kind at. are.each k kind (let within = slice_get_within (numbered g) k kind at in omega (arith, within, all)) at;
  }
