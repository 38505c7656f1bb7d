-- A joint graph by the numbers of its arcs keeps what joint graphs keep.
use Rattle.std.proofs.Common.{◌≡◌, ℕ, ◌+◌, ◌<◌, ◌≤◌, List, [], ◌∷◌, length, get_or, refl, sym, subst, subst₂, ⊎_elim, arith}
use Rattle.std.specs.Prelude.{All, AllPairs, Contains}
use Rattle.std.proofs.lemmas.Bool.{cases_eq}
use Rattle.std.proofs.lemmas.List.Elements.{All-contains, Contains-get_or}
use Rattle.arc_num.specs.declared.TheConstants.{MAX_ARCS}
use Rattle.label_graph.specs.declared.parts.GraphArc.{GraphArc}
use Rattle.label_graph.specs.declared.parts.Piece.{Piece}
use Rattle.label_graph.specs.Graph.{IsKnown, IsPath, ArcBefore}
use Rattle.flow_graph.specs.declared.parts.TypeArc.{TypeArc}
use Rattle.arc_compile.specs.Compiled.{AreNamed, AreNumbered, type_arc}
use Rattle.arc_compile.proofs.NodeCounts.{out_of_each}
use Rattle.arc_compile.proofs.Numbering.{numbered_marks}
use Rattle.joint_graph.specs.Joints.{ClimbsIn, IsJoint, JointValue as LabelledValue, target_at}
use Rattle.joint_arcs.specs.Joined.{Climbs, IsJoint as IsJoined, JointValue}
use Rattle.joint_compile.specs.JointCompiled.{IsNumberedJoint}

-- the first arc of a path between two nodes
first_arc : (arcs path : List GraphArc) (a b : ℕ) → (a ≡ b → ⊥) → IsPath arcs a b path → (e : GraphArc) × Contains arcs e × (e.tail ≡ a)
first_arc arcs [] a b apart leads = absurd (apart leads)
first_arc arcs (e ∷ path) a b apart leads = (e, leads.0, leads.1)

-- and the last one
last_arc : (arcs path : List GraphArc) (a b : ℕ) → (a ≡ b → ⊥) → IsPath arcs a b path → (e : GraphArc) × Contains arcs e × (e.head ≡ b)
last_arc arcs [] a b apart leads = absurd (apart leads)
last_arc arcs (e ∷ path) a b apart leads = ⊎_elim (λ same. (e, leads.0, same)) (λ differ. last_arc arcs path e.head b differ leads.2) (cases_eq e.head b)

module _ {N : ℕ} (g : LabelledValue N) (is : IsJoint N g) where
  -- an arc out of each node that is no target
  arc_out : (v : ℕ) → 1 ≤ v → v ≤ g.inner → (e : GraphArc) × Contains g.arcs e × (e.tail ≡ v)
  arc_out v low high =
      let way = is.goes v (low, omega (arith, high)) in
      let path = way.2 in
      first_arc g.arcs path.0 v (target_at g way.0) (λ same. omega (arith, high, way.1.0, same)) path.1

  -- and one into each node but the source
  arc_in : (v : ℕ) → 1 < v → v ≤ g.inner + length g.caps → (e : GraphArc) × Contains g.arcs e × (e.head ≡ v)
  arc_in v low high =
      let way = is.comes v (omega (arith, low), high) in
      last_arc g.arcs way.0 1 v (λ same. omega (arith, low, same)) way.1

  -- there are no more nodes that are no targets than arcs
  pub inner_few : g.inner ≤ length g.arcs
  inner_few = omega (arith, out_of_each g.arcs 1 (g.inner + 1) is.ordered (λ v low lt. arc_out v low (omega (arith, lt))))

  -- what numbering asks of the arcs
  pub small_ends : length g.arcs ≤ MAX_ARCS → All (λ e. (e.tail < 4294967296) × (e.head < 4294967296)) g.arcs
  small_ends few k d lt =
      let up = is.climbs k d lt in
      (omega (arith, up.up, up.high, inner_few, few, is.few_types), omega (arith, up.high, inner_few, few, is.few_types))

  module _ (named : AreNamed g.pieces) (few : length g.arcs ≤ MAX_ARCS) (h : JointValue) (numbered : IsNumberedJoint g h) where
    climbs : (a : TypeArc) → Contains h.arcs a → Climbs h a
    climbs a m =
        let from = (numbered.arcs.same a).0 m in
        let e : GraphArc = from.0 in
        let up : ClimbsIn g e = All-contains (ClimbsIn g) g.arcs e is.climbs from.1 in
        let there : Climbs h (type_arc g.pieces e) = record {
          low = up.low;
          from_inner = omega (arith, up.from_inner, numbered.inner);
          up = up.up;
          high = omega (arith, up.high, numbered.inner, numbered.types);
        } in
        subst (Climbs h) from.2 there

    pub is_joined : IsJoined h
    is_joined = record {
      source = omega (arith, is.source, numbered.inner);
      types = omega (arith, is.types, numbered.types);
      few_types = omega (arith, is.few_types, numbered.types);
      few_nodes = omega (arith, inner_few, few, is.few_types, numbered.inner, numbered.types);
      few_arcs = omega (arith, few, numbered.arcs.count);
      ordered = numbered.arcs.ordered;
      climbs = λ k d lt. climbs (get_or h.arcs k d) (Contains-get_or h.arcs k d lt);
      marks = λ k d lt. numbered_marks g.pieces named g.arcs is.known is.ordered h.arcs numbered.arcs (get_or h.arcs k d) (Contains-get_or h.arcs k d lt);
      leaves = λ v low high.
          let out = arc_out v low (omega (arith, high, numbered.inner)) in
          (type_arc g.pieces out.0, (numbered.arcs.same (type_arc g.pieces out.0)).1 (out.0, out.1, refl), out.2);
      enters = λ v low high.
          let into = arc_in v low (omega (arith, high, numbered.inner, numbered.types)) in
          (type_arc g.pieces into.0, (numbered.arcs.same (type_arc g.pieces into.0)).1 (into.0, into.1, refl), into.2);
    }

-- what numbering asks of the pieces and the arcs that a graph hands out
pub record CanBeNumbered {N : ℕ} (pieces : List (Piece N)) (arcs : List GraphArc) : Type 0 where
  pub named : AreNamed pieces
  pub known : All (λ e. IsKnown pieces e.mark) arcs
  pub ordered : AllPairs ArcBefore arcs
  pub few : All (λ e. (e.tail < 4294967296) × (e.head < 4294967296)) arcs

module _ {N : ℕ} (g : LabelledValue N) (pieces : List (Piece N)) (arcs : List GraphArc) (own_pieces : pieces ≡ g.pieces) (own_arcs : arcs ≡ g.arcs) where
  pub can_be_numbered : IsJoint N g → AreNamed g.pieces → length g.arcs ≤ MAX_ARCS → CanBeNumbered pieces arcs
  can_be_numbered is named few =
      let own : CanBeNumbered g.pieces g.arcs = record { named = named; known = is.known; ordered = is.ordered; few = small_ends g is few } in
      subst₂ (λ (ps : List (Piece N)) (row : List GraphArc). CanBeNumbered ps row) (sym own_pieces) (sym own_arcs) own

  -- what is numbered is the graph itself
  pub numbered_own : (inner types : ℕ) (numbered : List TypeArc) → inner ≡ g.inner → types ≡ length g.caps → AreNumbered pieces arcs numbered → IsNumberedJoint g (record { inner = inner; types = types; arcs = numbered })
  numbered_own inner types numbered same count are = record {
    inner = same;
    types = count;
    arcs = subst₂ (λ (ps : List (Piece N)) (row : List GraphArc). AreNumbered ps row numbered) own_pieces own_arcs are;
  }
