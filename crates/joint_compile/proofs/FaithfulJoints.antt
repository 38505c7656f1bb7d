-- The joint graph of an instance is faithful to it.
use Rattle.std.proofs.Common.{◌≡◌, ℕ, ◌+◌, ◌-◌, ◌≤◌, List, length, get_or, map, sym, ap, ◌∙◌, subst, arith}
use Rattle.std.specs.Prelude.{All}
use Rattle.packing_laws.specs.Instances.{InstanceValue, IsAmong, IsInstance}
use Rattle.packing_laws.specs.Packings.{Content, Fits, IsWithin}
use Rattle.packing_laws.specs.Printed.{SameContent}
use Rattle.weight_vec.proofs.Places.{get_or-padded}
use Rattle.label_graph.specs.declared.parts.GraphArc.{GraphArc}
use Rattle.label_graph.specs.declared.parts.Piece.{Piece}
use Rattle.label_graph.specs.Graph.{IsKnown, IsPath, weight_in}
use Rattle.level_graph.specs.LevelLaws.{IsChoice}
use Rattle.flow_graph.specs.declared.parts.TypeArc.{TypeArc}
use Rattle.flow_graph.specs.Faithful.{content_of}
use Rattle.arc_compile.specs.CompileLaws.{ExtendedWeightsTellFits}
use Rattle.arc_compile.specs.Compiled.{type_arc}
use Rattle.arc_compile.specs.Exact.{content_along}
use Rattle.arc_compile.specs.Extended.{extended_capacity}
use Rattle.arc_compile.specs.Pieces.{padded}
use Rattle.arc_compile.proofs.HeldPieces.{IsFormPiece}
use Rattle.arc_compile.proofs.NumberedPaths.{arcs_exist, graph_path, type_content, type_path}
use Rattle.arc_compile.proofs.PathContents.{content-exists, content-weighs, path-known}
use Rattle.arc_compile.proofs.PathCounts.{same_content}
use Rattle.arc_compile.proofs.PieceChoices.{choice_of, is_choice}
use Rattle.joint_graph.specs.declared.joints.JointSize.{JointSize}
use Rattle.joint_graph.specs.Joints.{IsType, cap_at}
use Rattle.joint_graph.specs.JointLaws.{JointPathsCover, JointPathsFit}
use Rattle.joint_arcs.specs.Joined.{JointValue, target_at}
use Rattle.joint_arcs.specs.Faithful.{IsFaithful, IsTypePath}
use Rattle.joint_compile.specs.JointCompiled.{IsJointIn}
use Rattle.joint_compile.specs.JointLaws.{JointGraphsAreFaithful}
use Rattle.joint_compile.specs.JointPieces.{joint_caps, width_of}
use Rattle.joint_compile.proofs.TypeCaps.{caps_at, caps_count}
use Rattle.joint_compile.proofs.UnionPieces.{joint_forms, joint_hold}

-- the pieces of the final graph are those that it is made of
pub final_pieces : {N : ℕ} (I : InstanceValue) (g : JointValue) (size : JointSize) (h : IsJointIn N I g size) → h.final.pieces ≡ h.pieces
final_pieces I g size h =
    let graphs = h.joint.graphs in
    graphs.final_is.image.pieces ∙ (graphs.main_is.image.pieces ∙ graphs.levels_are.pieces_are)

pub final_caps : {N : ℕ} (I : InstanceValue) (g : JointValue) (size : JointSize) (h : IsJointIn N I g size) → h.final.caps ≡ joint_caps N I
final_caps I g size h =
    let graphs = h.joint.graphs in
    graphs.final_is.image.caps ∙ (graphs.main_is.image.caps ∙ graphs.levels_are.caps_are)

module _ (fit : JointPathsFit) (cover : JointPathsCover) (tell : ExtendedWeightsTellFits) (N : ℕ) (I : InstanceValue) (known : IsInstance I) (g : JointValue) (size : JointSize) (h : IsJointIn N I g size) where
  types-same : g.types ≡ length I.types
  types-same = h.numbered.types ∙ (ap (λ (caps : List (List ℕ)). length caps) (final_caps I g size h) ∙ caps_count N I)

  each : All (IsFormPiece I) h.final.pieces
  each = subst (λ (ps : List (Piece N)). All (IsFormPiece I) ps) (sym (final_pieces I g size h)) (joint_forms I h.pieces h.are_pieces)

  marks : All (λ e. IsKnown h.final.pieces e.mark) h.final.arcs
  marks = h.joint.graphs.final_keep.known

  module _ (t : ℕ) (among : IsAmong t (length I.types)) where
    type_is : IsType (joint_caps N I) t
    type_is = (among.0, omega (arith, among.1, caps_count N I))

    target-same : target_at g t ≡ h.final.inner + t
    target-same = ap (λ (n : ℕ). n + t) h.numbered.inner

    -- a path weighs at most the capacity
    path-within : (path : List GraphArc) → IsPath h.final.arcs 1 (h.final.inner + t) path → (d : ℕ) → weight_in h.final.pieces d path ≤ get_or (extended_capacity I t) d 0
    path-within path leads d =
        let graphs = h.joint.graphs in
        let cap = extended_capacity I t in
        let most : weight_in h.final.pieces d path ≤ get_or (cap_at (joint_caps N I) t) d 0 = fit N h.pieces (joint_caps N I) h.joint.levels h.joint.main h.final graphs t type_is path leads d in
        let here : get_or (cap_at (joint_caps N I) t) d 0 ≡ get_or (padded N cap) d 0 = ap (λ (w : List ℕ). get_or w d 0) (caps_at N I t among) in
        let same : get_or (padded N cap) d 0 ≡ get_or cap d 0 = get_or-padded cap (N - length cap) d in
        omega arith

    content-fits : (path : List GraphArc) → IsPath h.final.arcs 1 (h.final.inner + t) path → Fits I t (content_along h.final.pieces path)
    content-fits path leads =
        let own = path-known h.final.pieces h.final.arcs path 1 (h.final.inner + t) marks leads in
        (tell I t (content_along h.final.pieces path) known among (content-exists I h.final.pieces each path own)).1
        (λ d. omega (arith, content-weighs I h.final.pieces each d path own, path-within path leads d))

    pub type_fits : (path : List TypeArc) → IsTypePath g t path → Fits I t (content_of path)
    type_fits path leads =
        let found = graph_path I h.final.pieces h.final.arcs g.arcs h.numbered.arcs each marks path 1 (target_at g t) leads in
        let like = subst (λ (n : ℕ). IsPath h.final.arcs 1 n found.like) target-same found.leads in
        let content : content_of path ≡ content_along h.final.pieces found.like = ap content_of found.same ∙ type_content I h.final.pieces h.final.arcs g.arcs h.numbered.arcs each marks found.like 1 (target_at g t) found.leads in
        subst (Fits I t) (sym content) (content-fits found.like like)

    pub type_covers : (c : Content) → Fits I t c → IsWithin I c → (path : List TypeArc) × IsTypePath g t path × SameContent (content_of path) c
    type_covers c fits within =
        let pieces = h.pieces in
        let arcs = h.final.arcs in
        let graphs = h.joint.graphs in
        let same = final_pieces I g size h in
        let held = joint_hold I pieces h.are_pieces t among in
        let choice : IsChoice pieces (cap_at (joint_caps N I) t) (choice_of pieces c) = subst (λ (w : List ℕ). IsChoice pieces w (choice_of pieces c)) (sym (caps_at N I t among)) (is_choice I t known pieces held c fits within) in
        let found = cover N pieces (joint_caps N I) h.joint.levels h.joint.main h.final graphs t type_is (choice_of pieces c) choice in
        let own = path-known h.final.pieces arcs found.path 1 (h.final.inner + t) marks found.leads in
        let content : SameContent (content_along pieces found.path) c = same_content I t known pieces held c fits within found.path (subst (λ (ps : List (Piece N)). All (λ e. IsKnown ps e.mark) found.path) same own) found.along.copies in
        let there : SameContent (content_along h.final.pieces found.path) c = subst (λ (ps : List (Piece N)). SameContent (content_along ps found.path) c) (sym same) content in
        let leads = subst (λ (n : ℕ). IsPath arcs 1 n found.path) (sym target-same) found.leads in
        let along : content_of (map (type_arc h.final.pieces) found.path) ≡ content_along h.final.pieces found.path = type_content I h.final.pieces arcs g.arcs h.numbered.arcs each marks found.path 1 (target_at g t) leads in (
          map (type_arc h.final.pieces) found.path,
          type_path I h.final.pieces arcs g.arcs h.numbered.arcs each marks found.path 1 (target_at g t) leads,
          subst (λ (d : Content). SameContent d c) (sym along) there,
        )

  pub faithful_in : IsFaithful I g
  faithful_in =
      let own : (t : ℕ) → IsAmong t g.types → IsAmong t (length I.types) = λ t among. (among.0, omega (arith, among.1, types-same)) in
      record {
        graph = record { types = types-same; exists = arcs_exist I h.final.pieces h.final.arcs g.arcs h.numbered.arcs each marks };
        fits = λ t among. type_fits t (own t among);
        covers = λ t among. type_covers t (own t among);
      }

pub joint_graphs_are_faithful : JointPathsFit → JointPathsCover → ExtendedWeightsTellFits → JointGraphsAreFaithful
joint_graphs_are_faithful fit cover tell I g known h = faithful_in fit cover tell (width_of I) I known g h.0 h.1
