-- A joint graph that is made once more of its parts.
use Rattle.std.proofs.Common.{◌≡◌, ℕ, List, sym, subst}
use Rattle.label_graph.specs.declared.parts.GraphArc.{GraphArc}
use Rattle.label_graph.specs.declared.parts.Piece.{Piece}
use Rattle.joint_graph.specs.Joints.{IsJoint, JointValue}

pub same_parts : (g : JointValue 1) (pieces : List (Piece 1)) (caps : List (List ℕ)) (inner : ℕ) (arcs : List GraphArc) → pieces ≡ g.pieces → caps ≡ g.caps → inner ≡ g.inner → arcs ≡ g.arcs → IsJoint 1 g → IsJoint 1 (record { pieces = pieces; caps = caps; inner = inner; arcs = arcs })
same_parts g pieces caps inner arcs one two three four is =
    let same : record { pieces = pieces; caps = caps; inner = inner; arcs = arcs } ≡ g = λ k. record { pieces = one k; caps = two k; inner = three k; arcs = four k } in
    subst (IsJoint 1) (sym same) is
