-- There is but one joint main graph, up to the numbers of its nodes.
use Rattle.std.proofs.Common.{sym, subst, arith}
use Rattle.joint_graph.specs.Joints.{JointValue}
use Rattle.joint_graph.specs.Merged.{IsJointMain}
use Rattle.joint_graph.specs.JointLaws.{JointMainsAreAlike, JointMainsAreOne}
use Rattle.joint_graph.proofs.LevelsOne.{levels-one, level-first, level-ends}
use Rattle.joint_graph.proofs.Renumbered.{renumbered, arcs-no-more}

pub mains_are_alike : JointMainsAreAlike
mains_are_alike N pieces caps levels others main other one two left right =
    let same = levels-one pieces caps levels others one two in
    let right_too : IsJointMain levels other = subst (λ (g : JointValue N). IsJointMain g other) (sym same) right in
    let first = level-first pieces caps levels one in
    renumbered N levels (first.0, omega (arith, first.1)) (level-ends pieces caps levels one) left.into right_too.into main other left.image right_too.image
    (λ v w a b h. (right_too.merges v w a b).1 ((left.merges v w a b).0 h))
    (λ v w a b h. (left.merges v w a b).1 ((right_too.merges v w a b).0 h))

pub mains_are_one : JointMainsAreOne
mains_are_one N pieces caps arcs others one two =
    let there = mains_are_alike N pieces caps one.levels two.levels one.main two.main one.levels_are two.levels_are one.main_is two.main_is in
    let back = mains_are_alike N pieces caps two.levels one.levels two.main one.main two.levels_are one.levels_are two.main_is one.main_is in
    omega (arith, one.arcs_are, two.arcs_are, arcs-no-more one.main two.main there.into there.image, arcs-no-more two.main one.main back.into back.image)
