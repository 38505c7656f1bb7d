use Rattle.std.proofs.Common.{◌≡◌, ◌≤◌, ◌∙◌, length, rules, sym, subst}
use Rattle.arc_num.specs.declared.TheConstants.{MAX_ARCS}
use Rattle.arc_compile.specs.Compiled.{AreNamed}
use Rattle.label_graph.specs.declared.parts.GraphFault.TheVariants.{TooManyArcs}
use Rattle.joint_graph.specs.Joints.{JointValue as LabelledValue}
use Rattle.joint_compile.specs.JointCompiled.{IsJointLarge, IsNumberedJoint}
use Rattle.joint_compile.proofs.Assembled.{types_few, given_list, final_few, final_named, graph_of, small_of, large_of}
use Rattle.joint_compile.proofs.compiling.joint_in.Goals as goal

pub joint-requires : goal.joint-requires
joint-requires g c =
    let I = c.args.instance.now in
    let caps = c.as_slice-2.ensures.value ∙ c.in_ok-caps.ensures in
    let list = given_list I c.in_ok-pieces.pieces.items c.as_slice.result.now c.as_slice-2.result.now c.in_ok-pieces.ensures c.as_slice.ensures.value caps c.known.ensures in
    let few = types_few g.row.N I c.known.ensures c.as_slice-2.result.now caps in
    (search rules, (search rules, (search rules, (c.requires.small, (list, (few.0, few.1))))))

pub numbered-requires : goal.numbered-requires
numbered-requires g c =
    let I = c.args.instance.now in
    let caps = c.as_slice-2.ensures.value ∙ c.in_ok-caps.ensures in
    let joined = c.in_ok-joined.joined in
    let graphs = c.in_ok-joined.ensures.graphs in
    let few = final_few I c.in_ok-pieces.pieces.items c.as_slice.result.now c.as_slice-2.result.now c.in_ok-pieces.ensures c.as_slice.ensures.value caps joined.graph joined.size graphs c.in_ok-joined.ensures.roomy in
    let named = final_named I c.in_ok-pieces.pieces.items c.as_slice.result.now c.as_slice-2.result.now c.in_ok-pieces.ensures c.as_slice.ensures.value caps joined.graph joined.size graphs in
    (search rules, (c.requires.small, subst (λ (f : LabelledValue g.row.N). (length f.arcs ≤ MAX_ARCS) × AreNamed f.pieces) (sym c.graph.ensures) (few, named)))

pub returns-clause-graph : goal.returns-clause-graph
returns-clause-graph g c =
    let caps = c.as_slice-2.ensures.value ∙ c.in_ok-caps.ensures in
    let joined = c.in_ok-joined.joined in
    let numbered = subst (λ (f : LabelledValue g.row.N). IsNumberedJoint f c.in_ok-graph.graph) c.graph.ensures c.in_ok-graph.ensures in
    graph_of c.args.instance.now c.in_ok-pieces.pieces.items c.as_slice.result.now c.as_slice-2.result.now c.in_ok-pieces.ensures c.as_slice.ensures.value caps joined.graph joined.size c.in_ok-joined.ensures.graphs c.requires.width c.in_ok-graph.graph numbered

pub returns-clause-small : goal.returns-clause-small
returns-clause-small g c =
    let caps = c.as_slice-2.ensures.value ∙ c.in_ok-caps.ensures in
    let joined = c.in_ok-joined.joined in
    small_of c.args.instance.now c.in_ok-pieces.pieces.items c.as_slice.result.now c.as_slice-2.result.now c.in_ok-pieces.ensures c.as_slice.ensures.value caps joined.graph joined.size c.in_ok-joined.ensures.graphs c.requires.width c.in_ok-joined.ensures.roomy

pub returns-in_err-joined-clause-large : goal.returns-in_err-joined-clause-large
returns-in_err-joined-clause-large g c =
    let I = c.args.instance.now in
    let caps = c.as_slice-2.ensures.value ∙ c.in_ok-caps.ensures in
    let large : c.in_err-joined.field-0.0 ≡ TooManyArcs → IsJointLarge I = λ same. large_of I c.in_ok-pieces.pieces.items c.as_slice.result.now c.as_slice-2.result.now c.in_ok-pieces.ensures c.as_slice.ensures.value caps c.requires.width (c.in_err-joined.ensures.full same) in
    search (large, rules)
