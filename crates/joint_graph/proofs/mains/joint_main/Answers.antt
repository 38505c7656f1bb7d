use Rattle.std.proofs.Common.{rules}
use Rattle.std.proofs.lemmas.Result.{IfOk-weaker}
use Rattle.joint_graph.proofs.ClassLemmas.{classes-rise}
use Rattle.joint_graph.proofs.JointGlue.{main-fits, main-made}
use Rattle.joint_graph.proofs.mains.joint_main.Goals as goal

pub image-requires : goal.image-requires
image-requires g c =
    let numbers = c.in_ok-classes.classes.numbers.items in
    let count = c.in_ok-classes.classes.count in
    let are = c.in_ok-classes.ensures in
    (search rules, (c.requires.small, (are.numbered, (classes-rise g.row.N c.args.graph.now c.known.ensures numbers count are, main-fits g.row.N c.args.graph.now c.known.ensures numbers count are))))

pub returns : goal.returns
returns g c =
    IfOk-weaker c.image.result _ _ (λ image h. main-made g.row.N c.args.graph.now c.known.ensures c.in_ok-classes.classes.numbers.items c.in_ok-classes.classes.count c.in_ok-classes.ensures h.0 h.1 image h.2) c.image.ensures.image
