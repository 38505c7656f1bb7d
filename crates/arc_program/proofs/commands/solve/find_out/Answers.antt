use Rattle.std.proofs.lemmas.Result.{IfOk-weaker}
use Rattle.arc_program.proofs.Found.{is_found_out}
use Rattle.arc_program.proofs.commands.solve.find_out.Goals as goal

pub returns : goal.returns
returns c =
    let I = c.args.instance.now in
    let g = c.args.compiled.now.graph in
    IfOk-weaker c.search.result _ _ (λ o is. is_found_out I g c.args.nodes c.certified_is_so.ensures c.known.ensures c.known-2.ensures c.requires.faithful c.args.compiled.now.sizes c.requires.compiled c.requires.small o is) c.search.ensures
