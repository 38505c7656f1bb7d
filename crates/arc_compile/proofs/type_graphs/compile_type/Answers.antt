use Rattle.std.proofs.Common.{arith, rules}
use Rattle.arc_compile.proofs.NamedPieces.{named_pieces}
use Rattle.arc_compile.proofs.type_graphs.compile_type.Goals as goal

pub number_final-requires : goal.number_final-requires
number_final-requires g c =
    let mains = c.in_ok-main.ensures.main in
    (search rules, (c.requires.small, (omega (arith, c.in_ok-main.ensures.roomy, c.requires.room), named_pieces c.args.instance.now c.args.t mains.0 c.in_ok-main.main mains.1)))

pub returns-clause-compiled : goal.returns-clause-compiled
returns-clause-compiled g c =
    let mains = c.in_ok-main.ensures.main in
    let found = c.in_ok-compiled.ensures.compiled in
    c.padding_keeps_graphs.ensures.types g.row.N c.args.instance.now c.args.t (record { nodes = c.in_ok-compiled.compiled.nodes; arcs = c.in_ok-compiled.compiled.arcs.items }) c.in_ok-compiled.compiled.size c.known.ensures c.requires.in_range c.requires.wide c.requires.small (record {
      level = mains.0;
      main = c.in_ok-main.main;
      final = found.0;
      graphs = record { mains = mains.1; final_is = found.1 };
      numbered = found.2;
      sizes = found.3;
    })
