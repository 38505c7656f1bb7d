use Rattle.std.proofs.Common.{◌≡◌, ◌∙◌, ap, map, subst, List}
use Rattle.std.specs.List.Sorted.{IsPermutation}
use Rattle.std.proofs.lemmas.List.{take_all}
use Rattle.flow_graph.specs.declared.parts.TypeArc.{TypeArc}
use Rattle.arc_compile.specs.Compiled.{type_arc}
use Rattle.arc_compile.proofs.Numbering.{are_numbered}
use Rattle.arc_compile.proofs.numbered.numbered_arcs.Goals as goal

pub returns : goal.returns
returns g c =
    let pieces = c.args.pieces.now in
    let arcs = c.args.arcs.now in
    let all : c.loop-arc.numbered.items ≡ map (type_arc pieces) arcs = c.loop-arc.invariant ∙ ap (map (type_arc pieces)) (take_all c.loop-arc.arc-index arcs c.loop-arc-test.false) in
    are_numbered pieces c.requires.named arcs c.requires.known c.requires.ordered c.sort_unstable.new.self.items
    (subst (λ (xs : List TypeArc). IsPermutation xs c.sort_unstable.new.self.items) all c.sort_unstable.ensures.permutation) c.sort_unstable.ensures.sorted
