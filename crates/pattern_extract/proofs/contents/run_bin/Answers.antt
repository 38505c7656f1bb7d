use Rattle.std.proofs.Common.{List, ℕ, length, All, sym, subst}
use Rattle.flow_graph.specs.declared.parts.ArcKind.{ArcKind}
use Rattle.packing_laws.specs.Instances.{IsAmong}
use Rattle.pattern_extract.proofs.Moves.{path-within}
use Rattle.pattern_extract.proofs.contents.run_bin.Goals as goal

pub path_counts-requires : goal.path_counts-requires
path_counts-requires c =
    let own = path-within c.args.graph.now c.args.run.now c.known.ensures c.requires.run in
    subst (λ (arcs : List ℕ). All (λ a. IsAmong a (length c.row.result.now)) arcs) (sym c.as_slice.ensures) (subst (λ (row : List ArcKind). All (λ a. IsAmong a (length row)) c.args.run.now.arcs) (sym c.row.ensures) own)
