use Rattle.std.proofs.Common.{List, ℕ, sym, subst, rules}
use Rattle.label_graph.specs.Images.{IsLabelling}
use Rattle.final_compress.proofs.Sources.{source-labelling}
use Rattle.final_compress.proofs.finals.compress_final.Goals as goal

pub image-requires : goal.image-requires
image-requires g c =
    let is = source-labelling c.args.graph.now c.known.ensures c.in_ok-labels.labels.items c.in_ok-labels.ensures in
    (search rules, (search rules, (c.requires, subst (λ (ls : List (List ℕ)). IsLabelling {N = g.row.N} c.args.graph.now ls) (sym c.as_slice.ensures.value) is)))
