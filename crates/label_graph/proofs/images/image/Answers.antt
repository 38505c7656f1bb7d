use Rattle.std.proofs.Common.{◌≡◌, ℕ, List, sym, subst, rules, ◌∙◌}
use Rattle.label_graph.specs.declared.parts.Piece.{Piece}
use Rattle.label_graph.specs.Images.{IsImage}
use Rattle.label_graph.proofs.images.image.Goals as goal

pub new-requires : goal.new-requires
new-requires g c =
    let graph = c.args.graph.now in
    let labels = c.args.labels.now in
    let arcs = c.in_ok-arcs.arcs.items in
    let same : c.in_ok-pieces.pieces.items ≡ graph.pieces = c.in_ok-pieces.ensures.items ∙ c.pieces.ensures in
    let image = subst (λ (ls : List (List ℕ)). IsImage {N = g.row.N} graph labels (record { pieces = graph.pieces; labels = ls; arcs = arcs })) c.as_slice.ensures.value c.in_ok-arcs.ensures in
    let copied = subst (λ (ps : List (Piece g.row.N)). IsImage {N = g.row.N} graph labels (record { pieces = ps; labels = c.in_ok-distinct.distinct.items; arcs = arcs })) (sym same) image in
    (search rules, (search rules, (search rules, c.images_are_graphs.ensures g.row.N graph (record { pieces = c.in_ok-pieces.pieces.items; labels = c.in_ok-distinct.distinct.items; arcs = arcs }) labels c.known.ensures c.requires.labelling c.known_weights.ensures.ranged copied)))
