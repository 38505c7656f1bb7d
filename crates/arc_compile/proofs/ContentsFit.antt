-- The content of each path of a final graph fits its type.
use Rattle.std.proofs.Common.{◌≡◌, ℕ, ◌-◌, ◌≤◌, List, length, arith, get_or}
use Rattle.packing_laws.specs.Instances.{InstanceValue, IsInstance, IsAmong}
use Rattle.packing_laws.specs.Packings.{Fits}
use Rattle.weight_vec.proofs.Places.{get_or-padded}
use Rattle.label_graph.specs.declared.parts.GraphArc.{GraphArc}
use Rattle.label_graph.specs.Graph.{GraphValue, IsPath, weight_in as path_weight}
use Rattle.main_compress.specs.MainLaws.{MainPathsFit}
use Rattle.final_compress.specs.FinalLaws.{FinalPathsWeighNoMore}
use Rattle.arc_compile.specs.Extended.{extended_capacity}
use Rattle.arc_compile.specs.Exact.{content_along}
use Rattle.arc_compile.specs.Graphs.{AreTypeGraphs}
use Rattle.arc_compile.specs.Pieces.{padded}
use Rattle.arc_compile.proofs.ExtendedWeights.{fits_within}
use Rattle.arc_compile.proofs.HeldPieces.{form_pieces}
use Rattle.arc_compile.proofs.PathContents.{path-known, content-exists, content-weighs}
use Rattle.arc_compile.proofs.TypeGraphs.{AreGraphs}

module _ (mains : MainPathsFit) (finals : FinalPathsWeighNoMore) (N : ℕ) (I : InstanceValue) (t : ℕ) (level main final : GraphValue N) (inside : IsInstance I) (among : IsAmong t (length I.types)) (types : AreTypeGraphs I t level main final) (graphs : AreGraphs I t level main final) where
  -- a path weighs at most the capacity
  path-fits : (d : ℕ) (path : List GraphArc) → IsPath final.arcs 1 (length final.labels) path → path_weight final.pieces d path ≤ get_or (extended_capacity I t) d 0
  path-fits d path leads =
      let cap = extended_capacity I t in
      let other = finals N main final graphs.main_graph types.final_is path leads d in
      let fits : path_weight main.pieces d other.path ≤ get_or (padded N cap) d 0 = mains N (padded N cap) level main graphs.level_graph graphs.room types.mains.main_is other.path other.leads d in
      let same : get_or (padded N cap) d 0 ≡ get_or cap d 0 = get_or-padded cap (N - length cap) d in
      let heavy = other.heavy in
      omega arith

  pub contents_fit : (path : List GraphArc) → IsPath final.arcs 1 (length final.labels) path → Fits I t (content_along final.pieces path)
  contents_fit path leads =
      let each = form_pieces I t final.pieces graphs.pieces.each in
      let known = path-known final.pieces final.arcs path 1 (length final.labels) graphs.final_graph.known leads in
      fits_within I inside t among (content_along final.pieces path) (content-exists I final.pieces each path known)
      (λ d. omega (arith, content-weighs I final.pieces each d path known, path-fits d path leads))
