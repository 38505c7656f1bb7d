-- Final graphs are exact.
use Rattle.level_graph.specs.LevelLaws.{LevelGraphsAreGraphs, ChoicesHaveOnePath}
use Rattle.main_compress.specs.MainLaws.{MainGraphsAreGraphs, MainPathsFit, MainGraphsKeepContents}
use Rattle.final_compress.specs.FinalLaws.{FinalGraphsAreGraphs, FinalPathsWeighNoMore, FinalGraphsKeepContents}
use Rattle.arc_compile.specs.CompileLaws.{FinalGraphsAreExact}
use Rattle.arc_compile.proofs.ContentsCovered.{contents_covered}
use Rattle.arc_compile.proofs.ContentsFit.{contents_fit}
use Rattle.arc_compile.proofs.TypeGraphs.{are_graphs}

pub final_graphs_are_exact : LevelGraphsAreGraphs → ChoicesHaveOnePath → MainGraphsAreGraphs → MainPathsFit → MainGraphsKeepContents → FinalGraphsAreGraphs → FinalPathsWeighNoMore → FinalGraphsKeepContents → FinalGraphsAreExact
final_graphs_are_exact levels choices mains main_fit main_keep finals final_fit final_keep N I t level main final known among wide small types =
    let graphs = are_graphs levels mains finals N I t level main final known among wide small types in
    record {
      fits = contents_fit main_fit final_fit N I t level main final known among types graphs;
      covers = contents_covered choices main_keep final_keep N I t level main final known types graphs;
    }
