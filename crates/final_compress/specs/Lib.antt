pub mod FinalGraphs
pub mod FinalLaws
