pub mod MainGraphs
pub mod MainLaws
