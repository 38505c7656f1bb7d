pub mod Arriving
pub mod Sources
pub mod FinalPaths
pub mod FinalCuts
