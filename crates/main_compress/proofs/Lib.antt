pub mod Onward
pub mod Targets
pub mod MainPaths
pub mod MainCuts
pub mod MainsExist
