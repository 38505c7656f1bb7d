pub mod Extended
pub mod Pieces
pub mod Levels
pub mod Exact
pub mod Graphs
pub mod Compiled
pub mod CompileLaws
pub mod inner
