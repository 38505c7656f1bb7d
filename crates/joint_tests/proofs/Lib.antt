pub mod WorkedGraph
pub mod SameParts
