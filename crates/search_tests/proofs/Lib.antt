pub mod WorkedBoxes
pub mod WorkedTree
