pub mod BrokenRows
pub mod JointKnown
pub mod Tables
pub mod SumRows
pub mod BinWays
pub mod PackedFlows
