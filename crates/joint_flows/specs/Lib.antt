pub mod JointRows
pub mod Packed
pub mod inner
