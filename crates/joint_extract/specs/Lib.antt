pub mod inner
pub mod JointExtracts
