pub mod JointModels
pub mod inner
