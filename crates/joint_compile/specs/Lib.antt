pub mod JointPieces
pub mod JointCompiled
pub mod JointLaws
pub mod inner
