pub mod Numbers
pub mod Joints
pub mod Ways
pub mod Merged
pub mod JointLevels
pub mod JointLaws
pub mod inner
