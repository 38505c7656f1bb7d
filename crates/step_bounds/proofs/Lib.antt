pub mod Stepped
pub mod StepLaw
pub mod Reach
pub mod Looked
