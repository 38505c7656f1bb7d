pub mod StepRows
pub mod Steps
pub mod inner
