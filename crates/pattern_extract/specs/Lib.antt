pub mod Runs
pub mod inner
pub mod Trims
pub mod Extracts
pub mod Takings
pub mod Worth
pub mod Worked
