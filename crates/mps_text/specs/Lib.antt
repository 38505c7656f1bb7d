pub mod Written
pub mod Skipped
pub mod Meaning
pub mod inner
pub mod Worked
pub mod Given
pub mod Laws
