pub mod Changes
pub mod Growing
pub mod Narrower
pub mod Counted
pub mod Emission
pub mod Needs
