pub mod Checkers
pub mod Faults
pub mod Trails
pub mod inner
