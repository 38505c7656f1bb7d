pub mod Instances
pub mod Packings
pub mod Printed
pub mod Floors
pub mod FloorExamples
pub mod Places
pub mod Layouts
pub mod inner
