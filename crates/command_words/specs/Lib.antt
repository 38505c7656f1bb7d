pub mod Words
pub mod Table
pub mod Parts
pub mod Faults
pub mod Requests
pub mod Lines
