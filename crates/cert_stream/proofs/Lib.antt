pub mod Behind
pub mod Stops
pub mod Exact
pub mod Certain
pub mod Read
pub mod Begun
pub mod Fed
pub mod Within
