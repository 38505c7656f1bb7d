pub mod Spread
pub mod Emitted
