-- What only bodies and proofs need.
pub mod Ranks
pub mod Passes
pub mod Pushes
pub mod Classes
