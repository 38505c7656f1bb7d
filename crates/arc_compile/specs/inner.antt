-- What only bodies and proofs need.
pub mod Ranks
pub mod Rows
