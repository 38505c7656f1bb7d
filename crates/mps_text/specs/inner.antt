-- What only bodies and proofs need.
pub mod Readers
pub mod Counts
pub mod Kept
