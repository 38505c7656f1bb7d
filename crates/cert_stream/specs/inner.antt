-- What only bodies and proofs need.
pub mod Batches
pub mod Stages
pub mod Within
