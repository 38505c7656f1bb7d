-- What only bodies and proofs need.
pub mod Fields
pub mod Kept
pub mod Written
