-- What only bodies and proofs need.
pub mod Fillings
pub mod Stages
