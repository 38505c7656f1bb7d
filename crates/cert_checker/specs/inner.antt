-- What only bodies and proofs need.
pub mod Taken
pub mod Turns
pub mod Ready
pub mod Rising
pub mod Standing
pub mod Judging
pub mod LineRefs
pub mod Runs
