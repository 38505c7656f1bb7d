-- What only bodies and their proofs need. No contract of a public call cites this.
pub mod Loading
pub mod Inputs
pub mod Printing
pub mod Work
pub mod Performed
pub mod Extracting
pub mod Checking
pub mod Storing
