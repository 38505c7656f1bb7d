-- What only bodies and proofs need.
pub mod Choices
pub mod Joining
pub mod Offers
pub mod Tidying
