-- What only bodies and proofs need.
pub mod Rooms
pub mod Numbers
pub mod Moves
pub mod Searches
pub mod Tables
