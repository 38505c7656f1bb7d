pub mod Faults
pub mod Bytes
pub mod Entries
pub mod Calls
pub mod Stores
pub mod inner
