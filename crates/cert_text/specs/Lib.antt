pub mod Lines
pub mod Spelling
pub mod Spelled
pub mod Reading
pub mod Streams
pub mod Laws
pub mod inner
