pub mod PlainRows
pub mod PlainFaults
pub mod PlainNumbers
