pub mod Repeats
pub mod Rows
pub mod Numerals
pub mod CapParts
pub mod CapRows
pub mod Faults
pub mod ItemTails
