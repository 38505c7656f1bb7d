pub mod RowPlaces
pub mod Cursors
pub mod Balance
pub mod Steps
pub mod Drained
pub mod Drawing
pub mod Bounded
pub mod Packed
