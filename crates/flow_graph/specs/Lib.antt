pub mod Arcs
pub mod Balance
pub mod Chords
pub mod Ends
pub mod Faithful
pub mod Laws
pub mod Worked
pub mod inner
