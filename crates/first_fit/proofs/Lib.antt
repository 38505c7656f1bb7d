pub mod TakenUnits
pub mod FilledBins
pub mod Repeats
pub mod Packed
