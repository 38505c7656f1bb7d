pub mod KnownCosts
pub mod Closed
pub mod Valued
pub mod MaterialSizes
pub mod OpenLeaves
pub mod FirstStates
pub mod Splits
pub mod Kept
