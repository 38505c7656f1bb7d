pub mod LastStates
pub mod HomelessItems
