pub mod MaterialPrices
pub mod FoundBounds
