pub mod StepSizes
pub mod WeightPrices
pub mod MaterialGains
pub mod MaterialCloses
pub mod Accepted
