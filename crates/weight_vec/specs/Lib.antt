pub mod Weight
pub mod WeightLaws
