pub mod LiftedMains
pub mod inner
