pub mod Verdicts
pub mod Laws
pub mod Judges
pub mod inner
