pub mod WalkSteps
pub mod Ascents
pub mod FirstCauses
pub mod Verdicts
pub mod Settled
pub mod TakenLines
pub mod ToldLines
