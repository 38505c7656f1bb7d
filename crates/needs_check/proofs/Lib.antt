pub mod Laying
pub mod CarriedSums
pub mod CostSums
pub mod KnownArcs
pub mod LaidNeeds
pub mod NodeRows
