pub mod Excess
pub mod Gains
pub mod Laws
pub mod Scratches
pub mod Worth
pub mod inner
