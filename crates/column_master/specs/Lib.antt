pub mod Masters
pub mod NodePrices
pub mod inner
