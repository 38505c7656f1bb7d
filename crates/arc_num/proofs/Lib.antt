pub mod RunLemmas
pub mod DigitLemmas
pub mod ReadBack
pub mod Orders
pub mod Places
