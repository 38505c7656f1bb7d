pub mod Listings
pub mod Ready
