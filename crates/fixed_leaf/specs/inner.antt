pub mod Found
pub mod Nets
pub mod Priced
