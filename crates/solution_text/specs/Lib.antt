pub mod Fields
pub mod Solutions
pub mod inner
