pub mod Joined
pub mod Faithful
pub mod Flows
pub mod inner
