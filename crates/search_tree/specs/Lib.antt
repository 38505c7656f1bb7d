pub mod Trees
pub mod Points
pub mod Laws
pub mod inner
