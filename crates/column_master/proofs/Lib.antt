pub mod MoreListed
pub mod MoreParts
pub mod ToldFlows
