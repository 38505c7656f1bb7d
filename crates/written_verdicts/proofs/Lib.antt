pub mod Placed
pub mod ShortTexts
