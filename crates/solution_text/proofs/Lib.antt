pub mod ColumnNames
pub mod ArcNumbers
pub mod Meanings
