pub mod KnownArcs
pub mod RowPlaces
pub mod ColumnSums
pub mod Solutions
pub mod EntryOrder
pub mod Lawful
pub mod ProgramLaws
