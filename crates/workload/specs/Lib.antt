pub mod Generated
pub mod GeneratedRows
