pub mod Asked
pub mod Columns
pub mod Json
pub mod Letters
pub mod Pieces
pub mod Rows
