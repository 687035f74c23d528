pub mod Alike
mod Columns
mod FieldRows
mod Lines
mod Strings
