pub mod Lines
pub mod Readings
pub mod FieldLines
pub mod WrittenLines
pub mod ReadRequests
pub mod Above
pub mod Blanks
mod OneLine
mod LineRoles
