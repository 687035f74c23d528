pub mod Trails
pub mod Moves
pub mod Applied
pub mod Accepted
pub mod Supplied
pub mod NameLines
pub mod WholeMap
mod Wanting
