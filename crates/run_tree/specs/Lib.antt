pub mod Shape
pub mod Trees
pub mod Searches
pub mod Props
pub mod Nodes
