pub mod Calls
pub mod Storage
pub mod Tasks
pub mod Cells
pub mod Steps
pub mod Maps
pub mod Codes
