pub mod CellPlans
pub mod Emptied
pub mod Areas
pub mod Noted
pub mod Seen
pub mod Handing
