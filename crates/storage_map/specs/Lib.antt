pub mod Cells
pub mod Found
pub mod Totals
pub mod Lines
