-- Lemmas on the figures of cell pools, tallies of runs, reports and rows.
mod ExtentSums
mod PoolRows
mod PoolSums
mod TallyLemmas
mod Few
mod Areas
mod Remaining
mod Lines
mod Alike
pub mod Following
pub mod Told
pub mod Reached
mod SameAreas
mod Shown
mod Existing
