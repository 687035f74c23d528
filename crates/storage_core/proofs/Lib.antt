-- Lemmas on a storage and its changes.
mod Counted
pub mod Holding
pub mod Soundness
pub mod Staying
mod Walking
mod Leaving
mod Made
pub mod FramesBrought
pub mod GivenFrames
mod PlanCases
mod Owners
mod TaskCounts
mod CellPoolCounts
pub mod Making
pub mod FreshLemmas
