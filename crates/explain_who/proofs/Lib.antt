-- Lemmas on what is taken, on the statements of a script, and on what is written of them.
mod FreeStorage
pub mod InUse
pub mod CellPools
mod AssignedPages
mod Tasks
mod Walked
mod Traced
mod NearNames
pub mod Places
mod FirstPlace
mod OneLine
pub mod Written
mod Ordering
mod Fronts
mod Told
