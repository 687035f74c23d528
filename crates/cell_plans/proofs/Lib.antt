-- Lemmas of the plans of cell pools.
mod NamedPools
mod PoolCells
mod SeenPools
mod CellsCarried
mod GivenCells
mod ExtentPlaces
mod HandedOut
mod BuildPlans
mod FreeEnds
mod GivenAreas
mod NotingLemmas
mod NotedLemmas
mod AreaWalks
mod DeletePlans
pub mod DeleteCounts
