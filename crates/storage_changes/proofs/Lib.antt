mod PoolRows
mod TabledPools
mod TableChanges
mod FoundPools
mod OrderedPools
pub mod AssignedPages
pub mod ByteWords
pub mod Cases
pub mod SetSteps
pub mod PagesSteps
pub mod OwnSteps
pub mod TaskSteps
pub mod SharingSteps
pub mod CellSteps
pub mod ByteSteps
pub mod ObtainSteps
pub mod RegistersSteps
pub mod WalkLemmas
pub mod FirstLemmas
pub mod MeaningLemmas
mod FreshLemmas
pub mod ActionCases
pub mod Goes
pub mod Rows
pub mod Records
pub mod Owned
pub mod Taking
pub mod Fresh
mod Emptied
pub mod GivingBack
pub mod Idle
pub mod Writing
pub mod StorageUnassigned
pub mod StorageCells
pub mod Emptying
mod AttachCells
mod AttachNumbers
mod AttachOpen
mod AttachPassed
mod AttachSteps
pub mod Attaching
pub mod Turning
pub mod EndLists
pub mod EndOrder
pub mod EndEach
pub mod EndSubpools
mod EndModel
mod EndWalk
mod EndStorage
mod EndSight
mod EndTasks
mod EndParked
mod EndRows
pub mod EndLeads
pub mod EndCounts
pub mod Changed
pub mod CellsInTurn
pub mod Places
pub mod CellExtents
pub mod CellExtending
pub mod Elsewhere
pub mod CellBuilding
pub mod Beside
pub mod Ready
pub mod CellsGivenBack
pub mod CellDeleting
mod MapRunLists
mod MapRanges
pub mod MapListsShown
mod MapUnassigned
pub mod MapOrder
pub mod MapSums
mod MapCounts
pub mod MapTotalsSummed
mod CellEnds
mod WordLemmas
