mod BlockBytes
mod BytesRead
pub mod Assigning
pub mod Carried
mod Obtained
pub mod AskedLengths
mod SidePlaces
pub mod LeastFits
pub mod Regions
mod Stores
mod CellAreas
mod OwnedAreas
mod FreeSides
mod GivenBack
mod Emptied
