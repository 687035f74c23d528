mod Asked
pub mod Columns
pub mod Feeds
pub mod Standings
pub mod Takes
mod WholeLines
pub mod Tellings
pub mod LineEnds
pub mod Outcomes
