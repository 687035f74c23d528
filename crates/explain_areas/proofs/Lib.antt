-- Lemmas on areas and cells by lines, and on what is listed of them.
mod Joining
mod Walking
mod Bounds
mod Lines
mod PoolWalks
mod CellWalks
mod Keeping
mod MoreRows
mod LineCounts
mod Told
mod Stops
