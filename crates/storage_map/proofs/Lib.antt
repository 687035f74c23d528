mod CellsInOrder
-- Lemmas on texts that are put piece by piece, and on the lines and totals of a map.
mod Remaining
mod Sides
mod Shown
mod Bounds
mod Walked
mod CellLines
