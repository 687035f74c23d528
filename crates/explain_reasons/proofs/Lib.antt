-- Lemmas on the place of an area, on walks over cell pools and lists, and on what is said of causes.
pub mod Endings
mod FreeAreas
pub mod NoPlace
mod SearchLemmas
mod Rows
mod Extents
mod Named
mod AreaLemmas
mod ListLemmas
mod Refused
mod TaskLemmas
