mod Distances
mod Ends
mod FieldBytes
pub mod FieldOver
mod FieldPlaces
mod NoBreaks
mod RoleCases
mod HeadPlaces
