pub mod Subpools
pub mod Extents
pub mod Order
pub mod SubpoolStorage
pub mod Held
pub mod Laws
pub mod Props
pub mod PlaceLaws
