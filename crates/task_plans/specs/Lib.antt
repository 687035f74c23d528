pub mod Parents
pub mod TaskPlans
pub mod Sights
