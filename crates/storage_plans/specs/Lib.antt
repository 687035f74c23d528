pub mod Places
pub mod Reasons
pub mod Reading
pub mod Plans
pub mod ObtainPlans
pub mod Releases
pub mod StorePlans
