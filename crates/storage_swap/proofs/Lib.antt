pub mod WalkLemmas
pub mod CallLemmas
pub mod SubpoolLemmas
pub mod FourWords
pub mod TaskLemmas
mod ObtainLemmas
pub mod CellLemmas
pub mod PageLemmas
pub mod ByteLemmas
mod Below
pub mod KeptLemmas
mod FirstLemmas
mod LoopLemmas
pub mod FrameLemmas
pub mod AsideLemmas
pub mod SwapLemmas
mod DiscardLemmas
mod AppendLemmas
mod TwoLemmas
pub mod GrowthLemmas
pub mod ReserveLemmas
mod BuildingLemmas
mod SettingsLemmas
pub mod FreshLemmas
pub mod BackLemmas
pub mod BuilderLemmas
