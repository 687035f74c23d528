pub mod Entries
pub mod TableRows
pub mod TableSteps
pub mod Planning
mod FirstCause
mod BackLemmas
mod FrameLemmas
pub mod MakingLemmas
pub use Rattle.storage_core.proofs.FreshLemmas
