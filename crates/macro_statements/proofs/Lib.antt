mod FormRows
mod ReadRequests
mod AskedBy
pub use Rattle.macro_operands.proofs.ValidNames
mod FormTexts
mod ReadForms
pub mod SpelledOperands
mod StorageTexts
mod ReadPools
mod PoolTexts
mod TaskTexts
pub mod RequestTexts
