pub mod ReadSlots
pub mod WrittenOperands
pub mod PairTexts
pub mod HeaderTexts
mod KeywordTexts
pub mod ReadValues
pub mod ValidForms
pub mod ValidNames
