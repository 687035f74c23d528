pub mod RunBytes
pub mod Above
mod ClassTable
mod DigitTable
mod UpperTable
mod Classes
pub mod Split
pub mod Names
pub mod Digits
mod Parts
pub mod Spelling
pub mod Bytes
pub mod SpelledBytes
pub mod OperandTexts
pub mod ValueTexts
