pub mod Known
pub mod Gathering
pub mod DigitByDigit
mod DigitTable
mod Places
