pub mod Characters
pub mod Words
pub mod Field
pub mod Written
pub mod Values
pub mod Runs
