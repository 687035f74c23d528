pub mod Questions
pub mod Status
pub mod Messages
pub mod Scripts
pub mod Answers
pub mod Command
pub mod Options
pub mod Words
