pub mod Responses
pub mod Output
pub mod Answers
pub mod Script
pub mod Taken
pub mod Steps
pub mod Run
