pub mod Answers
pub mod Causes
pub mod Rows
pub mod Groups
pub mod Listing
pub mod Pages
