pub mod SettingsAsked
pub mod WordsRead
pub mod Asked
pub mod Obeys
pub mod Reached
pub mod Served
