pub mod Checked
pub mod Findings
pub mod LeftTexts
pub mod Lines
pub mod Reasons
