pub mod Likeness
pub mod Operands
pub mod Places
pub mod Roles
