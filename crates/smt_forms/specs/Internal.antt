pub mod Attributes
pub mod Marks
pub mod Places
