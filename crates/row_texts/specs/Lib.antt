pub mod Escapes
pub mod Fields
pub mod Internal
