pub mod Places
pub mod Internal
pub mod Entries
