pub mod Verdict
pub mod LineText
pub mod Internal
