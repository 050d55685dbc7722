pub mod Faults
pub mod FlawText
pub mod Outcome
