pub mod Effect
pub mod Runs
