pub mod Parts
pub mod States
pub mod KeptView
pub mod Held
pub mod Tasks
pub mod Sums
pub mod Walks
