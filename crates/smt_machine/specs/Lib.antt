pub mod Nodes
pub mod Given
pub mod Costs
pub mod Least
pub mod Tables
pub mod Memory
pub mod Looks
pub mod Internal
