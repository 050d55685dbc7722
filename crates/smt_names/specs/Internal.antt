pub mod Keys
pub mod Chains
pub mod Order
