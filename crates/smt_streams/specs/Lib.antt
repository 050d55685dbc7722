pub mod Collected
pub mod Device
pub mod Moved
pub mod Pieces
