pub mod BitVector
pub mod Operators
pub mod Parts
pub mod Literals
pub mod Readings
