pub mod Bytes
pub mod Known
pub mod Operators
pub mod Rational
pub mod TermLaws
pub mod Terms
pub mod View
