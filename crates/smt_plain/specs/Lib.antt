pub mod PlainTerm
pub mod Internal
