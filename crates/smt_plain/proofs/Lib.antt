pub mod KnownLemmas
pub mod ScopeLemmas
pub mod PlainLemmas
pub mod SingleLemmas
