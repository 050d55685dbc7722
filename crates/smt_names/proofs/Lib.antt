pub mod KeyLemmas
pub mod PlaceLemmas
pub mod OrderLemmas
pub mod TableLemmas
pub mod EntryLemmas
