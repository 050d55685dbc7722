pub mod OutcomeLemmas
pub mod PlaceLemmas
pub mod RowLemmas
pub mod SoundLemmas
pub mod TableLemmas
pub mod NumberLemmas
pub mod ElementLemmas
pub mod PushLemmas
