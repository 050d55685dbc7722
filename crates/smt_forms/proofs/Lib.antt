mod AttributeLemmas
pub mod ElementNameLemmas
mod IdentifierLemmas
pub mod HeadLemmas
pub mod PartLemmas
pub mod MarkLemmas
pub mod PlaceLemmas
pub mod ScopeLemmas
pub mod RepeatedLemmas
pub mod RefusalLemmas
mod NumeralLemmas
