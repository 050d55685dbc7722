pub mod ByteLemmas
pub mod DecimalLemmas
pub mod DivisorLemmas
pub mod IntegerLemmas
pub mod KnownLemmas
pub mod LawLemmas
pub mod RatioLemmas
pub mod TermLemmas
