pub mod DeclaredLemmas
pub mod WeightLemmas
