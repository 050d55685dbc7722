pub mod DiagramLemmas
pub mod DifferenceLemmas
pub mod ForkLemmas
pub mod HalfLemmas
pub mod LawLemmas
pub mod StoreLemmas
