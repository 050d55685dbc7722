pub mod StatusLemmas
