pub mod TextLemmas
pub mod OutcomeLemmas
pub mod HandleSteps
pub mod SessionSteps
pub mod FeedLemmas
