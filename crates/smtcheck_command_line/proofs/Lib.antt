pub mod ClapLemmas
pub mod DefaultLemmas
pub mod OptionLemmas
pub mod RowLemmas
pub mod SettingsLemmas
pub mod WordRuleLemmas
