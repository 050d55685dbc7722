mod LookUpLemmas
pub mod BitsOperatorLemmas
pub mod OperatorLemmas
pub mod OperatorFaultLemmas
pub mod NamesLikeLemmas
pub mod DigitLemmas
pub mod RankLemmas
pub mod MisfitLemmas
pub mod WideLemmas
mod DigitTableLemmas
pub mod SortLemmas
