pub mod PlainEvaluation
