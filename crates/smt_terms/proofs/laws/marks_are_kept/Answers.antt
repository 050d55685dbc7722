use Rattle.smt_terms.proofs.ContentsLemmas.{mark_kept, mark_within}
use Rattle.smt_terms.proofs.laws.marks_are_kept.Goals as goal

pub returns : goal.returns
returns c = record {
  first = λ mark c d within more. mark_kept mark c d within more;
  within = λ mark c d within more. mark_within mark c d within more;
}
