use Rattle.smt_terms.proofs.ContentsLemmas.{earlier_kept, earlier_within}
use Rattle.smt_terms.proofs.laws.earlier_marks_are_kept.Goals as goal

pub returns : goal.returns
returns c = record {
  first = λ mark later c below. earlier_kept mark later c below;
  within = λ mark later c below within. earlier_within mark later c below within;
}
