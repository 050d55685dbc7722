use Rattle.smt_terms.proofs.ContentsLemmas.{term_kept}
use Rattle.smt_terms.proofs.laws.terms_are_kept.Goals as goal

pub returns : goal.returns
returns c = λ c d i t more is. term_kept c d i t more is
