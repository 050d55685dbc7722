use Rattle.smt_terms.proofs.DenotesLemmas.{denotes_kept}
use Rattle.smt_terms.proofs.laws.nodes_stand_for_their_terms_still.Goals as goal

pub returns : goal.returns
returns c = λ t u slots next around i term longer d. denotes_kept t u longer slots next around i term d
