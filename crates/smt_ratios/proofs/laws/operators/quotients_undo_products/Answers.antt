use Rattle.smt_ratios.proofs.LawLemmas.{quotient_back, quotient_number}
use Rattle.smt_ratios.proofs.laws.operators.quotients_undo_products.Goals as goal

pub returns-clause-number : goal.returns-clause-number
returns-clause-number c = quotient_number

pub returns-clause-back : goal.returns-clause-back
returns-clause-back c = quotient_back
