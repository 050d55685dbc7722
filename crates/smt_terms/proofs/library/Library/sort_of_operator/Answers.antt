use Rattle.smt_terms.proofs.TableLemmas.{grows_itself}
use Rattle.smt_terms.proofs.library.Library.sort_of_operator.Goals as goal

pub returns-in_default-plain_rank-clause-longer : goal.returns-in_default-plain_rank-clause-longer
returns-in_default-plain_rank-clause-longer c = grows_itself c.args.draft.now

pub returns-in_default-clause-longer : goal.returns-in_default-clause-longer
returns-in_default-clause-longer c = grows_itself c.args.draft.now
