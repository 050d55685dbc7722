use Rattle.smt_terms.proofs.FirstFaultLemmas.{among, first_argument, later_argument}
use Rattle.smt_terms.proofs.laws.first_faults.first_faulty_arguments_are_reported.Goals as goal

pub returns-clause-first : goal.returns-clause-first
returns-clause-first c = first_argument

pub returns-clause-later : goal.returns-clause-later
returns-clause-later c = later_argument

pub returns-clause-among : goal.returns-clause-among
returns-clause-among c = among
