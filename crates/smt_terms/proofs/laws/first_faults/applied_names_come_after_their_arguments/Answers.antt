use Rattle.smt_terms.proofs.FirstFaultLemmas.{other_parameters, unknown_applied, variable_applied}
use Rattle.smt_terms.proofs.laws.first_faults.applied_names_come_after_their_arguments.Goals as goal

pub returns-clause-variable : goal.returns-clause-variable
returns-clause-variable c = variable_applied

pub returns-clause-unknown : goal.returns-clause-unknown
returns-clause-unknown c = unknown_applied

pub returns-clause-parameters : goal.returns-clause-parameters
returns-clause-parameters c = other_parameters
