use Rattle.smt_eval.proofs.ModelFaultLemmas.{fault_is_first, lacking_is_first}
use Rattle.smt_eval.proofs.laws.the_first_fault_of_a_model_is_told.Goals as goal

pub returns : goal.returns
returns c = record {
  item = fault_is_first;
  lacking = lacking_is_first;
}
