use Rattle.smt_terms.proofs.ElementLawLemmas.{item_has, no_element_named, script_has, unknown_alone}
use Rattle.smt_terms.specs.Signature.{ranks_of}
use Rattle.smt_terms.proofs.laws.elements.names_of_a_script_name_no_elements.Goals as goal

pub returns : goal.returns
returns c = record {
  none = no_element_named;
  unknown = unknown_alone;
  qualified = λ script earlier scope x sort e wide at. script_has script (ranks_of earlier) x sort e wide at;
  earlier = λ script earlier scope x sort e wide at. item_has script earlier x sort e wide at;
}
