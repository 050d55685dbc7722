use Rattle.smt_terms.specs.Freshness.{is_element_name}
use Rattle.smt_terms.specs.Items.{is_defined_in}
use Rattle.smt_terms.proofs.ElementLawLemmas.{never_aside, told_of_script}
use Rattle.smt_terms.proofs.FirstFaultLemmas.{item_element}
use Rattle.smt_terms.proofs.laws.elements.items_with_names_of_elements_are_refused.Goals as goal

pub returns : goal.returns
returns c = record {
  kept = λ script x is. never_aside script.theories.wide (is_defined_in script x) (is_element_name script x) is;
  refused = λ script earlier form is new. item_element script earlier form
      (never_aside script.theories.wide (is_defined_in script form.name) (is_element_name script form.name) is) new is;
  told = told_of_script;
}
