use Rattle.std.proofs.Common.{inl, inr}
use Rattle.smt_eval.proofs.SetAsideLemmas.{aside_changes_nothing}
use Rattle.smt_eval.proofs.laws.repeated_items_change_no_structure.Goals as goal

pub returns : goal.returns
returns c = record {
  repeated = λ script definitions parts fewer before after tree repeated.
      aside_changes_nothing script tree
      (λ earlier. (c.repeated_items_are_set_aside.ensures script earlier tree).1 (inl repeated)) parts fewer before
      after definitions;
  told = λ script definitions parts fewer before after tree told.
      aside_changes_nothing script tree
      (λ earlier. (c.repeated_items_are_set_aside.ensures script earlier tree).1
      (inr ((c.items_that_tell_of_elements_are_set_aside.ensures script tree).1 told))) parts fewer before after
      definitions;
}
