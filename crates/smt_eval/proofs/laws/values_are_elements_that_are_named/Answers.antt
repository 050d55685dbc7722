use Rattle.smt_eval.proofs.RenamingLemmas.{value_named}
use Rattle.smt_eval.proofs.laws.values_are_elements_that_are_named.Goals as goal

pub returns : goal.returns
returns c = λ z definitions r term names x. value_named names z definitions r term x
