use Rattle.smt_arrays.proofs.ExtensionLemmas.{extensional}
use Rattle.smt_arrays.proofs.laws.arrays_are_extensional.Goals as goal

pub returns : goal.returns
returns c s t a b some = extensional s t a b some
