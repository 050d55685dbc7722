use Rattle.smt_arrays.proofs.KeyLemmas.{keys_once, stands}
use Rattle.smt_arrays.proofs.elements.Elements.number.Goals as goal

pub invariant_of-self-2 : goal.invariant_of-self-2
invariant_of-self-2 c = keys_once c.insert_full.new.self.keys c.in_ok-number.ensures.unique

pub returns-clause-value : goal.returns-clause-value
returns-clause-value c =
    stands c.insert_full.new.self.keys c.in_ok-number.number c.args.value.now c.in_ok-number.ensures.stored

pub returns-clause-distinct : goal.returns-clause-distinct
returns-clause-distinct c = keys_once c.insert_full.new.self.keys c.in_ok-number.ensures.unique
