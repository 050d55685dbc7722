use Rattle.smt_arrays.proofs.LookupLemmas.{looked_up}
use Rattle.smt_arrays.proofs.lookup.default_in.Goals as goal

pub returns-in-Some-clause-held : goal.returns-in-Some-clause-held
returns-in-Some-clause-held c =
    (looked_up c.args.cells.now c.args.lookups.now.elements c.in-Some.table.default _ c.value.result
    (c.requires.lookups.each c.args.place c.in-Some.table c.in-Some.ensures).other c.value.ensures).1
