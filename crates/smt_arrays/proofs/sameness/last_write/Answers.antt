use Rattle.std.proofs.Common.{ap}
use Rattle.smt_arrays.specs.Reading.{indexes}
use Rattle.smt_arrays.proofs.CellLemmas.{past}
use Rattle.smt_arrays.proofs.ChainLemmas.{last_written, not_written}
use Rattle.smt_arrays.proofs.sameness.last_write.Goals as goal

pub returns-in-Some-Written : goal.returns-in-Some-Written
returns-in-Some-Written c =
    let lookup = c.in-Some-Written.ensures.lookup.3 in
    last_written c.args.cells.now c.args.array c.in-Some-Written.field-0.now c.in-Some-Written.before
    c.in-Some-Written.index c.in-Some-Written.field-0-2 c.requires.older lookup.0 lookup.1 c.in-Some-Written.field-0-is

pub returns-in-Some-Filled : goal.returns-in-Some-Filled
returns-in-Some-Filled c =
    let lookup = c.in-Some-Filled.ensures.lookup.3 in
    not_written c.args.cells.now c.args.array c.in-Some-Filled.field-0.now c.in-Some-Filled.field-0-0
    c.requires.older lookup.0 lookup.1 c.in-Some-Filled.field-0-is

pub returns-in-None : goal.returns-in-None
returns-in-None c = ap indexes (past c.args.cells.now c.args.array c.in-None.ensures.lookup.3)
