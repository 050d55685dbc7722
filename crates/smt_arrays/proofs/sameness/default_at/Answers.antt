use Rattle.std.proofs.Common.{ap, sym, subst, ◌∙◌, arith}
use Rattle.smt_arrays.specs.Cells.{IsOlder, arrays_of, made}
use Rattle.smt_arrays.specs.Reading.{default_of}
use Rattle.smt_arrays.specs.Tables.{place_of_array}
use Rattle.smt_arrays.proofs.CellLemmas.{found, held_below, older, past}
use Rattle.smt_arrays.proofs.sameness.default_at.Goals as goal

pub returns-in-Filled-clause-default : goal.returns-in-Filled-clause-default
returns-in-Filled-clause-default c =
    let cells = c.args.cells.now in
    let lookup = c.in-Some.ensures.lookup.3 in
    sym (c.loop-cell.invariant.same
    ∙ ap default_of
    (found cells c.loop-cell.at c.in-Some.cell.now c.requires.older lookup.0 lookup.1
    ∙ ap (made (arrays_of cells)) c.in-Filled.is))

pub returns-in-Filled-clause-held : goal.returns-in-Filled-clause-held
returns-in-Filled-clause-held c =
    let lookup = c.in-Some.ensures.lookup.3 in
    held_below (place_of_array c.in-Filled.element) (omega (arith, lookup.0))
    (subst (IsOlder c.loop-cell.at) c.in-Filled.is
    (older c.args.cells.now c.loop-cell.at c.in-Some.cell.now c.requires.older lookup.0 lookup.1))

pub loop-cell-smaller : goal.loop-cell-smaller
loop-cell-smaller c =
    let lookup = c.in-Some.ensures.lookup.3 in
    (subst (IsOlder c.loop-cell.at) c.in-Written.is
    (older c.args.cells.now c.loop-cell.at c.in-Some.cell.now c.requires.older lookup.0 lookup.1)).0

pub loop-cell-preserved : goal.loop-cell-preserved
loop-cell-preserved c =
    let cells = c.args.cells.now in
    let lookup = c.in-Some.ensures.lookup.3 in
    record {
      same = c.loop-cell.invariant.same
          ∙ ap default_of
          (found cells c.loop-cell.at c.in-Some.cell.now c.requires.older lookup.0 lookup.1
          ∙ ap (made (arrays_of cells)) c.in-Written.is);
    }

pub returns-clause-default : goal.returns-clause-default
returns-clause-default c =
    sym (c.loop-cell.invariant.same
    ∙ ap default_of (past c.args.cells.now c.loop-cell.at c.in_default.ensures.lookup.3))
