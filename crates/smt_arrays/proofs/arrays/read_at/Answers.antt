use Rattle.std.proofs.Common.{ap, sym, subst, ◌∙◌, arith}
use Rattle.smt_values.specs.Element.{element_of}
use Rattle.smt_arrays.specs.Element.{Plain}
use Rattle.smt_arrays.specs.Cells.{IsOlder, arrays_of, made}
use Rattle.smt_arrays.specs.Reading.{read}
use Rattle.smt_arrays.specs.Tables.{array_at, element_in, place_of_array}
use Rattle.smt_arrays.proofs.CellLemmas.{found, held_below, older, past, written_here, written_off}
use Rattle.smt_arrays.proofs.arrays.read_at.Goals as goal

pub returns-in-Filled-clause-read : goal.returns-in-Filled-clause-read
returns-in-Filled-clause-read c =
    let cells = c.args.cells.now in
    let lookup = c.in-Some.ensures.lookup.3 in
    sym (c.loop-cell.invariant.same
    ∙ ap (λ a. read a (Plain (element_of c.args.index.now)))
    (found cells c.loop-cell.at c.in-Some.cell.now c.requires.older lookup.0 lookup.1
    ∙ ap (made (arrays_of cells)) c.in-Filled.is))

pub returns-then-are_same-clause-read : goal.returns-then-are_same-clause-read
returns-then-are_same-clause-read c =
    let cells = c.args.cells.now in
    let arrays = arrays_of cells in
    let lookup = c.in-Some.ensures.lookup.3 in
    sym (c.loop-cell.invariant.same
    ∙ ap (λ a. read a (Plain (element_of c.args.index.now)))
    (found cells c.loop-cell.at c.in-Some.cell.now c.requires.older lookup.0 lookup.1
    ∙ ap (made arrays) c.in-Written.is)
    ∙ written_here (array_at arrays c.in-Written.array) (element_in arrays c.in-Written.element)
    (element_of c.args.index.now) (element_of c.in-Written.written) c.are_same.result c.are_same.ensures
    c.if-are_same.true)

pub loop-cell-smaller : goal.loop-cell-smaller
loop-cell-smaller c =
    let lookup = c.in-Some.ensures.lookup.3 in
    (subst (IsOlder c.loop-cell.at) c.in-Written.is
    (older c.args.cells.now c.loop-cell.at c.in-Some.cell.now c.requires.older lookup.0 lookup.1)).0

pub loop-cell-preserved : goal.loop-cell-preserved
loop-cell-preserved c =
    let cells = c.args.cells.now in
    let arrays = arrays_of cells in
    let lookup = c.in-Some.ensures.lookup.3 in
    record {
      same = c.loop-cell.invariant.same
          ∙ ap (λ a. read a (Plain (element_of c.args.index.now)))
          (found cells c.loop-cell.at c.in-Some.cell.now c.requires.older lookup.0 lookup.1
          ∙ ap (made arrays) c.in-Written.is)
          ∙ written_off (array_at arrays c.in-Written.array) (element_in arrays c.in-Written.element)
          (element_of c.args.index.now) (element_of c.in-Written.written) c.are_same.result c.are_same.ensures
          c.if-are_same.false;
    }

pub returns-clause-read : goal.returns-clause-read
returns-clause-read c =
    sym (c.loop-cell.invariant.same
    ∙ ap (λ a. read a (Plain (element_of c.args.index.now)))
    (past c.args.cells.now c.loop-cell.at c.in_default.ensures.lookup.3))

pub returns-in-Filled-clause-held : goal.returns-in-Filled-clause-held
returns-in-Filled-clause-held c =
    let lookup = c.in-Some.ensures.lookup.3 in
    held_below (place_of_array c.in-Filled.element) (omega (arith, lookup.0))
    (subst (IsOlder c.loop-cell.at) c.in-Filled.is
    (older c.args.cells.now c.loop-cell.at c.in-Some.cell.now c.requires.older lookup.0 lookup.1))

pub returns-then-are_same-clause-held : goal.returns-then-are_same-clause-held
returns-then-are_same-clause-held c =
    let lookup = c.in-Some.ensures.lookup.3 in
    held_below (place_of_array c.in-Written.element) (omega (arith, lookup.0))
    (subst (IsOlder c.loop-cell.at) c.in-Written.is
    (older c.args.cells.now c.loop-cell.at c.in-Some.cell.now c.requires.older lookup.0 lookup.1)).2
