use Rattle.std.proofs.Common.{subst, sym}
use Rattle.smt_diagrams.specs.Diagram.{IsDiagram, IsWritten}
use Rattle.smt_arrays.specs.Cells.{arrays_of}
use Rattle.smt_arrays.specs.Tables.{array_at}
use Rattle.smt_arrays.proofs.LookupLemmas.{next_is_table, tables_elements, tables_forks}
use Rattle.smt_arrays.proofs.lookup.next_table.Goals as goal

pub store-requires-clause-diagram : goal.store-requires-clause-diagram
store-requires-clause-diagram c =
    subst (λ n. IsDiagram c.args.lookups.now.diagrams n c.in-Some.base.diagram) (sym c.bits_of.ensures)
    ((c.requires.lookups.each c.args.array c.in-Some.base c.in-Some.ensures).serves c.in-Some-kind_for.kind
    c.in-Some-kind_for.ensures).diagram

pub returns-clause-lookups : goal.returns-clause-lookups
returns-clause-lookups c =
    let l = c.args.lookups.now in
    tables_forks c.args.cells.now c.number.new.self l.diagrams c.store.new.self l.tables.items c.diagrams_stay.ensures
    c.store.ensures.grown
    (tables_elements c.args.cells.now l.elements c.number.new.self l.diagrams l.tables.items c.number.ensures.grown
    c.number.ensures.distinct c.requires.lookups)

pub returns-in_err-leaf-clause-lookups : goal.returns-in_err-leaf-clause-lookups
returns-in_err-leaf-clause-lookups c =
    let l = c.args.lookups.now in
    tables_elements c.args.cells.now l.elements c.number.new.self l.diagrams l.tables.items c.number.ensures.grown
    c.number.ensures.distinct c.requires.lookups

pub returns-in_err-diagram-clause-lookups : goal.returns-in_err-diagram-clause-lookups
returns-in_err-diagram-clause-lookups c =
    let l = c.args.lookups.now in
    tables_forks c.args.cells.now c.number.new.self l.diagrams c.store.new.self l.tables.items c.diagrams_stay.ensures
    c.store.ensures.grown
    (tables_elements c.args.cells.now l.elements c.number.new.self l.diagrams l.tables.items c.number.ensures.grown
    c.number.ensures.distinct c.requires.lookups)

pub returns-clause-made : goal.returns-clause-made
returns-clause-made c =
    let l = c.args.lookups.now in
    let are = tables_elements c.args.cells.now l.elements c.number.new.self l.diagrams l.tables.items
    c.number.ensures.grown c.number.ensures.distinct c.requires.lookups in
    next_is_table c.args.cells.now c.number.new.self l.diagrams c.store.new.self
    (array_at (arrays_of c.args.cells.now) c.args.array) c.args.index.now c.in-Some.base c.in-Some-kind_for.kind
    c.in-Some-number_in.number c.in_ok-leaf.leaf c.in_ok-diagram.diagram c.args.element.now c.is_still_flat.result
    c.requires.older (are.each c.args.array c.in-Some.base c.in-Some.ensures)
    c.in-Some-kind_for.ensures c.in-Some-number_in.ensures.0 c.in-Some-number_in.ensures.1 c.in-Some-number_in.ensures.2
    (subst (λ n. IsWritten l.diagrams c.store.new.self n c.in-Some.base.diagram c.in-Some-number_in.number
    c.in_ok-leaf.leaf c.in_ok-diagram.diagram) c.bits_of.ensures c.in_ok-diagram.ensures.written)
    c.in_ok-leaf.ensures.within c.in_ok-leaf.ensures.value c.requires.element c.is_still_flat.ensures
