use Rattle.std.proofs.Common.{◌∙◌, ap}
use Rattle.smt_diagrams.specs.Diagram.{element_at}
use Rattle.smt_arrays.proofs.LookupLemmas.{looked_up_at}
use Rattle.smt_arrays.proofs.lookup.element_at.Goals as goal

pub returns-clause-read : goal.returns-clause-read
returns-clause-read c =
    let l = c.args.lookups.now in
    (looked_up_at c.args.cells.now l.elements l.diagrams l.tables.items c.args.place c.in-Some.table
    c.in-Some-kind_for.kind c.args.index.now c.in-Some-number_in.number c.select-element.result c.value.result
    c.requires.lookups c.in-Some.ensures c.in-Some-kind_for.ensures c.in-Some-number_in.ensures.0
    c.in-Some-number_in.ensures.1 c.in-Some-number_in.ensures.2
    (c.select-element.ensures
    ∙ ap (λ n. element_at l.diagrams n c.in-Some.table.diagram c.in-Some-number_in.number) c.bits_of.ensures)
    c.value.ensures).0

pub returns-clause-held : goal.returns-clause-held
returns-clause-held c =
    let l = c.args.lookups.now in
    (looked_up_at c.args.cells.now l.elements l.diagrams l.tables.items c.args.place c.in-Some.table
    c.in-Some-kind_for.kind c.args.index.now c.in-Some-number_in.number c.select-element.result c.value.result
    c.requires.lookups c.in-Some.ensures c.in-Some-kind_for.ensures c.in-Some-number_in.ensures.0
    c.in-Some-number_in.ensures.1 c.in-Some-number_in.ensures.2
    (c.select-element.ensures
    ∙ ap (λ n. element_at l.diagrams n c.in-Some.table.diagram c.in-Some-number_in.number) c.bits_of.ensures)
    c.value.ensures).1
