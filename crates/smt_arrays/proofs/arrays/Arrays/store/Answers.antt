use Rattle.std.proofs.Common.{List, None, subst, Some, cond, refl, sym, ap, ◌∙◌}
use Rattle.smt_arrays.specs.Cells.{AreOlder, arrays_of, made}
use Rattle.smt_arrays.specs.declared.arrays.Cell.{Cell}
use Rattle.smt_arrays.specs.Element.{Plain, Written}
use Rattle.smt_values.specs.Element.{element_of}
use Rattle.smt_arrays.specs.Tables.{IsAdded, IsAddedIfKnown, array_at, element_in}
use Rattle.smt_arrays.specs.Lookup.{AreLookups, IsTableIfAny}
use Rattle.smt_arrays.specs.declared.arrays.Cell.TheVariants.{Written as WrittenCell}
use Rattle.smt_arrays.proofs.LookupLemmas.{tables_added}
use Rattle.smt_arrays.proofs.CellLemmas.{is_indexed, is_not_indexed}
use Rattle.smt_arrays.proofs.arrays.Arrays.store.Goals as goal

pub returns-clause-added : goal.returns-clause-added
returns-clause-added c =
    let cells = c.args.self.now in
    let arrays = arrays_of cells in
    let a = c.args.array.now in
    let i = c.args.index.now in
    let x = element_in arrays c.args.element.now in
    let r = is_indexed cells a i c.in-Some.place
    (subst (λ (cells : List Cell). AreOlder 0 cells) c.self.view_is c.self.invariant.0)
    c.requires.array c.requires.index c.in-Some.ensures.place in
    let known = ap (λ b. cond b (Some (Written (element_in arrays a) (element_in arrays i) x)) None) r.0
    ∙ ap (λ e. Some (Written e (element_in arrays i) x)) r.1
    ∙ ap (λ e. Some (Written (array_at arrays c.in-Some.place) e x)) r.2 in
    subst (λ o. IsAddedIfKnown arrays (arrays_of c.add_with_table.new.cells.items) o
    (Some c.in_ok-add_with_table.field-0))
    (sym known)
    (subst (λ (cells : List Cell). IsAdded (arrays_of cells) (arrays_of c.add_with_table.new.cells.items)
    (Written (array_at (arrays_of cells) c.in-Some.place) (Plain (element_of i))
    (element_in (arrays_of cells) c.args.element.now)) c.in_ok-add_with_table.field-0)
    c.self.view_is c.in_ok-add_with_table.ensures.added)

pub returns-in_default-clause-added : goal.returns-in_default-clause-added
returns-in_default-clause-added c =
    let cells = c.args.self.now in
    let arrays = arrays_of cells in
    let a = c.args.array.now in
    let i = c.args.index.now in
    let x = element_in arrays c.args.element.now in
    let r = is_not_indexed cells a i (subst (λ (cells : List Cell). AreOlder 0 cells) c.self.view_is c.self.invariant.0)
    c.requires.array c.requires.index c.in_default.ensures.place in
    subst (λ o. IsAddedIfKnown arrays arrays o None)
    (sym (ap (λ b. cond b (Some (Written (element_in arrays a) (element_in arrays i) x)) None) r)) refl

pub invariant_of-self : goal.invariant_of-self
invariant_of-self c = (
  c.self.invariant.0,
  c.self.invariant.1,
  subst (λ (cells : List Cell). AreLookups cells c.next_table.new.lookups) c.as_slice.ensures.value
      c.next_table.ensures.lookups,
)

pub invariant_of-self-2 : goal.invariant_of-self-2
invariant_of-self-2 c =
    let self = c.self.inside in
    let l = c.next_table.new.lookups in
    let v = c.args.element.now in
    let cell = WrittenCell c.in-Some.place c.args.index.now v in
    let are = subst (λ (cells : List Cell). AreLookups cells l) c.as_slice.ensures.value c.next_table.ensures.lookups in
    let is = subst (λ (cells : List Cell). IsTableIfAny cells l.elements l.diagrams (made (arrays_of cells) cell)
    c.in_ok-table.table) c.as_slice.ensures.value c.in_ok-table.ensures.made in (
      c.add_with_table.ensures.older,
      c.add_with_table.ensures.counted,
      tables_added c.add_with_table.result self.cells.items c.add_with_table.new.cells.items l.elements l.diagrams
          l.tables.items c.add_with_table.new.tables.items cell c.in_ok-table.table are is
          c.add_with_table.ensures.cells c.add_with_table.ensures.tables c.add_with_table.ensures.unchanged
          c.add_with_table.ensures.tables_unchanged,
    )

pub invariant_of-self-in_err-add_with_table : goal.invariant_of-self-in_err-add_with_table
invariant_of-self-in_err-add_with_table c =
    let self = c.self.inside in
    let l = c.next_table.new.lookups in
    let v = c.args.element.now in
    let cell = WrittenCell c.in-Some.place c.args.index.now v in
    let are = subst (λ (cells : List Cell). AreLookups cells l) c.as_slice.ensures.value c.next_table.ensures.lookups in
    let is = subst (λ (cells : List Cell). IsTableIfAny cells l.elements l.diagrams (made (arrays_of cells) cell)
    c.in_ok-table.table) c.as_slice.ensures.value c.in_ok-table.ensures.made in (
      c.add_with_table.ensures.older,
      c.add_with_table.ensures.counted,
      tables_added c.add_with_table.result self.cells.items c.add_with_table.new.cells.items l.elements l.diagrams
          l.tables.items c.add_with_table.new.tables.items cell c.in_ok-table.table are is
          c.add_with_table.ensures.cells c.add_with_table.ensures.tables c.add_with_table.ensures.unchanged
          c.add_with_table.ensures.tables_unchanged,
    )
