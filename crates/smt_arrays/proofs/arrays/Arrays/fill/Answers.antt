use Rattle.std.proofs.Common.{List, length, subst, sym}
use Rattle.smt_arrays.specs.Tables.{IsHeld}
use Rattle.smt_arrays.specs.declared.arrays.Cell.{Cell}
use Rattle.smt_arrays.specs.declared.arrays.Cell.TheVariants.{Filled}
use Rattle.smt_arrays.proofs.LookupLemmas.{tables_added, tables_elements}
use Rattle.smt_arrays.proofs.arrays.Arrays.fill.Goals as goal

pub invariant_of-self-2 : goal.invariant_of-self-2
invariant_of-self-2 c =
    let self = c.self.inside in
    let l = self.lookups in
    let elements = c.filled_table.new.elements in
    let are = tables_elements self.cells.items l.elements elements l.diagrams l.tables.items
    c.filled_table.ensures.grown c.filled_table.ensures.distinct c.self.invariant.2 in
    let held = subst (λ (cells : List Cell). IsHeld (length cells) c.args.element) (sym c.self.view_is)
    c.requires.held in (
      c.add_with_table.ensures.older,
      c.add_with_table.ensures.counted,
      tables_added c.add_with_table.result self.cells.items c.add_with_table.new.cells.items elements l.diagrams
          l.tables.items c.add_with_table.new.tables.items (Filled c.args.element) c.in_ok-table.table are
          (c.in_ok-table.ensures.made self.cells.items l.diagrams c.self.invariant.0 held)
          c.add_with_table.ensures.cells c.add_with_table.ensures.tables c.add_with_table.ensures.unchanged
          c.add_with_table.ensures.tables_unchanged,
    )

pub invariant_of-self : goal.invariant_of-self
invariant_of-self c =
    let self = c.self.inside in
    let l = self.lookups in (
      c.self.invariant.0,
      c.self.invariant.1,
      tables_elements self.cells.items l.elements c.filled_table.new.elements l.diagrams l.tables.items
          c.filled_table.ensures.grown c.filled_table.ensures.distinct c.self.invariant.2,
    )
