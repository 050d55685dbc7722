use Rattle.std.proofs.Common.{◌≡◌, List, None, subst, Some, cond, sym, ap, ◌∙◌}
use Rattle.smt_arrays.specs.Cells.{AreOlder, arrays_of}
use Rattle.smt_arrays.specs.declared.arrays.Cell.{Cell}
use Rattle.smt_arrays.specs.Element.{Plain}
use Rattle.smt_values.specs.Element.{element_of}
use Rattle.smt_arrays.specs.Reading.{read}
use Rattle.smt_arrays.specs.Tables.{array_at, element_in}
use Rattle.smt_arrays.proofs.CellLemmas.{is_indexed, is_not_indexed}
use Rattle.smt_arrays.proofs.arrays.Arrays.select.Goals as goal

pub returns-in-Some-clause-known : goal.returns-in-Some-clause-known
returns-in-Some-clause-known c =
    let cells = c.args.self.now in
    let a = c.args.array.now in
    let i = c.args.index.now in
    let r = is_indexed cells a i c.in-Some.place (subst (λ (cells : List Cell). AreOlder 0 cells)
    c.self.view_is c.self.invariant.0) c.requires.array c.requires.index c.in-Some.ensures.place in
    sym (ap (λ b. cond b (Some (read (element_in (arrays_of cells) a) (element_in (arrays_of cells) i))) None) r.0
    ∙ ap (λ e. Some (read e (element_in (arrays_of cells) i))) r.1
    ∙ ap (λ e. Some (read (array_at (arrays_of cells) c.in-Some.place) e)) r.2
    ∙ ap Some (sym (subst (λ (cells : List Cell). element_in (arrays_of cells) c.element_at.result
    ≡ read (array_at (arrays_of cells) c.in-Some.place) (Plain (element_of i)))
    (c.as_slice.ensures.value ∙ c.self.view_is) c.element_at.ensures.read)))

pub returns-in-None-clause-known : goal.returns-in-None-clause-known
returns-in-None-clause-known c =
    let cells = c.args.self.now in
    let a = c.args.array.now in
    let i = c.args.index.now in
    let r = is_not_indexed cells a i (subst (λ (cells : List Cell). AreOlder 0 cells) c.self.view_is c.self.invariant.0)
    c.requires.array c.requires.index c.in-None.ensures.place in
    sym (ap (λ b. cond b (Some (read (element_in (arrays_of cells) a) (element_in (arrays_of cells) i))) None) r)
