use Rattle.std.proofs.Common.{◌∙◌, ◌||◌, ap, sym}
use Rattle.std.specs.Option.{is_some}
use Rattle.smt_arrays.specs.Cells.{arrays_of}
use Rattle.smt_arrays.specs.Known.{are_named}
use Rattle.smt_arrays.specs.Reading.{indexes}
use Rattle.smt_arrays.specs.Tables.{array_at}
use Rattle.smt_arrays.proofs.AlikeLemmas.{slow_at}
use Rattle.smt_arrays.proofs.sameness.is_slow_at.Goals as goal

pub returns-then-is_some : goal.returns-then-is_some
returns-then-is_some c =
    let x = array_at (arrays_of c.args.cells.now) c.args.place in
    c.if-is_some.true
    ∙ sym (slow_at c.args.cells.now c.args.place c.default_in.result c.is_some.result c.requires.older c.requires.held
    c.default_in.ensures.held c.default_in.ensures.default (c.is_some.ensures ∙ ap is_some c.place_of.ensures)
    ∙ ap (λ b. b || are_named (indexes x)) c.if-is_some.true)

pub returns-else-is_some : goal.returns-else-is_some
returns-else-is_some c =
    let x = array_at (arrays_of c.args.cells.now) c.args.place in
    c.is_named.ensures
    ∙ sym (slow_at c.args.cells.now c.args.place c.default_in.result c.is_some.result c.requires.older c.requires.held
    c.default_in.ensures.held c.default_in.ensures.default (c.is_some.ensures ∙ ap is_some c.place_of.ensures)
    ∙ ap (λ b. b || are_named (indexes x)) c.if-is_some.false)
