use Rattle.std.proofs.Common.{◌≡◌, ◌∙◌, List, Some, length, sym, ap, subst}
use Rattle.smt_values.specs.ElementNumbers.{array_place}
use Rattle.smt_arrays.specs.Cells.{AreOlder, arrays_of}
use Rattle.smt_arrays.specs.Internal.{sizes_of}
use Rattle.smt_arrays.specs.declared.arrays.Cell.{Cell}
use Rattle.smt_arrays.proofs.CellLemmas.{is_added, one_older_more}
use Rattle.smt_arrays.proofs.OperateLemmas.{one_size_more}
use Rattle.smt_arrays.proofs.arrays.add.Goals as goal

pub returns-in-Ok-push-clause-added : goal.returns-in-Ok-push-clause-added
returns-in-Ok-push-clause-added c =
    let cells = c.args.cells.now.items in
    let r = is_added cells c.push-2.new.self.items c.args.cell c.in-Ok.place c.in-Ok-push.ensures.items
    (c.in-Ok.ensures.1 ∙ ap length c.as_slice.ensures.value) in
    (r.0, subst (λ n. array_place n ≡ Some (length (arrays_of cells))) (sym c.array.ensures) r.1)

pub returns-in-Ok-push-clause-older : goal.returns-in-Ok-push-clause-older
returns-in-Ok-push-clause-older c =
    subst (λ (cells : List Cell). AreOlder 0 cells) (sym c.in-Ok-push.ensures.items)
    (one_older_more c.args.cells.now.items c.args.cell c.requires.before c.requires.older)

pub returns-in-Ok-push-clause-counted : goal.returns-in-Ok-push-clause-counted
returns-in-Ok-push-clause-counted c =
    c.in_ok-push.ensures.items
    ∙ one_size_more c.args.cells.now.items c.args.cell c.args.sizes.now.items c.args.size c.requires.counted
    c.requires.size
    ∙ ap (λ (cells : List Cell). sizes_of (arrays_of cells)) (sym c.in-Ok-push.ensures.items)
