use Rattle.std.proofs.Common.{sym, ◌∙◌}
use Rattle.smt_trees.specs.View.{sexp_of}
use Rattle.smt_forms.specs.ItemView.{item_view}
use Rattle.smt_terms.specs.Items.{told_item}
use Rattle.smt_terms.proofs.BlameLemmas.{left_told, not_told, twice_by}
use Rattle.smt_terms.proofs.library.Library.blame_in_item.Goals as goal

pub returns-then-is_some-clause-told : goal.returns-then-is_some-clause-told
returns-then-is_some-clause-told c =
    left_told c.args.script.now c.args.self.now c.blame_of_told.result c.blame_of_told.ensures

pub returns-then-is_some-clause-twice : goal.returns-then-is_some-clause-twice
returns-then-is_some-clause-twice c = λ s m stands items form none is aside before.
    absurd (not_told c.told.result (told_item s (sexp_of c.args.item)) (c.told.ensures s stands)
    (sym c.is_some.ensures ∙ c.if-is_some.true) none)

pub returns-in-Ok-clause-twice : goal.returns-in-Ok-clause-twice
returns-in-Ok-clause-twice c = λ s m stands items.
    twice_by s m (sexp_of c.args.item) (item_view c.in-Ok.form) c.blame_of_item_form.result c.in-Ok.ensures
    (c.blame_of_item_form.ensures.twice s m stands items)

pub returns-in-Err-clause-twice : goal.returns-in-Err-clause-twice
returns-in-Err-clause-twice c = λ s m stands items form none is aside before.
    let clash = sym c.in-Err.ensures ∙ is in cc
