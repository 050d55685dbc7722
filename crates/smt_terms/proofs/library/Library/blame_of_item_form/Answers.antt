use Rattle.std.proofs.Common.{false, sym, ◌∙◌}
use Rattle.smt_terms.proofs.BlameLemmas.{left_by, left_told}
use Rattle.smt_terms.proofs.ItemLemmas.{in_force}
use Rattle.smt_terms.proofs.library.Library.blame_of_item_form.Goals as goal

pub returns-then-sets_aside-clause-told : goal.returns-then-sets_aside-clause-told
returns-then-sets_aside-clause-told c =
    left_by c.args.script.now c.args.self.now c.blame_of_repeated.result c.blame_of_repeated.ensures

pub returns-then-sets_aside-clause-twice : goal.returns-then-sets_aside-clause-twice
returns-then-sets_aside-clause-twice c = λ s m stands items aside before.
    let clash = sym c.if-sets_aside.true ∙ c.sets_aside.ensures s stands ∙ aside in cc

pub returns-then-is_unfit-clause-told : goal.returns-then-is_unfit-clause-told
returns-then-is_unfit-clause-told c =
    left_told c.args.script.now c.args.self.now c.blame_of_item_name.result c.blame_of_item_name.ensures

pub returns-then-is_unfit-clause-twice : goal.returns-then-is_unfit-clause-twice
returns-then-is_unfit-clause-twice c = λ s m stands items aside before.
    let clash = sym (in_force c.args.self.now m c.args.form.name.now c.has_entry.result false items
    c.has_entry.ensures c.if-has_entry.false) ∙ before in cc

pub returns-clause-twice : goal.returns-clause-twice
returns-clause-twice c = λ s m stands items aside before.
    let clash = sym (in_force c.args.self.now m c.args.form.name.now c.has_entry.result false items
    c.has_entry.ensures c.if-has_entry.false) ∙ before in cc
