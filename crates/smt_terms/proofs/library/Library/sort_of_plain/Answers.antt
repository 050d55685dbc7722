use Rattle.std.proofs.Common.{ap, sym, ◌∙◌}
use Rattle.smt_theory.specs.Shapes.{are_exactly}
use Rattle.smt_terms.specs.Internal.DraftView.{sorts_from, terms_from}
use Rattle.smt_terms.proofs.HeadLemmas.{some_head}
use Rattle.smt_terms.proofs.library.Library.sort_of_plain.Goals as goal

pub returns-in_ok-push_named-in-Some-clause-added : goal.returns-in_ok-push_named-in-Some-clause-added
returns-in_ok-push_named-in-Some-clause-added c =
    let e = c.in-Some.entry.now in
    let arguments = c.args.draft.now.arguments in
    some_head c.args.self.now c.args.draft.now c.push_named.new.self c.args.around c.args.name.now
    (sorts_from c.args.start arguments) (terms_from c.args.start arguments) e
    c.in_ok-push_named-in-Some.field-0 c.in-Some.ensures.ranked c.in-Some.ensures.placed
    (ap (λ ps. are_exactly ps (sorts_from c.args.start arguments)) (sym c.as_slice.ensures.value)
    ∙ ap (λ ss. are_exactly c.as_slice.result.now ss) (sym c.sorts.ensures) ∙ sym c.if-not-are_same.ensures)
    c.in_ok-push_named-in-Some.ensures.added
