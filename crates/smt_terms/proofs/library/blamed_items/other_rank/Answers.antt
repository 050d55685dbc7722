use Rattle.std.proofs.Common.{Some, ap, sym, ◌∙◌}
use Rattle.smt_terms.specs.Blame.{parameter_flaw}
use Rattle.smt_terms.specs.Internal.LibraryView.{rank_of}
use Rattle.smt_terms.proofs.library.blamed_items.other_rank.Goals as goal

pub returns-in-Some-Argument : goal.returns-in-Some-Argument
returns-in-Some-Argument c = λ names sort_names x h.
    c.other_parameter.ensures names sort_names x (rank_of c.args.entry.now) h
    (ap (λ ps. parameter_flaw ps c.args.sorts.now) (sym c.as_slice.ensures.value) ∙ sym c.parameter_flaw.ensures
    ∙ c.in-Some-Argument.is ∙ ap Some c.in-Some-Argument.field-0-is)
