use Rattle.std.proofs.Common.{Some, None, ap, ◌∙◌}
use Rattle.smt_theory.specs.Words.{look_up}
use Rattle.smt_terms.specs.Internal.LibraryView.{rank_of}
use Rattle.smt_terms.specs.Signature.{entry_named}
use Rattle.smt_terms.proofs.EntryLemmas.{look_up-ranks}
use Rattle.smt_terms.proofs.ItemLemmas.{keeps}
use Rattle.smt_terms.proofs.library.Library.has_this_rank.Goals as goal

pub returns-in-None : goal.returns-in-None
returns-in-None c = λ s stands. keeps (entry_named s.entries c.args.name.now) None c.args.parameters.now
    c.args.sort (c.in-None.ensures.ranked ∙ ap (λ rs. look_up rs c.args.name.now) stands.ranks
    ∙ look_up-ranks s.entries c.args.name.now)

pub returns-in-Some : goal.returns-in-Some
returns-in-Some c = λ s stands.
    c.has_rank.ensures ∙ keeps (entry_named s.entries c.args.name.now)
    (Some (rank_of c.in-Some.entry.now)) c.args.parameters.now c.args.sort
    (c.in-Some.ensures.ranked ∙ ap (λ rs. look_up rs c.args.name.now) stands.ranks
    ∙ look_up-ranks s.entries c.args.name.now)
