use Rattle.std.proofs.Common.{slice_get, ap, sym, ◌∙◌}
use Rattle.smt_terms.specs.Internal.LibraryView.{rank_of}
use Rattle.smt_terms.proofs.EntryLemmas.{ranked_at}
use Rattle.smt_terms.proofs.library.Library.name.Goals as goal

pub returns : goal.returns
returns c = λ s stands.
    let found = c.get_index.result in
    ranked_at s.entries c.args.place found.0.now (rank_of found.1.now)
    (ap (λ rs. slice_get rs c.args.place) (sym stands.ranks) ∙ c.get_index.ensures)
