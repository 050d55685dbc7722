use Rattle.std.proofs.Common.{inl, inr, sym, ◌∙◌}
use Rattle.smt_terms.specs.Internal.LibraryView.{names_of_library, sort_names}
use Rattle.smt_terms.proofs.BlameLemmas.{told_in_use}
use Rattle.smt_terms.proofs.library.Library.blame_in_sort_name.Goals as goal

pub returns-clause-told : goal.returns-clause-told
returns-clause-told c =
    told_in_use (names_of_library c.args.self.now) (sort_names c.args.self.now.sorts) c.args.name c.is_taken.result
    c.in_use.result c.in_use.ensures (λ h. inr (inl (sym c.is_taken.ensures ∙ h)))
