use Rattle.std.proofs.Common.{inl, sym, ◌∙◌}
use Rattle.smt_terms.specs.Internal.LibraryView.{names_of_library, sort_names}
use Rattle.smt_terms.proofs.BlameLemmas.{told_in_use}
use Rattle.smt_terms.proofs.library.Library.blame_of_name.Goals as goal

pub returns : goal.returns
returns c =
    told_in_use (names_of_library c.args.self.now) (sort_names c.args.self.now.sorts) c.args.name c.is_taken.result
    c.in_use.result c.in_use.ensures (λ h. inl (sym c.is_taken.ensures ∙ h))
