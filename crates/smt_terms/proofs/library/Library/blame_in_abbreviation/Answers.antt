use Rattle.std.proofs.Common.{inl, inr, sym, true, ◌∙◌}
use Rattle.smt_terms.specs.Internal.LibraryView.{names_of_library, sort_names}
use Rattle.smt_terms.proofs.BlameLemmas.{told_in_use}
use Rattle.smt_terms.proofs.library.Library.blame_in_abbreviation.Goals as goal

pub returns-then-is_taken-clause-told : goal.returns-then-is_taken-clause-told
returns-then-is_taken-clause-told c =
    told_in_use (names_of_library c.args.self.now) (sort_names c.args.self.now.sorts) c.args.name true
    c.in_use.result c.in_use.ensures (λ h. inr (inl (sym c.is_taken.ensures ∙ c.if-is_taken.true)))
