use Rattle.std.proofs.Common.{inr, sym, true, ◌∙◌}
use Rattle.smt_terms.specs.Internal.LibraryView.{names_of_library, sort_names}
use Rattle.smt_terms.proofs.BlameLemmas.{and_right, told_in_use}
use Rattle.smt_terms.proofs.library.Library.blame_of_item_name.Goals as goal

pub returns-then-is_element_name : goal.returns-then-is_element_name
returns-then-is_element_name c =
    told_in_use (names_of_library c.args.self.now) (sort_names c.args.self.now.sorts) c.args.name true
    c.in_use.result c.in_use.ensures
    (λ h. inr (inr (and_right _ _ (sym c.is_element_name.ensures ∙ c.if-is_element_name.true))))
