use Rattle.std.proofs.Common.{inr, Some, ◌≡◌}
use Rattle.smt_trees.specs.View.{sexp_of}
use Rattle.smt_terms.specs.Blame.{names_no_sort, sort_word}
use Rattle.smt_terms.specs.Internal.LibraryView.{names_of_library, sort_names}
use Rattle.smt_terms.proofs.BlameLemmas.{some_of, told_unknown}
use Rattle.smt_terms.proofs.library.Library.blame_of_sort_part.Goals as goal

pub returns-in-Some : goal.returns-in-Some
returns-in-Some c =
    let sorts = sort_names c.args.self.now.sorts in
    let part = sexp_of c.args.part in
    told_unknown (names_of_library c.args.self.now) sorts c.args.part c.sort_word.result sorts.theories
    (λ t. names_no_sort sorts t part) c.in-Some.unknown c.unknown_part.result c.unknown_part.ensures
    c.in-Some.ensures (λ theory h k. inr (inr (h, k)))
    (λ x is h. inr (part, some_of (λ n. sort_word part ≡ Some n.now) c.sort_word.result c.sort_word.ensures x is, h))
