use Rattle.smt_trees.specs.View.{sexp_of, sexps_of}
use Rattle.smt_terms.specs.Internal.LibraryView.{names_of_library}
use Rattle.smt_terms.proofs.BlameLemmas.{first_of_all}
use Rattle.smt_terms.proofs.library.Library.blame_in_assumptions.Goals as goal

pub returns-clause-first : goal.returns-clause-first
returns-clause-first c =
    first_of_all (names_of_library c.args.self.now) (sexps_of c.args.terms) (sexps_of c.in-Some.field-0-1)
    (sexp_of c.in-Some.first) c.blame_from.result c.in-Some.ensures c.blame_from.ensures.first
