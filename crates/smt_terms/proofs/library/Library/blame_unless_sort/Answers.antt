use Rattle.smt_terms.specs.Internal.LibraryView.{names_of_library, sort_names}
use Rattle.smt_terms.proofs.library.Library.blame_unless_sort.Goals as goal

pub returns-in-Ok : goal.returns-in-Ok
returns-in-Ok c = c.other_sort.ensures.told (names_of_library c.args.self.now) (sort_names c.args.self.now.sorts)
