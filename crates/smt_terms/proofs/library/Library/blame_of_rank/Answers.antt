use Rattle.smt_terms.specs.Internal.LibraryView.{names_of_library, sort_names}
use Rattle.smt_terms.proofs.library.Library.blame_of_rank.Goals as goal

pub returns : goal.returns
returns c =
    c.other_rank.ensures (names_of_library c.args.self.now) (sort_names c.args.self.now.sorts) c.args.name.now
    c.in-Some.ensures
