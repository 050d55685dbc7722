use Rattle.smt_names.specs.Entries.{entries_of}
use Rattle.smt_terms.specs.Internal.LibraryView.{rank_of}
use Rattle.smt_terms.proofs.LibraryLemmas.{found_by}
use Rattle.smt_terms.proofs.library.Library.get.Goals as goal

pub returns-then-len-gt-FEW-clause-ranked : goal.returns-then-len-gt-FEW-clause-ranked
returns-then-len-gt-FEW-clause-ranked c =
    found_by rank_of (entries_of c.args.self.now.names) c.args.name.now c.get.result c.get.ensures

pub returns-then-len-gt-FEW-clause-placed : goal.returns-then-len-gt-FEW-clause-placed
returns-then-len-gt-FEW-clause-placed c =
    found_by (λ e. e.place) (entries_of c.args.self.now.names) c.args.name.now c.get.result c.get.ensures

pub returns-else-len-gt-FEW-clause-ranked : goal.returns-else-len-gt-FEW-clause-ranked
returns-else-len-gt-FEW-clause-ranked c =
    found_by rank_of (entries_of c.args.self.now.names) c.args.name.now c.get_among_few.result
    c.get_among_few.ensures

pub returns-else-len-gt-FEW-clause-placed : goal.returns-else-len-gt-FEW-clause-placed
returns-else-len-gt-FEW-clause-placed c =
    found_by (λ e. e.place) (entries_of c.args.self.now.names) c.args.name.now c.get_among_few.result
    c.get_among_few.ensures
