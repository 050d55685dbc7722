use Rattle.smt_terms.specs.Internal.LibraryView.{names_of_library, sort_names}
use Rattle.smt_terms.proofs.BlameLemmas.{outcome_fault, outcome_sort, whole_found, whole_refused}
use Rattle.smt_terms.proofs.library.Library.blame_of_checked_atom.Goals as goal

pub returns-in-Ok-clause-told : goal.returns-in-Ok-clause-told
returns-in-Ok-clause-told c =
    c.other_sort.ensures.told (names_of_library c.args.self.now) (sort_names c.args.self.now.sorts)

pub returns-in-Ok-clause-whole : goal.returns-in-Ok-clause-whole
returns-in-Ok-clause-whole c = λ sorted found.
    whole_found c.args.wanted _ sorted c.other_sort.result (outcome_sort sorted c.args.checked _ c.in-Ok.is found)
    c.other_sort.ensures.whole

pub returns-in-Err-clause-whole : goal.returns-in-Err-clause-whole
returns-in-Err-clause-whole c = λ sorted found.
    whole_refused c.args.wanted sorted _ c.blame_of_atom_at.result (outcome_fault sorted c.args.checked _ c.in-Err.is found)
    c.blame_of_atom_at.ensures.memory
