use Rattle.smt_terms.proofs.library.Library.blame_of_whole_atom.Goals as goal

pub returns-clause-whole : goal.returns-clause-whole
returns-clause-whole c = c.blame_of_checked_atom.ensures.whole _ c.sort_of-checked.ensures.sort
