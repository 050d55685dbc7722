-- the name stands for none of those so far
use Rattle.std.proofs.Common.{◌≡◌, drop}
use Rattle.smt_names.specs.Entries.{entries_of}
use Rattle.smt_theory.specs.Words.{look_up}
use Rattle.smt_terms.proofs.library.Library.get_among_few.Given as goal

abbrev pub invariant-loop-place : goal.invariant-loop-place
invariant-loop-place l = look_up (entries_of l.self.names) l.name
    ≡ look_up (drop l.place (entries_of l.self.names)) l.name
