use Rattle.smt_dialogue.proofs.WindowLemmas.{assumed_in_window, nothing_changes, window_ends}
use Rattle.smt_dialogue.proofs.laws.nothing_changes_in_a_window.Goals as goal

pub returns-clause-unchanged : goal.returns-clause-unchanged
returns-clause-unchanged c = nothing_changes

pub returns-clause-ends : goal.returns-clause-ends
returns-clause-ends c = window_ends

pub returns-clause-assumed : goal.returns-clause-assumed
returns-clause-assumed c = assumed_in_window
