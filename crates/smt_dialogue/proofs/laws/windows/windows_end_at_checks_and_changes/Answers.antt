use Rattle.smt_dialogue.proofs.AnswerLawLemmas.{change_closes, other_leaves, refused_leaves, silent_closes}
use Rattle.smt_dialogue.proofs.laws.windows.windows_end_at_checks_and_changes.Goals as goal

pub returns-clause-silent : goal.returns-clause-silent
returns-clause-silent c = λ command changes. silent_closes command changes

pub returns-clause-answered : goal.returns-clause-answered
returns-clause-answered c = λ command answer changes told. change_closes command answer changes told

pub returns-clause-refused : goal.returns-clause-refused
returns-clause-refused c = λ command answer other refused. refused_leaves command answer other refused

pub returns-clause-others : goal.returns-clause-others
returns-clause-others c = λ command answer other keeps. other_leaves command answer other keeps
