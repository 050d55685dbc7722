use Rattle.smt_dialogue.proofs.ReadSoFarLemmas.{report_is_so_far, so_far_is_report}
use Rattle.smt_dialogue.proofs.laws.so_far.told_lines_are_the_report.Goals as goal

pub returns-clause-report : goal.returns-clause-report
returns-clause-report c = so_far_is_report

pub returns-clause-so_far : goal.returns-clause-so_far
returns-clause-so_far c = report_is_so_far
