use Rattle.smt_dialogue.proofs.ReportExists.{some_report}
use Rattle.smt_dialogue.proofs.laws.every_dialogue_has_a_report.Goals as goal

pub returns : goal.returns
returns c = some_report c.every_text_reads.ensures.some
