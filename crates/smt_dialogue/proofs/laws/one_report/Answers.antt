use Rattle.smt_dialogue.proofs.ReportUnique as unique
use Rattle.smt_dialogue.proofs.laws.one_report.Goals as goal

pub returns : goal.returns
returns c = unique.one_report c.one_reading.ensures.one
