use Rattle.std.proofs.Common.{subst, sym}
use Rattle.smt_dialogue.proofs.SessionVerdictLemmas.{reported, whole_report}
use Rattle.smt_dialogue.specs.History.{whole}
use Rattle.smt_dialogue.specs.Report.{IsReport}
use Rattle.smt_dialogue.specs.Session.{lines_waiting}
use Rattle.smt_dialogue.proofs.validation.report_of.Goals as goal

pub unreachable-requires : goal.unreachable-requires
unreachable-requires c =
    let w = c.requires.stands in
    let s = c.args.session.now in
    reported w.0 w.1 w.2 (lines_waiting s) (whole_report s w.0 w.1 w.2 c.requires.failure w.3)
    (c.in_default.ensures.told (whole w.0 w.1 w.2) w.3)

pub returns-clause-report : goal.returns-clause-report
returns-clause-report c = λ options script answers k.
    subst (IsReport options script answers) (sym c.take_lines.ensures.lines)
    (whole_report c.args.session.now options script answers c.requires.failure k)
