use Rattle.smtcheck_c.proofs.explanation.tell_why.Goals as goal

pub returns-clause-numbered : goal.returns-clause-numbered
returns-clause-numbered c = record {
  lines = c.in_ok-report.report.lines.items;
  report = c.in_ok-report.ensures.report;
  verdict = c.in_ok-report.report.verdict;
  verdict_is = c.in_ok-report.ensures.verdict;
  number_is = c.number_of-number.ensures.number;
}
