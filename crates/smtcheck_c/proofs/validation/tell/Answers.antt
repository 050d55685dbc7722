use Rattle.std.proofs.Common.{◌∙◌, List, ap, subst, sym}
use Rattle.smt_dialogue.specs.Run.{text_of_lines}
use Rattle.smt_report.specs.declared.line.Line.{Line}
use Rattle.smtcheck_c.specs.Told.{IsSummaryOf}
use Rattle.smtcheck_c.proofs.OutcomeLemmas.{number_of_invalid, number_of_valid}
use Rattle.smtcheck_c.proofs.validation.tell.Goals as goal

pub returns-clause-telling : goal.returns-clause-telling
returns-clause-telling c =
    let report = c.in_ok-report.ensures in
    let verdict = c.in_ok-report.report.verdict in
    record {
      lines = c.in_ok-report.report.lines.items;
      report = report.report;
      verdict = verdict;
      verdict_is = report.verdict;
      number_is = c.number_of-number.ensures.number;
      summary_is = subst (λ (ls : List Line). IsSummaryOf c.summary_of-summary.result ls) c.as_slice.ensures.value
          c.summary_of-summary.ensures;
      text_is = c.in_ok-text.ensures ∙ ap text_of_lines c.as_slice-2.ensures.value;
      valid = λ e. report.valid (number_of_valid verdict (sym c.number_of-number.ensures.number ∙ e));
      invalid = λ e. report.invalid (number_of_invalid verdict (sym c.number_of-number.ensures.number ∙ e));
    }
