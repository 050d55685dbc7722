use Rattle.std.proofs.Common.{◌++◌, ◌∙◌, [], ◌∷◌, ◌≡◌, List, ap, sym, true}
use Rattle.std.proofs.lemmas.List.{append-nil}
use Rattle.smt_dialogue.proofs.AcceptedLemmas.{begins_end, begins_trans, closed_lines, decided_silent}
use Rattle.smt_dialogue.proofs.AcceptedLemmas.{lines_faultless, lines_silent, on_err, part_begins}
use Rattle.smt_script.specs.StackView.{profile_of}
use Rattle.smt_dialogue.specs.Internal.AcceptedState.{state_behind}
use Rattle.smt_dialogue.specs.Lines.{lines_in}
use Rattle.smt_dialogue.specs.Report.{lines_of_end}
use Rattle.smt_dialogue.specs.SoFar.{is_verdict_line}
use Rattle.smt_dialogue.specs.declared.options.Options.{Options}
use Rattle.std.specs.List.{list_any}
use Rattle.smt_report.specs.Verdict.{summary_of, tally_of, verdict_of, with_verdict}
use Rattle.smt_report.specs.declared.line.Line.{Line}
use Rattle.smt_report.specs.declared.line.Line.TheVariants as lines
use Rattle.smt_dialogue.proofs.accepted.AcceptedPairs.end.Goals as goal

pub returns-in_err-end_window-clause-cut : goal.returns-in_err-end_window-clause-cut
returns-in_err-end_window-clause-cut c = on_err c.from_residual.result (λ taken early pairs stands.
    let s = state_behind taken c.args.self.now in
    let ls = taken ++ c.end_window.new.self.decided.lines.items in
    let same = ap (λ (xs : List Line). taken ++ xs) c.in_err-end_window.ensures.cut in (
      begins_end early s pairs c.args.fault ls [] (sym (append-nil ls ∙ same)) stands,
      ap (list_any is_verdict_line) same ∙ lines_silent early s pairs stands,
    ))

pub returns-in_err-summary-clause-cut : goal.returns-in_err-summary-clause-cut
returns-in_err-summary-clause-cut c = on_err c.from_residual-in_err-summary.result (λ taken early pairs stands.
    let e = c.end_window.new.self in
    let u = state_behind taken e in
    let on = c.in_ok-end_window.ensures.stands taken early pairs stands in
    let here : lines_in (profile_of c.args.self.now.stack) c.args.self.now.checks.limit.steps true [] pairs []
    ≡ u.lines =
    sym (ap (λ (o : Options). lines_in o.profile o.limit.steps true [] pairs []) c.end_window.ensures.start)
    ∙ closed_lines true u pairs c.end_window.ensures.ended on in
    let all = lines_in (profile_of c.args.self.now.stack) c.args.self.now.checks.limit.steps true [] pairs []
    ++ lines_of_end c.args.fault in (
      part_begins taken e.decided.lines.items (lines_of_end c.args.fault) c.end.new.self.lines.items all
          (lines.Verdict (verdict_of all) (tally_of all) ∷ []) c.in_err-summary.ensures.kept
          (ap (λ xs. xs ++ lines_of_end c.args.fault) here),
      decided_silent taken e.decided.lines.items c.end.new.self.lines.items c.args.fault c.requires.fault
          c.in_err-summary.ensures.kept (lines_silent true u pairs on),
    ))

pub returns-clause-ended : goal.returns-clause-ended
returns-clause-ended c = λ taken early pairs stands.
    let u = state_behind taken c.end_window.new.self in
    let on = c.in_ok-end_window.ensures.stands taken early pairs stands in
    let here : lines_in (profile_of c.args.self.now.stack) c.args.self.now.checks.limit.steps true [] pairs []
    ≡ u.lines =
    sym (ap (λ (o : Options). lines_in o.profile o.limit.steps true [] pairs []) c.end_window.ensures.start)
    ∙ closed_lines true u pairs c.end_window.ensures.ended on in
    let told = c.in_ok-summary.ensures.ended taken on.tally (lines_faultless true u pairs on) in
    let same = ap (λ xs. xs ++ lines_of_end c.args.fault) (sym here) in
    (told.0 ∙ ap with_verdict same, told.1 ∙ ap summary_of same)

pub returns-clause-kept : goal.returns-clause-kept
returns-clause-kept c =
    begins_trans c.args.self.now.decided.lines.items c.end_window.new.self.decided.lines.items
    c.end.new.self.lines.items c.end_window.ensures.kept c.end.ensures.more
