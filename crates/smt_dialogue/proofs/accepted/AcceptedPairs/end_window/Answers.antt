use Rattle.std.proofs.Common.{◌≡◌, ◌<◌, ◌+◌, ◌^◌, ◌++◌, ◌∙◌, [], List, ap, append_assoc, length, refl, subst, sym}
use Rattle.std.proofs.lemmas.List.{append-nil}
use Rattle.smt_dialogue.proofs.ChecksLemmas.{closing_lines}
use Rattle.smt_dialogue.proofs.AcceptedLemmas.{ended_early, state_ended}
use Rattle.smt_dialogue.specs.Internal.ChecksState.{new_lines}
use Rattle.smt_dialogue.specs.Internal.AcceptedState.{state_behind}
use Rattle.smt_dialogue.specs.Report.{lines_of_end}
use Rattle.smt_report.specs.Verdict.{tally_of}
use Rattle.smt_report.specs.declared.line.Line.{Line}
use Rattle.smt_dialogue.proofs.accepted.AcceptedPairs.end_window.Goals as goal

pub returns-clause-stands : goal.returns-clause-stands
returns-clause-stands c = λ taken early pairs stands.
    let d = c.args.self.now in
    let e = c.add.new.self in
    let m = taken ++ d.decided.lines.items in
    let line = closing_lines d.checks.pending in
    let same : new_lines c.of_ended.result ≡ line =
    ap new_lines c.of_ended.ensures ∙ ap (λ o. lines_of_end o ++ []) c.end_window-ended.ensures.line
    ∙ append-nil line in
    ended_early early (state_behind taken d) _ pairs stands refl
    (state_ended d.checks c.end_window-ended.new.self c.end_window-ended.ensures.limit
    c.end_window-ended.ensures.count c.end_window-ended.ensures.ended)
    refl refl
    (ap (λ ls. taken ++ ls) (c.in_ok-add.ensures.lines ∙ ap (λ ls. d.decided.lines.items ++ ls) same)
    ∙ sym (append_assoc taken d.decided.lines.items line))
    c.requires.few
    (subst (λ (ls : List Line). d.decided.tally ≡ tally_of m → length m + length ls < 2 ^ 64
    → e.tally ≡ tally_of (m ++ ls)) same (c.in_ok-add.ensures.tally m))
