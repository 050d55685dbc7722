use Rattle.std.proofs.Common.{◌++◌, ◌∷◌, [], ◌∙◌, ap, get_or, sym, take}
use Rattle.std.proofs.lemmas.List.{take_more}
use Rattle.smt_dialogue.proofs.RunLemmas.{text_push}
use Rattle.smt_dialogue.specs.Run.{text_of_lines}
use Rattle.smt_report.specs.LineText.{text_of}
use Rattle.smt_report.specs.declared.line.CheckAnswer.TheVariants.{Unsat}
use Rattle.smt_report.specs.declared.line.Line.TheVariants.{Unchecked}
use Rattle.smt_dialogue.proofs.outlet.text_of_lines.Goals as goal

pub loop-line-preserved : goal.loop-line-preserved
loop-line-preserved c =
    let ls = c.args.lines.now in
    let i = c.loop-line.line-index in
    let x = get_or ls i (Unchecked 0 0 Unsat) in
    c.in_ok-writeln.ensures.bytes
    ∙ ap (λ t. t ++ (text_of x ++ 10 ∷ [])) c.loop-line.invariant
    ∙ sym (text_push (take i ls) x)
    ∙ ap text_of_lines (sym (take_more ls i (Unchecked 0 0 Unsat) c.loop-line-test.true))
