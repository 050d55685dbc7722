use Rattle.std.proofs.Common.{◌++◌, ◌∷◌, [], ◌∙◌, List, ap, append_assoc, get_or, subst, sym, take}
use Rattle.std.proofs.lemmas.List.{append-nil, take_more}
use Rattle.smt_report.specs.declared.line.CheckAnswer.TheVariants.{Unsat}
use Rattle.smt_report.specs.declared.line.Line.{Line}
use Rattle.smt_report.specs.declared.line.Line.TheVariants.{Unchecked}
use Rattle.smt_dialogue.proofs.outlet.visit_all.Goals as goal

pub loop-line-init : goal.loop-line-init
loop-line-init g c = λ first before.
    subst (g.V.LineVisitor.has_visited c.args.visitor.now) (sym (append-nil first)) before

pub loop-line-preserved : goal.loop-line-preserved
loop-line-preserved g c = λ first before.
    let ls = c.args.lines.now in
    let i = c.loop-line.line-index in
    let x = get_or ls i (Unchecked 0 0 Unsat) in
    subst (g.V.LineVisitor.has_visited c.visit.new.self)
    (append_assoc first (take i ls) (x ∷ [])
    ∙ ap (λ (more : List Line). first ++ more) (sym (take_more ls i (Unchecked 0 0 Unsat) c.loop-line-test.true)))
    (c.visit.ensures (first ++ take i ls) (c.loop-line.invariant first before))
