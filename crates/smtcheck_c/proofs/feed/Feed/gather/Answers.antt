use Rattle.std.proofs.Common.{◌≡◌, ◌++◌, ◌∙◌, List, ap, arith, length, subst, sym}
use Rattle.std.proofs.lemmas.Bool.{eqb-true}
use Rattle.std.proofs.lemmas.List.{append-nil, nil_from_length}
use Rattle.smt_dialogue.specs.History.{with_taken}
use Rattle.smt_dialogue.specs.Session.{StandsFor}
use Rattle.smt_report.specs.declared.line.Line.{Line}
use Rattle.smtcheck_c.proofs.feed.Feed.gather.Goals as goal

pub returns-then-is_empty-clause-feeds : goal.returns-then-is_empty-clause-feeds
returns-then-is_empty-clause-feeds c = λ h k.
    let waiting = c.args.self.now.waiting in
    let zero = eqb-true waiting.len 0 (sym c.is_empty.ensures ∙ c.if-is_empty.true) in
    let empty : length waiting.items ≡ 0 = omega (arith, waiting.ok, zero) in
    let none = nil_from_length waiting.items empty in
    let taken = ap (λ (ls : List Line). h.taken ++ ls) none ∙ append-nil h.taken in
    subst (λ (ls : List Line). StandsFor c.take_lines.new.self (record h { taken = ls ++ c.take_lines.result.items })) taken
    (c.take_lines.ensures.stands (with_taken h c.args.self.now.waiting.items) k)

pub returns-then-is_empty-clause-next : goal.returns-then-is_empty-clause-next
returns-then-is_empty-clause-next c =
    let waiting = c.args.self.now.waiting in
    let zero = eqb-true waiting.len 0 (sym c.is_empty.ensures ∙ c.if-is_empty.true) in
    let empty : length waiting.items ≡ 0 = omega (arith, waiting.ok, zero) in
    let none = nil_from_length waiting.items empty in
    record { first = λ _. c.take_lines.ensures.lines; waiting = λ some. absurd (some none) }
