use Rattle.std.proofs.Common.{◌≡◌, ◌-◌, length, take, vec_len, arith, sym, ap, ◌∙◌}
use Rattle.smt_text.proofs.ScanLemmas.{depth_is, scan_next, stack_closed, stack_opened, stack_same, stays}
use Rattle.smt_text.specs.declared.lexer.LexerStep.TheVariants.{Close, Open}
use Rattle.smt_text.proofs.unfinished.Scan.take.Goals as goal

pub returns-in_ok-push-in-Open : goal.returns-in_ok-push-in-Open
returns-in_ok-push-in-Open c =
    λ text at h. scan_next text c.args.self.now
    (record { token = c.next-self.result; begun = c.beginning-self.result; lists = c.push.new.self })
    c.after-step.result c.args.byte c.args.place at c.after-step.ensures c.next-self.ensures
    c.beginning-self.ensures h
    (λ step. stack_opened text c.args.self.now.lists.items c.push.new.self.items c.args.place
    (sym step ∙ c.in-Open.is) (depth_is text c.args.place Open (sym c.in-Open.is ∙ step))
    c.in_ok-push-in-Open.ensures.items h.lists)

pub returns-in-Close : goal.returns-in-Close
returns-in-Close c =
    λ text at h. let lists = c.args.self.now.lists in
    let same : vec_len lists ≡ length lists.items = omega arith in
    scan_next text c.args.self.now
    (record { token = c.next-self.result; begun = c.beginning-self.result; lists = c.pop-closed.new.self })
    c.after-step.result c.args.byte c.args.place at c.after-step.ensures c.next-self.ensures
    c.beginning-self.ensures h
    (λ step. stack_closed text lists.items c.pop-closed.new.self.items c.args.place
    (depth_is text c.args.place Close (sym c.in-Close.is ∙ step))
    (c.pop-closed.ensures.rest ∙ ap (λ n. take (n - 1) lists.items) same) h.lists)

pub returns-in-Push : goal.returns-in-Push
returns-in-Push c =
    λ text at h. scan_next text c.args.self.now
    (record { token = c.next-self.result; begun = c.beginning-self.result; lists = c.args.self.now.lists })
    c.after-step.result c.args.byte c.args.place at c.after-step.ensures c.next-self.ensures
    c.beginning-self.ensures h
    (λ step. stack_same text c.args.self.now.lists.items c.args.place
    (depth_is text c.args.place c.after-step.result step ∙ stays c.after-step.result _ c.in-Push.is) h.lists)
