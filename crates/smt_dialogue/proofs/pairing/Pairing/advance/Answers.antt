use Rattle.std.proofs.Common.{◌++◌, ◌∙◌, [], ap, arith, refl, subst, true}
use Rattle.smt_script.specs.StackView.{start_of}
use Rattle.smt_dialogue.proofs.AdvanceLemmas.{bounded, checks_at_most, commands_at_most, cut_at, cut_ended, ends_at}
use Rattle.smt_dialogue.proofs.AdvanceLemmas.{one_more, turned_on, waits_at}
use Rattle.smt_dialogue.proofs.CheckLineLemmas.{IsFaultTurn, fault_turn}
use Rattle.smt_dialogue.proofs.AcceptedLemmas.{begins_trans, on_err}
use Rattle.smt_dialogue.proofs.PairLemmas.{checks_in-le}
use Rattle.smt_dialogue.specs.Lines.{lines_in}
use Rattle.smt_dialogue.specs.Report.{lines_at_end, lines_of_end}
use Rattle.smt_dialogue.specs.SoFar.{IsBeginning}
use Rattle.smt_dialogue.specs.Internal.AcceptedState.{options_of}
use Rattle.smt_dialogue.specs.Internal.PairingView.{IsTurned, waiting}
use Rattle.smt_dialogue.specs.declared.options.Options.{Options}
use Rattle.smt_dialogue.specs.declared.turn.Turn.{Turn}
use Rattle.smt_report.specs.Verdict.{summary_of}
use Rattle.smt_dialogue.proofs.pairing.Pairing.advance.Goals as goal

pub take_turn-requires : goal.take_turn-requires
take_turn-requires c =
    let w = c.requires.way in
    let h = c.loop-closed.invariant.way w.0 w.1 w.2 w.3 w.4 in
    record {
      room = record {
        few = c.trees_are_few.ensures.few;
        script = omega (arith, c.loop-closed.invariant.script_fed, c.requires.script_room);
        answers = omega (arith, c.loop-closed.invariant.answers_fed, c.requires.answers_room);
        way = (w.0, h.0, h.1, h.2, h.3);
      };
    }

pub returns-in_err-take_turn-clause-cut : goal.returns-in_err-take_turn-clause-cut
returns-in_err-take_turn-clause-cut c = on_err c.from_residual.result (λ texts pairs later rest first.
    let h = c.loop-closed.invariant.way texts pairs later rest first in
    cut_at c.loop-closed.self texts h.0 h.1 h.2 (waiting c.take_turn.new.self)
    (options_of c.args.self.now.dialogue) c.loop-closed.invariant.start c.in_err-take_turn.ensures.cut h.3)

pub loop-closed-smaller : goal.loop-closed-smaller
loop-closed-smaller c =
    let w = c.requires.way in
    let x = c.loop-closed.self in
    let y = c.take_turn.new.self in
    let h = c.loop-closed.invariant.way w.0 w.1 w.2 w.3 w.4 in
    let g = turned_on c.in_ok-take_turn.field-0 x y w.0 h.0 h.1 h.2 c.in-GoesOn.is
    (c.in_ok-take_turn.ensures.turn w.0 h.0 h.1 h.2 h.3) in
    let most = commands_at_most c.trees_are_few.ensures.few y w.0 _ g.1 g.2 g.3 in
    let more = one_more x y w.0 h.0 g.0 h.1 h.2 g.1 g.2 h.3 g.3 in
    omega (arith, most, more, c.take_turn.ensures.fed.script, c.loop-closed.invariant.script_fed)

pub loop-closed-preserved : goal.loop-closed-preserved
loop-closed-preserved c =
    let x = c.loop-closed.self in
    let y = c.take_turn.new.self in
    let w = c.requires.way in
    let now = c.loop-closed.invariant.way w.0 w.1 w.2 w.3 w.4 in
    let next = turned_on c.in_ok-take_turn.field-0 x y w.0 now.0 now.1 now.2 c.in-GoesOn.is
    (c.in_ok-take_turn.ensures.turn w.0 now.0 now.1 now.2 now.3) in
    record {
      commands = omega (
        arith,
        c.loop-closed.invariant.commands,
        one_more x y w.0 now.0 next.0 now.1 now.2 next.1 next.2 now.3 next.3,
      );
      script_fed = c.take_turn.ensures.fed.script ∙ c.loop-closed.invariant.script_fed;
      answers_fed = c.take_turn.ensures.fed.answers ∙ c.loop-closed.invariant.answers_fed;
      limits = record {
        script = c.take_turn.ensures.fed.limits.script ∙ c.loop-closed.invariant.limits.script;
        answers = c.take_turn.ensures.fed.limits.answers ∙ c.loop-closed.invariant.limits.answers;
      };
      start = c.in_ok-take_turn.ensures.start ∙ c.loop-closed.invariant.start;
      kept = begins_trans (waiting c.args.self.now) (waiting x) (waiting y) c.loop-closed.invariant.kept
          c.take_turn.ensures.kept;
      way = λ texts pairs later rest first.
          let h = c.loop-closed.invariant.way texts pairs later rest first in
          let g = turned_on c.in_ok-take_turn.field-0 x y texts h.0 h.1 h.2 c.in-GoesOn.is
          (c.in_ok-take_turn.ensures.turn texts h.0 h.1 h.2 h.3) in
          (_, g.1, g.2, g.3);
    }

pub settle-requires : goal.settle-requires
settle-requires c =
    let w = c.requires.way in
    let x = c.loop-closed.self in
    let y = c.take_turn.new.self in
    let h = c.loop-closed.invariant.way w.0 w.1 w.2 w.3 w.4 in
    let t = subst (λ (turn : Turn). IsTurned turn x y w.0 h.0 h.1 h.2) c.in-Waits.is
    (c.in_ok-take_turn.ensures.turn w.0 h.0 h.1 h.2 h.3) in
    record {
      few = omega (
        arith,
        checks_at_most y w.0 h.0 h.1 h.2 t.0,
        commands_at_most c.trees_are_few.ensures.few y w.0 h.0 h.1 h.2 t.0,
        c.take_turn.ensures.fed.script,
        c.loop-closed.invariant.script_fed,
        c.requires.script_room,
      );
    }

pub returns-in_err-settle-in-Waits-clause-cut : goal.returns-in_err-settle-in-Waits-clause-cut
returns-in_err-settle-in-Waits-clause-cut c =
    on_err c.from_residual-in_err-settle-in-Waits.result (λ texts pairs later rest first.
    let x = c.loop-closed.self in
    let y = c.take_turn.new.self in
    let h = c.loop-closed.invariant.way texts pairs later rest first in
    let t = subst (λ (turn : Turn). IsTurned turn x y texts h.0 h.1 h.2) c.in-Waits.is
    (c.in_ok-take_turn.ensures.turn texts h.0 h.1 h.2 h.3) in
    cut_at y texts h.0 h.1 h.2 c.settle.new.self.decided.lines.items
    (options_of c.args.self.now.dialogue) (c.in_ok-take_turn.ensures.start ∙ c.loop-closed.invariant.start)
    c.in_err-settle-in-Waits.ensures.cut t.0)

pub returns-in-Waits-clause-advanced : goal.returns-in-Waits-clause-advanced
returns-in-Waits-clause-advanced c = λ texts pairs later rest first.
    let x = c.loop-closed.self in
    let y = c.take_turn.new.self in
    let z = record y { dialogue = c.settle.new.self } in
    let h = c.loop-closed.invariant.way texts pairs later rest first in
    let t = subst (λ (turn : Turn). IsTurned turn x y texts h.0 h.1 h.2) c.in-Waits.is
    (c.in_ok-take_turn.ensures.turn texts h.0 h.1 h.2 h.3) in
    waits_at x y z texts h.0 h.1 h.2 (options_of c.args.self.now.dialogue) c.in-Waits.closed
    c.loop-closed.invariant.start c.in_ok-take_turn.ensures.start refl refl refl c.in_ok-settle-in-Waits.ensures.start
    (λ early stands same. c.in_ok-settle-in-Waits.ensures.settled texts.taken early h.0 stands same) t

pub end-requires-clause-fault : goal.end-requires-clause-fault
end-requires-clause-fault c =
    let w = c.requires.way in
    let texts = w.0 in
    let x = c.loop-closed.self in
    let y = c.take_turn.new.self in
    let h = c.loop-closed.invariant.way w.0 w.1 w.2 w.3 w.4 in
    let t = subst (λ (turn : Turn). IsTurned turn x y texts h.0 h.1 h.2) c.in-Ends.is
    (c.in_ok-take_turn.ensures.turn texts h.0 h.1 h.2 h.3) in
    subst IsFaultTurn t.2
    (fault_turn (start_of x.dialogue.stack) h.0 (record texts.answers { trees = h.2 })
    texts.script.told texts.script.fault h.1)

pub end-requires-clause-few : goal.end-requires-clause-few
end-requires-clause-few c =
    let w = c.requires.way in
    let x = c.loop-closed.self in
    let y = c.take_turn.new.self in
    let h = c.loop-closed.invariant.way w.0 w.1 w.2 w.3 w.4 in
    let t = subst (λ (turn : Turn). IsTurned turn x y w.0 h.0 h.1 h.2) c.in-Ends.is
    (c.in_ok-take_turn.ensures.turn w.0 h.0 h.1 h.2 h.3) in
    omega (
      arith,
      t.1.checks,
      checks_in-le h.0,
      bounded c.trees_are_few.ensures.few x w.0 h.0 h.1 h.2 h.3,
      c.loop-closed.invariant.script_fed,
      c.requires.script_room,
    )

pub returns-in_err-summary-in-Ends-clause-cut : goal.returns-in_err-summary-in-Ends-clause-cut
returns-in_err-summary-in-Ends-clause-cut c =
    on_err c.from_residual-in_err-summary-in-Ends.result (λ texts pairs later rest first.
    let x = c.loop-closed.self in
    let y = c.take_turn.new.self in
    let start = options_of c.args.self.now.dialogue in
    let h = c.loop-closed.invariant.way texts pairs later rest first in
    let t = subst (λ (turn : Turn). IsTurned turn x y texts h.0 h.1 h.2) c.in-Ends.is
    (c.in_ok-take_turn.ensures.turn texts h.0 h.1 h.2 h.3) in
    let cut = c.in_err-summary-in-Ends.ensures.cut texts.taken t.0 h.0 t.1 in
    cut_ended texts h.0 c.in-Ends.fault c.end.new.self.decided.lines.items start
    (ends_at x y texts h.0 h.1 h.2 start c.in-Ends.fault c.loop-closed.invariant.start h.3 t) (
      subst (λ (o : Options). IsBeginning (texts.taken ++ c.end.new.self.decided.lines.items)
          (lines_at_end o.profile o.limit.steps h.0 c.in-Ends.fault))
          (c.in_ok-take_turn.ensures.start ∙ c.loop-closed.invariant.start) cut.0,
      cut.1,
    ))

pub returns-in-Ends-clause-advanced : goal.returns-in-Ends-clause-advanced
returns-in-Ends-clause-advanced c = λ texts pairs later rest first.
    let x = c.loop-closed.self in
    let y = c.take_turn.new.self in
    let start = options_of c.args.self.now.dialogue in
    let h = c.loop-closed.invariant.way texts pairs later rest first in
    let t = subst (λ (turn : Turn). IsTurned turn x y texts h.0 h.1 h.2) c.in-Ends.is
    (c.in_ok-take_turn.ensures.turn texts h.0 h.1 h.2 h.3) in
    let done = c.in_ok-summary-in-Ends.ensures.ended texts.taken t.0 h.0 t.1 in
    let same = c.in_ok-take_turn.ensures.start ∙ c.loop-closed.invariant.start in (
      c.in-Ends.fault,
      h.0,
      ends_at x y texts h.0 h.1 h.2 start c.in-Ends.fault c.loop-closed.invariant.start h.3 t,
      done.0 ∙ ap (λ (o : Options). lines_at_end o.profile o.limit.steps h.0 c.in-Ends.fault) same,
      done.1 ∙ ap (λ (o : Options). summary_of
          (lines_in o.profile o.limit.steps true [] h.0 [] ++ lines_of_end c.in-Ends.fault))
          same,
    )

pub returns-then-has_enough-clause-advanced : goal.returns-then-has_enough-clause-advanced
returns-then-has_enough-clause-advanced c = λ texts pairs later rest first.
    let x = c.loop-closed.self in
    let y = c.take_turn.new.self in
    let h = c.loop-closed.invariant.way texts pairs later rest first in
    let g = turned_on c.in_ok-take_turn.field-0 x y texts h.0 h.1 h.2 c.in-GoesOn.is
    (c.in_ok-take_turn.ensures.turn texts h.0 h.1 h.2 h.3) in
    (_, g.1, g.2, g.3, c.in_ok-take_turn.ensures.start ∙ c.loop-closed.invariant.start)

pub returns-then-has_enough-clause-paused : goal.returns-then-has_enough-clause-paused
returns-then-has_enough-clause-paused c =
    let x = c.loop-closed.self in
    let y = c.take_turn.new.self in
    let w = c.requires.way in
    let h = c.loop-closed.invariant.way w.0 w.1 w.2 w.3 w.4 in
    let g = turned_on c.in_ok-take_turn.field-0 x y w.0 h.0 h.1 h.2 c.in-GoesOn.is
    (c.in_ok-take_turn.ensures.turn w.0 h.0 h.1 h.2 h.3) in (
      c.if-has_enough.ensures refl,
      omega (arith, c.loop-closed.invariant.commands, one_more x y w.0 h.0 g.0 h.1 h.2 g.1 g.2 h.3 g.3),
      omega (
        arith,
        commands_at_most c.trees_are_few.ensures.few y w.0 _ g.1 g.2 g.3,
        c.take_turn.ensures.fed.script,
        c.loop-closed.invariant.script_fed,
        c.requires.script_room,
      ),
    )
