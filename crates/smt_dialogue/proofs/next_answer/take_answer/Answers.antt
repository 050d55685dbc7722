use Rattle.std.proofs.Common.{None, Some, subst, sym}
use Rattle.smt_dialogue.specs.Internal.NextAnswerView.{IsTaken}
use Rattle.smt_dialogue.specs.Internal.TreeQueueView.{IsAhead}
use Rattle.smt_dialogue.specs.declared.need.Need.{Need}
use Rattle.smt_dialogue.specs.declared.next_answer.NextAnswer.TheVariants as found
use Rattle.smt_dialogue.specs.declared.tree_queue.Ahead.{Ahead}
use Rattle.smt_dialogue.proofs.NextAnswerLemmas.{needed_missing, needed_taken, needed_unfit, needed_waits}
use Rattle.smt_dialogue.proofs.NextAnswerLemmas.{nothing_taken, optional_ended, optional_ready, optional_waits}
use Rattle.smt_dialogue.proofs.next_answer.take_answer.Goals as goal

pub returns-in-Nothing-clause-taken : goal.returns-in-Nothing-clause-taken
returns-in-Nothing-clause-taken c = λ bytes text rest h.
    subst (λ (n : Need). IsTaken (found.Takes None) n text rest bytes c.args.answers.now) (sym c.in-Nothing.is)
    (nothing_taken text rest bytes c.args.answers.now h)

pub returns-in-Tree-clause-taken : goal.returns-in-Tree-clause-taken
returns-in-Tree-clause-taken c = λ bytes text rest h.
    let next = c.look.new.self.next in
    let looked = c.in_ok-look-in-Optional.ensures.ahead bytes text rest h in
    let ahead = subst (λ (a : Ahead). IsAhead a next text rest) c.in-Tree.is looked.1 in
    subst (λ (n : Need). IsTaken (found.Takes c.take_if.result) n text rest bytes c.take_if.new.answers)
    (sym c.in-Optional.is)
    (optional_ready c.in-Optional.form c.take_if.result next text rest bytes c.take_if.new.answers ahead
    (c.take_if.ensures.taken bytes text rest looked.0))

pub returns-in-Wait-clause-taken : goal.returns-in-Wait-clause-taken
returns-in-Wait-clause-taken c = λ bytes text rest h.
    let next = c.look.new.self.next in
    let looked = c.in_ok-look-in-Optional.ensures.ahead bytes text rest h in
    let ahead = subst (λ (a : Ahead). IsAhead a next text rest) c.in-Wait.is looked.1 in
    subst (λ (n : Need). IsTaken (found.Waits) n text rest bytes c.look.new.self) (sym c.in-Optional.is)
    (optional_waits c.in-Optional.form next text rest bytes c.look.new.self ahead looked.0)

pub returns-in-End-clause-taken : goal.returns-in-End-clause-taken
returns-in-End-clause-taken c = λ bytes text rest h.
    let next = c.look.new.self.next in
    let looked = c.in_ok-look-in-Optional.ensures.ahead bytes text rest h in
    let ahead = subst (λ (a : Ahead). IsAhead a next text rest) c.in-End.is looked.1 in
    subst (λ (n : Need). IsTaken (found.Takes None) n text rest bytes c.look.new.self) (sym c.in-Optional.is)
    (optional_ended c.in-Optional.form c.in-End.field-0 next text rest bytes c.look.new.self ahead looked.0)

pub returns-in-Some-clause-taken : goal.returns-in-Some-clause-taken
returns-in-Some-clause-taken c = λ bytes text rest h.
    let next = c.look-in-Needed.new.self.next in
    let looked = c.in_ok-look-in-Needed.ensures.ahead bytes text rest h in
    let ahead = subst (λ (a : Ahead). IsAhead a next text rest) c.in-Tree-2.is looked.1 in
    subst (λ (n : Need). IsTaken
    (found.Takes (Some c.in-Some.answer)) n text rest bytes c.take_if-in-Tree-2.new.answers) (sym c.in-Needed.is)
    (needed_taken c.in-Needed.form c.in-Some.answer next text rest bytes c.take_if-in-Tree-2.new.answers ahead
    (c.in-Some.ensures.taken bytes text rest looked.0))

pub returns-in-None-clause-taken : goal.returns-in-None-clause-taken
returns-in-None-clause-taken c = λ bytes text rest h.
    let next = c.look-in-Needed.new.self.next in
    let looked = c.in_ok-look-in-Needed.ensures.ahead bytes text rest h in
    let ahead = subst (λ (a : Ahead). IsAhead a next text rest) c.in-Tree-2.is looked.1 in
    subst (λ (n : Need). IsTaken (found.Unexpected) n text rest bytes c.take_if-in-Tree-2.new.answers)
    (sym c.in-Needed.is)
    (needed_unfit c.in-Needed.form next text rest bytes c.take_if-in-Tree-2.new.answers ahead
    (c.in-None.ensures.taken bytes text rest looked.0))

pub returns-in-Wait-2-clause-taken : goal.returns-in-Wait-2-clause-taken
returns-in-Wait-2-clause-taken c = λ bytes text rest h.
    let next = c.look-in-Needed.new.self.next in
    let looked = c.in_ok-look-in-Needed.ensures.ahead bytes text rest h in
    let ahead = subst (λ (a : Ahead). IsAhead a next text rest) c.in-Wait-2.is looked.1 in
    subst (λ (n : Need). IsTaken (found.Waits) n text rest bytes c.look-in-Needed.new.self) (sym c.in-Needed.is)
    (needed_waits c.in-Needed.form next text rest bytes c.look-in-Needed.new.self ahead looked.0)

pub returns-in-End-2-clause-taken : goal.returns-in-End-2-clause-taken
returns-in-End-2-clause-taken c = λ bytes text rest h.
    let next = c.look-in-Needed.new.self.next in
    let looked = c.in_ok-look-in-Needed.ensures.ahead bytes text rest h in
    let ahead = subst (λ (a : Ahead). IsAhead a next text rest) c.in-End-2.is looked.1 in
    subst (λ (n : Need). IsTaken (found.Missing c.in-End-2.fault) n text rest bytes c.look-in-Needed.new.self)
    (sym c.in-Needed.is)
    (needed_missing c.in-Needed.form c.in-End-2.fault next text rest bytes c.look-in-Needed.new.self ahead looked.0)
