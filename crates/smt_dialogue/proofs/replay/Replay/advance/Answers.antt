use Rattle.std.proofs.Common.{◌+◌, ◌<◌, ◌^◌, arith, false, refl, subst, sym, true}
use Rattle.smt_dialogue.proofs.ReplayLemmas.{ends_there, room_behind, stays_ended, stays_refused, taken_in}
use Rattle.smt_dialogue.proofs.ReplayLemmas.{waits_at_most, went_on}
use Rattle.smt_dialogue.specs.Internal.GivenView.{IsLooked}
use Rattle.smt_dialogue.specs.Internal.ReplaySteps.{HasApplied}
use Rattle.smt_dialogue.specs.declared.tree_queue.Ahead.{Ahead}
use Rattle.smt_dialogue.proofs.replay.Replay.advance.Goals as goal

pub returns-then-not-self-clause-advanced : goal.returns-then-not-self-clause-advanced
returns-then-not-self-clause-advanced c = λ dialogue place h.
    stays_ended c.args.self.now dialogue place c.if-not-self.true h

pub returns-then-not-branch-clause-advanced : goal.returns-then-not-branch-clause-advanced
returns-then-not-branch-clause-advanced c = λ dialogue place h.
    let x = c.args.self.now in
    let y = c.apply.new.self in
    stays_refused x y dialogue place (subst (λ b. HasApplied b x y dialogue place) c.if-not-branch.true
    (c.in_ok-apply.ensures.applied dialogue place h))

pub returns-in_default-clause-advanced : goal.returns-in_default-clause-advanced
returns-in_default-clause-advanced c = λ dialogue place h.
    let x = c.args.self.now in
    let y = c.apply.new.self in
    ends_there x y _ c.in_ok-look.field-0 dialogue place (λ e. c.in_default.not-Tree e) refl refl refl refl refl refl
    (λ whole rest g. c.in_ok-look.ensures.looked whole rest g)
    (subst (λ b. HasApplied b x y dialogue place) c.if-not-branch.false
    (c.in_ok-apply.ensures.applied dialogue place h))

pub returns-in_default-checked_add-clause-advanced : goal.returns-in_default-checked_add-clause-advanced
returns-in_default-checked_add-clause-advanced c = λ dialogue place h.
    let x = c.args.self.now in
    let y = c.apply.new.self in
    let given = c.look.new.self in
    let a = subst (λ b. HasApplied b x y dialogue place) c.if-not-branch.false
    (c.in_ok-apply.ensures.applied dialogue place h) in
    let looked = subst (λ (k : Ahead). IsLooked k given dialogue.script a.1.later) c.in-Tree.is
    (c.in_ok-look.ensures.looked dialogue.script a.1.later a.1.script) in
    let most = room_behind c.trees_are_few.ensures.few y given dialogue a.0 a.2 a.1 looked in
    let fits : y.number + 1 < 2 ^ 64 = omega (arith, most, given.small) in
    absurd (c.in_default-checked_add.ensures fits)

pub returns-clause-advanced : goal.returns-clause-advanced
returns-clause-advanced c = λ dialogue place h.
    let x = c.args.self.now in
    let y = c.apply.new.self in
    let given = c.look.new.self in
    went_on x y _ c.find_answer.new.self _ c.in_ok-self.field-0 dialogue place
    (λ after at some none. c.in_ok-self.ensures.found dialogue after at some none)
    (λ after at. taken_in y _ given c.take.result dialogue after refl refl c.in-Some.ensures.1 refl refl
    (c.in_ok-apply.ensures.none c.if-not-branch.false) c.take.ensures.taken at
    (subst (λ (k : Ahead). IsLooked k given dialogue.script at.later) c.in-Tree.is
    (c.in_ok-look.ensures.looked dialogue.script at.later at.script))) refl
    (subst (λ b. HasApplied b x y dialogue place) c.if-not-branch.false
    (c.in_ok-apply.ensures.applied dialogue place h))
    refl refl refl refl refl refl refl
