use Rattle.std.proofs.Common.{◌∙◌, ap, refl, subst}
use Rattle.smt_dialogue.proofs.PairingLemmas.{answers_end, answers_extra, answers_fault, answers_wait, looked}
use Rattle.smt_dialogue.proofs.PairingLemmas.{none_closing}
use Rattle.smt_dialogue.specs.Internal.TreeQueueView.{IsAhead}
use Rattle.smt_dialogue.specs.declared.tree_queue.Ahead.{Ahead}
use Rattle.smt_dialogue.specs.declared.tree_queue.Ahead.TheVariants.{End}
use Rattle.std.proofs.Common.{arith}
use Rattle.smt_dialogue.proofs.AdvanceLemmas.{room_for_answer}
use Rattle.smt_trees.specs.Owned.{sexp_of}
use Rattle.smt_dialogue.proofs.pairing.Pairing.end_of_script.Goals as goal

pub returns-in-Tree-clause-turn : goal.returns-in-Tree-clause-turn
returns-in-Tree-clause-turn c = λ texts pairs later rest h none fault told.
    let x = c.args.self.now in
    let next = c.look.new.self.next in
    let ahead = (c.in_ok-look.ensures.ahead texts.answers_bytes texts.answers rest h.answers_front).1 in (
      h.early,
      h.stands,
      answers_extra x texts pairs later rest next x.dialogue.answers none fault told
          (subst (λ (a : Ahead). IsAhead a next texts.answers rest) c.in-Tree.is ahead) h.stands.answers,
    )

pub returns-in-Wait-clause-turn : goal.returns-in-Wait-clause-turn
returns-in-Wait-clause-turn c = λ texts pairs later rest h none fault told.
    let x = c.args.self.now in
    let next = c.look.new.self.next in
    let ahead = (c.in_ok-look.ensures.ahead texts.answers_bytes texts.answers rest h.answers_front).1 in (
      looked x _ texts pairs later rest refl refl (λ left f. f)
          (λ left f. (c.in_ok-look.ensures.ahead texts.answers_bytes texts.answers left f).0) h,
      answers_wait x texts pairs later rest next none fault told
          (subst (λ (a : Ahead). IsAhead a next texts.answers rest) c.in-Wait.is ahead),
      λ e. none_closing x texts later c.requires.none none fault told,
    )

pub returns-in-End-Some-clause-turn : goal.returns-in-End-Some-clause-turn
returns-in-End-Some-clause-turn c = λ texts pairs later rest h none fault told.
    let x = c.args.self.now in
    let next = c.look.new.self.next in
    let ahead = (c.in_ok-look.ensures.ahead texts.answers_bytes texts.answers rest h.answers_front).1 in (
      h.early,
      h.stands,
      answers_fault x texts pairs later rest next c.in-End-Some.flaw c.text_fault.result none fault told
          (subst (λ (a : Ahead). IsAhead a next texts.answers rest)
          (c.in-End-Some.is ∙ ap End c.in-End-Some.field-0-is) ahead) c.text_fault.ensures,
    )

pub returns-in-End-None-clause-turn : goal.returns-in-End-None-clause-turn
returns-in-End-None-clause-turn c = λ texts pairs later rest h none fault told.
    let x = c.args.self.now in
    let next = c.look.new.self.next in
    let ahead = (c.in_ok-look.ensures.ahead texts.answers_bytes texts.answers rest h.answers_front).1 in (
      h.early,
      h.stands,
      answers_end x texts pairs later rest next none fault told
          (subst (λ (a : Ahead). IsAhead a next texts.answers rest)
          (c.in-End-None.is ∙ ap End c.in-End-None.field-0-is) ahead),
    )

pub overflow_add-result : goal.overflow_add-result
overflow_add-result c =
    let way = c.requires.room.way in
    let texts = way.0 in
    let h = way.4 in
    let ahead = subst (λ (a : Ahead). IsAhead a c.look.new.self.next texts.answers way.3) c.in-Tree.is
    (c.in_ok-look.ensures.ahead texts.answers_bytes texts.answers way.3 h.answers_front).1 in
    let most = room_for_answer c.requires.room.few c.args.self.now texts way.1 (sexp_of ahead.0) ahead.1 way.2
    way.3 ahead.3 h in
    omega (arith, most, c.requires.room.answers)
