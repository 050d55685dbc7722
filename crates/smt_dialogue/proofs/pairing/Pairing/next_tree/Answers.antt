use Rattle.std.proofs.Common.{◌∙◌, ap, arith, refl, subst}
use Rattle.smt_trees.specs.Owned.{sexp_of}
use Rattle.smt_dialogue.proofs.AdvanceLemmas.{room_for_one}
use Rattle.smt_dialogue.proofs.PairingLemmas.{is_ready, looked, next_behind, no_command, script_fault, script_left}
use Rattle.smt_dialogue.proofs.PairingLemmas.{script_told, script_waits, tree_stays, turned_behind}
use Rattle.smt_dialogue.specs.Internal.TreeQueueView.{IsAhead}
use Rattle.smt_dialogue.specs.declared.tree_queue.Ahead.{Ahead}
use Rattle.smt_dialogue.specs.declared.tree_queue.Ahead.TheVariants.{End}
use Rattle.smt_dialogue.proofs.pairing.Pairing.next_tree.Goals as goal

pub take_next-requires-clause-none : goal.take_next-requires-clause-none
take_next-requires-clause-none c = no_command c.args.self.now.command c.if-is_some.ensures

pub take_next-requires-clause-ready : goal.take_next-requires-clause-ready
take_next-requires-clause-ready c =
    let way = c.requires.room.way in
    let texts = way.0 in
    let h = way.4 in
    is_ready c.look.new.self.next texts.script h.left
    (subst (λ (a : Ahead). IsAhead a c.look.new.self.next texts.script h.left) c.in-Tree.is
    (c.in_ok-look.ensures.ahead texts.script_bytes texts.script h.left h.script_front).1)

pub returns-in-Tree-clause-next : goal.returns-in-Tree-clause-next
returns-in-Tree-clause-next c = λ texts pairs later rest h.
    next_behind c.take_next.result c.args.self.now _ c.take_next.new.self texts pairs later rest refl
    (c.take_next.ensures.next texts pairs later rest
    (looked c.args.self.now _ texts pairs later rest refl refl
    (λ left f. (c.in_ok-look.ensures.ahead texts.script_bytes texts.script left f).0) (λ left f. f) h))

pub returns-in-Wait-clause-next : goal.returns-in-Wait-clause-next
returns-in-Wait-clause-next c = λ texts pairs later rest h.
    let x = c.args.self.now in
    let none = no_command x.command c.if-is_some.ensures in
    let ahead = subst (λ (a : Ahead). IsAhead a c.look.new.self.next texts.script h.left) c.in-Wait.is
    (c.in_ok-look.ensures.ahead texts.script_bytes texts.script h.left h.script_front).1 in (
      looked x _ texts pairs later rest refl refl
          (λ left f. (c.in_ok-look.ensures.ahead texts.script_bytes texts.script left f).0) (λ left f. f) h,
      script_waits x texts pairs later rest (script_left x texts pairs later rest none h ∙ ahead.0) ahead.1,
      λ e. absurd (cc),
    )

pub returns-in-End-Some-clause-next : goal.returns-in-End-Some-clause-next
returns-in-End-Some-clause-next c = λ texts pairs later rest h.
    let x = c.args.self.now in
    let none = no_command x.command c.if-is_some.ensures in
    let ahead = subst (λ (a : Ahead). IsAhead a c.look.new.self.next texts.script h.left)
    (c.in-End-Some.is ∙ ap End c.in-End-Some.field-0-is)
    (c.in_ok-look.ensures.ahead texts.script_bytes texts.script h.left h.script_front).1 in (
      h.early,
      h.stands,
      script_fault x texts pairs later rest c.in-End-Some.flaw c.text_fault.result
          (script_left x texts pairs later rest none h ∙ ahead.0) ahead.1 c.text_fault.ensures,
    )

pub returns-in_ok-end_of_script-in-End-None-clause-next : goal.returns-in_ok-end_of_script-in-End-None-clause-next
returns-in_ok-end_of_script-in-End-None-clause-next c = λ texts pairs later rest h.
    let x = c.args.self.now in
    let none = no_command x.command c.if-is_some.ensures in
    let ahead = subst (λ (a : Ahead). IsAhead a c.look.new.self.next texts.script h.left)
    (c.in-End-None.is ∙ ap End c.in-End-None.field-0-is)
    (c.in_ok-look.ensures.ahead texts.script_bytes texts.script h.left h.script_front).1 in
    turned_behind c.in_ok-end_of_script-in-End-None.field-0 x _ c.end_of_script.new.self texts pairs later rest refl
    (c.in_ok-end_of_script-in-End-None.ensures.turn texts pairs later rest
    (looked x _ texts pairs later rest refl refl
    (λ left f. (c.in_ok-look.ensures.ahead texts.script_bytes texts.script left f).0) (λ left f. f) h)
    (script_left x texts pairs later rest none h ∙ ahead.0) ahead.1
    (script_told texts ahead.1 ahead.2))

pub take_next-requires-clause-commands : goal.take_next-requires-clause-commands
take_next-requires-clause-commands c =
    let way = c.requires.room.way in
    let x = c.args.self.now in
    let texts = way.0 in
    let h = way.4 in
    let none = no_command x.command c.if-is_some.ensures in
    let ahead = subst (λ (a : Ahead). IsAhead a c.look.new.self.next texts.script h.left) c.in-Tree.is
    (c.in_ok-look.ensures.ahead texts.script_bytes texts.script h.left h.script_front).1 in
    let most = room_for_one c.requires.room.few x texts way.1 (sexp_of ahead.0) ahead.1 way.2 way.3
    (script_left x texts way.1 way.2 way.3 none h ∙ ahead.3) h in
    omega (arith, most, c.requires.room.script)

pub end_of_script-requires-clause-none : goal.end_of_script-requires-clause-none
end_of_script-requires-clause-none c = no_command c.args.self.now.command c.if-is_some.ensures

pub end_of_script-requires-clause-room : goal.end_of_script-requires-clause-room
end_of_script-requires-clause-room c =
    let way = c.requires.room.way in
    let texts = way.0 in
    record {
      few = c.requires.room.few;
      script = omega (arith, c.look.ensures.fed, c.requires.room.script);
      answers = c.requires.room.answers;
      way = (
        texts,
        way.1,
        way.2,
        way.3,
        looked c.args.self.now _ texts way.1 way.2 way.3 refl refl
            (λ left f. (c.in_ok-look.ensures.ahead texts.script_bytes texts.script left f).0) (λ left f. f) way.4,
      );
    }

pub returns-then-is_some-clause-next : goal.returns-then-is_some-clause-next
returns-then-is_some-clause-next c = λ texts pairs later rest h.
    tree_stays c.args.self.now texts pairs later rest c.if-is_some.ensures h
