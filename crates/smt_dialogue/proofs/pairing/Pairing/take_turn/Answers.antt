use Rattle.std.proofs.Common.{◌≡◌, ◌∙◌, ap, arith, false, is_some, refl, subst, sym, true}
use Rattle.smt_trees.specs.Owned.{sexp_of}
use Rattle.smt_trees.specs.View as view
use Rattle.smt_script.specs.CommandView.{command_view}
use Rattle.smt_script.specs.StackView.{profile_of}
use Rattle.smt_dialogue.proofs.AdvanceLemmas.{answers_at_most, checks_at_most, room_for_one}
use Rattle.smt_dialogue.proofs.PairingLemmas.{held_there, next_there, read_again, refused_turn, taken_up, turned_behind}
use Rattle.smt_dialogue.specs.Internal.PairingView.{IsClosing, IsInTurn, IsNext}
use Rattle.smt_dialogue.proofs.pairing.Pairing.take_turn.Goals as goal

pub returns-in-Some-clause-turn : goal.returns-in-Some-clause-turn
returns-in-Some-clause-turn c = λ texts pairs later rest h.
    subst (λ t. IsNext t c.args.self.now c.next_tree.new.self texts pairs later rest) c.in-Some.is
    (c.in_ok-instead.ensures.next texts pairs later rest h)

pub unreachable-requires : goal.unreachable-requires
unreachable-requires c =
    let way = c.requires.room.way in
    let next = next_there c.in_ok-instead.field-0 c.args.self.now c.next_tree.new.self way.0 way.1 way.2 way.3
    c.in_default.is c.in_ok-instead.ensures.next way.4 in
    let none : false ≡ true = sym (ap is_some c.in_default-command.is) ∙ ap is_some next.1 in cc

pub overflow_add-number : goal.overflow_add-number
overflow_add-number c =
    let way = c.requires.room.way in
    let m = c.next_tree.new.self in
    let n = held_there c.in_ok-instead.field-0 c.args.self.now m way.0 way.1 way.2 way.3 c.in-Some-command.tree
    c.in_default.is c.in-Some-command.is c.in_ok-instead.ensures.next way.4 in
    let most = room_for_one c.requires.room.few c.args.self.now way.0 way.1 (sexp_of c.in-Some-command.tree) n.left
    way.2 way.3 n.first way.4 in
    let same = ap (λ d. d.commands) c.next_tree.ensures.dialogue in
    omega (arith, most, same, c.requires.room.script)

pub returns-in-Err-clause-turn : goal.returns-in-Err-clause-turn
returns-in-Err-clause-turn c = λ texts pairs later rest way.
    let m = c.next_tree.new.self in
    let t = c.in-Some-command.tree in
    let n = held_there c.in_ok-instead.field-0 c.args.self.now m texts pairs later rest t c.in_default.is
    c.in-Some-command.is c.in_ok-instead.ensures.next way in
    refused_turn c.args.self.now m texts pairs later rest t c.in-Err.flaw c.refused.result n c.next_tree.ensures.dialogue
    (read_again (profile_of m.dialogue.stack) c.profile.result (sexp_of t) (view.sexp_of c.view.result) _
    c.profile.ensures c.view.ensures c.in-Err.ensures) c.refused.ensures

pub take_up-requires-clause-commands : goal.take_up-requires-clause-commands
take_up-requires-clause-commands c =
    let way = c.requires.room.way in
    let m = c.next_tree.new.self in
    let h = (held_there c.in_ok-instead.field-0 c.args.self.now m way.0 way.1 way.2 way.3 c.in-Some-command.tree
    c.in_default.is c.in-Some-command.is c.in_ok-instead.ensures.next way.4).way (command_view c.in-Ok.command)
    (read_again (profile_of m.dialogue.stack) c.profile.result (sexp_of c.in-Some-command.tree)
    (view.sexp_of c.view.result) _ c.profile.ensures c.view.ensures c.in-Ok.ensures) in
    let turn = subst (λ o. IsInTurn (profile_of m.dialogue.stack) o way.1 way.2 h.left) c.in-Some-command.is h.in_turn
    in
    let most = room_for_one c.requires.room.few m way.0 way.1
    (sexp_of c.in-Some-command.tree) h.left way.2 way.3 turn.1 h in
    omega (arith, most, c.next_tree.ensures.fed.script, c.requires.room.script)

pub take_up-requires-clause-answers : goal.take_up-requires-clause-answers
take_up-requires-clause-answers c =
    let way = c.requires.room.way in
    let m = c.next_tree.new.self in
    let h = (held_there c.in_ok-instead.field-0 c.args.self.now m way.0 way.1 way.2 way.3 c.in-Some-command.tree
    c.in_default.is c.in-Some-command.is c.in_ok-instead.ensures.next way.4).way (command_view c.in-Ok.command)
    (read_again (profile_of m.dialogue.stack) c.profile.result (sexp_of c.in-Some-command.tree)
    (view.sexp_of c.view.result) _ c.profile.ensures c.view.ensures c.in-Ok.ensures) in
    let turn = subst (λ o. IsInTurn (profile_of m.dialogue.stack) o way.1 way.2 h.left) c.in-Some-command.is h.in_turn
    in
    let most = room_for_one c.requires.room.few m way.0 way.1
    (sexp_of c.in-Some-command.tree) h.left way.2 way.3 turn.1 h in
    omega (
      arith,
      most,
      answers_at_most m way.0 way.1 way.2 way.3 h,
      c.next_tree.ensures.fed.script,
      c.requires.room.script,
    )

pub take_up-requires-clause-checks : goal.take_up-requires-clause-checks
take_up-requires-clause-checks c =
    let way = c.requires.room.way in
    let m = c.next_tree.new.self in
    let h = (held_there c.in_ok-instead.field-0 c.args.self.now m way.0 way.1 way.2 way.3 c.in-Some-command.tree
    c.in_default.is c.in-Some-command.is c.in_ok-instead.ensures.next way.4).way (command_view c.in-Ok.command)
    (read_again (profile_of m.dialogue.stack) c.profile.result (sexp_of c.in-Some-command.tree)
    (view.sexp_of c.view.result) _ c.profile.ensures c.view.ensures c.in-Ok.ensures) in
    let turn = subst (λ o. IsInTurn (profile_of m.dialogue.stack) o way.1 way.2 h.left) c.in-Some-command.is h.in_turn
    in
    let most = room_for_one c.requires.room.few m way.0 way.1
    (sexp_of c.in-Some-command.tree) h.left way.2 way.3 turn.1 h in
    omega (
      arith,
      most,
      checks_at_most m way.0 way.1 way.2 way.3 h,
      c.next_tree.ensures.fed.script,
      c.requires.room.script,
    )

pub take_up-requires-clause-stands : goal.take_up-requires-clause-stands
take_up-requires-clause-stands c =
    let way = c.requires.room.way in
    let m = c.next_tree.new.self in
    let h = (held_there c.in_ok-instead.field-0 c.args.self.now m way.0 way.1 way.2 way.3 c.in-Some-command.tree
    c.in_default.is c.in-Some-command.is c.in_ok-instead.ensures.next way.4).way (command_view c.in-Ok.command)
    (read_again (profile_of m.dialogue.stack) c.profile.result (sexp_of c.in-Some-command.tree)
    (view.sexp_of c.view.result) _ c.profile.ensures c.view.ensures c.in-Ok.ensures) in (
      way.0.taken,
      h.early,
      way.1,
      h.stands,
      λ e. subst (λ o. IsClosing (profile_of c.next_tree.new.self.dialogue.stack) o way.0 way.2) c.in-Some-command.is
          (h.closing e)
          (command_view c.in-Ok.command)
          (read_again (profile_of c.next_tree.new.self.dialogue.stack) c.profile.result
          (sexp_of c.in-Some-command.tree)
          (view.sexp_of c.view.result) _ c.profile.ensures c.view.ensures c.in-Ok.ensures),
    )

pub take_up-requires-clause-front : goal.take_up-requires-clause-front
take_up-requires-clause-front c =
    let way = c.requires.room.way in
    let m = c.next_tree.new.self in
    let h = (held_there c.in_ok-instead.field-0 c.args.self.now m way.0 way.1 way.2 way.3 c.in-Some-command.tree
    c.in_default.is c.in-Some-command.is c.in_ok-instead.ensures.next way.4).way (command_view c.in-Ok.command)
    (read_again (profile_of m.dialogue.stack) c.profile.result (sexp_of c.in-Some-command.tree)
    (view.sexp_of c.view.result) _ c.profile.ensures c.view.ensures c.in-Ok.ensures) in
    (way.0.answers_bytes, way.0.answers, way.3, h.answers_front)

pub take_up-requires-clause-last : goal.take_up-requires-clause-last
take_up-requires-clause-last c =
    let way = c.requires.room.way in
    (held_there c.in_ok-instead.field-0 c.args.self.now c.next_tree.new.self way.0 way.1 way.2 way.3
    c.in-Some-command.tree c.in_default.is c.in-Some-command.is c.in_ok-instead.ensures.next way.4).stands.last

pub returns-in-GoesOn-clause-turn : goal.returns-in-GoesOn-clause-turn
returns-in-GoesOn-clause-turn c = λ texts pairs later rest way.
    let m = c.next_tree.new.self in
    let h = (held_there c.in_ok-instead.field-0 c.args.self.now m texts pairs later rest c.in-Some-command.tree
    c.in_default.is c.in-Some-command.is c.in_ok-instead.ensures.next way).way (command_view c.in-Ok.command)
    (read_again (profile_of m.dialogue.stack) c.profile.result (sexp_of c.in-Some-command.tree)
    (view.sexp_of c.view.result) _ c.profile.ensures c.view.ensures c.in-Ok.ensures) in
    turned_behind c.in_ok-turn.turn c.args.self.now m _ texts pairs later rest c.next_tree.ensures.dialogue
    (taken_up c.in_ok-turn.turn m _ texts pairs later rest c.in-Some-command.tree
    (command_view c.in-Ok.command) c.in-Some-command.is
    (read_again (profile_of m.dialogue.stack) c.profile.result (sexp_of c.in-Some-command.tree)
    (view.sexp_of c.view.result) _ c.profile.ensures c.view.ensures c.in-Ok.ensures) c.give_back.ensures.queue
    c.in_ok-turn.ensures.start (λ e. c.give_back.ensures.command) (λ closed e. absurd (cc))
    (λ early stands check. c.in_ok-turn.ensures.turn texts.answers_bytes texts.answers rest texts.taken early pairs
    h.answers_front
    stands check) h)

pub returns-in_default-turn-clause-turn : goal.returns-in_default-turn-clause-turn
returns-in_default-turn-clause-turn c = λ texts pairs later rest way.
    let m = c.next_tree.new.self in
    let h = (held_there c.in_ok-instead.field-0 c.args.self.now m texts pairs later rest c.in-Some-command.tree
    c.in_default.is c.in-Some-command.is c.in_ok-instead.ensures.next way).way (command_view c.in-Ok.command)
    (read_again (profile_of m.dialogue.stack) c.profile.result (sexp_of c.in-Some-command.tree)
    (view.sexp_of c.view.result) _ c.profile.ensures c.view.ensures c.in-Ok.ensures) in
    turned_behind c.in_ok-turn.turn c.args.self.now m _ texts pairs later rest c.next_tree.ensures.dialogue
    (taken_up c.in_ok-turn.turn m _ texts pairs later rest c.in-Some-command.tree
    (command_view c.in-Ok.command) c.in-Some-command.is
    (read_again (profile_of m.dialogue.stack) c.profile.result (sexp_of c.in-Some-command.tree)
    (view.sexp_of c.view.result) _ c.profile.ensures c.view.ensures c.in-Ok.ensures) (λ bytes text left q. q)
    c.in_ok-turn.ensures.start (λ e. absurd (c.in_default-turn.not-GoesOn e)) (λ closed e. c.in-Some-command.is)
    (λ early stands check. c.in_ok-turn.ensures.turn texts.answers_bytes texts.answers rest texts.taken early pairs
    h.answers_front
    stands check) h)
