-- The stack and the checks go on by one pair, and the lines that it decides are added.
use Rattle.std.proofs.Common.{◌+◌, ◌++◌, ◌∙◌, ap, append_assoc, option_map, refl, sym}
use Rattle.smt_script.specs.CommandView.{command_view}
use Rattle.smt_dialogue.proofs.AnswerLemmas.{counted}
use Rattle.smt_dialogue.proofs.AcceptedLemmas.{accepted, begins_same, refused_fault, refused_stands}
use Rattle.smt_dialogue.specs.Internal.AnswerView.{tree_of}
use Rattle.smt_dialogue.specs.Internal.ChecksState.{new_lines}
use Rattle.smt_dialogue.specs.Internal.AcceptedState.{state_behind}
use Rattle.smt_dialogue.specs.Pairs.{effective_commands}
use Rattle.smt_dialogue.proofs.accepted.AcceptedPairs.accept.Goals as goal

pub returns-clause-accepted : goal.returns-clause-accepted
returns-clause-accepted c = λ taken early pairs stands check.
    let d = c.args.self.now in
    let s = state_behind taken d in
    let m = taken ++ d.decided.lines.items in
    let new = new_lines c.in-Ok.lines in
    accepted early s _ new (d.commands + 1) pairs (command_view c.args.command.now)
    (option_map tree_of c.args.answer.now) c.args.kind refl c.requires.kind check stands
    c.apply_if.ensures.start
    (c.in_default.ensures.applied (effective_commands pairs) stands.stack)
    c.in_default.ensures.last
    c.in-Ok.ensures.checks
    refl (ap (λ n. s.answers + n)
    (counted c.args.answer.now c.is_some.result c.from-count.result c.from-count.ensures c.is_some.ensures))
    (ap (λ ls. taken ++ ls) c.in-Ok-add.ensures.lines ∙ sym (append_assoc taken d.decided.lines.items new))
    c.requires.checks (c.in-Ok-add.ensures.tally m)

pub returns-in-Err-clause-refused : goal.returns-in-Err-clause-refused
returns-in-Err-clause-refused c = λ flaw told taken early pairs stands.
    let s = state_behind taken c.args.self.now in
    let t = record s { stack = c.apply_if.new.stack } in
    let commands = effective_commands pairs in
    refused_fault early s t (s.commands + 1) pairs (command_view c.args.command.now)
    (option_map tree_of c.args.answer.now)
    c.in-Err.fault flaw refl stands (c.in-Err.ensures.refused commands stands.stack) told
    (refused_stands early s t pairs stands c.apply_if.ensures.start (c.in-Err.ensures.unchanged.0 commands stands.stack)
    c.in-Err.ensures.unchanged.1 refl refl refl refl refl)

pub returns-in_default-add-clause-kept : goal.returns-in_default-add-clause-kept
returns-in_default-add-clause-kept c =
    begins_same c.args.self.now.decided.lines.items c.add.new.self.lines.items c.in_default-add.ensures.kept
