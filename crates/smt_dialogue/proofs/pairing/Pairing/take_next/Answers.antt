use Rattle.std.proofs.Common.{refl, sym, ◌∙◌}
use Rattle.smt_dialogue.specs.Pairs.{effective_commands}
use Rattle.smt_dialogue.proofs.PairingLemmas.{tree_taken}
use Rattle.smt_dialogue.proofs.pairing.Pairing.take_next.Goals as goal

pub returns-clause-next : goal.returns-clause-next
returns-clause-next c = λ texts pairs later rest h.
    tree_taken c.args.self.now _ texts pairs later rest c.in-Some.tree c.requires.none refl
    refl refl c.in-Some.ensures.taken.0 c.in-Some.ensures.taken.1
    (sym (c.exited.ensures (effective_commands pairs) h.stands.stack) ∙ c.if-exited.false) h
