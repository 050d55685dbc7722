use Rattle.std.proofs.Common.{refl}
use Rattle.smt_dialogue.proofs.PairingLemmas.{handed_out}
use Rattle.smt_dialogue.proofs.pairing.Pairing.take_lines.Goals as goal

pub returns-clause-way : goal.returns-clause-way
returns-clause-way c = λ texts pairs later rest h.
    handed_out c.args.self.now _ texts c.take.result.items pairs later rest c.take.ensures.taken c.take.ensures.rest
    c.take.ensures.tally refl refl refl refl refl refl refl h
