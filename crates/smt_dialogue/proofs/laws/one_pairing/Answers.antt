use Rattle.std.proofs.Common.{true, []}
use Rattle.smt_dialogue.proofs.PairingUnique as unique
use Rattle.smt_dialogue.proofs.laws.one_pairing.Goals as goal

pub returns : goal.returns
returns c = λ start xs ys trees answers later later' rest rest' len a b.
    unique.one_pairing true start
    [] xs ys trees later later' answers rest rest' len a.commands b.commands a.answered b.answered
    a.taken_so b.taken_so
