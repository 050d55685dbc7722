use Rattle.std.proofs.Common.{ap, ◌∙◌, bit_and}
use Rattle.std.proofs.lemmas.Nat.{and_mask}
use Rattle.smt_bits.specs.BitVector.{vector}
use Rattle.smt_bits.proofs.bits.Bits.new.Goals as goal

pub returns : goal.returns
returns c = ap (λ n. vector c.args.width n)
    (c.new.ensures ∙ ap (λ n. bit_and c.args.n n) c.mask.ensures ∙ and_mask c.args.n c.args.width)
