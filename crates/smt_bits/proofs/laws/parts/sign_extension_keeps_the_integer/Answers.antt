use Rattle.smt_bits.proofs.SignedReadingLemmas.{signed_extended}
use Rattle.smt_bits.proofs.laws.parts.sign_extension_keeps_the_integer.Goals as goal

pub returns : goal.returns
returns c = signed_extended
