use Rattle.std.proofs.Common.{refl}
use Rattle.smt_dialogue.proofs.GivenLemmas.{given_matches}
use Rattle.smt_dialogue.proofs.given_text.GivenText.take.Goals as goal

pub returns : goal.returns
returns c = record {
  taken = given_matches c.args.self.now _ c.take.result refl refl c.take.ensures.limit c.take.ensures.taken;
}
