use Rattle.std.proofs.Common.{refl}
use Rattle.smt_dialogue.proofs.GivenLemmas.{given_new}
use Rattle.smt_dialogue.proofs.given_text.GivenText.new.Goals as goal

pub returns : goal.returns
returns c = record {
  given = λ whole read.
      given_new c.one_reading.ensures.one c.read_trees_stay.ensures.stay c.read_faults_stay.ensures.stay
      c.every_text_reads.ensures.some _ c.args.max_depth whole refl c.new.ensures.limit c.new.ensures.front read;
}
