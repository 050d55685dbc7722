use Rattle.smt_dialogue.proofs.AdvanceLemmas.{few_told}
use Rattle.smt_dialogue.proofs.pairing.trees_are_few.Goals as goal

pub returns : goal.returns
returns c = record {
  few = few_told c.every_text_reads.ensures.some c.read_trees_stay.ensures.stay
      c.trees_are_no_more_than_bytes.ensures.few;
}
