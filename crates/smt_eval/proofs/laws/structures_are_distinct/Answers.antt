use Rattle.smt_eval.proofs.CompleteModelLemmas.{sound}
use Rattle.smt_eval.proofs.StructureLemmas.{structure_distinct}
use Rattle.smt_eval.proofs.laws.structures_are_distinct.Goals as goal

pub returns : goal.returns
returns c = λ script parts definitions whole distinct. structure_distinct script definitions distinct
    (sound (λ script earlier tree e h. record {
      fresh = c.items_are_well_sorted.ensures.fresh script earlier tree e h;
      sorted = c.items_are_well_sorted.ensures.sorted script earlier tree e h;
      ranked = λ d at. c.items_are_well_sorted.ensures.ranked script earlier tree e d h at;
      free = c.items_are_well_sorted.ensures.free script earlier tree e h;
    }) script parts definitions whole)
