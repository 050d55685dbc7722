use Rattle.smt_eval.proofs.CompleteModelLemmas.{sound}
use Rattle.smt_eval.proofs.StructureSortLemmas.{structure_of_model}
use Rattle.smt_eval.proofs.laws.models_give_structures.Goals as goal

pub returns : goal.returns
returns c = λ script parts definitions whole introduced.
    structure_of_model c.sorts_are_kept.ensures script definitions parts introduced
    (sound (λ script earlier tree e h. record {
      fresh = c.items_are_well_sorted.ensures.fresh script earlier tree e h;
      sorted = c.items_are_well_sorted.ensures.sorted script earlier tree e h;
      ranked = λ d at. c.items_are_well_sorted.ensures.ranked script earlier tree e d h at;
      free = c.items_are_well_sorted.ensures.free script earlier tree e h;
    }) script parts definitions whole) (c.models_are_complete.ensures script parts definitions whole)
