use Rattle.smt_eval.proofs.CompleteModelLemmas.{complete}
use Rattle.smt_eval.proofs.laws.models_are_complete.Goals as goal

pub returns : goal.returns
returns c = complete (λ script earlier tree e h. record {
  fresh = c.items_are_well_sorted.ensures.fresh script earlier tree e h;
  sorted = c.items_are_well_sorted.ensures.sorted script earlier tree e h;
  ranked = λ d at. c.items_are_well_sorted.ensures.ranked script earlier tree e d h at;
  free = c.items_are_well_sorted.ensures.free script earlier tree e h;
})
