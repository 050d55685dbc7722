use Rattle.smt_terms.proofs.DefinitionSortLemmas.{IsTaken-defined}
use Rattle.smt_terms.proofs.laws.definitions_are_well_sorted.Goals as goal

pub returns : goal.returns
returns c = record {
  sorted = λ s x ps sort body e h. (IsTaken-defined c.sorts_are_compared.ensures s x ps sort body e h).sorted;
  named = λ s x ps sort body e h. (IsTaken-defined c.sorts_are_compared.ensures s x ps sort body e h).named;
  free = λ s x ps sort body e h. (IsTaken-defined c.sorts_are_compared.ensures s x ps sort body e h).free;
}
