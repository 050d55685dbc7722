use Rattle.smt_terms.specs.Signature.{declared_named}
use Rattle.smt_terms.proofs.ItemSortLemmas.{IsItem-taken, KeepsRank-tested, fit_is_free}
use Rattle.smt_terms.proofs.laws.items_are_well_sorted.Goals as goal

pub returns : goal.returns
returns c = record {
  sorted =
      λ script earlier tree e h. (IsItem-taken c.sorts_are_compared.ensures script earlier tree e h).sorted;
  fresh =
      λ script earlier tree e h. (IsItem-taken c.sorts_are_compared.ensures script earlier tree e h).fresh;
  ranked = λ script earlier tree e d h is.
      KeepsRank-tested c.sorts_are_compared.ensures (declared_named script.entries e.name) d e is
      (IsItem-taken c.sorts_are_compared.ensures script earlier tree e h).ranked;
  free = λ script earlier tree e h none. fit_is_free script e.name
      (IsItem-taken c.sorts_are_compared.ensures script earlier tree e h).fit none;
}
