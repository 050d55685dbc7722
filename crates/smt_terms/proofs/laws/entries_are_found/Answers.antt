use Rattle.smt_terms.proofs.EntryLemmas.{absent_entry, found_entry}
use Rattle.smt_terms.proofs.laws.entries_are_found.Goals as goal

pub returns : goal.returns
returns c = record {
  found = found_entry;
  absent = absent_entry;
}
