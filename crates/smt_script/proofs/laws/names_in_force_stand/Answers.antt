use Rattle.smt_script.specs.Stack.{Brought, NamesStand, name_stands_after}
use Rattle.smt_script.proofs.BroughtLemmas.{brought_in_order, names_in_words, part_found, part_stands}
use Rattle.smt_script.proofs.laws.names_in_force_stand.Goals as goal

pub returns : goal.returns
returns c = record {
  stands = λ profile commands earlier d s.
      part_stands profile name_stands_after NamesStand (names_in_words profile) (λ (b : Brought). b.entries)
      commands earlier d s s.later s.place;
  found = λ profile. part_found profile name_stands_after NamesStand (names_in_words profile)
      (λ (b : Brought). b.entries);
  ordered = λ profile. brought_in_order profile name_stands_after NamesStand (names_in_words profile)
      (λ (b : Brought). b.entries);
}
