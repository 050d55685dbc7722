use Rattle.smt_theory.specs.declared.profile.Profile.TheVariants.{Base}
use Rattle.smt_script.proofs.HistoryLemmas.{unfixed_is_empty}
use Rattle.smt_script.proofs.SinceLemmas.{late_since, set_since}
use Rattle.smt_script.proofs.laws.logics_are_set_first.Goals as goal

pub returns-clause-set : goal.returns-clause-set
returns-clause-set c = set_since

pub returns-clause-late : goal.returns-clause-late
returns-clause-late c = late_since

pub returns-clause-names : goal.returns-clause-names
returns-clause-names c = λ profile cs late. (unfixed_is_empty profile cs late).0.entries

pub returns-clause-abbreviations : goal.returns-clause-abbreviations
returns-clause-abbreviations c = λ profile cs late. (unfixed_is_empty profile cs late).0.abbreviations

pub returns-clause-assertions : goal.returns-clause-assertions
returns-clause-assertions c = λ profile cs late. (unfixed_is_empty profile cs late).0.assertions

pub returns-clause-levels : goal.returns-clause-levels
returns-clause-levels c = λ cs late. (unfixed_is_empty Base cs late).1
