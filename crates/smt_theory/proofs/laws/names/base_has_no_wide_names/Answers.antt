use Rattle.smt_theory.specs.Theories.{wide_logics, without_letters}
use Rattle.smt_theory.proofs.WideLemmas.{wide_named}
use Rattle.smt_theory.proofs.laws.names.base_has_no_wide_names.Goals as goal

pub returns-clause-wide : goal.returns-clause-wide
returns-clause-wide c = λ logic theories h. wide_named wide_logics (without_letters logic) theories h
