use Rattle.std.proofs.Common.{Ok, Err, ap, cond, ◌∙◌}
use Rattle.smt_theory.specs.Sort.{Int, Real}
use Rattle.smt_faults.specs.declared.term_flaw.TermFlaw.TheVariants.{Unknown, Unsupported}
use Rattle.smt_terms.proofs.laws.literals_are_integers_or_reals.Goals as goal

pub returns-clause-integer : goal.returns-clause-integer
returns-clause-integer c = λ names scope digits ints.
    ap (λ b. cond b (Ok Int) (cond names.theories.reals (Ok Real) (Err Unknown))) ints

pub returns-clause-real : goal.returns-clause-real
returns-clause-real c = λ names scope digits none reals.
    ap (λ b. cond b (Ok Int) (cond names.theories.reals (Ok Real) (Err Unknown))) none
    ∙ ap (λ b. cond b (Ok Real) (Err Unknown)) reals

pub returns-clause-decimal : goal.returns-clause-decimal
returns-clause-decimal c = λ names scope digits reals.
    ap (λ b. cond b (Ok Real) (Err (cond names.theories.wide Unknown Unsupported))) reals

pub returns-clause-unknown : goal.returns-clause-unknown
returns-clause-unknown c = λ names scope digits none wide.
    ap (λ b. cond b (Ok Real) (Err (cond names.theories.wide Unknown Unsupported))) none
    ∙ ap (λ b. Err (cond b Unknown Unsupported)) wide

pub returns-clause-unsupported : goal.returns-clause-unsupported
returns-clause-unsupported c = λ names scope digits none wide.
    ap (λ b. cond b (Ok Real) (Err (cond names.theories.wide Unknown Unsupported))) none
    ∙ ap (λ b. Err (cond b Unknown Unsupported)) wide
