use Rattle.std.proofs.Common.{refl, subst}
use Rattle.smt_theory.specs.declared.theories.Theories.{Theories}
use Rattle.smt_terms.specs.Library as library
use Rattle.smt_terms.specs.Signature.{no_names}
use Rattle.smt_script.proofs.LevelLemmas.{reset_effect}
use Rattle.smt_script.proofs.stack.Stack.reset.Goals as goal

pub returns-clause-effect : goal.returns-clause-effect
returns-clause-effect c =
    reset_effect c.args.self.now
    (record c.args.self.now {
      library = c.new.result;
      assertions = c.truncate.new.self;
      levels =
          c.clear.new.self;
    })
    (record {
      library = subst (λ (t : Theories). library.StandsFor c.new.result (no_names t))
          c.all_theories.ensures c.new.ensures.stands;
      assertions = c.truncate.ensures.items;
      levels = c.clear.ensures;
    })
    (record { logic = refl; global = refl; print_success = refl; start = refl; exited = refl; last = refl })
