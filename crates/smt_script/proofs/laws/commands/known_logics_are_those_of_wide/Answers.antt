use Rattle.std.proofs.Common.{◌≡◌, Bool, true, Option, Some, None, is_some, refl, ap}
use Rattle.smt_theory.specs.Theories.{theories_named}
use Rattle.smt_theory.specs.declared.profile.Profile.TheVariants.{Wide}
use Rattle.smt_theory.specs.declared.theories.Theories.{Theories}
use Rattle.smt_script.specs.Command.{is_known_logic}
use Rattle.smt_script.specs.declared.command.Kind.TheVariants as kinds
use Rattle.smt_script.proofs.laws.commands.known_logics_are_those_of_wide.Goals as goal

some_of : (o : Option Theories) → is_some o ≡ true → (theories : Theories) × (o ≡ Some theories)
some_of (Some theories) h = (theories, refl)
some_of None h = cc

told : (k : Bool) → kinds.Logic k ≡ kinds.Logic true → k ≡ true
told k h = cc

pub returns : goal.returns
unfolding is_known_logic
returns c = λ name. (
  λ h. some_of (theories_named Wide name) (told (is_some (theories_named Wide name)) h),
  λ found. ap (λ o. kinds.Logic (is_some o)) found.1,
)
