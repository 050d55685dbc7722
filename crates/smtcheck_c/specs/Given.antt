-- The options of a call from C, and the form of an explanation.
use Rattle.std.specs.Prelude.{◌≡◌, ℕ, if◌then◌else◌}
use Rattle.smt_remarks.specs.declared.form.Form.{Form}
use Rattle.smt_remarks.specs.declared.form.Form.TheVariants.{Json, Sarif, Text}
use Rattle.smt_theory.specs.declared.profile.Profile.TheVariants.{Base, Wide}
use Rattle.smt_dialogue.specs.declared.options.Options.{Options}
use Rattle.smtcheck_c.specs.declared.options.SmtcheckOptions.{SmtcheckOptions}

-- the options are those that C has given; what else they have is that the limit is in range
pub record AreGiven (given : SmtcheckOptions) (options : Options) : Type 0 where
  pub print_success : options.print_success ≡ given.print_success
  pub profile : options.profile ≡ (if given.wide then Wide else Base)
  pub steps : options.limit.steps ≡ given.steps

-- the number by which C names a form
abbrev pub number_of_form : Form → ℕ
number_of_form Text = 0
number_of_form Json = 1
number_of_form Sarif = 2
