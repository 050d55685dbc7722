use Rattle.std.proofs.Common.{ap, sym, ◌∙◌}
use Rattle.smt_values.specs.ElementNumbers.{numbered_in}
use Rattle.smt_forms.specs.Identifier.{Plain}
use Rattle.smt_eval.specs.Known.{known_of_op}
use Rattle.smt_plain.specs.PlainTerm.{known_singles, unless_array}
use Rattle.smt_plain.proofs.PlainLemmas.{element_takes_none}
use Rattle.smt_plain.proofs.SingleLemmas.{single_step}
use Rattle.smt_plain.proofs.names.known_of_plain.Goals as goal

pub returns-in-Ok : goal.returns-in-Ok
returns-in-Ok c =
    single_step c.in-Ok.op c.args.args.now c.apply.result c.apply.ensures
    ∙ sym (ap (λ o. unless_array (known_of_op (numbered_in c.args.names.now) o (Plain c.args.name.now)
    (known_singles c.args.args.now))) c.in-Ok.is)

pub returns-in-Err-2 : goal.returns-in-Err-2
returns-in-Err-2 c = element_takes_none (numbered_in c.args.names.now) c.args.op c.in-Err-2.field-0 c.args.name.now c.args.args.now c.in-Err-2.is
    c.if-is_empty.ensures
