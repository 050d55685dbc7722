use Rattle.std.proofs.Common.{ap, sym, ◌∙◌}
use Rattle.smt_forms.specs.Identifier.{Indexed}
use Rattle.smt_eval.specs.Known.{known_of_op}
use Rattle.smt_plain.specs.PlainTerm.{known_singles, unless_array}
use Rattle.smt_plain.proofs.SingleLemmas.{single_step}
use Rattle.smt_plain.proofs.names.known_of_indexed.Goals as goal

pub returns-in-Ok : goal.returns-in-Ok
returns-in-Ok c = λ element name indexes.
    single_step c.in-Ok.op c.args.args.now c.apply.result c.apply.ensures
    ∙ sym (ap (λ o. unless_array (known_of_op element o (Indexed name indexes) (known_singles c.args.args.now)))
    c.in-Ok.is)
