use Rattle.smt_arrays.proofs.LookupLemmas.{filled_is_table}
use Rattle.smt_arrays.proofs.lookup.filled_table.Goals as goal

pub returns-clause-made : goal.returns-clause-made
returns-clause-made c =
    λ cells forks h held. filled_is_table cells c.number.new.self forks c.args.element.now c.in_ok-number.number
    c.is_plain.result h held c.in_ok-number.ensures.within c.in_ok-number.ensures.value c.is_plain.ensures
