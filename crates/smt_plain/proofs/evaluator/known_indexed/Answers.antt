use Rattle.std.proofs.Common.{[], ap, sym, ◌∙◌}
use Rattle.smt_trees.specs.View.{sexps_of}
use Rattle.smt_values.specs.ElementNumbers.{numbered_in}
use Rattle.smt_forms.specs.IdentifierView.{identifier_view}
use Rattle.smt_plain.specs.Internal.PlainEvaluation.{meaning_of}
use Rattle.smt_eval.specs.Known.{known_by}
use Rattle.smt_plain.specs.PlainTerm.{entries_of}
use Rattle.smt_plain.proofs.PlainLemmas.{indexed_is_operator}
use Rattle.smt_plain.proofs.evaluator.known_indexed.Goals as goal

pub returns-in-Ok : goal.returns-in-Ok
returns-in-Ok c =
    let f = identifier_view c.in-Ok.identifier in
    let theories = c.args.over.theories in
    let element = numbered_in c.args.over.names.now in
    indexed_is_operator element theories (entries_of c.args.over.seen.now) f (sexps_of c.args.parts)
    c.known_of_indexed.result c.operator.result c.in-Ok.ensures c.operator.ensures (c.known_of_indexed.ensures element)
    ∙ sym (ap (λ o. known_by o (λ g. (meaning_of c.args.over).gives g [])) c.in-Ok.ensures)
