-- the items are over the theories of the declared names
use Rattle.smt_terms.specs.Library.{ReadsModelsOf}
use Rattle.rows.proofs.items.print_fields.Given as goal

abbrev pub invariant-loop-field : goal.invariant-loop-field
invariant-loop-field g l = ReadsModelsOf l.model l.script
