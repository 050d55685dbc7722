use Rattle.std.proofs.Common.{rules}
use Rattle.smt_forms.proofs.bindings.are_named.Goals as goal

pub loop-rest-preserved : goal.loop-rest-preserved
loop-rest-preserved c = search rules

pub returns : goal.returns
returns c = search rules
