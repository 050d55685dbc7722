use Rattle.std.proofs.Common.{rules}
use Rattle.smt_forms.proofs.attributes.go_on.Goals as goal

pub returns-in_default-behind_attribute : goal.returns-in_default-behind_attribute
returns-in_default-behind_attribute c = search rules

pub loop-keyword-preserved : goal.loop-keyword-preserved
loop-keyword-preserved c = search rules

pub returns : goal.returns
returns c = search rules
