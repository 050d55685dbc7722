use Rattle.smt_names.specs.Internal.Keys.{short_key}
use Rattle.smt_names.proofs.keys.short.Goals as goal

pub returns : goal.returns
unfolding short_key
returns c = cc
