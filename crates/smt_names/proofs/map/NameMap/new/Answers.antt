use Rattle.std.proofs.Common.{ap}
use Rattle.smt_names.specs.Entries.{entries_of, paired}
use Rattle.smt_names.proofs.map.NameMap.new.Goals as goal

pub returns : goal.returns
unfolding entries_of
returns g c = ap (λ xs. paired xs c.new-2.result.items) c.new.ensures
