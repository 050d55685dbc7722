use Rattle.std.proofs.Common.{arith}
use Rattle.smt_names.specs.Entries.{entries_of}
use Rattle.smt_names.proofs.EntryLemmas.{paired-length}
use Rattle.smt_names.proofs.map.NameMap.len.Goals as goal

pub returns : goal.returns
unfolding entries_of
returns g c =
    let map = c.args.self.now in
    omega (arith, c.len.ensures, map.values.ok.0, paired-length map.names map.values.items map.paired)
