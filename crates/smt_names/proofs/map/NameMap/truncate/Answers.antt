use Rattle.std.proofs.Common.{ap, ◌∙◌, take}
use Rattle.smt_names.specs.Entries.{entries_of, paired}
use Rattle.smt_names.proofs.EntryLemmas.{paired-take}
use Rattle.smt_names.proofs.map.NameMap.truncate.Goals as goal

pub returns : goal.returns
unfolding entries_of
returns g c =
    let map = c.args.self.now in
    ap (λ xs. paired xs c.truncate.new.self.items) c.cut.ensures
    ∙ ap (λ vs. paired (take c.args.len map.names) vs) c.truncate.ensures.items
    ∙ paired-take c.args.len map.names map.values.items
