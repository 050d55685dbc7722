use Rattle.std.proofs.Common.{ap, ◌∙◌}
use Rattle.smt_names.specs.Entries.{entries_of, paired}
use Rattle.smt_names.proofs.map.NameMap.reserve.Goals as goal

pub returns-in_err-reserve : goal.returns-in_err-reserve
unfolding entries_of
returns-in_err-reserve g c = ap (λ vs. paired c.args.self.now.names vs) c.reserve.ensures.items

pub returns : goal.returns
unfolding entries_of
returns g c =
    ap (λ xs. paired xs c.reserve.new.self.items) c.reserve-2.ensures
    ∙ ap (λ vs. paired c.args.self.now.names vs) c.reserve.ensures.items
