use Rattle.std.proofs.Common.{◌∷◌, ◌++◌, [], ap, ◌∙◌}
use Rattle.smt_names.specs.Entries.{entries_of, paired}
use Rattle.smt_names.proofs.EntryLemmas.{on_err, paired-grown, paired-longer, unplaced}
use Rattle.smt_names.proofs.map.NameMap.insert.Goals as goal

pub returns-in_err-reserve-clause-unchanged : goal.returns-in_err-reserve-clause-unchanged
unfolding entries_of
returns-in_err-reserve-clause-unchanged g c =
    on_err c.from_residual.result (ap (λ vs. paired c.args.self.now.names vs) c.reserve.ensures.items)

pub returns-in_err-add-clause-unchanged : goal.returns-in_err-add-clause-unchanged
unfolding entries_of
returns-in_err-add-clause-unchanged g c =
    on_err c.from_residual-in_err-add.result
    (ap (λ xs. paired xs c.reserve.new.self.items) c.in_err-add.ensures.unchanged
    ∙ ap (λ vs. paired c.args.self.now.names vs) c.reserve.ensures.items)

pub add-requires : goal.add-requires
unfolding entries_of
add-requires g c =
    let map = c.args.self.now in unplaced map.names map.values.items c.args.name.now map.paired c.requires

pub invariant_of-self-2 : goal.invariant_of-self-2
unfolding entries_of
invariant_of-self-2 g c =
    let map = c.args.self.now in
    let name = c.args.name.now in
    record {
      paired =
          paired-longer map.names c.add.new.self map.values.items c.push_reserved.new.self.items name c.args.value map.paired
          c.in_ok-add.ensures.added
          (c.push_reserved.ensures.items ∙ ap (λ vs. vs ++ c.args.value ∷ []) c.reserve.ensures.items);
    }

pub returns-clause-inserted : goal.returns-clause-inserted
unfolding entries_of
returns-clause-inserted g c =
    let map = c.args.self.now in
    paired-grown map.names c.add.new.self map.values.items c.push_reserved.new.self.items c.args.name.now c.args.value map.paired
    c.in_ok-add.ensures.added
    (c.push_reserved.ensures.items ∙ ap (λ vs. vs ++ c.args.value ∷ []) c.reserve.ensures.items)
