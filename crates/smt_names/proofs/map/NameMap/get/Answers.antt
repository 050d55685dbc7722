use Rattle.std.proofs.Common.{ap, sym, ◌∙◌}
use Rattle.std.specs.Prelude.{slice_get}
use Rattle.smt_names.specs.Entries.{entries_of}
use Rattle.smt_names.proofs.EntryLemmas.{absent, found}
use Rattle.smt_names.proofs.map.NameMap.get.Goals as goal

pub returns-in-Some : goal.returns-in-Some
unfolding entries_of
returns-in-Some g c =
    let map = c.args.self.now in
    c.value_at.ensures ∙ ap (λ vs. slice_get vs c.in-Some.place) c.as_slice.ensures.value
    ∙ sym (found map.names map.values.items c.args.name.now c.in-Some.place map.paired c.find.ensures.distinct
    (sym c.find.ensures.place ∙ c.in-Some.is))

pub returns-in-None : goal.returns-in-None
unfolding entries_of
returns-in-None g c =
    let map = c.args.self.now in
    sym (absent map.names map.values.items c.args.name.now (sym c.find.ensures.place ∙ c.in-None.is))
