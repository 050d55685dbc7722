use Rattle.std.proofs.Common.{ap, sym, ◌∙◌, Some}
use Rattle.std.specs.Option.{option_copied}
use Rattle.std.specs.Prelude.{slice_get}
use Rattle.smt_names.specs.Entries.{entries_of}
use Rattle.smt_names.proofs.EntryLemmas.{paired-none, paired-some}
use Rattle.smt_names.proofs.map.NameMap.get_index.Goals as goal

pub returns-in-Some : goal.returns-in-Some
unfolding entries_of
returns-in-Some g c =
    let map = c.args.self.now in
    ap (λ x. Some (x, c.in-Some.value.now)) c.name.ensures
    ∙ sym (paired-some map.names map.values.items c.args.place c.in-Some.value.now map.paired
    (ap (λ vs. slice_get vs c.args.place) (sym c.as_slice.ensures.value) ∙ sym c.value_at.ensures
    ∙ ap option_copied c.in-Some.is))

pub returns-in-None : goal.returns-in-None
unfolding entries_of
returns-in-None g c =
    let map = c.args.self.now in
    sym (paired-none map.names map.values.items c.args.place
    (ap (λ vs. slice_get vs c.args.place) (sym c.as_slice.ensures.value) ∙ sym c.value_at.ensures
    ∙ ap option_copied c.in-None.is))
