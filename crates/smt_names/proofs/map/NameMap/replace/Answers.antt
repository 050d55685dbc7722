use Rattle.std.proofs.Common.{◌≡◌, ap, sym, ◌∙◌, arith, drop, length}
use Rattle.std.proofs.lemmas.List.{length-set}
use Rattle.std.specs.Prelude.{slice_get, slice_set}
use Rattle.smt_theory.specs.Words.{look_up}
use Rattle.smt_names.specs.Entries.{entries_of, paired}
use Rattle.smt_names.proofs.PlaceLemmas.{kept}
use Rattle.smt_names.proofs.EntryLemmas.{absent, found, new_value, on_err, place_within, set_value, with_value_alone}
use Rattle.smt_names.proofs.map.NameMap.replace.Goals as goal

pub replace_at-requires : goal.replace_at-requires
replace_at-requires g c =
    let map = c.args.self.now in
    let below = place_within map.names map.values.items c.args.name.now c.in-Some.place map.paired
    (sym c.find.ensures.place ∙ c.in-Some.is) in
    omega (arith, below, ap length c.as_mut_slice-values.ensures.value)

pub insert-requires : goal.insert-requires
unfolding entries_of
insert-requires g c =
    let map = c.args.self.now in
    absent map.names map.values.items c.args.name.now (sym c.find.ensures.place ∙ c.in-None.is)

pub returns-in_err-insert-in-None-clause-refused : goal.returns-in_err-insert-in-None-clause-refused
unfolding entries_of
returns-in_err-insert-in-None-clause-refused g c =
    let map = c.args.self.now in
    on_err c.from_residual.result
    (absent map.names map.values.items c.args.name.now (sym c.find.ensures.place ∙ c.in-None.is))

pub returns-in-Some-clause-old : goal.returns-in-Some-clause-old
unfolding entries_of
returns-in-Some-clause-old g c =
    let map = c.args.self.now in
    c.replace_at.ensures.old ∙ ap (λ vs. slice_get vs c.in-Some.place) c.as_mut_slice-values.ensures.value
    ∙ sym (found map.names map.values.items c.args.name.now c.in-Some.place map.paired c.find.ensures.distinct
    (sym c.find.ensures.place ∙ c.in-Some.is))

pub returns-in-Some-clause-replaced : goal.returns-in-Some-clause-replaced
unfolding entries_of
returns-in-Some-clause-replaced g c =
    let map = c.args.self.now in
    let set : c.replace_at.new.values ≡ slice_set map.values.items c.in-Some.place c.args.value =
    c.replace_at.ensures.new
    ∙ ap (λ vs. slice_set vs c.in-Some.place c.args.value) c.as_mut_slice-values.ensures.value in
    let size : map.values.len ≡ length c.replace_at.new.values =
    omega (arith, map.values.ok.0, ap length set, length-set map.values.items c.in-Some.place c.args.value) in
    ap (λ vs. paired map.names vs)
    (kept map.values.len c.replace_at.new.values (drop (length c.replace_at.new.values) map.values.items) size ∙ set)
    ∙ set_value map.names map.values.items c.args.name.now c.in-Some.place c.args.value map.paired
    c.find.ensures.distinct (sym c.find.ensures.place ∙ c.in-Some.is)

pub returns-in_ok-insert-in-None-clause-old : goal.returns-in_ok-insert-in-None-clause-old
unfolding entries_of
returns-in_ok-insert-in-None-clause-old g c =
    let map = c.args.self.now in
    sym (absent map.names map.values.items c.args.name.now (sym c.find.ensures.place ∙ c.in-None.is))

pub returns-in_ok-insert-in-None-clause-replaced : goal.returns-in_ok-insert-in-None-clause-replaced
returns-in_ok-insert-in-None-clause-replaced g c =
    c.in_ok-insert-in-None.ensures.inserted
    ∙ sym (new_value (entries_of c.args.self.now) c.args.name.now c.args.value
    (sym (returns-in_ok-insert-in-None-clause-old g c)))

pub returns-in-Some-clause-alone : goal.returns-in-Some-clause-alone
returns-in-Some-clause-alone g c other =
    ap (λ es. look_up es other) (returns-in-Some-clause-replaced g c)
    ∙ with_value_alone (entries_of c.args.self.now) c.args.name.now c.args.value other

pub returns-in_ok-insert-in-None-clause-alone : goal.returns-in_ok-insert-in-None-clause-alone
returns-in_ok-insert-in-None-clause-alone g c other =
    ap (λ es. look_up es other) (returns-in_ok-insert-in-None-clause-replaced g c)
    ∙ with_value_alone (entries_of c.args.self.now) c.args.name.now c.args.value other
