use Rattle.std.proofs.Common.{ap, sym, ◌∙◌}
use Rattle.indexmap.specs.IndexMap.{keys}
use Rattle.smt_names.specs.Places.{place_of}
use Rattle.smt_names.proofs.PlaceLemmas.{position-place}
use Rattle.smt_names.proofs.table.search.Goals as goal

pub returns-in-Some : goal.returns-in-Some
returns-in-Some c =
    let names = keys c.args.names.now in
    sym c.in-Some.is ∙ c.get_index_of.ensures.index ∙ position-place names c.new.result.bytes.now c.requires.distinct
    ∙ ap (λ n. place_of names n) c.new.ensures

pub returns-in-None : goal.returns-in-None
returns-in-None c =
    let names = keys c.args.names.now in
    sym c.in-None.is ∙ c.get_index_of.ensures.index ∙ position-place names c.new.result.bytes.now c.requires.distinct
    ∙ ap (λ n. place_of names n) c.new.ensures
