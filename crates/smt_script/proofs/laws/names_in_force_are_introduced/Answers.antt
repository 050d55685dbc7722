use Rattle.smt_script.proofs.IntroducedLemmas.{names_introduced}
use Rattle.smt_script.proofs.laws.names_in_force_are_introduced.Goals as goal

pub returns : goal.returns
returns c =
    let law = c.definitions_are_well_sorted.ensures in
    λ profile. names_introduced profile (record
    { sorted = law.sorted; named = law.named; free = law.free; labels = c.labels_are_introduced.ensures })
