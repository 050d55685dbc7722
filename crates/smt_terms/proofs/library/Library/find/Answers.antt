use Rattle.std.proofs.Common.{ap, ◌∙◌}
use Rattle.smt_theory.specs.Words.{look_up}
use Rattle.smt_terms.proofs.ItemLemmas.{places_as}
use Rattle.smt_terms.proofs.PlaceLemmas.{found_named}
use Rattle.smt_terms.proofs.library.Library.find.Goals as goal

pub returns : goal.returns
returns c = λ s stands. found_named s.entries c.args.name.now c.place_of.result
    (c.place_of.ensures ∙ ap (λ ps. look_up ps c.args.name.now) (places_as c.args.self.now s stands))
