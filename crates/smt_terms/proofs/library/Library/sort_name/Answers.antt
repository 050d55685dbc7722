use Rattle.std.proofs.Common.{ap, ◌∙◌}
use Rattle.smt_terms.specs.DeclaredSorts.{name_of_sort}
use Rattle.smt_terms.proofs.library.Library.sort_name.Goals as goal

pub returns : goal.returns
returns c = λ s stands. c.name_of_sort.ensures ∙ ap (λ es. name_of_sort es c.args.sort) stands.abbreviations
