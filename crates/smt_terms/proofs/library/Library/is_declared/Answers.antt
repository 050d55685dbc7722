use Rattle.std.proofs.Common.{◌∙◌}
use Rattle.smt_terms.specs.Internal.LibraryView.{rank_of}
use Rattle.smt_terms.specs.Signature.{declared_named, rank_of_entry}
use Rattle.smt_terms.proofs.NameLookUps.{same_some}
use Rattle.smt_terms.proofs.library.Library.is_declared.Goals as goal

pub returns : goal.returns
returns c = λ s stands.
    c.is_some.ensures ∙ same_some (λ e. rank_of e.now) rank_of_entry c.get_declared.result
    (declared_named s.entries c.args.name.now) (c.get_declared.ensures s stands)
