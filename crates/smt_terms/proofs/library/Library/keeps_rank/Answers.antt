use Rattle.std.proofs.Common.{Some, None, ◌∙◌}
use Rattle.smt_terms.specs.Internal.LibraryView.{rank_of}
use Rattle.smt_terms.specs.Signature.{declared_named}
use Rattle.smt_terms.proofs.ItemLemmas.{keeps}
use Rattle.smt_terms.proofs.library.Library.keeps_rank.Goals as goal

pub returns-in-None : goal.returns-in-None
returns-in-None c = λ s stands. keeps (declared_named s.entries c.args.name.now) None c.args.parameters.now
    c.args.sort (c.in-None.ensures s stands)

pub returns-in-Some : goal.returns-in-Some
returns-in-Some c = λ s stands.
    c.has_rank.ensures ∙ keeps (declared_named s.entries c.args.name.now)
    (Some (rank_of c.in-Some.entry.now)) c.args.parameters.now c.args.sort (c.in-Some.ensures s stands)
