use Rattle.std.proofs.Common.{ap, ◌∙◌}
use Rattle.smt_trees.specs.View.{sexps_of}
use Rattle.smt_forms.specs.IdentifierView.{identifier_view}
use Rattle.smt_terms.specs.Blame.{call_flaw}
use Rattle.smt_terms.specs.Internal.LibraryView.{names_of_library}
use Rattle.smt_terms.proofs.BlameLemmas.{called}
use Rattle.smt_terms.proofs.library.Library.blame_of_widths.Goals as goal

pub returns : goal.returns
returns c =
    let f = identifier_view c.args.identifier.now in
    let k = called (sexps_of c.args.parts) f c.requires.call in
    (f, k.0, k.1, ap (call_flaw (names_of_library c.args.self.now) f) c.in_ok-found.ensures.items ∙ c.requires.flaw)
