use Rattle.std.proofs.Common.{sym, ◌∙◌}
use Rattle.smt_names.specs.Entries.{entries_of}
use Rattle.smt_terms.proofs.DraftLemmas.{among}
use Rattle.smt_terms.proofs.LibraryLemmas.{some_copied}
use Rattle.smt_terms.proofs.library.element_names.ElementNames.is_taken.Goals as goal

pub returns : goal.returns
returns c =
    c.is_some.ensures ∙ some_copied c.get.result _ c.get.ensures
    ∙ sym (among (entries_of c.args.self.now.names.now) c.args.name.now)
