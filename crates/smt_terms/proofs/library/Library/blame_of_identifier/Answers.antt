use Rattle.std.proofs.Common.{inl, Some}
use Rattle.smt_forms.specs.IdentifierView.{identifier_view}
use Rattle.smt_terms.specs.Blame.{is_unknown}
use Rattle.smt_terms.specs.Internal.LibraryView.{names_of_library, sort_names}
use Rattle.smt_terms.proofs.BlameLemmas.{named_so, told_unknown}
use Rattle.smt_terms.proofs.library.Library.blame_of_identifier.Goals as goal

pub returns : goal.returns
returns c =
    let names = names_of_library c.args.self.now in
    let f = identifier_view c.args.identifier.now in
    told_unknown names (sort_names c.args.self.now.sorts) c.args.part (Some c.name_of.result)
    names.theories (λ t. is_unknown names t f) c.unknown_identifier.result c.unknown_part.result
    c.unknown_part.ensures c.unknown_identifier.ensures (λ theory h k. inl (f, c.requires, h, k))
    (λ x is h. inl (f, named_so f c.name_of.result x c.name_of.ensures is, h))
