use Rattle.std.proofs.Common.{inl, inr, None}
use Rattle.smt_trees.specs.View.{sexp_of}
use Rattle.smt_terms.specs.Blame.{is_unknown_literal}
use Rattle.smt_terms.specs.Internal.LibraryView.{names_of_library, sort_names}
use Rattle.smt_terms.proofs.BlameLemmas.{told_unknown}
use Rattle.smt_terms.proofs.library.Library.blame_of_literal.Goals as goal

pub returns : goal.returns
returns c =
    told_unknown (names_of_library c.args.self.now) (sort_names c.args.self.now.sorts) c.args.part None
    c.args.self.now.sorts.theories (λ t. is_unknown_literal t (sexp_of c.args.part)) c.unknown_literal.result
    c.unknown_part.result c.unknown_part.ensures c.unknown_literal.ensures (λ theory h k. inr (inl (h, k)))
    (λ x is h. cc)
