use Rattle.std.proofs.Common.{◌++◌, ◌∷◌, [], ap, subst, ◌∙◌}
use Rattle.std.proofs.lemmas.Result.{on_ok_weaker}
use Rattle.smt_trees.specs.View.{sexp_of}
use Rattle.smt_theory.specs.Operators.{is_plain_operator}
use Rattle.smt_terms.specs.Contents.{contents_of}
use Rattle.smt_terms.specs.Definitions.{definition}
use Rattle.smt_terms.specs.Internal.Growing.{HoldsUnder}
use Rattle.smt_terms.specs.Internal.LabelsView.{label_entry}
use Rattle.smt_terms.specs.Internal.LibraryView.{ranks_of_library}
use Rattle.smt_terms.specs.Internal.TableView.{names_of_definitions}
use Rattle.smt_terms.specs.Signature.{rank_of_entry, with_entry}
use Rattle.smt_terms.proofs.library.Library.add_label.Goals as goal

pub returns-clause-added : goal.returns-clause-added
returns-clause-added c =
    let l = c.args.label.now in
    on_ok_weaker c.insert_definition.result
    (λ added bodies s stands fit.
    subst (λ x. HoldsUnder bodies (contents_of c.insert_definition.new.self)
    (with_entry s (definition x [] l.sort (sexp_of l.body)))) c.as_slice.ensures
    (added bodies s (sexp_of l.body) stands
    (ap (λ x. is_plain_operator s.theories x) c.as_slice.ensures ∙ fit.free) fit.named))
    c.insert_definition.ensures.added

pub returns-clause-ranks : goal.returns-clause-ranks
returns-clause-ranks c =
    let l = c.args.label.now in
    on_ok_weaker c.insert_definition.result
    (λ ranks. ranks ∙ ap
    (λ x. ranks_of_library c.args.self.now ++ (x, rank_of_entry (label_entry l)) ∷ []) c.as_slice.ensures)
    c.insert_definition.ensures.ranks

pub returns-clause-names : goal.returns-clause-names
returns-clause-names c =
    on_ok_weaker c.insert_definition.result
    (λ names. names ∙ ap
    (λ x. names_of_definitions c.args.self.now.definitions.items ++ x ∷ []) c.as_slice.ensures)
    c.insert_definition.ensures.names
