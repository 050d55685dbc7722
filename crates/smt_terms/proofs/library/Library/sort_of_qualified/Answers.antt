use Rattle.std.proofs.Common.{Ok, ap, inr, length, subst, sym, ◌∙◌}
use Rattle.smt_trees.specs.Sexp.{Cons, Items, Reserved}
use Rattle.smt_trees.specs.View.{sexps_of}
use Rattle.smt_trees.specs.declared.reserved.Word.TheVariants.{As}
use Rattle.smt_nodes.specs.Node as node
use Rattle.smt_terms.specs.Denotes.{IsNode}
use Rattle.smt_terms.specs.Internal.LibraryView.{names_of_library}
use Rattle.smt_terms.specs.Internal.TableView.{rows_in, table_in}
use Rattle.smt_terms.proofs.ElementLemmas.{no_symbol, qualified_found}
use Rattle.smt_terms.proofs.NodeLemmas.{made_stands}
use Rattle.smt_terms.proofs.TableLemmas.{grows_itself, keeps_itself}
use Rattle.smt_terms.proofs.library.Library.sort_of_qualified.Goals as goal

pub returns-in_default-clause-sort : goal.returns-in_default-clause-sort
returns-in_default-clause-sort c =
    inr (no_symbol (names_of_library c.args.self.now).elements (names_of_library c.args.self.now).ranks
    (sexps_of c.args.parts) c.in_default.ensures)

pub returns-clause-sort : goal.returns-clause-sort
returns-clause-sort c = c.in_ok-sort.ensures ∙ ap (λ s. Ok s) (sym c.in_ok-push_element.ensures.sort)

pub returns-clause-node : goal.returns-clause-node
returns-clause-node c =
    let library = c.args.self.now in
    let old = c.args.draft.now in
    let new = c.push_element.new.draft in
    let names = names_of_library library in
    let found = qualified_found names.elements names.ranks (sexps_of c.args.parts) c.in_ok-sort.sort
    c.in-Some.symbol.now c.in_ok-sort.ensures c.in-Some.ensures in
    made_stands library old old new c.args.around (Items (Cons (Reserved As) (sexps_of c.args.parts)))
    (node.Element c.in-Some.symbol.now) c.in_ok-push_element.field-0 (grows_itself old) (keeps_itself library old)
    c.push_element.ensures.longer c.in_ok-push_element.ensures.added
    (λ ready closed. (
      tt,
      λ is. subst (λ o. IsNode (table_in library new) c.args.around (length (rows_in library old)) o) (sym found) is,
    ))
