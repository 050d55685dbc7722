use Rattle.std.proofs.Common.{map, refl, ap, sym, ◌∙◌}
use Rattle.smt_trees.specs.Sexp.{Cons, Items, Reserved}
use Rattle.smt_trees.specs.View.{sexp_of, sexps_of}
use Rattle.smt_trees.specs.declared.reserved.Word.TheVariants.{Bang}
use Rattle.smt_theory.specs.Index.{index_view}
use Rattle.smt_theory.specs.Operators.{op_by}
use Rattle.smt_values.specs.ElementNumbers.{numbered_in}
use Rattle.std.specs.Prelude.{option_and_then, option_map}
use Rattle.smt_forms.specs.ElementNames.{qualified_symbol}
use Rattle.smt_values.specs.Element.{Naming}
use Rattle.smt_forms.specs.Identifier.{Indexed}
use Rattle.smt_forms.specs.IdentifierView.{identifier_view}
use Rattle.smt_plain.specs.Internal.PlainEvaluation.{known_scope, meaning_of}
use Rattle.smt_eval.specs.Known.{known_of, known_of_op, known_operators}
use Rattle.smt_arrays.specs.Element.{Plain as NoArray}
use Rattle.smt_plain.specs.PlainTerm.{entries_of, known_singles, unless_array, without_arrays}
use Rattle.smt_plain.proofs.KnownLemmas.{elements_kept, if_known, known_of_no_name, let_known, list_called}
use Rattle.smt_plain.proofs.KnownLemmas.{no_variable, not_reserved, variable_found}
use Rattle.smt_plain.proofs.PlainLemmas.{constant_open}
use Rattle.smt_plain.proofs.+known_plain.Goals as goal

pub evaluator::known_symbol-returns-in-Some : goal.evaluator::known_symbol-returns-in-Some
evaluator::known_symbol-returns-in-Some t c =
    variable_found (meaning_of c.args.over) c.args.scope.now c.args.name.now c.find_variable.result
    c.in-Some.value c.find_variable.ensures c.in-Some.is

pub evaluator::known_symbol-returns-in-None : goal.evaluator::known_symbol-returns-in-None
evaluator::known_symbol-returns-in-None t c =
    if_known c.known_named.result _ _ c.known_named.ensures
    (sym (no_variable (meaning_of c.args.over) c.args.scope.now c.args.name.now c.find_variable.result
    c.find_variable.ensures c.in-None.is))

pub evaluator::known_list-returns-in-Reserved : goal.evaluator::known_list-returns-in-Reserved
evaluator::known_list-returns-in-Reserved t c =
    if_known c.known_reserved.result _ _ c.known_reserved.ensures
    (sym (ap (λ ps. known_of (meaning_of c.args.over) (known_scope c.args.scope.now) (Items ps))
    (c.in-Some.ensures ∙ ap
    (λ h. Cons (sexp_of h) (sexps_of c.in-Some.args)) c.in-Reserved.is)))

pub evaluator::known_list-returns-in_default-head : goal.evaluator::known_list-returns-in_default-head
evaluator::known_list-returns-in_default-head t c =
    if_known c.known_call.result _ _ c.known_call.ensures
    (sym (list_called (meaning_of c.args.over) (known_scope c.args.scope.now) (sexp_of c.in-Some.head)
    (sexps_of c.in-Some.args) (sexps_of c.args.parts) (c.in-Some.ensures)
    (not_reserved c.in-Some.head c.in_default-head.not-Reserved)))

pub evaluator::known_reserved-returns-in-Some : goal.evaluator::known_reserved-returns-in-Some
evaluator::known_reserved-returns-in-Some t c =
    if_known c.known_value.result _ _ c.known_value.ensures
    (sym (ap (λ w. known_of (meaning_of c.args.over) (known_scope c.args.scope.now)
    (Items (Cons (Reserved w) (sexps_of c.args.args)))) c.in-Bang.is
    ∙ ap (λ ts. known_of (meaning_of c.args.over) (known_scope c.args.scope.now)
    (Items (Cons (Reserved Bang) ts))) c.in-Some.ensures))

pub evaluator::known_let-returns : goal.evaluator::known_let-returns
evaluator::known_let-returns t c =
    let m = meaning_of c.args.over in
    let scope = known_scope c.args.scope.now in
    let bindings = sexps_of c.in-Some.bindings in
    if_known c.known_value.result _ _ c.known_value.ensures
    (sym (let_known m scope (sexps_of c.args.args) bindings (sexp_of c.in-Some.body)
    c.as_slice.result.now c.in_ok-variables.variables.items c.args.scope.now c.in-Some.ensures
    c.in_ok-variables.ensures
    (c.as_slice.ensures.value ∙ c.in_ok-extend_from_slice.ensures.items) refl))

pub names::known_applied-returns-in-Indexed : goal.names::known_applied-returns-in-Indexed
names::known_applied-returns-in-Indexed t c =
    let name = c.in-Indexed.name.now in
    let indexes = map index_view c.in-Indexed.indexes.items in
    c.known_of_indexed.ensures (numbered_in c.args.over.names.now) name indexes
    ∙ ap (λ o. unless_array (known_of_op (numbered_in c.args.over.names.now) o (Indexed name indexes)
    (known_singles c.args.args.now)))
    (c.op_of.ensures ∙ ap (λ is. op_by c.args.over.theories name (map index_view is)) c.as_slice.ensures)
    ∙ sym (known_of_no_name (Indexed name indexes) tt
    (without_arrays (known_operators (numbered_in c.args.over.names.now) c.args.over.theories))
    (entries_of c.args.over.seen.now) (known_singles c.args.args.now))
    ∙ ap (λ i. (meaning_of c.args.over).gives (identifier_view i) (known_singles c.args.args.now))
    (sym c.in-Indexed.is)

pub names::known_applied-returns-in-Qualified : goal.names::known_applied-returns-in-Qualified
names::known_applied-returns-in-Qualified t c =
    constant_open (numbered_in c.args.over.names.now) c.args.over.theories (entries_of c.args.over.seen.now)
    (sexp_of c.in-Qualified.field-0) (known_singles c.args.args.now)
    ∙ ap (λ i. (meaning_of c.args.over).gives (identifier_view i) (known_singles c.args.args.now))
    (sym c.in-Qualified.is)

pub evaluator::known_reserved-returns-in-As : goal.evaluator::known_reserved-returns-in-As
evaluator::known_reserved-returns-in-As t c =
    let over = c.args.over in
    let trees = sexps_of c.args.args in
    c.known_qualified.ensures
    ∙ sym (ap (λ (f : Naming). option_map NoArray (option_and_then f (qualified_symbol trees)))
    (elements_kept (without_arrays (known_operators (numbered_in over.names.now) over.theories))
    (entries_of over.seen.now)))
    ∙ sym (ap (λ w. known_of (meaning_of over) (known_scope c.args.scope.now) (Items (Cons (Reserved w) trees)))
    c.in-As.is)
