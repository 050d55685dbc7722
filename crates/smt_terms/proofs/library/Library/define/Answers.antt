use Rattle.std.proofs.Common.{◌≡◌, ℕ, Bool, true, false, cond, List, [], Ok, Err, inl, inr, map, ap, subst}
use Rattle.std.proofs.Common.{sym, ◌∙◌}
use Rattle.std.proofs.lemmas.Result.{IfErr-weaker, err_from_is_err_and, on_err_weaker, on_ok_weaker}
use Rattle.smt_faults.specs.Outcome.{Tells}
use Rattle.smt_faults.specs.declared.term_fault.TermFault.{TermFault}
use Rattle.smt_faults.specs.declared.term_flaw.TermFlaw.TheVariants.{NotFresh}
use Rattle.smt_trees.specs.Sexp.{Sexp}
use Rattle.smt_trees.specs.View.{sexp_of}
use Rattle.smt_terms.specs.Definitions.{defined_in, definition_in, parameters_named}
use Rattle.smt_forms.specs.ParamView.{param_view}
use Rattle.smt_forms.specs.ScopeView.{scope_view}
use Rattle.smt_terms.specs.Library.{Holds, StandsFor}
use Rattle.smt_terms.specs.Signature.{Signature, names_of, sort_names_of}
use Rattle.smt_terms.specs.SortTrees.{sort_named}
use Rattle.smt_terms.specs.declared.library.Library.{Library}
use Rattle.smt_theory.specs.Operators.{is_plain_operator}
use Rattle.smt_theory.specs.Words.{look_up, result_and_then}
use Rattle.smt_terms.specs.Freshness.{is_element, is_taken}
use Rattle.smt_terms.specs.Internal.LibraryView.{names_of_library, sort_names}
use Rattle.smt_terms.proofs.DefinitionLemmas.{define_step, defined-bound, defined-free, same_fault}
use Rattle.smt_terms.proofs.ItemLemmas.{Params, names_as, not_operator, sorts_as}
use Rattle.smt_terms.proofs.ElementLemmas.{no_element}
use Rattle.smt_terms.proofs.NameLookUps.{free_name}
use Rattle.smt_terms.proofs.library.Library.define.Goals as goal

pub add_definition-requires-clause-absent : goal.add_definition-requires-clause-absent
add_definition-requires-clause-absent c = (free_name (is_element (names_of_library c.args.self.now) c.args.name.now)
    (look_up (names_of_library c.args.self.now).ranks c.args.name.now)
    (is_plain_operator c.args.self.now.sorts.theories c.args.name.now) (sym c.if-is_taken.ensures)).1

pub add_definition-requires-clause-apart : goal.add_definition-requires-clause-apart
add_definition-requires-clause-apart c = no_element (names_of_library c.args.self.now).elements c.args.name.now
    (free_name (is_element (names_of_library c.args.self.now) c.args.name.now)
    (look_up (names_of_library c.args.self.now).ranks c.args.name.now)
    (is_plain_operator c.args.self.now.sorts.theories c.args.name.now) (sym c.if-is_taken.ensures)).0

pub returns-clause-defined : goal.returns-clause-defined
returns-clause-defined c =
    let params = map param_view c.args.params.now in
    let tree = sexp_of c.args.sort in
    let body = sexp_of c.args.body in
    let rs = scope_view c.as_slice.result.now in
    on_ok_weaker c.add_definition.result
    (λ added s stands.
    let more = added s stands in (
      more.0,
      define_step c.args.self.now s c.args.name.now params tree body
          (scope_view c.in_ok-parameters.parameters.items) rs c.in_ok-sort.sort stands
          (sym c.if-is_taken.ensures) c.in_ok-parameters.ensures
          (sym c.in_ok-sort.ensures) (ap scope_view c.as_slice.ensures.value) ∙ more.1,
      more.2 (not_operator c.args.self.now s c.args.name.now stands (sym c.if-is_taken.ensures)),
    ))
    c.add_definition.ensures.added

pub returns-clause-refused : goal.returns-clause-refused
returns-clause-refused c =
    let params = map param_view c.args.params.now in
    let tree = sexp_of c.args.sort in
    let body = sexp_of c.args.body in
    let rs = scope_view c.as_slice.result.now in
    IfErr-weaker c.add_definition.result _ _
    (λ fault refused s stands.
    same_fault (definition_in (names_of s) c.args.name.now rs c.in_ok-sort.sort body)
    (defined_in s c.args.name.now params tree body) fault
    (define_step c.args.self.now s c.args.name.now params tree body
    (scope_view c.in_ok-parameters.parameters.items) rs c.in_ok-sort.sort stands
    (sym c.if-is_taken.ensures) c.in_ok-parameters.ensures
    (sym c.in_ok-sort.ensures) (ap scope_view c.as_slice.ensures.value)) (refused s stands))
    c.add_definition.ensures.refused

-- whether a name is taken is as the library says
taken_as : (library : Library) (s : Signature) (x : List ℕ) (b : Bool) → StandsFor library s
    → b ≡ is_taken (names_of_library library) x → is_taken (names_of s) x ≡ b
taken_as library s x b stands is = ap (λ n. is_taken n x) (sym (names_as library s stands)) ∙ sym is

-- a name that is taken
define_taken : (library : Library) (s : Signature) (x : List ℕ) (params : List (List ℕ × Sexp)) (tree body : Sexp)
    → StandsFor library s → true ≡ is_taken (names_of_library library) x
    → defined_in s x params tree body ≡ Err NotFresh
define_taken library s x params tree body stands is =
    ap (λ b. cond b (Err NotFresh)
    (result_and_then (parameters_named (sort_names_of s) [] params)
    (λ ps. result_and_then (sort_named (sort_names_of s) tree)
    (λ sort. definition_in (names_of s) x ps sort body)))) (taken_as library s x true stands is)

-- the fault of its parameters
define_unbound : (library : Library) (s : Signature) (x : List ℕ) (params : List (List ℕ × Sexp)) (tree body : Sexp)
    (fault : TermFault) → StandsFor library s → false ≡ is_taken (names_of_library library) x
    → Tells (parameters_named (sort_names library.sorts) [] params) fault
    → Tells (defined_in s x params tree body) fault
define_unbound library s x params tree body fault stands is (inl m) = inl m
define_unbound library s x params tree body fault stands is (inr e) =
    inr (defined-free s x params tree body (taken_as library s x false stands is)
    ∙ ap (λ r. result_and_then r (λ ps. result_and_then (sort_named (sort_names_of s) tree)
    (λ sort. definition_in (names_of s) x ps sort body)))
    (ap (λ sorts. parameters_named sorts [] params) (sym (sorts_as library s stands)) ∙ e))

-- the fault of its sort
define_unsorted : (library : Library) (s : Signature) (x : List ℕ) (params : List (List ℕ × Sexp)) (tree body : Sexp)
    (ps : Params) (fault : TermFault) → StandsFor library s
    → false ≡ is_taken (names_of_library library) x → parameters_named (sort_names library.sorts) [] params ≡ Ok ps
    → Tells (sort_named (sort_names library.sorts) tree) fault
    → Tells (defined_in s x params tree body) fault
define_unsorted library s x params tree body ps fault stands is bound (inl m) = inl m
define_unsorted library s x params tree body ps fault stands is bound (inr sorted) =
    inr (defined-bound s x params tree body ps (taken_as library s x false stands is)
    (ap (λ sorts. parameters_named sorts [] params) (sym (sorts_as library s stands)) ∙ bound)
    ∙ ap (λ r. result_and_then r (λ sort. definition_in (names_of s) x ps sort body))
    (ap (λ sorts. sort_named sorts tree) (sym (sorts_as library s stands)) ∙ sorted))

pub returns-then-is_taken-clause-refused : goal.returns-then-is_taken-clause-refused
returns-then-is_taken-clause-refused c = λ s stands. inr (define_taken c.args.self.now s c.args.name.now
    (map param_view c.args.params.now) (sexp_of c.args.sort) (sexp_of c.args.body) stands c.if-is_taken.ensures)

pub returns-in_err-parameters-clause-refused : goal.returns-in_err-parameters-clause-refused
returns-in_err-parameters-clause-refused c =
    let p = err_from_is_err_and c.from_residual.result c.from_residual.ensures.1 in
    rw (p.1, p.2)
    (λ s stands. define_unbound c.args.self.now s c.args.name.now (map param_view c.args.params.now)
    (sexp_of c.args.sort) (sexp_of c.args.body) _ stands c.if-is_taken.ensures c.in_err-parameters.ensures)

pub returns-in_err-sort-clause-refused : goal.returns-in_err-sort-clause-refused
returns-in_err-sort-clause-refused c =
    let p = err_from_is_err_and c.from_residual-in_err-sort.result c.from_residual-in_err-sort.ensures.1 in
    rw (p.1, p.2)
    (λ s stands. define_unsorted c.args.self.now s c.args.name.now (map param_view c.args.params.now)
    (sexp_of c.args.sort) (sexp_of c.args.body) (scope_view c.in_ok-parameters.parameters.items) _ stands
    c.if-is_taken.ensures c.in_ok-parameters.ensures c.in_err-sort.ensures)

pub returns-clause-unchanged : goal.returns-clause-unchanged
returns-clause-unchanged c =
    on_err_weaker c.add_definition.result (λ same s stands. subst (λ d. Holds d s) (sym same) stands)
    c.add_definition.ensures.restored
