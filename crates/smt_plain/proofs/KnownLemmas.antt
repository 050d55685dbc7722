-- What is known of a term over definitions, one step at a time.
use Rattle.std.proofs.Common.{◌≡◌, ℕ, Bool, true, false, cond, List, [], ◌∷◌, ◌++◌}
use Rattle.std.proofs.Common.{Option, Some, None, Result, IfOk, refl, ap}
use Rattle.std.proofs.Common.{sym, ◌∙◌, subst}
use Rattle.std.proofs.lemmas.List.{map-append}
use Rattle.std.specs.Prelude.{bytes_eq, option_map, unwrap_or}
use Rattle.smt_trees.specs.Sexp.{Sexp, Sexps, Atom, Reserved, Items, Nil, Cons, Symbol}
use Rattle.smt_trees.specs.View.{sexp_of}
use Rattle.smt_trees.specs.declared.reserved.Word.{Word}
use Rattle.smt_trees.specs.declared.reserved.Word.TheVariants.{Let}
use Rattle.smt_trees.specs.declared.view.Tree.{Tree}
use Rattle.smt_trees.specs.declared.view.Tree.TheVariants as tree
use Rattle.smt_theory.specs.Words.{look_up}
use Rattle.smt_arrays.specs.Element.{Element}
use Rattle.smt_plain.specs.PlainTerm.{known_single}
use Rattle.smt_values.specs.declared.value.Value.{Value}
use Rattle.smt_forms.specs.Identifier.{Identifier, Plain, Indexed, Qualified, applied}
use Rattle.smt_forms.specs.ScopeView.{scope_view}
use Rattle.smt_terms.specs.Signature.{Entry}
use Rattle.smt_forms.specs.declared.variable.Variable.{Variable}
use Rattle.smt_plain.specs.Internal.PlainEvaluation.{known_scope}
use Rattle.smt_eval.specs.Known.{KnownMeaning, known_after, known_by, known_of}
use Rattle.smt_eval.specs.Known.{knowns_bound, knowns_of, with_known}

-- ---- names

-- definitions change only what plain names mean
abbrev IsNoName : Identifier → Type 0
IsNoName (Plain x) = ⊥
IsNoName _ = Unit {0}

pub known_of_no_name : (f : Identifier) → IsNoName f → (m : KnownMeaning) (es : List Entry)
    (args : List (Option Element)) → (known_after m es).gives f args ≡ m.gives f args
known_of_no_name (Plain x) h m es args = absurd h
known_of_no_name (Indexed x indexes) h m [] args = refl
known_of_no_name (Indexed x indexes) h m (e ∷ es) args =
    known_of_no_name (Indexed x indexes) h (with_known m e) es args
known_of_no_name (Qualified sort) h m [] args = refl
known_of_no_name (Qualified sort) h m (e ∷ es) args = known_of_no_name (Qualified sort) h (with_known m e) es args

pub elements_kept : (m : KnownMeaning) (es : List Entry) → (known_after m es).element ≡ m.element
elements_kept m [] = refl
elements_kept m (e ∷ es) = elements_kept (with_known m e) es

-- what is known, and what that is
pub if_known : {F : Type 0} (r : Result (Option Value) F) (x y : Option Element)
    → IfOk r (λ v. known_single v ≡ x) → x ≡ y → IfOk r (λ v. known_single v ≡ y)
if_known r x y h is = subst (λ z. IfOk r (λ v. known_single v ≡ z)) is h

-- ---- lists

-- whether a list begins with a reserved word
abbrev pub is_reserved : Sexp → Bool
is_reserved (Reserved word) = true
is_reserved _ = false

pub not_reserved : (t : Tree) → ((word : Word) → t ≡ tree.Reserved word → ⊥) → is_reserved (sexp_of t) ≡ false
not_reserved (tree.Reserved word) h = absurd (h word refl)
not_reserved _ h = refl

-- what is known of a list that applies an identifier, or whose head is none's
pub list_called : (k : KnownMeaning) (r : List (List ℕ × Option Element)) (head : Sexp) (args parts : Sexps)
    → parts ≡ Cons head args → is_reserved head ≡ false
    → known_of k r (Items parts) ≡ known_by (applied head args) (λ f. k.gives f (knowns_of k r args))
list_called k r (Atom kind bytes) args parts split other = ap (λ ps. known_of k r (Items ps)) split
list_called k r (Items ts) args parts split other = ap (λ ps. known_of k r (Items ps)) split
list_called k r (Reserved word) args parts split other = cc

-- what is known of a `let` by its bindings, which stand in front of the variables
pub let_known : (k : KnownMeaning) (r : List (List ℕ × Option Element)) (args bindings : Sexps) (body : Sexp)
    (all vs ws : List (Variable (Option Value))) → args ≡ Cons (Items bindings) (Cons body Nil)
    → known_scope vs ≡ knowns_bound k r bindings → all ≡ vs ++ ws → r ≡ known_scope ws
    → known_of k r (Items (Cons (Reserved Let) args)) ≡ known_of k (known_scope all) body
let_known k r args bindings body all vs ws split bound whole scope =
    ap (λ ts. known_of k r (Items (Cons (Reserved Let) ts))) split
    ∙ sym (ap (λ s. known_of k s body)
    (ap known_scope whole ∙ map-append (λ v. (v.name.now, known_single v.value)) vs ws ∙ ap
    (λ s. s ++ known_scope ws) bound ∙ ap (λ s. knowns_bound k r bindings ++ s) (sym scope)))

-- ---- variables

-- what is looked up among variables is looked up among what is known of them
look_up-known : (vs : List (Variable (Option Value))) (x : List ℕ)
    → look_up (known_scope vs) x ≡ option_map known_single (look_up (scope_view vs) x)
look_up-known [] x = refl
look_up-known (v ∷ vs) x = by (bytes_eq x v.name.now) (look_up-known vs x)
  where
    by : (b : Bool) → look_up (known_scope vs) x ≡ option_map known_single (look_up (scope_view vs) x)
        → cond b (Some (known_single v.value)) (look_up (known_scope vs) x)
        ≡ option_map known_single (cond b (Some v.value) (look_up (scope_view vs) x))
    by true rest = refl
    by false rest = rest

pub variable_found : (k : KnownMeaning) (vs : List (Variable (Option Value))) (x : List ℕ)
    (r : Option (Option Value)) (v : Option Value) → r ≡ look_up (scope_view vs) x → r ≡ Some v
    → known_single v ≡ known_of k (known_scope vs) (Atom Symbol x)
variable_found k vs x r v is at = sym
    (ap (λ o. unwrap_or o (k.gives (Plain x) []))
    (look_up-known vs x ∙ ap (option_map known_single) (sym is ∙ at)))

pub no_variable : (k : KnownMeaning) (vs : List (Variable (Option Value))) (x : List ℕ)
    (r : Option (Option Value)) → r ≡ look_up (scope_view vs) x → r ≡ None
    → known_of k (known_scope vs) (Atom Symbol x) ≡ k.gives (Plain x) []
no_variable k vs x r is at =
    ap (λ o. unwrap_or o (k.gives (Plain x) [])) (look_up-known vs x ∙ ap (option_map known_single) (sym is ∙ at))
