-- An item that is set aside changes nothing of a model.
use Rattle.std.proofs.Common.{◌≡◌, ◌↔◌, ℕ, List, [], ◌++◌, Option, Some, None, Result, Ok, Err, refl, ap, sym}
use Rattle.std.proofs.Common.{◌∙◌, subst, append-nil}
use Rattle.smt_trees.specs.Sexp.{Sexp, Sexps, Nil, Cons, append}
use Rattle.smt_theory.specs.Words.{result_and_then}
use Rattle.smt_terms.specs.Items.{item_in, items_before, list_of}
use Rattle.smt_terms.specs.Signature.{Entry, Signature}
use Rattle.smt_faults.specs.declared.term_flaw.TermFlaw.{TermFlaw}
use Rattle.smt_eval.specs.Model.{AreItems, complete_or, first_lacking, items_from, items_of, model_in}
use Rattle.smt_eval.specs.declared.model_fault.ModelFlaw.{ModelFlaw}
use Rattle.smt_eval.proofs.CompleteModelLemmas.{model_is_items}

-- the item is set aside, whatever comes before it
abbrev pub IsSetAside : Signature → Sexp → Type 0
IsSetAside script tree = (earlier : List Entry) → item_in script earlier tree ≡ Ok None

no_entry : (r : Result (Option Entry) TermFlaw) (o : Option Entry) → r ≡ Ok None → r ≡ Ok o → o ≡ None
no_entry (Ok p) o h g = cc
no_entry (Err f) o h g = cc

without : (script : Signature) (tree : Sexp) → IsSetAside script tree
    → (earlier : List Entry) (before after : Sexps) (es : List Entry)
    → AreItems script earlier (append before (Cons tree after)) es
    → AreItems script earlier (append before after) es
without script tree aside earlier Nil after es h =
    let none = no_entry (item_in script earlier tree) h.0 (aside earlier) h.2 in
    let same : h.1 ≡ es = sym (h.3 ∙ ap (λ o. list_of o ++ h.1) none) in
    subst (AreItems script earlier after) same
    (subst (λ xs. AreItems script xs after h.1)
    (ap (λ o. earlier ++ list_of o) none ∙ append-nil earlier) h.4)
without script tree aside earlier (Cons x xs) after es h = (
  h.0,
  h.1,
  h.2,
  h.3,
  without script tree aside (earlier ++ list_of h.0) xs after h.1 h.4,
)

with_item : (script : Signature) (tree : Sexp) → IsSetAside script tree
    → (earlier : List Entry) (before after : Sexps) (es : List Entry)
    → AreItems script earlier (append before after) es
    → AreItems script earlier (append before (Cons tree after)) es
with_item script tree aside earlier Nil after es h = (
  None,
  es,
  aside earlier,
  refl,
  subst (λ xs. AreItems script xs after es) (sym (append-nil earlier)) h,
)
with_item script tree aside earlier (Cons x xs) after es h = (
  h.0,
  h.1,
  h.2,
  h.3,
  with_item script tree aside (earlier ++ list_of h.0) xs after h.1 h.4,
)

-- the definitions of a model are items over the script's theories
model_read : (script : Signature) (parts : Sexps) (definitions : Signature)
    → model_in script parts ≡ Ok definitions → (es : List Entry) × (items_before script es ≡ definitions)
model_read script parts definitions h = by (items_from script [] 1 (items_of parts)) h
  where
    lacks : (found : List Entry) (o : Option ℕ) → complete_or o (items_before script found) ≡ Ok definitions
        → (es : List Entry) × (items_before script es ≡ definitions)
    lacks found None h = (found, cc)
    lacks found (Some command) h = cc

    by : (r : Result (List Entry) ModelFlaw) → result_and_then r
        (λ items. complete_or (first_lacking script.entries items) (items_before script items))
        ≡ Ok definitions → (es : List Entry) × (items_before script es ≡ definitions)
    by (Ok found) h = lacks found (first_lacking script.entries found) h
    by (Err f) h = cc

-- models with the same items have the same definitions
same_model : (script : Signature) (parts others : Sexps) (definitions : Signature)
    → ((es : List Entry) → AreItems script [] (items_of parts) es → AreItems script [] (items_of others) es)
    → model_in script parts ≡ Ok definitions → model_in script others ≡ Ok definitions
same_model script parts others definitions more h =
    let read = model_read script parts definitions h in
    let items = (model_is_items script parts read.0).0 (h ∙ ap (λ (d : Signature). Ok d) (sym read.1)) in
    (model_is_items script others read.0).1 (more read.0 items.0, items.1)
    ∙ ap (λ (d : Signature). Ok d) read.1

pub aside_changes_nothing : (script : Signature) (tree : Sexp) → IsSetAside script tree
    → (parts fewer before after : Sexps) (definitions : Signature)
    → items_of parts ≡ append before (Cons tree after) → items_of fewer ≡ append before after
    → (model_in script parts ≡ Ok definitions) ↔ (model_in script fewer ≡ Ok definitions)
aside_changes_nothing script tree aside parts fewer before after definitions with_it without_it = (
  same_model script parts fewer definitions (λ es h.
      subst (λ xs. AreItems script [] xs es) (sym without_it)
      (without script tree aside [] before after es (subst (λ xs. AreItems script [] xs es) with_it h))),
  same_model script fewer parts definitions (λ es h.
      subst (λ xs. AreItems script [] xs es) (sym with_it)
      (with_item script tree aside [] before after es
      (subst (λ xs. AreItems script [] xs es) without_it h))),
)
