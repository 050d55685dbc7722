-- Models, one item at a time, and as a whole.
use Rattle.std.proofs.Common.{◌≡◌, inl, inr, ℕ, ◌+◌, List, [], ◌++◌}
use Rattle.std.proofs.Common.{Option, Result, Ok, Err, refl, ap, sym, ◌∙◌}
use Rattle.smt_trees.specs.Sexp.{Sexp, Sexps, Cons}
use Rattle.smt_theory.specs.Words.{result_and_then}
use Rattle.smt_terms.specs.Items.{item_in, items_before, list_of}
use Rattle.smt_terms.specs.Signature.{Entry, Signature}
use Rattle.smt_faults.specs.declared.term_flaw.TermFlaw.{TermFlaw}
use Rattle.smt_faults.specs.Outcome.{Tells, flaw_told}
use Rattle.smt_faults.specs.declared.term_fault.TermFault.{TermFault}
use Rattle.smt_faults.specs.declared.term_fault.TermFault.TheVariants as terms
use Rattle.smt_eval.specs.Internal.ItemFault.{model_fault_of_item}
use Rattle.smt_eval.specs.Model.{complete_or, first_lacking, items_from, items_of, model_in, or_item}
use Rattle.smt_eval.specs.ModelFaults.{TellsModel}
use Rattle.smt_eval.specs.declared.model_fault.ModelFlaw.{ModelFlaw}
use Rattle.smt_eval.specs.declared.model_fault.ModelFlaw.TheVariants.{Item}

-- an item that is taken
pub item_taken : (s : Signature) (es : List Entry) (n : ℕ) (t : Sexp) (rest all : Sexps) (o : Option Entry)
    → all ≡ Cons t rest → item_in s es t ≡ Ok o
    → items_from s es n all ≡ items_from s (es ++ list_of o) (n + 1) rest
item_taken s es n t rest all o split is = ap (items_from s es n) split ∙ ap
    (λ (r : Result (Option Entry) TermFlaw). or_item n r (λ x. items_from s (es ++ list_of x) (n + 1) rest)) is

-- and one that is refused
told_of_item : (n : ℕ) (f : TermFault) (r : Result (List Entry) ModelFlaw) → r ≡ Err (Item n (flaw_told f))
    → TellsModel r (model_fault_of_item n f)
told_of_item n terms.Memory r h = inl refl
told_of_item n terms.Form r h = inr (refl, h)
told_of_item n terms.Unsupported r h = inr (refl, h)
told_of_item n terms.Unknown r h = inr (refl, h)
told_of_item n terms.IllSorted r h = inr (refl, h)
told_of_item n terms.Index r h = inr (refl, h)
told_of_item n terms.BoundTwice r h = inr (refl, h)
told_of_item n terms.NotFresh r h = inr (refl, h)
told_of_item n terms.Label r h = inr (refl, h)

pub item_refused : (s : Signature) (es : List Entry) (n : ℕ) (t : Sexp) (rest all : Sexps) (f : TermFault)
    → all ≡ Cons t rest → Tells (item_in s es t) f → TellsModel (items_from s es n all) (model_fault_of_item n f)
item_refused s es n t rest all f split (inl m) = inl (ap (model_fault_of_item n) m)
item_refused s es n t rest all f split (inr is) =
    told_of_item n f (items_from s es n all)
    (ap (items_from s es n) split ∙ ap
    (λ (r : Result (Option Entry) TermFlaw). or_item n r (λ x. items_from s (es ++ list_of x) (n + 1) rest)) is)

-- ---- the whole

pub model_whole : (s : Signature) (parts items : Sexps) (es : List Entry) → items ≡ items_of parts
    → items_from s [] 1 items ≡ Ok es
    → model_in s parts ≡ complete_or (first_lacking s.entries es) (items_before s es)
model_whole s parts items es same is =
    ap (λ (r : Result (List Entry) ModelFlaw). result_and_then r
    (λ found. complete_or (first_lacking s.entries found) (items_before s found)))
    (ap (items_from s [] 1) (sym same) ∙ is)
