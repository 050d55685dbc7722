-- Which terms and which items of a model are not supported.
use Rattle.std.proofs.Common.{◌≡◌, ◌⊎◌, inl, inr, Bool, true, false, cond, List, ℕ, Option, Some, None, option_map}
use Rattle.std.proofs.Common.{Result, Ok, Err, ok_or, refl, ap}
use Rattle.std.specs.Prelude.{bytes_eq, codes}
use Rattle.std.proofs.lemmas.Slice.Eq.{bytes_eq-Decides}
use Rattle.smt_theory.specs.Index.{IndexView}
use Rattle.smt_theory.specs.Words.{result_and_then}
use Rattle.smt_trees.specs.Sexp.{Sexp, Sexps, Atom, Reserved, Items, Nil, Cons, Symbol}
use Rattle.smt_trees.specs.declared.reserved.Word.{Word}
use Rattle.smt_trees.specs.declared.reserved.Word.TheVariants.{DefineFun, DefineFunRec, DefineFunsRec}
use Rattle.smt_trees.specs.declared.reserved.Word.TheVariants.{As, Exists, Forall, Match, Underscore}
use Rattle.smt_faults.specs.declared.term_flaw.TermFlaw.{TermFlaw}
use Rattle.smt_faults.specs.declared.term_flaw.TermFlaw.TheVariants.{Form, Unsupported}
use Rattle.smt_forms.specs.Bindings.{are_named_trees}
use Rattle.smt_forms.specs.Identifier.{Identifier, Indexed, Qualified, all_indexes, applied_in, indexed, of_profile}
use Rattle.smt_forms.specs.Identifier.{qualified, word_flaw}
use Rattle.smt_forms.specs.ItemForm.{ItemForm, item_form}

-- ## Terms

-- in the profile Base nothing is applied with its sort
pub base_as : (parts args : Sexps) → applied_in false (Items (Cons (Reserved As) parts)) args ≡ Err Unsupported
base_as parts (Cons x Nil) = by parts
  where
    named : (sort : Sexp) (b : Bool)
        → result_and_then (cond b (Ok (Qualified sort)) (Err Unsupported)) (of_profile false) ≡ Err Unsupported
    named sort true = refl
    named sort false = refl

    by : (parts : Sexps) → result_and_then (qualified parts) (of_profile false) ≡ Err Unsupported
    by (Cons (Atom Symbol y) (Cons sort Nil)) = named sort (bytes_eq y (codes "const"))
    by _ = refl
base_as parts _ = refl

-- it is a constant array of an element
abbrev pub IsConstant : (parts args : Sexps) → Identifier → Type 0
IsConstant parts args f = (sort : Sexp) × (x : Sexp) × (f ≡ Qualified sort)
    × (parts ≡ Cons (Atom Symbol (codes "const")) (Cons sort Nil)) × (args ≡ Cons x Nil)

pub wide_as : (parts args : Sexps) (f : Identifier) → applied_in true (Items (Cons (Reserved As) parts)) args ≡ Ok f
    → IsConstant parts args f
wide_as parts (Cons x Nil) f h = by parts h
  where
    named : (y : List ℕ) (sort : Sexp) (b : Bool) → bytes_eq y (codes "const") ≡ b
        → result_and_then (cond b (Ok (Qualified sort)) (Err Unsupported)) (of_profile true) ≡ Ok f
        → IsConstant (Cons (Atom Symbol y) (Cons sort Nil)) (Cons x Nil) f
    named y sort true is h =
        let same : y ≡ codes "const" = (bytes_eq-Decides y (codes "const")).0 is in
        (sort, x, cc, ap (λ z. Cons (Atom Symbol z) (Cons sort Nil)) same, refl)
    named y sort false is h = cc

    by : (parts : Sexps) → result_and_then (qualified parts) (of_profile true) ≡ Ok f
        → IsConstant parts (Cons x Nil) f
    by (Cons (Atom Symbol y) (Cons sort Nil)) h = named y sort (bytes_eq y (codes "const")) refl h
    by _ h = cc
wide_as parts _ f h = cc

-- it begins with such a word, or applies an `as`
abbrev pub BeginsUnsupported : Sexp → Type 0
BeginsUnsupported head =
    ((head ≡ Reserved Forall) ⊎ (head ≡ Reserved Exists) ⊎ (head ≡ Reserved Match) ⊎ (head ≡ Reserved As))
    ⊎ ((parts : Sexps) × (head ≡ Items (Cons (Reserved As) parts)))

pub unsupported_term : (wide : Bool) (head : Sexp) (args : Sexps) → applied_in wide head args ≡ Err Unsupported
    → BeginsUnsupported head
unsupported_term wide (Reserved word) args h = inl (by word h)
  where
    by : (word : Word) → result_and_then (Err (word_flaw word)) (of_profile wide) ≡ Err Unsupported
        → (Reserved word ≡ Reserved Forall) ⊎ (Reserved word ≡ Reserved Exists)
        ⊎ (Reserved word ≡ Reserved Match) ⊎ (Reserved word ≡ Reserved As)
    by Forall h = inl refl
    by Exists h = inr (inl refl)
    by Match h = inr (inr (inl refl))
    by As h = inr (inr (inr refl))
    by _ h = cc
unsupported_term wide (Items (Cons (Reserved As) parts)) args h = inr (parts, refl)
unsupported_term wide (Items (Cons (Reserved Underscore) parts)) (Cons x xs) h = absurd (by parts h)
  where
    read : (name : List ℕ) (o : Option (List IndexView))
        → result_and_then (ok_or (option_map (λ is. Indexed name is) o) Form) (of_profile wide) ≡ Err Unsupported → ⊥
    read name (Some is) h = cc
    read name None h = cc

    by : (parts : Sexps) → result_and_then (indexed parts) (of_profile wide) ≡ Err Unsupported → ⊥
    by (Cons (Atom Symbol name) (Cons x xs)) h = read name (all_indexes (Cons x xs)) h
    by _ h = cc
unsupported_term wide (Atom Symbol name) (Cons x xs) h = cc
unsupported_term wide _ _ h = cc

-- ## Items

-- it is a list that begins with the word of a recursive definition, or of several
abbrev pub IsRecursive : Sexp → Type 0
IsRecursive tree =
    (rest : Sexps) × ((tree ≡ Items (Cons (Reserved DefineFunRec) rest))
    ⊎ (tree ≡ Items (Cons (Reserved DefineFunsRec) rest)))

form_or : (b : Bool) (item : ItemForm) → cond b (Ok item) (Err Form) ≡ Err Unsupported → ⊥
form_or true item h = cc
form_or false item h = cc

pub unsupported_item : (tree : Sexp) → item_form tree ≡ Err Unsupported → IsRecursive tree
unsupported_item (Items (Cons (Reserved DefineFunRec) rest)) h = (rest, inl refl)
unsupported_item (Items (Cons (Reserved DefineFunsRec) rest)) h = (rest, inr refl)
unsupported_item (Items (Cons (Reserved DefineFun)
    (Cons (Atom Symbol x) (Cons (Items parameters) (Cons sort (Cons body Nil)))))) h =
    absurd (form_or (are_named_trees parameters) _ h)
unsupported_item _ h = cc

pub recursive_item : (tree : Sexp) → IsRecursive tree → item_form tree ≡ Err Unsupported
recursive_item tree is = elim is.1 [
  | inl e ↦ ap item_form e
  | inr e ↦ ap item_form e
]
