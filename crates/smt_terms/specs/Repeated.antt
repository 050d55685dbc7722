-- Items of a printed model that repeat a definition of the script, and those that tell of elements. That they are set
-- aside is the wide profile's own rule.
use Rattle.std.specs.Prelude.{◌≡◌, ◌⊎◌, ℕ, List, [], true, false, None, Some, Ok, map}
use Rattle.smt_trees.specs.Sexp.{Sexp, Sexps, Atom, Reserved, Items, Nil, Cons, Symbol}
use Rattle.smt_trees.specs.declared.reserved.Word.TheVariants.{DeclareFun, DeclareSort, DefineFun, Forall}
use Rattle.smt_theory.specs.Sort.{Sort}
use Rattle.smt_forms.specs.Bindings.{are_named_trees, named_trees}
use Rattle.smt_terms.specs.Definitions.{parameters_named}
use Rattle.smt_terms.specs.Elements.{element_sort}
use Rattle.smt_terms.specs.Freshness.{is_element_name}
use Rattle.smt_terms.specs.Signature.{Entry, Signature, entry_named, is_declared, sort_names_of}
use Rattle.smt_terms.specs.SortTrees.{sort_named}

-- the item, of the wide profile, has the name and the rank of a definition or a label of the script, and the name has
-- not the form of an element's; its body is any tree
pub record IsRepeated (script : Signature) (item : Sexp) : Type 0 where
  pub wide : script.theories.wide ≡ true
  pub name : List ℕ
  pub apart : is_element_name script name ≡ false
  pub parameters : Sexps
  pub sort : Sexp
  pub body : Sexp
  pub printed : item
      ≡ Items (Cons (Reserved DefineFun)
      (Cons (Atom Symbol name) (Cons (Items parameters) (Cons sort (Cons body Nil)))))
  pub named : are_named_trees parameters ≡ true
  pub variables : List (List ℕ × Sort)
  pub bound : parameters_named (sort_names_of script) [] (named_trees parameters) ≡ Ok variables
  pub repeats : Entry
  pub found : entry_named script.entries name ≡ Some repeats
  pub defined : is_declared repeats.origin ≡ false
  pub takes : map (λ p. p.1) variables ≡ repeats.parameters
  pub gives : sort_named (sort_names_of script) sort ≡ Ok repeats.sort

-- the same names and sorts in the wide profile
abbrev pub widened : Signature → Signature
widened script = record script { theories = record script.theories { wide = true } }

-- ---- items that tell of elements

-- `(declare-fun x () sort)`, where the sort is that of the elements whose names have the form of x, and the script has
-- no such name
pub record IsElementTold (script : Signature) (item : Sexp) : Type 0 where
  pub name : List ℕ
  pub tree : Sexp
  pub printed : item
      ≡ Items (Cons (Reserved DeclareFun) (Cons (Atom Symbol name) (Cons (Items Nil) (Cons tree Nil))))
  pub sort : Sort
  pub element : element_sort (sort_names_of script) name ≡ Some sort
  pub new : entry_named script.entries name ≡ None
  pub named : sort_named (sort_names_of script) tree ≡ Ok sort

-- the item, of the wide profile, tells of elements of declared sorts
pub record IsTold (script : Signature) (item : Sexp) : Type 0 where
  pub wide : script.theories.wide ≡ true
  pub tells : ((rest : Sexps) × (item ≡ Items (Cons (Reserved Forall) rest)))
      ⊎ ((rest : Sexps) × (item ≡ Items (Cons (Reserved DeclareSort) rest))) ⊎ IsElementTold script item
