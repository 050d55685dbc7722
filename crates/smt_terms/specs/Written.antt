-- SMT-LIB 2.6, sections 3.6.5, 4.2.3 and 4.2.6: what declarations, definitions, items and labels say that
-- they bring. The laws on entries are said in these words.
use Rattle.std.specs.Prelude.{◌≡◌, ℕ, List, [], ◌∷◌, true, Ok, map}
use Rattle.smt_trees.specs.Sexp.{Sexp, Sexps, Atom, Reserved, Items, Nil, Cons, Symbol}
use Rattle.smt_trees.specs.declared.reserved.Word.TheVariants.{DefineFun}
use Rattle.smt_forms.specs.Bindings.{are_named_trees, named_trees}
use Rattle.smt_terms.specs.Checking.{sort_in}
use Rattle.smt_terms.specs.Signature.{Entry, Declared, Defined, Names, unlabelled}
use Rattle.smt_terms.specs.SortTrees.{SortNames, sort_named, sorts_named}

-- the entry is what `(declare-fun x (parameters) sort)` says, as the command of this number
pub record IsDeclaredAs
    (sorts : SortNames) (command : ℕ) (x : List ℕ) (parameters : Sexps) (sort : Sexp)
    (e : Entry) : Type 0 where
  pub name : e.name ≡ x
  pub takes : sorts_named sorts parameters ≡ Ok e.parameters
  pub gives : sort_named sorts sort ≡ Ok e.sort
  pub origin : e.origin ≡ Declared command

-- the entry is what `(define-fun x (parameters) sort body)` says, by the parameters' names with their sorts'
-- trees
pub record IsDefinedAs
    (sorts : SortNames) (x : List ℕ) (parameters : List (List ℕ × Sexp)) (sort body : Sexp)
    (e : Entry) : Type 0 where
  pub name : e.name ≡ x
  pub takes : map (λ p. sort_named sorts p.1) parameters ≡ map (λ s. Ok s) e.parameters
  pub gives : sort_named sorts sort ≡ Ok e.sort
  pub origin : e.origin ≡ Defined (map (λ p. p.0) parameters) body

-- the entry is what the item of a model says
pub record IsPrintedAs (sorts : SortNames) (item : Sexp) (e : Entry) : Type 0 where
  pub parameters : Sexps
  pub sort : Sexp
  pub body : Sexp
  pub printed : item
      ≡ Items (Cons (Reserved DefineFun)
      (Cons (Atom Symbol e.name) (Cons (Items parameters) (Cons sort (Cons body Nil)))))
  pub named : are_named_trees parameters ≡ true
  pub defined : IsDefinedAs sorts e.name (named_trees parameters) sort body e

-- the entry is the constant that a label names: it is the term that it annotates, of that term's sort
pub record IsLabelOf (names : Names) (label : List ℕ × Sexp) (e : Entry) : Type 0 where
  pub name : e.name ≡ label.0
  pub takes : e.parameters ≡ []
  pub gives : sort_in (unlabelled names) [] label.1 ≡ Ok e.sort
  pub origin : e.origin ≡ Defined [] label.1

-- the entries are those of the labels, in order
abbrev pub AreLabelsOf : Names → List (List ℕ × Sexp) → List Entry → Type 0
AreLabelsOf names [] [] = Unit {0}
AreLabelsOf names (l ∷ ls) (e ∷ es) = IsLabelOf names l e × AreLabelsOf names ls es
AreLabelsOf names _ _ = ⊥
