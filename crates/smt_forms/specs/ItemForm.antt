-- SMT-LIB 2.6, section 4.2.6: the form of an item of a printed model, which is a definition.
use Rattle.std.specs.Prelude.{ℕ, List, Result, Ok, Err, if◌then◌else◌}
use Rattle.smt_trees.specs.Sexp.{Sexp, Atom, Reserved, Items, Nil, Cons, Symbol}
use Rattle.smt_trees.specs.declared.reserved.Word.TheVariants.{DefineFun, DefineFunRec, DefineFunsRec}
use Rattle.smt_forms.specs.Bindings.{are_named_trees, named_trees}
use Rattle.smt_faults.specs.declared.term_flaw.TermFlaw.{TermFlaw}
use Rattle.smt_faults.specs.declared.term_flaw.TermFlaw.TheVariants.{Form, Unsupported}

-- the parts of an item: a name, parameters, a sort and a body
pub record ItemForm : Type 0 where
  pub name : List ℕ
  pub parameters : List (List ℕ × Sexp)
  pub sort : Sexp
  pub body : Sexp

-- the parts of an item, or what is wrong with its form
abbrev pub item_form : Sexp → Result ItemForm TermFlaw
item_form (Items (Cons (Reserved DefineFunRec) rest)) = Err Unsupported
item_form (Items (Cons (Reserved DefineFunsRec) rest)) = Err Unsupported
item_form (Items (Cons (Reserved DefineFun)
    (Cons (Atom Symbol x) (Cons (Items parameters) (Cons sort (Cons body Nil)))))) =
    if are_named_trees parameters
    then Ok (record { name = x; parameters = named_trees parameters; sort = sort; body = body })
    else Err Form
item_form _ = Err Form
