-- What stands behind the word of a command, in the shapes that commands have.
use Rattle.std.specs.Prelude.{ℕ, List, Bool, true, false, ◌&&◌, ◌==◌, Option, Some, None, codes}
use Rattle.std.specs.Prelude.{if◌then◌else◌}
use Rattle.std.specs.Str.Parse.{digits_value}
use Rattle.smt_trees.specs.Sexp.{Sexp, Sexps, Atom, Items, Nil, Cons, Keyword, Numeral, Symbol, Text}
use Rattle.smt_trees.specs.Sexp.{is_symbol}
use Rattle.smt_forms.specs.Bindings.{are_named_trees, named_trees}

abbrev pub is_none : Sexps → Bool
is_none Nil = true
is_none (Cons tree rest) = false

abbrev pub one_symbol : Sexps → Option (List ℕ)
one_symbol (Cons (Atom Symbol x) Nil) = Some x
one_symbol _ = None

-- the number that one numeral is
abbrev pub one_numeral : Sexps → Option ℕ
one_numeral (Cons (Atom Numeral digits) Nil) = Some (digits_value 10 digits)
one_numeral _ = None

-- the same, or one where nothing stands there
abbrev pub numeral_or_one : Sexps → Option ℕ
numeral_or_one Nil = Some 1
numeral_or_one (Cons tree rest) = one_numeral (Cons tree rest)

abbrev pub one_text : Sexps → Option (List ℕ)
one_text (Cons (Atom Text bytes) Nil) = Some bytes
one_text _ = None

abbrev pub one_keyword : Sexps → Option (List ℕ)
one_keyword (Cons (Atom Keyword k) Nil) = Some k
one_keyword _ = None

abbrev pub one_tree : Sexps → Option Sexp
one_tree (Cons tree Nil) = Some tree
one_tree _ = None

-- the trees of a list that has one or more
abbrev pub some_trees : Sexps → Option Sexps
some_trees (Cons tree rest) = Some (Cons tree rest)
some_trees Nil = None

-- the trees of one list with one tree or more
abbrev pub one_list : Sexps → Option Sexps
one_list (Cons (Items trees) Nil) = some_trees trees
one_list _ = None

-- the trees of one list, which may have none
abbrev pub any_list : Sexps → Option Sexps
any_list (Cons (Items trees) Nil) = Some trees
any_list _ = None

abbrev pub is_negation : Sexps → Bool
is_negation (Cons head (Cons (Atom Symbol x) Nil)) = is_symbol (codes "not") head
is_negation _ = false

-- a literal: a symbol, or a list of the symbol `not` and a symbol
abbrev pub is_literal : Sexp → Bool
is_literal (Atom Symbol x) = true
is_literal (Items parts) = is_negation parts
is_literal _ = false

abbrev pub are_literals : Sexps → Bool
are_literals Nil = true
are_literals (Cons tree rest) = is_literal tree && are_literals rest

-- the literals of one list, which may have none
abbrev pub one_list_of_literals : Sexps → Option Sexps
one_list_of_literals (Cons (Items trees) Nil) = if are_literals trees then Some trees else None
one_list_of_literals _ = None

-- a tree, or none
abbrev pub tree_or_none : Sexps → Option (Option Sexp)
tree_or_none Nil = Some None
tree_or_none (Cons tree Nil) = Some (Some tree)
tree_or_none _ = None

abbrev pub with_first : {A B : Type 0} → A → Option B → Option (A × B)
with_first first None = None
with_first first (Some second) = Some (first, second)

-- a keyword, and a value or none
abbrev pub keyword_and_value : Sexps → Option (List ℕ × Option Sexp)
keyword_and_value (Cons (Atom Keyword k) rest) = with_first k (tree_or_none rest)
keyword_and_value _ = None

-- a name and the tree of a sort
abbrev pub name_and_sort : Sexps → Option (List ℕ × Sexp)
name_and_sort (Cons (Atom Symbol x) rest) = with_first x (one_tree rest)
name_and_sort _ = None

-- a list, and one more tree
abbrev pub list_and_tree : Sexps → Option (Sexps × Sexp)
list_and_tree (Cons (Items trees) rest) = with_first trees (one_tree rest)
list_and_tree _ = None

-- a name, the trees of the parameters' sorts, and that of the result's
abbrev pub name_and_rank : Sexps → Option (List ℕ × (Sexps × Sexp))
name_and_rank (Cons (Atom Symbol x) rest) = with_first x (list_and_tree rest)
name_and_rank _ = None

abbrev pub two_trees : Sexps → Option (Sexp × Sexp)
two_trees (Cons tree rest) = with_first tree (one_tree rest)
two_trees _ = None

-- a name, and two more trees
abbrev pub name_and_two : Sexps → Option (List ℕ × (Sexp × Sexp))
name_and_two (Cons (Atom Symbol x) rest) = with_first x (two_trees rest)
name_and_two _ = None

-- parameters with the trees of their sorts, and two more trees
abbrev pub parameters_and_two : Sexps → Option (List (List ℕ × Sexp) × (Sexp × Sexp))
parameters_and_two (Cons (Items parameters) rest) =
    if are_named_trees parameters then with_first (named_trees parameters) (two_trees rest) else None
parameters_and_two _ = None

-- a name, its parameters, the tree of its sort, and its body
abbrev pub name_and_definition : Sexps → Option (List ℕ × (List (List ℕ × Sexp) × (Sexp × Sexp)))
name_and_definition (Cons (Atom Symbol x) rest) = with_first x (parameters_and_two rest)
name_and_definition _ = None

-- no parameters, and one tree
abbrev pub no_list_and_tree : Sexps → Option Sexp
no_list_and_tree (Cons (Items Nil) rest) = one_tree rest
no_list_and_tree _ = None

-- a name without parameters, and the tree of the sort that it abbreviates
abbrev pub name_and_abbreviated : Sexps → Option (List ℕ × Sexp)
name_and_abbreviated (Cons (Atom Symbol x) rest) = with_first x (no_list_and_tree rest)
name_and_abbreviated _ = None

abbrev pub zero_alone : Sexps → Bool
zero_alone (Cons (Atom Numeral digits) Nil) = digits_value 10 digits == 0
zero_alone _ = false

-- a name, and 0 for no parameters
abbrev pub name_and_zero : Sexps → Option (List ℕ)
name_and_zero (Cons (Atom Symbol x) rest) = if zero_alone rest then Some x else None
name_and_zero _ = None

-- the truth value that the value of an option is
abbrev pub truth_of_value : Option Sexp → Option Bool
truth_of_value None = None
truth_of_value (Some value) =
    if is_symbol (codes "true") value then Some true else if is_symbol (codes "false") value then Some false
    else None
