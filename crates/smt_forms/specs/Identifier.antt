-- SMT-LIB 2.6, sections 3.3 and 3.6: identifiers, and what a list applies to its arguments. That quantifiers,
-- `match` and `as` are not supported but for constant arrays is this project's choice, as are the limit of an
-- index, 2^64 - 1, and which fault is told. `((as const o) t)` is no standard's: solvers print it.
use Rattle.std.specs.Prelude.{ℕ, ◌^◌, List, [], ◌∷◌, Bool, Option, Some, None, option_map, option_and_then, Result}
use Rattle.std.specs.Prelude.{Ok, Err, ok_or, nat_lt, bytes_eq, codes, if◌then◌else◌}
use Rattle.std.specs.Str.Parse.{digits_value}
use Rattle.smt_trees.specs.Sexp.{Sexp, Sexps, Atom, Reserved, Items, Nil, Cons, Numeral, Symbol}
use Rattle.smt_trees.specs.declared.reserved.Word.{Word}
use Rattle.smt_trees.specs.declared.reserved.Word.TheVariants.{Underscore, Forall, Exists, Match, As}
use Rattle.smt_theory.specs.Index.{IndexView, Number, Large, Name}
use Rattle.smt_theory.specs.Operators.{op_by}
use Rattle.smt_theory.specs.Words.{result_and_then}
use Rattle.smt_theory.specs.declared.op.Op.{Op}
use Rattle.smt_theory.specs.declared.op.OpFault.{OpFault}
use Rattle.smt_theory.specs.declared.op.OpFault.TheVariants as faults
use Rattle.smt_theory.specs.declared.theories.Theories.{Theories}
use Rattle.smt_faults.specs.declared.term_flaw.TermFlaw.{TermFlaw}
use Rattle.smt_faults.specs.declared.term_flaw.TermFlaw.TheVariants.{Form, Unsupported}

-- a symbol, a symbol with indexes, or `(as const sort)`: what makes an array of that sort of its one element
pub data Identifier : Type 0 where
  Plain : (name : List ℕ) → Identifier
  Indexed : (name : List ℕ) → (indexes : List IndexView) → Identifier
  Qualified : (sort : Sexp) → Identifier

-- a numeral as an index
abbrev pub index_of_numeral : List ℕ → IndexView
index_of_numeral digits =
    let n = digits_value 10 digits in
    if nat_lt n (2 ^ 64) then Number n else Large

-- the index that a tree is: a numeral or a symbol
abbrev pub index_of_tree : Sexp → Option IndexView
index_of_tree (Atom Numeral digits) = Some (index_of_numeral digits)
index_of_tree (Atom Symbol name) = Some (Name name)
index_of_tree _ = None

-- the indexes that trees are, if each is one
abbrev pub all_indexes : Sexps → Option (List IndexView)
all_indexes Nil = Some []
all_indexes (Cons x xs) = option_and_then (λ i. option_map (λ is. i ∷ is) (all_indexes xs)) (index_of_tree x)

-- the identifier `(_ symbol index ..)`, by what stands behind the `_`
abbrev pub indexed : Sexps → Result Identifier TermFlaw
indexed (Cons (Atom Symbol name) (Cons x xs)) =
    ok_or (option_map (λ is. Indexed name is) (all_indexes (Cons x xs))) Form
indexed _ = Err Form

-- the identifier `(as const sort)`, by what stands behind the `as`
abbrev pub qualified : Sexps → Result Identifier TermFlaw
qualified (Cons (Atom Symbol x) (Cons sort Nil)) =
    if bytes_eq x (codes "const") then Ok (Qualified sort) else Err Unsupported
qualified _ = Err Unsupported

-- what is wrong with a list that begins with this word
abbrev pub word_flaw : Word → TermFlaw
word_flaw Forall = Unsupported
word_flaw Exists = Unsupported
word_flaw Match = Unsupported
word_flaw As = Unsupported
word_flaw _ = Form

-- the identifier that a list of this head applies to its arguments, or what is wrong with its form
abbrev pub applied : Sexp → Sexps → Result Identifier TermFlaw
applied (Atom Symbol name) (Cons x xs) = Ok (Plain name)
applied (Items (Cons (Reserved As) parts)) (Cons x Nil) = qualified parts
applied (Items (Cons (Reserved As) parts)) args = Err Unsupported
applied (Items (Cons (Reserved Underscore) parts)) (Cons x xs) = indexed parts
applied (Reserved word) args = Err (word_flaw word)
applied _ _ = Err Form

-- an identifier that the profile supports: `(as const sort)` is of the wide one alone
abbrev pub of_profile : (wide : Bool) → Identifier → Result Identifier TermFlaw
of_profile wide (Qualified sort) = if wide then Ok (Qualified sort) else Err Unsupported
of_profile wide f = Ok f

-- what a list of this head applies in a profile
abbrev pub applied_in : (wide : Bool) → Sexp → Sexps → Result Identifier TermFlaw
applied_in wide head args = result_and_then (applied head args) (of_profile wide)

-- the operator that the name of an identifier is. That of `(as const sort)` holds a sort, which no name tells
abbrev pub operator_of : Theories → Identifier → Result Op OpFault
operator_of theories (Plain name) = op_by theories name []
operator_of theories (Indexed name indexes) = op_by theories name indexes
operator_of theories (Qualified sort) = Err faults.Unknown
