-- Terms of which it is told in numbers what they cost.
use Rattle.std.specs.Prelude.{ℕ, zero, suc, List, [], ◌∷◌, ◌++◌, codes}
use Rattle.smt_trees.specs.Sexp.{Sexp, Sexps, Atom, Reserved, Items, Nil, Cons, Symbol, Numeral, Keyword}
use Rattle.smt_trees.specs.declared.reserved.Word.TheVariants.{Bang}
use Rattle.smt_theory.specs.Sort.{Int}
use Rattle.smt_terms.specs.Signature.{Entry, Defined}

abbrev pub symbol : List ℕ → Sexp
symbol name = Atom Symbol name

abbrev pub applied_to : List ℕ → Sexp → Sexps → Sexp
applied_to name first rest = Items (Cons (symbol name) (Cons first rest))

-- x is 2
abbrev pub two_for_x : Entry
two_for_x = record {
  name = codes "x";
  parameters = [];
  sort = Int;
  origin = Defined [] (Atom Numeral (codes "2"));
}

-- (= (+ x 1) 3)
abbrev pub sum_is_three : Sexp
sum_is_three = applied_to (codes "=")
    (applied_to (codes "+") (symbol (codes "x")) (Cons (Atom Numeral (codes "1")) Nil))
    (Cons (Atom Numeral (codes "3")) Nil)

-- (! (! true :named a) :x)
abbrev pub annotated_twice : Sexp
annotated_twice = Items (Cons (Reserved Bang) (Cons
    (Items (Cons (Reserved Bang) (Cons (symbol (codes "true"))
    (Cons (Atom Keyword (codes "named")) (Cons (symbol (codes "a")) Nil)))))
    (Cons (Atom Keyword (codes "x")) Nil)))

-- the name of the k-th of some functions, whatever bytes it has
abbrev pub doubling_name : ℕ → List ℕ
doubling_name k = k ∷ []

-- (+ x x); and of each next function, which calls the one before, f, twice: (f (f x))
abbrev pub doubling_body : ℕ → Sexp
doubling_body zero = applied_to (codes "+") (symbol (codes "x")) (Cons (symbol (codes "x")) Nil)
doubling_body (suc k) =
    applied_to (doubling_name k) (applied_to (doubling_name k) (symbol (codes "x")) Nil) Nil

abbrev pub doubling : ℕ → Entry
doubling k = record {
  name = doubling_name k;
  parameters = Int ∷ [];
  sort = Int;
  origin = Defined (codes "x" ∷ []) (doubling_body k);
}

-- the functions up to the k-th
abbrev pub doublings : ℕ → List Entry
doublings zero = doubling zero ∷ []
doublings (suc k) = doublings k ++ doubling (suc k) ∷ []
