-- The symbols by which solvers print elements of declared sorts. `(as @x S)` is the standard's form (SMT-LIB 2.6,
-- sections 3.3 and 4.2.6). The standard does not know the plain symbols `U!val!0` and `@uc_U_0`, elements of the
-- sort that is named `U`: that they are read so is this project's rule.
use Rattle.std.specs.Prelude.{ℕ, List, [], ◌∷◌, Bool, false, not, ◌&&◌, ◌==◌, Option, Some, None, codes}
use Rattle.std.specs.Prelude.{option_and_then, option_map, if◌then◌else◌}
use Rattle.std.specs.Char.{is_ascii_digit}
use Rattle.std.specs.List.{list_all}
use Rattle.std.specs.Option.{option_or}
use Rattle.smt_trees.specs.Sexp.{Sexps, Atom, Cons, Symbol}

-- 0, or digits of which the first is not 0 (SMT-LIB 2.6, section 3.1)
abbrev pub is_numeral : List ℕ → Bool
is_numeral [] = false
is_numeral (d ∷ []) = is_ascii_digit d
is_numeral (d ∷ ds) = not (d == 48) && list_all is_ascii_digit (d ∷ ds)

-- what stands behind these characters, where a symbol begins with them
abbrev pub behind : (first symbol : List ℕ) → Option (List ℕ)
behind [] symbol = Some symbol
behind (c ∷ cs) [] = None
behind (c ∷ cs) (d ∷ ds) = if c == d then behind cs ds else None

abbrev pub is_numeral_behind : Option (List ℕ) → Bool
is_numeral_behind None = false
is_numeral_behind (Some rest) = is_numeral rest

-- what stands before these characters in a symbol, where a numeral stands behind them and ends it
abbrev pub before_numeral : (mark symbol : List ℕ) → Option (List ℕ)
before_numeral mark [] = None
before_numeral mark (c ∷ cs) = if is_numeral_behind (behind mark (c ∷ cs)) then Some []
    else option_map (λ before. c ∷ before) (before_numeral mark cs)

-- the name of the sort of which a symbol is an element: `U` for `U!val!0` and for `@uc_U_0`
abbrev pub sort_of_element : List ℕ → Option (List ℕ)
sort_of_element symbol = option_or (before_numeral (codes "!val!") symbol)
    (option_and_then (before_numeral (codes "_")) (behind (codes "@uc_") symbol))

-- whether a symbol begins with `@`, as those do that solvers may give to elements
abbrev pub begins_at : List ℕ → Bool
begins_at [] = false
begins_at (c ∷ cs) = c == 64

-- the symbol of `(as symbol sort)`, by what stands behind the `as`
abbrev pub qualified_symbol : Sexps → Option (List ℕ)
qualified_symbol (Cons (Atom Symbol x) rest) = Some x
qualified_symbol _ = None
