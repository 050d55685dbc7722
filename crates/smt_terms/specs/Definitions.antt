-- SMT-LIB 2.6, section 4.2.3: definitions by a name, parameters, a sort and a body. The order of the faults
-- is this project's rule.
use Rattle.std.specs.Prelude.{ℕ, List, [], ◌∷◌, ◌++◌, Result, Ok, Err, map, if◌then◌else◌}
use Rattle.smt_trees.specs.Sexp.{Sexp}
use Rattle.smt_theory.specs.Sort.{is_same_sort}
use Rattle.smt_theory.specs.Words.{result_and_then}
use Rattle.smt_theory.specs.Sort.{Sort}
use Rattle.smt_terms.specs.Checking.{sort_in}
use Rattle.smt_terms.specs.Freshness.{NewSymbol, NewVariable, where_fresh}
use Rattle.smt_terms.specs.Signature.{Entry, Defined, Names, Signature, names_of, sort_names_of}
use Rattle.smt_terms.specs.SortTrees.{SortNames, sort_named}
use Rattle.smt_faults.specs.declared.term_flaw.TermFlaw.{TermFlaw}
use Rattle.smt_faults.specs.declared.term_flaw.TermFlaw.TheVariants.{IllSorted}

-- the parameters that names with the trees of their sorts make behind earlier ones; no two have one name
abbrev pub parameters_named : SortNames → List (List ℕ × Sort) → List (List ℕ × Sexp)
    → Result (List (List ℕ × Sort)) TermFlaw
parameters_named sorts earlier [] = Ok earlier
parameters_named sorts earlier (p ∷ ps) =
    result_and_then (sort_named sorts p.1)
    (λ s. where_fresh (NewVariable earlier) p.0 Err
    (parameters_named sorts (earlier ++ (p.0, s) ∷ []) ps))

-- a name with these parameters, of this sort, and with this body
abbrev pub definition : List ℕ → List (List ℕ × Sort) → Sort → Sexp → Entry
definition x parameters sort body =
    record {
      name = x;
      parameters = map (λ p. p.1) parameters;
      sort = sort;
      origin = Defined (map (λ p. p.0) parameters) body;
    }

-- the same, where the body has that sort over the names and the parameters
abbrev pub definition_in : Names → List ℕ → List (List ℕ × Sort) → Sort → Sexp → Result Entry TermFlaw
definition_in names x parameters sort body =
    result_and_then (sort_in names parameters body)
    (λ found. if is_same_sort found sort then Ok (definition x parameters sort body) else Err IllSorted)

-- what the definition of a name with parameters, a sort and a body brings, or its first fault. The body does
-- not see the name
abbrev pub defined_in : Signature → List ℕ → List (List ℕ × Sexp) → Sexp → Sexp → Result Entry TermFlaw
defined_in s x parameters tree body =
    where_fresh (NewSymbol (names_of s)) x Err
    (result_and_then (parameters_named (sort_names_of s) [] parameters)
    (λ ps. result_and_then (sort_named (sort_names_of s) tree)
    (λ sort. definition_in (names_of s) x ps sort body)))
