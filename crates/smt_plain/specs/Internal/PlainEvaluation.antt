-- What the evaluation of trees answers, and how much is left to evaluate.
use Rattle.std.specs.Prelude.{◌≡◌, ℕ, ◌+◌, List, [], ◌∷◌, Option, Result, IfOk, map}
use Rattle.smt_trees.specs.Sexp.{weight}
use Rattle.smt_trees.specs.View.{sexp_of}
use Rattle.smt_arrays.specs.Element.{Element}
use Rattle.smt_values.specs.ElementNumbers.{numbered_in}
use Rattle.smt_values.specs.declared.value.Value.{Value}
use Rattle.smt_faults.specs.declared.memory.Memory.{Memory}
use Rattle.smt_forms.specs.declared.variable.Variable.{Variable}
use Rattle.smt_eval.specs.Known.{KnownMeaning, known_after, known_operators}
use Rattle.smt_plain.specs.PlainTerm.{entries_of, known_single, without_arrays}
use Rattle.smt_plain.specs.declared.closed.Definition.{Definition}
use Rattle.smt_plain.specs.declared.names.Definitions.{Definitions}

-- what identifiers are known to mean over definitions, where arrays are open, and elements by their numbers among the
-- names
abbrev pub meaning_of : Definitions → KnownMeaning
meaning_of over = known_after (without_arrays (known_operators (numbered_in over.names.now) over.theories))
    (entries_of over.seen.now)

-- what is known of variables
abbrev pub known_scope : List (Variable (Option Value)) → List (List ℕ × Option Element)
known_scope variables = map (λ v. (v.name.now, known_single v.value)) variables

-- this is answered, unless memory was refused
abbrev pub Gives : Option Element → Result (Option Value) Memory → Type 0
Gives known result = IfOk result (λ v. known_single v ≡ known)

-- how much the bodies of definitions weigh
abbrev pub bodies_weight : List Definition → ℕ
bodies_weight [] = 0
bodies_weight (d ∷ ds) = weight (sexp_of d.body) + bodies_weight ds

abbrev pub seen_weight : Definitions → ℕ
seen_weight over = bodies_weight over.seen.now
