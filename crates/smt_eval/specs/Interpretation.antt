-- What a contract sees of an interpretation: the definitions that it was read from.
use Rattle.std.specs.Prelude.{◌≡◌, ◌≤◌, ◌⊎◌, ◌^◌, ℕ, suc, List, [], ◌∷◌, Option, Some, None, if◌then◌else◌, length}
use Rattle.std.specs.Prelude.{nat_lt}
use Rattle.smt_trees.specs.Sexp.{Sexp}
use Rattle.smt_values.specs.ElementNumbers.{numbered_in}
use Rattle.smt_machine.specs.Costs.{AreCosts, cost, greatest_of}
use Rattle.smt_machine.specs.Memory.{Remembers}
use Rattle.smt_values.specs.Element.{Naming}
use Rattle.smt_machine.specs.declared.machine.Machine.{Machine}
use Rattle.smt_terms.specs.Library.{IsTerm, StandsFor, definitions_of, element_names_of, held_terms_of, terms_of}
use Rattle.smt_terms.specs.Signature.{AreDistinct, Signature}
use Rattle.smt_terms.specs.declared.library.Definition.{Definition}
use Rattle.smt_terms.specs.declared.library.Library.{Library}
use Rattle.smt_eval.specs.Cost.{cost_over}
use Rattle.smt_eval.specs.Internal.DefinitionValues.{AllDefined}
use Rattle.smt_eval.specs.NodeValues.{GivesBodies, arounds_over, nodes_over}
use Rattle.smt_eval.specs.Structure.{structure_of}
use Rattle.smt_eval.specs.declared.interpretation.Interpretation.{Interpretation}

-- the library holds a script's names; no term of it names an element of a declared sort
abbrev pub HoldsScript : Library → Type 0
HoldsScript library = (script : Signature) × StandsFor library script × (script.elements ≡ None)

-- the interpretation holds these definitions of a model of the script's names, over the script's theories,
-- and for each declared name the body that they give to it; in the structure of the script no two have one
-- name. No term of the script names an element of a declared sort
pub record IsInterpretation (interpretation : Interpretation) (script definitions : Signature) : Type 0 where
  pub stands : StandsFor interpretation.definitions definitions
  pub defined : AllDefined definitions.entries
  pub theories : definitions.theories ≡ script.theories
  pub no_elements : script.elements ≡ None
  pub distinct : AreDistinct (structure_of script definitions).entries
  pub bodies : GivesBodies interpretation.declared.items script definitions
      (held_terms_of interpretation.definitions).bodies

-- the interpretation is one of a model of the names that the script's library has now
pub record Fits (interpretation : Interpretation) (library : Library) : Type 0 where
  pub script : Signature
  pub definitions : Signature
  pub names : StandsFor library script
  pub holds : IsInterpretation interpretation script definitions

-- the elements of declared sorts that the model's items name, each by the number of its name there
abbrev pub numbers_of : Interpretation → Naming
numbers_of interpretation = numbered_in (element_names_of interpretation.definitions)

-- the values that the machine keeps are those of this interpretation, over the script's library
abbrev pub Serves : Machine → Interpretation → Library → Type 0
Serves machine interpretation library = Remembers machine
    (nodes_over (numbers_of interpretation) (held_terms_of interpretation.definitions) (terms_of library)
    interpretation.declared.items)

-- the costs that the interpretation keeps are those of its nodes and of the library's as they are now
abbrev pub KnowsCosts : Interpretation → Library → Type 0
KnowsCosts interpretation library = AreCosts
    (nodes_over (numbers_of interpretation) (held_terms_of interpretation.definitions) (terms_of library)
    interpretation.declared.items)
    (arounds_over (held_terms_of interpretation.definitions) (terms_of library)) interpretation.costs.items

-- it keeps none, or those
abbrev pub KeepsCosts : Interpretation → Library → Type 0
KeepsCosts interpretation library = (interpretation.costs.items ≡ []) ⊎ KnowsCosts interpretation library

-- the greatest cost of a node of the model, as code counts it
abbrev pub greatest_cost_of : Interpretation → Library → ℕ
greatest_cost_of interpretation library = greatest_of (length (held_terms_of interpretation.definitions).rows)
    (cost (nodes_over (numbers_of interpretation) (held_terms_of interpretation.definitions) (terms_of library)
    interpretation.declared.items)
    (arounds_over (held_terms_of interpretation.definitions) (terms_of library)))

-- what a term costs at most for each atom and list in it, where there are no definitions and that is below 2^64
abbrev pub rate_in : List Definition → ℕ → Option ℕ
rate_in [] most = if nat_lt (suc most) (2 ^ 64) then Some (suc most) else None
rate_in (d ∷ ds) most = None

abbrev pub rate_of : Interpretation → Library → Option ℕ
rate_of interpretation library = rate_in (definitions_of library) (greatest_cost_of interpretation library)

-- a term of the library costs so many at most over the interpretation
abbrev pub CostsAtMost : ℕ → Library → Interpretation → ℕ → Type 0
CostsAtMost n library interpretation term = (script definitions : Signature) (t : Sexp)
    → StandsFor library script → IsInterpretation interpretation script definitions → IsTerm library term t
    → cost_over (structure_of script definitions) t ≤ n
