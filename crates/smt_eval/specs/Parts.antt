-- What a contract sees of the parts of terms: the nodes of a model and of a script together.
use Rattle.std.specs.Prelude.{◌≡◌, ℕ, ◌+◌, List, Option, None, Some, length, option_map, slice_get}
use Rattle.smt_machine.specs.Costs.{capped}
use Rattle.smt_machine.specs.Nodes.{Node}
use Rattle.smt_terms.specs.Denotes.{Table}
use Rattle.smt_terms.specs.Library.{IsFound, held_terms_of, terms_of}
use Rattle.smt_terms.specs.Signature.{Entry, entry_named}
use Rattle.smt_terms.specs.declared.library.Found.{Found}
use Rattle.smt_terms.specs.declared.library.Found.TheVariants as place
use Rattle.smt_eval.specs.Interpretation.{numbers_of}
use Rattle.smt_eval.specs.NodeValues.{arounds_over, nodes_over}
use Rattle.smt_eval.specs.declared.parts.Parts.{Parts}

abbrev pub model_of : Parts → Table
model_of parts = held_terms_of parts.interpretation.now.definitions

abbrev pub script_of : Parts → Table
script_of parts = terms_of parts.library.now

abbrev pub nodes_in : Parts → List Node
nodes_in parts = nodes_over (numbers_of parts.interpretation.now) (model_of parts) (script_of parts)
    parts.interpretation.now.declared.items

abbrev pub arounds_in : Parts → List ℕ
arounds_in parts = arounds_over (model_of parts) (script_of parts)

-- the body of a name that has this place among the script's, by its number in both tables
abbrev pub script_body : Parts → Found → Option ℕ
script_body parts (place.Declared n) = slice_get parts.interpretation.now.declared.items n
script_body parts (place.Defined n) =
    option_map (λ j. capped (length (model_of parts).rows + j)) (slice_get (script_of parts).bodies n)

-- that of one that has this place among the model's
abbrev pub model_body : Parts → Found → Option ℕ
model_body parts (place.Declared n) = None
model_body parts (place.Defined n) = slice_get (model_of parts).bodies n

-- what `bodies` gives for the entry of this name, by its place
abbrev pub IsBodyAt : List Entry → List ℕ → (Found → Option ℕ) → Option ℕ → Type 0
IsBodyAt entries name bodies result = (e : Entry) → entry_named entries name ≡ Some e
    → (found : Found) × IsFound found entries e × (result ≡ bodies found)
