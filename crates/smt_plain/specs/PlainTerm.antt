-- A term that is kept as its tree, over definitions that are kept as theirs.
use Rattle.std.specs.Prelude.{◌≡◌, List, [], Option, Some, None, map, option_map}
use Rattle.smt_trees.specs.Sexp.{Sexp}
use Rattle.smt_trees.specs.View.{sexp_of}
use Rattle.smt_values.specs.Element.{Naming, known_element}
use Rattle.smt_values.specs.declared.value.Value.{Value}
use Rattle.smt_arrays.specs.Element.{Element, Plain as NoArray}
use Rattle.smt_terms.specs.Signature.{Entry, Origin, Defined, Signature}
use Rattle.smt_eval.specs.Known.{KnownMeaning, known_after, known_of, known_operators}
use Rattle.smt_plain.specs.declared.closed.Closed.{Closed}
use Rattle.smt_plain.specs.declared.closed.Definition.{Definition}

-- its parameters and its body
abbrev pub origin_of : Definition → Origin
origin_of d = Defined (map (λ p. p.0.items) d.params.now) (sexp_of d.body)

-- what it defines
abbrev pub entry_of : Definition → Entry
entry_of d = record {
  name = d.name.now;
  parameters = map (λ p. p.1) d.params.now;
  sort = d.result;
  origin = origin_of d;
}

abbrev pub entries_of : List Definition → List Entry
entries_of definitions = map entry_of definitions

-- ---- without arrays

-- what a value that may be open says of an element that is no array
abbrev pub known_single : Option Value → Option Element
known_single value = option_map NoArray (known_element value)

abbrev pub known_singles : List (Option Value) → List (Option Element)
known_singles values = map known_single values

-- an array is open
abbrev pub unless_array : Option Element → Option Element
unless_array (Some (NoArray e)) = Some (NoArray e)
unless_array _ = None

-- what identifiers are known to mean, where each array is open
abbrev pub without_arrays : KnownMeaning → KnownMeaning
without_arrays m = record { gives = λ f args. unless_array (m.gives f args); element = m.element }

-- what is known of a closed term over definitions, where each array is open
abbrev pub known_without_arrays : Naming → Signature → Sexp → Option Element
known_without_arrays element definitions term =
    known_of (known_after (without_arrays (known_operators element definitions.theories)) definitions.entries) [] term

-- ---- trees

-- the value stands for its tree, over the structure of its theories and definitions
pub record IsPlain (closed : Closed) (structure : Signature) (term : Sexp) : Type 0 where
  pub theories : structure.theories ≡ closed.theories
  pub definitions : structure.entries ≡ entries_of closed.definitions.now
  pub tree : term ≡ sexp_of closed.tree
