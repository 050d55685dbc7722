-- SMT-LIB 2.6, sections 4.2.6 and 5.2: a printed model of names in force.
use Rattle.std.specs.Prelude.{◌≡◌, ℕ, List, [], Some, Ok}
use Rattle.smt_trees.specs.Sexp.{Sexps}
use Rattle.smt_terms.specs.Freshness.{item_elements}
use Rattle.smt_terms.specs.Signature.{AreDistinct, Entry, IsDeclared, KeepsRank, Signature, entry_named}
use Rattle.smt_terms.specs.WellSorted.{AreWellSorted}
use Rattle.smt_eval.specs.Model.{model_in}

-- the parts are those of a model of the script's names, and these are its definitions: over the script's
-- theories and elements of its sorts, each well sorted over the earlier ones, none twice, and one of each
-- declared name, of its rank
pub record IsModelOf (script : Signature) (parts : Sexps) (definitions : Signature) : Type 0 where
  pub read : model_in script parts ≡ Ok definitions
  pub theories : definitions.theories ≡ script.theories
  pub elements : definitions.elements ≡ item_elements script
  pub well_sorted : AreWellSorted definitions.theories definitions.elements [] definitions.entries
  pub distinct : AreDistinct definitions.entries
  pub complete : (x : List ℕ) (e : Entry) → entry_named script.entries x ≡ Some e → IsDeclared e.origin
      → KeepsRank e (entry_named definitions.entries x)
