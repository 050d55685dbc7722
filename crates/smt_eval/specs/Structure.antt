-- SMT-LIB 2.6, sections 4.2.6 and 5.3: the structure that a model gives to a script.
use Rattle.std.specs.Prelude.{[], ◌++◌}
use Rattle.smt_terms.specs.Signature.{AreDistinct, Signature, defined_among}
use Rattle.smt_terms.specs.WellSorted.{AreWellSorted}

-- the definitions of a model of the script's names, and behind them the script's own, which see them
abbrev pub structure_of : Signature → Signature → Signature
structure_of script definitions =
    record definitions { entries = definitions.entries ++ defined_among script.entries }

-- these definitions are a structure's: each is well sorted over the earlier ones, and no two have one name
pub record IsStructure (definitions : Signature) : Type 0 where
  pub well_sorted : AreWellSorted definitions.theories definitions.elements [] definitions.entries
  pub distinct : AreDistinct definitions.entries
