-- The bodies that the definitions of a model give to declared names.
use Rattle.std.specs.Prelude.{◌≡◌, ◌⊎◌, ℕ, List, [], ◌∷◌, Option, Some, slice_get}
use Rattle.smt_terms.specs.Signature.{Entry, entry_named}
use Rattle.smt_eval.specs.declared.model_fault.ModelFault.{ModelFault}
use Rattle.smt_eval.specs.declared.model_fault.ModelFault.TheVariants.{Lacks, Memory}

-- among definitions with these bodies, the one of this name is the entry, and the node is its body
abbrev pub GivesBody : List Entry → List ℕ → List ℕ → ℕ → Type 0
GivesBody entries bodies x j = (p : ℕ) × (e : Entry) × (entry_named entries x ≡ Some e)
    × (slice_get entries p ≡ Some e) × (slice_get bodies p ≡ Some j)

-- the nodes are the bodies of the definitions of these names, one for each
abbrev pub GiveBodies : List Entry → List ℕ → List Entry → List ℕ → Type 0
GiveBodies entries bodies [] [] = Unit {0}
GiveBodies entries bodies (e ∷ es) (j ∷ js) =
    GivesBody entries bodies e.name j × GiveBodies entries bodies es js
GiveBodies entries bodies _ _ = ⊥

-- the fault tells the first name that is lacking, by its command, unless memory was refused
abbrev pub TellsLacking : Option ℕ → ModelFault → Type 0
TellsLacking first fault = (fault ≡ Memory) ⊎ ((command : ℕ) × (fault ≡ Lacks command) × (first ≡ Some command))
