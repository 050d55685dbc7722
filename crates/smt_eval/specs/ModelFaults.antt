-- A fault of a model is a flaw of it, or want of memory, which says nothing of it.
use Rattle.std.specs.Prelude.{◌≡◌, ◌⊎◌, true, Option, Some, None, Result, Err, is_some, option_map, unwrap_or}
use Rattle.smt_faults.specs.Faults.{flaw_of_term_fault}
use Rattle.smt_eval.specs.declared.model_fault.ModelFault.{ModelFault}
use Rattle.smt_eval.specs.declared.model_fault.ModelFault.TheVariants as faults
use Rattle.smt_eval.specs.declared.model_fault.ModelFlaw.{ModelFlaw}
use Rattle.smt_eval.specs.declared.model_fault.ModelFlaw.TheVariants.{Item, Lacks}

abbrev pub flaw_of_model_fault : ModelFault → Option ModelFlaw
flaw_of_model_fault (faults.Item number fault) = option_map (Item number) (flaw_of_term_fault fault)
flaw_of_model_fault (faults.Lacks command) = Some (Lacks command)
flaw_of_model_fault faults.Memory = None

-- the flaw that a fault tells. (Want of memory tells none: what stands there is nothing that a use of this
-- depends on.)
abbrev pub model_flaw_told : ModelFault → ModelFlaw
model_flaw_told fault = unwrap_or (flaw_of_model_fault fault) (Lacks 0)

-- the fault is want of memory, or tells the flaw that is expected
abbrev pub TellsModel : {A : Type 0} → Result A ModelFlaw → ModelFault → Type 0
TellsModel expected fault =
    (fault ≡ faults.Memory)
    ⊎ ((is_some (flaw_of_model_fault fault) ≡ true) × (expected ≡ Err (model_flaw_told fault)))
