-- A fault of an item of a model, by its number.
use Rattle.std.specs.Prelude.{ℕ}
use Rattle.smt_faults.specs.declared.term_fault.TermFault.{TermFault}
use Rattle.smt_faults.specs.declared.term_fault.TermFault.TheVariants.{Memory}
use Rattle.smt_eval.specs.declared.model_fault.ModelFault.{ModelFault}
use Rattle.smt_eval.specs.declared.model_fault.ModelFault.TheVariants.{Item, Memory as OutOfMemory}

-- want of memory is no item's
abbrev pub model_fault_of_item : ℕ → TermFault → ModelFault
model_fault_of_item number Memory = OutOfMemory
model_fault_of_item number fault = Item number fault
