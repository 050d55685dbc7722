-- the definitions behind those that are left have another name
use Rattle.std.proofs.Common.{◌≡◌, ◌≤◌, List, Option, length, take}
use Rattle.smt_arrays.specs.Element.{Element}
use Rattle.smt_forms.specs.Identifier.{Plain}
use Rattle.smt_plain.specs.Internal.PlainEvaluation.{bodies_weight}
use Rattle.smt_eval.specs.Known.{KnownMeaning, known_after}
use Rattle.smt_plain.specs.PlainTerm.{entries_of}
use Rattle.smt_plain.proofs.names.last_named.Given as goal

abbrev pub invariant-loop-count : goal.invariant-loop-count
invariant-loop-count l = record {
  within : l.count ≤ length l.definitions;
  means : (m : KnownMeaning) (args : List (Option Element))
      → (known_after m (entries_of l.definitions)).gives (Plain l.name) args
      ≡ (known_after m (entries_of (take l.count l.definitions))).gives (Plain l.name) args;
  lighter : bodies_weight (take l.count l.definitions) ≤ bodies_weight l.definitions;
}

abbrev pub decreases-loop-count : goal.decreases-loop-count
decreases-loop-count l = l.count
