use Rattle.std.proofs.Common.{List, [], Option, Result, Ok, Err}
use Rattle.std.specs.Prelude.{IfOk}
use Rattle.smt_faults.specs.declared.memory.Memory.{Memory}
use Rattle.smt_terms.specs.Blame.{IsToldOf}
use Rattle.smt_terms.specs.Items.{items_before}
use Rattle.smt_terms.specs.Signature.{Entry, Signature}
use Rattle.smt_terms.specs.declared.blame.Blame.{Blame}
use Rattle.smt_eval.proofs.blames.blame_of_items.Goals as goal

-- behind some items
some_items : (s : Signature) (es : List Entry) (result : Result (Option Blame) Memory)
    → IfOk result (IsToldOf s (items_before s es))
    → IfOk result (λ found. (more : List Entry) × IsToldOf s (items_before s more) found)
some_items s es (Ok found) h = (es, h)
some_items s es (Err e) h = h

pub take_items-requires : goal.take_items-requires
take_items-requires c = c.in_ok-definitions.ensures.reads

pub returns-in-Some : goal.returns-in-Some
returns-in-Some c = λ s stands.
    let behind = c.take_items.ensures s [] stands (c.in_ok-definitions.ensures.names s stands) in
    some_items s behind.0 c.blame_of_item.result
    (c.blame_of_item.ensures.told s (items_before s behind.0) stands behind.1)
