-- What holds whatever a call answers.
use Rattle.std.proofs.Common.{Result, Ok, Err, IfOk}

pub if_ok : {T E P : Type 0} (r : Result T E) → P → IfOk r (λ x. P)
if_ok (Ok x) p = p
if_ok (Err e) p = tt
