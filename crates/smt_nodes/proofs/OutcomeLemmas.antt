-- What holds of an outcome, by what holds of it already. Nothing here knows a row.
use Rattle.std.proofs.Common.{Result, Ok, Err, OnOk, OnErr, IfOk}

pub on_ok : {T E : Type 0} {P Q : Type 0} (r : Result T E) → OnOk r P → (P → Q) → OnOk r Q
on_ok (Ok x) p f = f p
on_ok (Err e) p f = p

pub on_err : {T E : Type 0} {P Q : Type 0} (r : Result T E) → OnErr r P → (P → Q) → OnErr r Q
on_err (Ok x) p f = p
on_err (Err e) p f = f p

pub if_ok : {T E : Type 0} {P Q : T → Type 0} (r : Result T E) → IfOk r P → ((x : T) → P x → Q x) → IfOk r Q
if_ok (Ok x) p f = f x p
if_ok (Err e) p f = p

pub err_as_well : {T E : Type 0} {P : Type 0} (r : Result T E) → P → OnErr r P
err_as_well (Ok x) p = tt
err_as_well (Err e) p = p
