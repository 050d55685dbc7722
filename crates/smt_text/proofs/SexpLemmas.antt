-- S-expressions side by side: a list behind another, and how many there are.
use Rattle.std.proofs.Common.{◌≡◌, ◌+◌, refl, ap, arith}
use Rattle.smt_trees.specs.Sexp.{Sexps, Nil, Cons, append, count}

pub append_nil : (xs : Sexps) → append xs Nil ≡ xs
append_nil Nil = refl
append_nil (Cons x xs) = ap (Cons x) (append_nil xs)

pub append_assoc : (xs ys zs : Sexps) → append (append xs ys) zs ≡ append xs (append ys zs)
append_assoc Nil ys zs = refl
append_assoc (Cons x xs) ys zs = ap (Cons x) (append_assoc xs ys zs)

pub count-append : (xs ys : Sexps) → count (append xs ys) ≡ count xs + count ys
count-append Nil ys = omega arith
count-append (Cons x xs) ys = omega (arith, count-append xs ys)

pub nil_if_none : (xs : Sexps) → count xs ≡ 0 → xs ≡ Nil
nil_if_none Nil e = refl
nil_if_none (Cons x xs) e = absurd (omega arith)
