-- Trees behind trees.
use Rattle.std.proofs.Common.{◌≡◌, ◌+◌, refl, ap, arith}
use Rattle.smt_trees.specs.Sexp.{Sexps, Nil, Cons, append, count}

pub append_nil : (xs : Sexps) → append xs Nil ≡ xs
append_nil Nil = refl
append_nil (Cons x xs) = ap (Cons x) (append_nil xs)

pub append_assoc : (xs ys zs : Sexps) → append (append xs ys) zs ≡ append xs (append ys zs)
append_assoc Nil ys zs = refl
append_assoc (Cons x xs) ys zs = ap (Cons x) (append_assoc xs ys zs)

pub count-append : (xs ys : Sexps) → count (append xs ys) ≡ count xs + count ys
count-append Nil ys = omega arith
count-append (Cons x xs) ys = omega (arith, count-append xs ys)

pub same_behind : (xs : Sexps) {ys zs : Sexps} → append xs ys ≡ append xs zs → ys ≡ zs
same_behind Nil h = h
same_behind (Cons x xs) h = same_behind xs (cc)
