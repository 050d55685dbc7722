-- The parts of trees weigh less than the trees.
use Rattle.std.proofs.Common.{◌≡◌, ◌<◌, ap, arith}
use Rattle.smt_trees.specs.Sexp.{Sexp, Sexps, Atom, Reserved, Items, Cons, weight, weight_all}

weight_some : (x : Sexp) → 0 < weight x
weight_some (Atom kind bytes) = omega arith
weight_some (Reserved word) = omega arith
weight_some (Items parts) = omega arith

pub rest_weighs_less : (trees rest : Sexps) (first : Sexp) → trees ≡ Cons first rest
    → weight_all rest < weight_all trees
rest_weighs_less trees rest first e = let w = ap weight_all e in omega (arith, w, weight_some first)

pub parts_weigh_less : (trees rest parts inner : Sexps) (first : Sexp) → trees ≡ Cons first rest
    → first ≡ Items parts → inner ≡ parts → weight_all inner < weight_all trees
parts_weigh_less trees rest parts inner first e f g =
    let w = ap weight_all e in
    let v = ap weight f in
    let u = ap weight_all g in
    omega (arith, w, v, u)
