-- The cells of trees are as many as the atoms and lists in them.
use Rattle.std.proofs.Common.{◌≡◌, ◌≤◌, ℕ, zero, suc, List, [], ◌∷◌, length, take, drop, refl, ap, sym, arith}
use Rattle.std.proofs.lemmas.List.{take-append-drop, length-append}
use Rattle.smt_trees.specs.Places.{size_of}
use Rattle.smt_trees.specs.Sexp.{Sexps, weight, weight_all}
use Rattle.smt_trees.specs.Tape.{inside, tree_with, trees_within}
use Rattle.smt_trees.specs.View.{sexps_of}
use Rattle.smt_trees.specs.declared.tape.Cell.{Cell}
use Rattle.smt_trees.specs.declared.tape.Cell.TheVariants as cells
use Rattle.smt_trees.specs.declared.view.Trees.{Trees}

-- a cell, with the trees in it
weight_first : (text : List ℕ) (cell : Cell) (parts : Sexps) (n : ℕ) → weight_all parts ≡ n
    → (inside cell ≡ 0 → n ≡ 0) → weight (tree_with text parts cell) ≡ suc n
weight_first text (cells.Atom kind start count) parts n h none = ap suc (sym (none refl))
weight_first text (cells.Reserved word) parts n h none = ap suc (sym (none refl))
weight_first text (cells.List count) parts n h none = ap suc h

weight_within : (most : ℕ) (text : List ℕ) (all : List Cell) → length all ≤ most
    → weight_all (trees_within most text all) ≡ length all
weight_within zero text [] h = refl
weight_within zero text (cell ∷ all) h = absurd (omega (arith, h))
weight_within (suc most) text [] h = refl
weight_within (suc most) text (cell ∷ all) h =
    let n = inside cell in
    let both = ap (λ (xs : List Cell). length xs) (take-append-drop n all) in
    let parts = length-append (take n all) (drop n all) in
    let inner = weight_within most text (take n all) (omega (arith, h, both, parts)) in
    let first = weight_first text cell (trees_within most text (take n all)) (length (take n all)) inner
    (λ z. ap (λ k. length (take k all)) z) in
    let rest = weight_within most text (drop n all) (omega (arith, h, both, parts)) in
    omega (arith, both, parts, first, rest)

pub weight_of_trees : (trees : Trees) → size_of trees ≡ weight_all (sexps_of trees)
unfolding sexps_of
weight_of_trees trees =
    let same = weight_within (length trees.cells.now) trees.text.now trees.cells.now (omega arith) in
    omega (arith, same)
