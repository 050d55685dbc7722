use Rattle.std.proofs.Common.{rules, ◌≡◌, ◌∙◌, ◌+◌, ap, sym, length, take, drop, ◌∷◌, min}
use Rattle.std.proofs.lemmas.List.{take_all, length-drop}
use Rattle.smt_trees.specs.Places.{size_of}
use Rattle.smt_trees.specs.Sexp.{Sexp, Sexps, Cons}
use Rattle.smt_trees.specs.Tape.{inside, sexps_in, tree_with}
use Rattle.smt_trees.specs.View.{sexp_of, sexps_of}
use Rattle.smt_trees.proofs.PlaceLemmas.{behind_lies, parts_lie}
use Rattle.smt_trees.proofs.TapeLemmas.{split}
use Rattle.smt_trees.proofs.view.Trees.split_placed.Goals as goal

pub returns-clause-trees : goal.returns-clause-trees
unfolding sexps_of
returns-clause-trees c =
    let text = c.args.self.text.now in
    let rest = c.in-Some.rest.now in
    let whole : sexps_of c.args.self ≡ sexps_in text (c.in-Some.cell.now ∷ rest) = search rules in
    let count : c.min-count.result ≡ min (inside c.in-Some.cell.now) (length rest) = search rules in
    let parts : sexps_of c.of-parts.result ≡ sexps_in text (take c.min-count.result rest) = search in
    let behind : sexps_of c.of-behind.result ≡ sexps_in text (drop c.min-count.result rest) =
    search (rules, take_all, length-drop) in
    let tree : sexp_of c.tree_with.result ≡ tree_with text (sexps_of c.of-parts.result) c.in-Some.cell.now =
    c.tree_with.ensures.tree in
    whole ∙ split text c.in-Some.cell.now rest c.min-count.result count
    ∙ ap (λ (xs : Sexps). Cons (tree_with text xs c.in-Some.cell.now) (sexps_in text (drop c.min-count.result rest)))
    (sym parts)
    ∙ ap (λ (xs : Sexps). Cons (tree_with text (sexps_of c.of-parts.result) c.in-Some.cell.now) xs) (sym behind)
    ∙ ap (λ (x : Sexp). Cons x (sexps_of c.of-behind.result)) (sym tree)

pub returns-clause-places : goal.returns-clause-places
returns-clause-places c whole to h =
    let rest = c.in-Some.rest.now in
    let n = c.min-count.result in
    let cells : c.args.self.cells.now ≡ c.in-Some.cell.now ∷ rest = search rules in
    let inner : c.of-parts.result.cells.now ≡ take n rest = search in
    let own : c.of-behind.result.cells.now ≡ drop n rest = search (rules, take_all, length-drop) in (
      behind_lies whole c.args.self c.of-behind.result c.in-Some.cell.now rest n to h cells own
          c.of-behind.ensures.text,
      c.tree_with.ensures.places whole (size_of c.of-behind.result + to)
          (parts_lie whole c.args.self c.of-parts.result c.of-behind.result c.in-Some.cell.now rest n to h cells
          inner own c.of-parts.ensures.text),
    )
