-- Where trees lie in others, as cells: a place is the number of cells from it to the end.
use Rattle.std.specs.Prelude.{◌≡◌, ℕ, List, ◌++◌, length}
use Rattle.smt_trees.specs.declared.tape.Cell.{Cell}
use Rattle.smt_trees.specs.declared.view.Tree.{Tree}
use Rattle.smt_trees.specs.declared.view.Tree.TheVariants as trees
use Rattle.smt_trees.specs.declared.view.Trees.{Trees}

-- the number of cells that trees take
abbrev pub size_of : Trees → ℕ
size_of part = length part.cells.now

-- the number of cells that the parts of a tree take
abbrev pub size_of_list : Tree → ℕ
size_of_list (trees.List parts) = size_of parts
size_of_list _ = 0

-- trees lie in others, and end at this place
pub record LiesIn (whole part : Trees) (to : ℕ) : Type 0 where
  pub before : List Cell
  pub after : List Cell
  pub text : part.text.now ≡ whole.text.now
  pub cells : whole.cells.now ≡ before ++ (part.cells.now ++ after)
  pub end : length after ≡ to

-- a tree that is a list lies in trees, and its parts end at this place
abbrev pub IsListIn : Trees → Tree → ℕ → Type 0
IsListIn whole (trees.List parts) to = LiesIn whole parts to
IsListIn whole _ to = Unit {0}
