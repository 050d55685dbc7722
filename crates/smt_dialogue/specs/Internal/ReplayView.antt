-- What a replay keeps of the command in turn.
use Rattle.std.specs.Prelude.{ℕ, Option, Some, None}
use Rattle.smt_trees.specs.declared.owned.OwnedTree.{OwnedTree}

-- how many of the commands that were read were not applied: the one in turn, if there is one
abbrev pub waiting : Option OwnedTree → ℕ
waiting None = 0
waiting (Some tree) = 1
