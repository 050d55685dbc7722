-- The levels that runs stand for.
use Rattle.std.specs.Prelude.{ℕ, zero, suc, List, [], ◌∷◌, ◌++◌}
use Rattle.smt_script.specs.declared.stack.levels.Level.{Level}
use Rattle.smt_script.specs.declared.stack.level_runs.Run.{Run}

-- so many of one level
abbrev pub copies : ℕ → Level → List Level
copies zero level = []
copies (suc n) level = level ∷ copies n level

-- those of each run, in order
abbrev pub levels_in : List Run → List Level
levels_in [] = []
levels_in (run ∷ runs) = copies run.count run.level ++ levels_in runs
