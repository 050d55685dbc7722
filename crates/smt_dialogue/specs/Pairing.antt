-- SMT-LIB 2.6, section 4.1: which pairs are a pairing of a script's commands with the answers. That each
-- answer is taken once and in order, and that a command which may go without an answer takes the next one
-- exactly where it fits, is this project's rule.
use Rattle.std.specs.Prelude.{◌≡◌, List, [], ◌∷◌, ◌++◌, Bool, true, Ok}
use Rattle.smt_trees.specs.Sexp.{Sexps, Nil, Cons}
use Rattle.smt_theory.specs.declared.profile.Profile.{Profile}
use Rattle.smt_script.specs.Command.{command_of}
use Rattle.smt_script.specs.declared.stack.Start.{Start}
use Rattle.smt_dialogue.specs.Answers.{Takes, taken}
use Rattle.smt_dialogue.specs.InForce.{need_after}
use Rattle.smt_dialogue.specs.Pairs.{Pair, answers_then, next_of}

-- the trees are the commands of the pairs, and then later ones
abbrev pub AreCommands : Profile → List Pair → Sexps → Sexps → Type 0
AreCommands profile [] trees later = trees ≡ later
AreCommands profile (pair ∷ pairs) Nil later = ⊥
AreCommands profile (pair ∷ pairs) (Cons tree trees) later =
    (command_of profile tree ≡ Ok pair.command) × AreCommands profile pairs trees later

-- each command, behind the pairs before it, takes what it has of the next answer: the first that no earlier
-- pair took; `told` says that no answer comes behind the rest
abbrev pub AllTake : Bool → Start → List Pair → List Pair → Sexps → Type 0
AllTake told start before [] rest = Unit {0}
AllTake told start before (pair ∷ pairs) rest =
    (taken told (need_after start before pair.command) (next_of (answers_then (pair ∷ pairs) rest))
    ≡ Takes pair.answer)
    × AllTake told start (before ++ pair ∷ []) pairs rest

-- the pairs are a pairing of the first commands with the first answers, of which more may come where that was
-- not told: later trees, and the rest of the answers, are left
pub record IsPairingSoFar (told : Bool) (start : Start) (pairs : List Pair) (trees later answers rest : Sexps)
    : Type 0 where
  pub commands : AreCommands start.profile pairs trees later
  pub answered : answers ≡ answers_then pairs rest
  pub taken_so : AllTake told start [] pairs rest

-- the same of all answers
abbrev pub IsPairing : Start → List Pair → (trees later answers rest : Sexps) → Type 0
IsPairing start pairs trees later answers rest = IsPairingSoFar true start pairs trees later answers rest
