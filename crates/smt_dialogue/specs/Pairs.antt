-- SMT-LIB 2.6, section 4.1: pairs of a command with the answer that it took. Commands count from 1.
use Rattle.std.specs.Prelude.{ℕ, ◌+◌, List, [], ◌∷◌, ◌++◌, Bool, Option, Some, None, if◌then◌else◌}
use Rattle.smt_trees.specs.Sexp.{Sexp, Sexps, Nil, Cons}
use Rattle.smt_script.specs.Command.{Command, is_check}
use Rattle.smt_script.specs.Stack.{Numbered}
use Rattle.smt_dialogue.specs.Answers.{is_effective_with}

-- a command with the answer that it took, if it took one
pub record Pair : Type 0 where
  pub command : Command
  pub answer : Option Sexp

abbrev pub pair_of : Command → Option Sexp → Pair
pair_of command answer = record { command = command; answer = answer }

-- whether the command took effect
abbrev pub is_effective : Pair → Bool
is_effective pair = is_effective_with pair.answer

-- a command of this number, if it took effect
abbrev pub numbered_if : Bool → ℕ → Command → List Numbered
numbered_if effective n command = if effective then record { number = n; command = command } ∷ [] else []

-- the commands that took effect among pairs, the first of which is command n
abbrev pub effective_from : ℕ → List Pair → List Numbered
effective_from n [] = []
effective_from n (pair ∷ pairs) =
    numbered_if (is_effective pair) n pair.command ++ effective_from (n + 1) pairs

abbrev pub effective_commands : List Pair → List Numbered
effective_commands pairs = effective_from 1 pairs

-- the next of the answers that are left
abbrev pub next_of : Sexps → Option Sexp
next_of Nil = None
next_of (Cons answer rest) = Some answer

-- the answers that the pairs took, and then the rest
abbrev pub with_answer : Option Sexp → Sexps → Sexps
with_answer None rest = rest
with_answer (Some answer) rest = Cons answer rest

abbrev pub answers_then : List Pair → Sexps → Sexps
answers_then [] rest = rest
answers_then (pair ∷ pairs) rest = with_answer pair.answer (answers_then pairs rest)

-- how many answers the pairs took
abbrev pub answer_count : Option Sexp → ℕ
answer_count None = 0
answer_count (Some answer) = 1

abbrev pub answers_taken : List Pair → ℕ
answers_taken [] = 0
answers_taken (pair ∷ pairs) = answer_count pair.answer + answers_taken pairs

-- how many checks there are among pairs
abbrev pub checks_in : List Pair → ℕ
checks_in [] = 0
checks_in (pair ∷ pairs) = (if is_check pair.command then 1 else 0) + checks_in pairs
