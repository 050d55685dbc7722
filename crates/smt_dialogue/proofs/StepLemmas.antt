-- One command more, and what its turn comes to.
use Rattle.std.proofs.Common.{◌≡◌, List, [], ◌∷◌, ◌++◌, Result, Ok, ap, ◌∙◌}
use Rattle.smt_trees.specs.Sexp.{Sexp, Sexps, Nil, Cons}
use Rattle.smt_faults.specs.declared.command_flaw.CommandFlaw.{CommandFlaw}
use Rattle.smt_script.specs.Command.{Command, command_of}
use Rattle.smt_dialogue.specs.Answers.{Taken, taken}
use Rattle.smt_dialogue.specs.FirstFault.{TextSoFar, is_over, turn_of_command, turn_of_taken}
use Rattle.smt_dialogue.specs.InForce.{need_after}
use Rattle.smt_dialogue.specs.Pairing.{AreCommands}
use Rattle.smt_dialogue.specs.Pairs.{Pair, next_of}
use Rattle.smt_script.specs.declared.stack.Start.{Start}
use Rattle.smt_theory.specs.declared.profile.Profile.{Profile}

pub AreCommands-push : (profile : Profile) (pairs : List Pair) (p : Pair) (trees : Sexps) (tree : Sexp) (later : Sexps)
    → AreCommands profile pairs trees (Cons tree later) → command_of profile tree ≡ Ok p.command
    → AreCommands profile (pairs ++ p ∷ []) trees later
AreCommands-push profile [] p Nil tree later h read = cc
AreCommands-push profile [] p (Cons t ts) tree later h read =
    (let same : t ≡ tree = cc in ap (command_of profile) same ∙ read, cc)
AreCommands-push profile (q ∷ qs) p Nil tree later h read = absurd h
AreCommands-push profile (q ∷ qs) p (Cons t ts) tree later h read =
    (h.0, AreCommands-push profile qs p ts tree later h.1 read)

-- the turn of a tree that is a command, by what it takes
pub turn_by : (start : Start) (pairs : List Pair) (tree : Sexp) (answers : TextSoFar) (c : Command) (t : Taken)
    → command_of start.profile tree ≡ Ok c
    → taken (is_over answers) (need_after start pairs c) (next_of answers.trees) ≡ t
    → turn_of_command start pairs (command_of start.profile tree) answers
    ≡ turn_of_taken start.profile pairs c answers.fault t
turn_by start pairs tree answers c t read is =
    ap (λ (r : Result Command CommandFlaw). turn_of_command start pairs r answers) read
    ∙ ap (turn_of_taken start.profile pairs c answers.fault) is
