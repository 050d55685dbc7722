-- What the end of a dialogue without a fault says, and that there is one pairing.
use Rattle.std.proofs.Common.{◌≡◌, ◌+◌, ℕ, Bool, true, false, ◌||◌, List, [], ◌∷◌, ◌++◌, length, Option, Some}
use Rattle.std.proofs.Common.{None, Result, Ok, Err, cond, refl, ap, sym, ◌∙◌}
use Rattle.std.specs.List.{list_any}
use Rattle.smt_trees.specs.Sexp.{Sexps, Nil, Cons}
use Rattle.smt_faults.specs.declared.text_flaw.TextFlaw.{TextFlaw}
use Rattle.smt_script.specs.Command.{Command, command_of}
use Rattle.smt_faults.specs.declared.command_flaw.CommandFlaw.TheVariants.{AfterExit}
use Rattle.smt_dialogue.specs.Answers as answering
use Rattle.smt_dialogue.specs.Answers.{Missing, Taken, Takes, Unexpected, taken}
use Rattle.smt_dialogue.specs.FirstFault.{Ends, TextSoFar, is_over, turn_at, turn_of_command, turn_of_flaw}
use Rattle.smt_dialogue.specs.FirstFault.{turn_of_taken}
use Rattle.smt_dialogue.specs.InForce.{flaw_of_pair, has_exited_after, need_after}
use Rattle.smt_dialogue.specs.Pairs.{Pair, answers_taken, next_of, pair_of}
use Rattle.smt_dialogue.specs.Report.{lines_of_end}
use Rattle.smt_report.specs.Verdict.{is_fault_line, is_refuted_line, is_undecided_line, verdict_of}
use Rattle.smt_report.specs.declared.line.Line.{Line}
use Rattle.smt_report.specs.declared.line.Line.TheVariants as lines
use Rattle.smt_report.specs.declared.line.Side.TheVariants.{Script, Answers}
use Rattle.smt_report.specs.declared.verdict.Verdict.TheVariants as verdicts
use Rattle.smt_faults.specs.declared.command_flaw.CommandFlaw.{CommandFlaw}
use Rattle.smt_script.specs.declared.stack.Start.{Start}
use Rattle.smt_theory.specs.declared.profile.Profile.{Profile}

-- ## Verdicts

valid_tests : (f r u : Bool)
    → cond f verdicts.Refused (cond r verdicts.Invalid (cond u verdicts.NotDecided verdicts.Valid))
    ≡ verdicts.Valid → (f ≡ false) × (r ≡ false) × (u ≡ false)
valid_tests true r u h = cc
valid_tests false true u h = cc
valid_tests false false true h = cc
valid_tests false false false h = (refl, refl, refl)

pub valid_lines : (ls : List Line) → verdict_of ls ≡ verdicts.Valid
    → (list_any is_fault_line ls ≡ false) × (list_any is_refuted_line ls ≡ false)
    × (list_any is_undecided_line ls ≡ false)
valid_lines ls h = valid_tests (list_any is_fault_line ls) (list_any is_refuted_line ls)
    (list_any is_undecided_line ls) h

invalid_tests : (f r u : Bool)
    → cond f verdicts.Refused (cond r verdicts.Invalid (cond u verdicts.NotDecided verdicts.Valid))
    ≡ verdicts.Invalid → (f ≡ false) × (r ≡ true)
invalid_tests true r u h = cc
invalid_tests false true u h = (refl, refl)
invalid_tests false false true h = cc
invalid_tests false false false h = cc

pub invalid_lines : (ls : List Line) → verdict_of ls ≡ verdicts.Invalid
    → (list_any is_fault_line ls ≡ false) × (list_any is_refuted_line ls ≡ true)
invalid_lines ls h = invalid_tests (list_any is_fault_line ls) (list_any is_refuted_line ls)
    (list_any is_undecided_line ls) h

-- ## Tests over lists side by side

or_assoc : (a b c : Bool) → a || (b || c) ≡ (a || b) || c
or_assoc true b c = refl
or_assoc false b c = refl

pub none_left : (a b : Bool) → a || b ≡ false → a ≡ false
none_left true b h = cc
none_left false b h = refl

pub none_right : (a b : Bool) → a || b ≡ false → b ≡ false
none_right true b h = cc
none_right false b h = h

pub any-append : {A : Type 0} (p : A → Bool) (xs ys : List A)
    → list_any p (xs ++ ys) ≡ list_any p xs || list_any p ys
any-append p [] ys = refl
any-append p (x ∷ xs) ys =
    ap (λ (b : Bool). p x || b) (any-append p xs ys) ∙ or_assoc (p x) (list_any p xs) (list_any p ys)

pub none_of : {A : Type 0} (p : A → Bool) (xs ys : List A) → list_any p (xs ++ ys) ≡ false
    → (list_any p xs ≡ false) × (list_any p ys ≡ false)
none_of p xs ys h =
    let e = sym (any-append p xs ys) ∙ h in
    (none_left (list_any p xs) (list_any p ys) e, none_right (list_any p xs) (list_any p ys) e)

-- ## A dialogue that ends without the line of a fault

-- all trees and answers were taken, and neither text has a fault
pub record IsClean (later : Sexps) (script_fault : Option TextFlaw) (rest : Sexps)
    (answers_fault : Option TextFlaw) (fault : Option Line) : Type 0 where
  pub trees : later ≡ Nil
  pub script : script_fault ≡ None
  pub left : rest ≡ Nil
  pub answers : answers_fault ≡ None
  pub none : fault ≡ None

-- the end that has a line has that of a fault
no_line : {P : Type 0} (line : Line) (fault : Option Line) → is_fault_line line ≡ true
    → Ends (Some line) ≡ Ends fault → list_any is_fault_line (lines_of_end fault) ≡ false → P
no_line line None is e h = absurd (cc)
no_line line (Some other) is e h =
    let same : line ≡ other = cc in
    let here : is_fault_line other ≡ false = none_left (is_fault_line other) false h in
    let there : is_fault_line other ≡ true = ap is_fault_line (sym same) ∙ is in
    absurd (cc)

turn_of_fault_line : {P : Type 0} (n : ℕ) (f : Option CommandFlaw) (fault : Option Line)
    → turn_of_flaw n f ≡ Ends fault → list_any is_fault_line (lines_of_end fault) ≡ false → P
turn_of_fault_line n None fault e h = absurd (cc)
turn_of_fault_line n (Some f) fault e h = no_line (lines.CommandFault n f) fault refl e h

taken_line : (profile : Profile) → {P : Type 0} (pairs : List Pair) (c : Command) (af : Option TextFlaw) (t : Taken)
    (fault : Option Line) → turn_of_taken profile pairs c af t ≡ Ends fault
    → list_any is_fault_line (lines_of_end fault) ≡ false → P
taken_line profile pairs c af (Takes answer) fault e h =
    turn_of_fault_line (length pairs + 1) (flaw_of_pair profile pairs (pair_of c answer)) fault e h
taken_line profile pairs c af answering.Waits fault e h = absurd (cc)
taken_line profile pairs c None Missing fault e h = no_line (lines.MissingAnswer (length pairs + 1)) fault refl e h
taken_line profile pairs c (Some f) Missing fault e h = no_line (lines.TextFault Answers f) fault refl e h
taken_line profile pairs c af Unexpected fault e h =
    no_line (lines.UnexpectedAnswer (length pairs + 1) (answers_taken pairs + 1)) fault refl e h

command_line : {P : Type 0} (start : Start) (pairs : List Pair) (r : Result Command CommandFlaw)
    (answers : TextSoFar) (fault : Option Line) → turn_of_command start pairs r answers ≡ Ends fault
    → list_any is_fault_line (lines_of_end fault) ≡ false → P
command_line start pairs (Err f) answers fault e h =
    no_line (lines.CommandFault (length pairs + 1) f) fault refl e h
command_line start pairs (Ok c) answers fault e h =
    taken_line start.profile pairs c answers.fault
    (taken (is_over answers) (need_after start pairs c) (next_of answers.trees)) fault e h

exit_line : {P : Type 0} (start : Start) (b : Bool) (pairs : List Pair) (r : Result Command CommandFlaw)
    (answers : TextSoFar) (fault : Option Line)
    → cond b (Ends (Some (lines.CommandFault (length pairs + 1) AfterExit)))
    (turn_of_command start pairs r answers) ≡ Ends fault
    → list_any is_fault_line (lines_of_end fault) ≡ false → P
exit_line start true pairs r answers fault e h =
    no_line (lines.CommandFault (length pairs + 1) AfterExit) fault refl e h
exit_line start false pairs r answers fault e h = command_line start pairs r answers fault e h

pub ends_clean : (start : Start) (pairs : List Pair) (told answers_told : Bool) (later : Sexps)
    (sf : Option TextFlaw) (rest : Sexps) (af : Option TextFlaw) (fault : Option Line)
    → turn_at start pairs (record { told = answers_told; trees = rest; fault = af }) told sf later
    ≡ Ends fault → list_any is_fault_line (lines_of_end fault) ≡ false → IsClean later sf rest af fault
ends_clean start pairs told answers_told (Cons t ts) sf rest af fault e h =
    exit_line start (has_exited_after pairs) pairs (command_of start.profile t)
    (record { told = answers_told; trees = rest; fault = af }) fault e h
ends_clean start pairs told answers_told Nil (Some f) rest af fault e h =
    no_line (lines.TextFault Script f) fault refl e h
ends_clean start pairs false answers_told Nil None rest af fault e h = absurd (cc)
ends_clean start pairs true answers_told Nil None (Cons a rest) af fault e h =
    no_line (lines.ExtraAnswer (answers_taken pairs + 1)) fault refl e h
ends_clean start pairs true answers_told Nil None Nil (Some f) fault e h =
    no_line (lines.TextFault Answers f) fault refl e h
ends_clean start pairs true false Nil None Nil None fault e h = absurd (cc)
ends_clean start pairs true true Nil None Nil None fault e h =
    record { trees = refl; script = refl; left = refl; answers = refl; none = cc }
