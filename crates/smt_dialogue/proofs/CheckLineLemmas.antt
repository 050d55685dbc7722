-- The lines of checks: one for each check at most, and none of a fault.
use Rattle.std.proofs.Common.{◌≡◌, ◌≤◌, ℕ, ◌+◌, Bool, true, false, cond, ◌||◌, List, [], ◌∷◌, ◌++◌, length, not}
use Rattle.std.proofs.Common.{Option, Some, None, Result, Ok, Err, refl, ap, ◌∙◌, arith, length-append, add-zero}
use Rattle.std.proofs.lemmas.List.Sums.{sum_by_push}
use Rattle.std.proofs.lemmas.List.Folds.{list_any-append}
use Rattle.std.specs.List.{count_by, list_any}
use Rattle.std.specs.Option.{option_or}
use Rattle.std.specs.Prelude.{codes}
use Rattle.smt_trees.specs.Sexp.{Sexp, Sexps, Nil, Cons, is_symbol}
use Rattle.smt_faults.specs.declared.text_flaw.TextFlaw.{TextFlaw}
use Rattle.smt_faults.specs.declared.command_flaw.CommandFlaw.{CommandFlaw}
use Rattle.smt_faults.specs.declared.command_flaw.CommandFlaw.TheVariants.{AfterExit}
use Rattle.smt_script.specs.Command.{Command, command_of, is_check}
use Rattle.smt_terms.specs.Signature.{Signature}
use Rattle.smt_dialogue.specs.Answers as answering
use Rattle.smt_dialogue.specs.Answers.{Taken, taken}
use Rattle.smt_dialogue.specs.FirstFault.{Ends, GoesOn, TextSoFar, Turn, Waits, is_over, turn_at, turn_of_command}
use Rattle.smt_dialogue.specs.FirstFault.{turn_of_flaw, turn_of_rest, turn_of_taken, want_of_answer}
use Rattle.smt_dialogue.specs.InForce.{flaw_of_pair, has_exited_after, need_after, signature_after}
use Rattle.smt_dialogue.specs.Internal.LineQueueView.{IsFaultLine}
use Rattle.smt_dialogue.specs.Judgement.{Claimed, judgement_of}
use Rattle.smt_dialogue.specs.Lines.{claims_of_check, confirmed_line, is_empty, line_of_judgement, lines_in}
use Rattle.smt_dialogue.specs.Lines.{lines_of_answer, lines_of_pair, lines_of_sat, sat_lines, unchecked_answer}
use Rattle.smt_dialogue.specs.Lines.{unchecked_line_or, unconfirmed_line}
use Rattle.smt_dialogue.specs.Pairs.{Pair, checks_in, next_of, pair_of}
use Rattle.smt_dialogue.specs.SoFar.{is_verdict_line}
use Rattle.smt_dialogue.specs.Window.{Printed, closes, models_from, window}
use Rattle.smt_dialogue.specs.declared.judgement.Judgement.{Judgement}
use Rattle.smt_dialogue.specs.declared.judgement.Judgement.TheVariants as judgements
use Rattle.smt_report.specs.Verdict.{is_confirmed_line, is_fault_line, is_refuted_line, is_unchecked_line}
use Rattle.smt_report.specs.Verdict.{is_undecided_line, tally_of}
use Rattle.smt_report.specs.declared.line.CheckAnswer.{CheckAnswer}
use Rattle.smt_report.specs.declared.line.Line.{Line}
use Rattle.smt_report.specs.declared.line.Line.TheVariants as lines
use Rattle.smt_script.specs.declared.stack.Start.{Start}
use Rattle.smt_theory.specs.declared.profile.Profile.{Profile}

-- one line at most, and it is none of a fault, nor that of a verdict
pub record IsSmall (ls : List Line) : Type 0 where
  pub few : length ls ≤ 1
  pub faultless : list_any is_fault_line ls ≡ false
  pub silent : list_any is_verdict_line ls ≡ false

none_small : IsSmall []
none_small = record { few = omega arith; faultless = refl; silent = refl }

-- a line of a check is none of a fault, nor that of a verdict
pub record IsPlain (line : Line) : Type 0 where
  pub faultless : is_fault_line line ≡ false
  pub silent : is_verdict_line line ≡ false

one_small : (line : Line) → IsPlain line → IsSmall (line ∷ [])
one_small line h = record {
  few = omega arith;
  faultless = ap (λ b. b || false) h.faultless;
  silent = ap (λ b. b || false) h.silent;
}

if_small : (b : Bool) (ls : List Line) → IsSmall ls → IsSmall (cond b ls [])
if_small true ls h = h
if_small false ls h = none_small

abbrev pub IsFaultless : Option Line → Type 0
IsFaultless None = Unit {0}
IsFaultless (Some line) = IsPlain line

judged_faultless : (k n g : ℕ) (j : Judgement) → IsFaultless (line_of_judgement k n g j)
judged_faultless k n g (judgements.ItemFault item flaw) = record { faultless = refl; silent = refl }
judged_faultless k n g (judgements.Lacks declaration) = record { faultless = refl; silent = refl }
judged_faultless k n g judgements.TooLong = record { faultless = refl; silent = refl }
judged_faultless k n g (judgements.Refuted claim) = record { faultless = refl; silent = refl }
judged_faultless k n g (judgements.NotDecided claim) = record { faultless = refl; silent = refl }
judged_faultless k n g judgements.Confirmed = tt

or_faultless : (o p : Option Line) → IsFaultless o → IsFaultless p → IsFaultless (option_or o p)
or_faultless None p h g = g
or_faultless (Some line) p h g = h

unconfirmed_faultless : (steps k n : ℕ) (names : Signature) (claims : List Claimed) (ms : List Printed)
    → IsFaultless (unconfirmed_line steps k n names claims ms)
unconfirmed_faultless steps k n names claims [] = tt
unconfirmed_faultless steps k n names claims (m ∷ ms) =
    or_faultless (line_of_judgement k n m.command (judgement_of steps names claims m.parts))
    (unconfirmed_line steps k n names claims ms)
    (judged_faultless k n m.command (judgement_of steps names claims m.parts))
    (unconfirmed_faultless steps k n names claims ms)

confirmed_faultless : (k n : ℕ) (some : Bool) → IsPlain (confirmed_line k n some)
confirmed_faultless k n true = record { faultless = refl; silent = refl }
confirmed_faultless k n false = record { faultless = refl; silent = refl }

sat_small : (k n : ℕ) (o : Option Line) (some closed : Bool) → IsFaultless o → IsSmall (sat_lines k n o some closed)
sat_small k n (Some line) some closed h = one_small line h
sat_small k n None some closed h =
    if_small closed (confirmed_line k n some ∷ []) (one_small (confirmed_line k n some) (confirmed_faultless k n some))

unchecked_small : (k n : ℕ) (u : Option CheckAnswer) (ls : List Line) → IsSmall ls
    → IsSmall (unchecked_line_or k n u ls)
unchecked_small k n (Some answer) ls h = record { few = omega arith; faultless = refl; silent = refl }
unchecked_small k n None ls h = h

answer_small : (profile : Profile) (steps : ℕ) (closed : Bool) (before : List Pair) (claims : List Claimed) (k : ℕ)
    (o : Option Sexp)
    (after : List Pair) → IsSmall (lines_of_answer profile steps closed before claims k o after)
answer_small profile steps closed before claims k None after = none_small
answer_small profile steps closed before claims k (Some answer) after =
    let n = length before + 1 in
    let names = signature_after profile before in
    let models = models_from (n + 1) (window after) in
    let ls = lines_of_sat steps closed k n names claims (n + 1) after in
    unchecked_small k n (unchecked_answer answer) (cond (is_symbol (codes "sat") answer) ls [])
    (if_small (is_symbol (codes "sat") answer) ls
    (sat_small k n (unconfirmed_line steps k n names claims models) (not (is_empty models))
    (closed || list_any closes after)
    (unconfirmed_faultless steps k n names claims models)))

some_small : (b : Bool) (ls : List Line) → IsSmall ls → length (cond b ls []) ≤ cond b 1 0
some_small true ls h = h.few
some_small false ls h = omega arith

pub few_lines : (profile : Profile) (steps : ℕ) (closed : Bool) (before pairs after : List Pair)
    → length (lines_in profile steps closed before pairs after) ≤ checks_in pairs
few_lines profile steps closed before [] after = omega arith
few_lines profile steps closed before (p ∷ ps) after =
    let mine = lines_of_pair profile steps closed before p (ps ++ after) in
    let others = lines_in profile steps closed (before ++ p ∷ []) ps after in
    omega (
      arith,
      length-append mine others,
      some_small (is_check p.command)
          (lines_of_answer profile steps closed before (claims_of_check profile before p.command)
          (checks_in before + 1) p.answer
          (ps ++ after))
          (answer_small profile steps closed before (claims_of_check profile before p.command)
          (checks_in before + 1) p.answer
          (ps ++ after)),
      few_lines profile steps closed (before ++ p ∷ []) ps after,
    )

pair_small : (profile : Profile) (steps : ℕ) (closed : Bool) (before : List Pair) (p : Pair) (after : List Pair)
    → IsSmall (lines_of_pair profile steps closed before p after)
pair_small profile steps closed before p after =
    let claims = claims_of_check profile before p.command in
    if_small (is_check p.command) (lines_of_answer profile steps closed before claims
    (checks_in before + 1) p.answer after)
    (answer_small profile steps closed before claims (checks_in before + 1) p.answer after)

pub no_faults : (profile : Profile) (steps : ℕ) (closed : Bool) (before pairs after : List Pair)
    → list_any is_fault_line (lines_in profile steps closed before pairs after) ≡ false
no_faults profile steps closed before [] after = refl
no_faults profile steps closed before (p ∷ ps) after =
    let others = lines_in profile steps closed (before ++ p ∷ []) ps after in
    list_any-append is_fault_line (lines_of_pair profile steps closed before p (ps ++ after)) others
    ∙ ap (λ b. b || list_any is_fault_line others) (pair_small profile steps closed before p (ps ++ after)).faultless
    ∙ no_faults profile steps closed (before ++ p ∷ []) ps after

pub no_verdicts : (profile : Profile) (steps : ℕ) (closed : Bool) (before pairs after : List Pair)
    → list_any is_verdict_line (lines_in profile steps closed before pairs after) ≡ false
no_verdicts profile steps closed before [] after = refl
no_verdicts profile steps closed before (p ∷ ps) after =
    let others = lines_in profile steps closed (before ++ p ∷ []) ps after in
    list_any-append is_verdict_line (lines_of_pair profile steps closed before p (ps ++ after)) others
    ∙ ap (λ b. b || list_any is_verdict_line others) (pair_small profile steps closed before p (ps ++ after)).silent
    ∙ no_verdicts profile steps closed (before ++ p ∷ []) ps after

-- ---- the line of a fault is none that is counted

pub record IsUncounted (line : Line) : Type 0 where
  pub confirmed : is_confirmed_line line ≡ false
  pub refuted : is_refuted_line line ≡ false
  pub undecided : is_undecided_line line ≡ false
  pub unchecked : is_unchecked_line line ≡ false

pub fault_uncounted : (line : Line) → is_fault_line line ≡ true → IsUncounted line
fault_uncounted (lines.TextFault side flaw) h =
    record { confirmed = refl; refuted = refl; undecided = refl; unchecked = refl }
fault_uncounted (lines.CommandFault n flaw) h =
    record { confirmed = refl; refuted = refl; undecided = refl; unchecked = refl }
fault_uncounted (lines.MissingAnswer n) h =
    record { confirmed = refl; refuted = refl; undecided = refl; unchecked = refl }
fault_uncounted (lines.UnexpectedAnswer n m) h =
    record { confirmed = refl; refuted = refl; undecided = refl; unchecked = refl }
fault_uncounted (lines.ExtraAnswer m) h =
    record { confirmed = refl; refuted = refl; undecided = refl; unchecked = refl }
fault_uncounted _ h = absurd (cc)

same_count : (p : Line → Bool) (ls : List Line) (line : Line) → p line ≡ false
    → count_by p (ls ++ line ∷ []) ≡ count_by p ls
same_count p ls line h =
    sum_by_push (λ x. cond (p x) 1 0) ls line ∙ ap (λ b. count_by p ls + cond b 1 0) h
    ∙ add-zero (count_by p ls)

pub same_tally : (ls : List Line) (line : Line) → is_fault_line line ≡ true
    → tally_of (ls ++ line ∷ []) ≡ tally_of ls
same_tally ls line h =
    let u = fault_uncounted line h in
    let a = same_count is_confirmed_line ls line u.confirmed in
    let b = same_count is_refuted_line ls line u.refuted in
    let c = same_count is_undecided_line ls line u.undecided in
    let d = same_count is_unchecked_line ls line u.unchecked in
    cc

-- ---- a dialogue ends with the line of a fault, if with one

abbrev pub IsFaultTurn : Turn → Type 0
IsFaultTurn GoesOn = Unit {0}
IsFaultTurn (Waits closed) = Unit {0}
IsFaultTurn (Ends fault) = IsFaultLine fault

flaw_turn : (n : ℕ) (o : Option CommandFlaw) → IsFaultTurn (turn_of_flaw n o)
flaw_turn n None = tt
flaw_turn n (Some flaw) = refl

want_turn : (n : ℕ) (o : Option TextFlaw) → IsFaultTurn (Ends (Some (want_of_answer n o)))
want_turn n None = refl
want_turn n (Some fault) = refl

taken_turn : (profile : Profile) (pairs : List Pair) (c : Command) (af : Option TextFlaw) (k : Taken)
    → IsFaultTurn (turn_of_taken profile pairs c af k)
taken_turn profile pairs c af (answering.Takes o) =
    flaw_turn (length pairs + 1) (flaw_of_pair profile pairs (pair_of c o))
taken_turn profile pairs c af answering.Waits = tt
taken_turn profile pairs c af answering.Missing = want_turn (length pairs + 1) af
taken_turn profile pairs c af answering.Unexpected = refl

command_turn : (start : Start) (pairs : List Pair) (r : Result Command CommandFlaw) (answers : TextSoFar)
    → IsFaultTurn (turn_of_command start pairs r answers)
command_turn start pairs (Err flaw) answers = refl
command_turn start pairs (Ok c) answers =
    taken_turn start.profile pairs c answers.fault
    (taken (is_over answers) (need_after start pairs c) (next_of answers.trees))

exit_turn : (b : Bool) (n : ℕ) (turn : Turn) → IsFaultTurn turn
    → IsFaultTurn (cond b (Ends (Some (lines.CommandFault n AfterExit))) turn)
exit_turn true n turn h = refl
exit_turn false n turn h = h

rest_turn : (pairs : List Pair) (told : Bool) (af : Option TextFlaw) (answers : Sexps)
    → IsFaultTurn (turn_of_rest pairs told af answers)
rest_turn pairs told af (Cons a rest) = refl
rest_turn pairs told (Some fault) Nil = refl
rest_turn pairs true None Nil = tt
rest_turn pairs false None Nil = tt

pub fault_turn : (start : Start) (pairs : List Pair) (answers : TextSoFar) (told : Bool) (sf : Option TextFlaw)
    (trees : Sexps) → IsFaultTurn (turn_at start pairs answers told sf trees)
fault_turn start pairs answers told sf (Cons t ts) =
    exit_turn (has_exited_after pairs) (length pairs + 1)
    (turn_of_command start pairs (command_of start.profile t) answers)
    (command_turn start pairs (command_of start.profile t) answers)
fault_turn start pairs answers told (Some fault) Nil = refl
fault_turn start pairs answers true None Nil = rest_turn pairs answers.told answers.fault answers.trees
fault_turn start pairs answers false None Nil = tt

-- ---- a dialogue ends without a fault only where both ends were told

abbrev pub IsToldTurn : (script answers : Bool) → Turn → Type 0
IsToldTurn script answers GoesOn = Unit {0}
IsToldTurn script answers (Waits closed) = Unit {0}
IsToldTurn script answers (Ends None) = (script ≡ true) × (answers ≡ true)
IsToldTurn script answers (Ends (Some fault)) = Unit {0}

flaw_told : (s a : Bool) (n : ℕ) (o : Option CommandFlaw) → IsToldTurn s a (turn_of_flaw n o)
flaw_told s a n None = tt
flaw_told s a n (Some flaw) = tt

taken_told : (profile : Profile) (s a : Bool) (pairs : List Pair) (c : Command) (af : Option TextFlaw) (k : Taken)
    → IsToldTurn s a (turn_of_taken profile pairs c af k)
taken_told profile s a pairs c af (answering.Takes o) =
    flaw_told s a (length pairs + 1) (flaw_of_pair profile pairs (pair_of c o))
taken_told profile s a pairs c af answering.Waits = tt
taken_told profile s a pairs c af answering.Missing = tt
taken_told profile s a pairs c af answering.Unexpected = tt

command_told : (s a : Bool) (start : Start) (pairs : List Pair) (r : Result Command CommandFlaw) (answers : TextSoFar)
    → IsToldTurn s a (turn_of_command start pairs r answers)
command_told s a start pairs (Err flaw) answers = tt
command_told s a start pairs (Ok c) answers =
    taken_told start.profile s a pairs c answers.fault
    (taken (is_over answers) (need_after start pairs c) (next_of answers.trees))

exit_told : (s a b : Bool) (n : ℕ) (turn : Turn) → IsToldTurn s a turn
    → IsToldTurn s a (cond b (Ends (Some (lines.CommandFault n AfterExit))) turn)
exit_told s a true n turn h = tt
exit_told s a false n turn h = h

rest_told : (pairs : List Pair) (told : Bool) (af : Option TextFlaw) (answers : Sexps)
    → IsToldTurn true told (turn_of_rest pairs told af answers)
rest_told pairs told af (Cons a rest) = tt
rest_told pairs told (Some fault) Nil = tt
rest_told pairs true None Nil = (refl, refl)
rest_told pairs false None Nil = tt

pub told_turn : (start : Start) (pairs : List Pair) (answers : TextSoFar) (told : Bool) (sf : Option TextFlaw)
    (trees : Sexps) → IsToldTurn told answers.told (turn_at start pairs answers told sf trees)
told_turn start pairs answers told sf (Cons t ts) =
    exit_told told answers.told (has_exited_after pairs) (length pairs + 1)
    (turn_of_command start pairs (command_of start.profile t) answers)
    (command_told told answers.told start pairs (command_of start.profile t) answers)
told_turn start pairs answers told (Some fault) Nil = tt
told_turn start pairs answers true None Nil = rest_told pairs answers.told answers.fault answers.trees
told_turn start pairs answers false None Nil = tt
