-- Laws of pairs side by side: what they bring, take and print.
use Rattle.std.proofs.Common.{◌≡◌, ◌≤◌, ◌+◌, ℕ, suc, Bool, true, false, List, [], ◌∷◌, ◌++◌, length, Option}
use Rattle.std.proofs.Common.{Some, None, cond, refl, ap, sym, ◌∙◌, arith, append_assoc}
use Rattle.std.proofs.lemmas.List.{append-nil}
use Rattle.smt_trees.specs.Sexp.{Sexp, Sexps, Atom, Reserved, Items, is_symbol}
use Rattle.smt_trees.specs.Sexp as sexp
use Rattle.std.specs.Cmp.Lexicographic.{same_text}
use Rattle.smt_script.specs.Command.{Command, is_check, closes_window}
use Rattle.smt_script.specs.Stack.{Assertion, Numbered, assertions_in_force, assumptions_in_force}
use Rattle.smt_script.specs.Stack.{literals_of, signature_in_force}
use Rattle.smt_dialogue.proofs.InForceLemmas.{IsQuiet, assertions-quiet, signature-quiet, assumptions-check}
use Rattle.smt_dialogue.proofs.InForceLemmas.{assumptions-passed}
use Rattle.smt_dialogue.specs.Answers.{Takes, taken}
use Rattle.smt_dialogue.specs.InForce.{AreFaultless, assertions_after, assumptions_after, flaw_of_pair}
use Rattle.smt_dialogue.specs.Internal.Claims.{claims_after}
use Rattle.smt_dialogue.specs.Judgement.{all_claims}
use Rattle.smt_dialogue.specs.Lines.{claims_of_check}
use Rattle.smt_dialogue.specs.InForce.{has_exited_after, need_after, signature_after}
use Rattle.smt_dialogue.specs.Lines.{lines_in, lines_of_pair}
use Rattle.smt_dialogue.specs.Pairing.{AllTake}
use Rattle.smt_dialogue.specs.Pairs.{Pair, answer_count, answers_taken, answers_then, checks_in}
use Rattle.smt_dialogue.specs.Pairs.{effective_commands, effective_from, is_effective, next_of, numbered_if}
use Rattle.smt_dialogue.specs.Pairs.{with_answer}
use Rattle.smt_report.specs.declared.line.Line.{Line}
use Rattle.smt_script.specs.declared.stack.Start.{Start}
use Rattle.smt_theory.specs.declared.profile.Profile.{Profile}

-- ## What answers are

pub is_word : (word : List ℕ) (a : Sexp) → is_symbol word a ≡ true
    → (x : List ℕ) × (a ≡ Atom sexp.Symbol x) × (x ≡ word)
is_word word (Atom sexp.Symbol x) h = (x, refl, same_text x word (sym h))
is_word word (Atom sexp.Numeral x) h = cc
is_word word (Atom sexp.Decimal x) h = cc
is_word word (Atom sexp.Hexadecimal x) h = cc
is_word word (Atom sexp.Binary x) h = cc
is_word word (Atom sexp.Text x) h = cc
is_word word (Atom sexp.Keyword x) h = cc
is_word word (Reserved w) h = cc
is_word word (Items parts) h = cc

-- ## Pairs side by side

pub effective_from-append : (n : ℕ) (xs ys : List Pair)
    → effective_from n (xs ++ ys) ≡ effective_from n xs ++ effective_from (n + length xs) ys
effective_from-append n [] ys = ap (λ (k : ℕ). effective_from k ys) (omega arith)
effective_from-append n (x ∷ xs) ys =
    let here = numbered_if (is_effective x) n x.command in
    ap (λ (cs : List Numbered). here ++ cs)
    (effective_from-append (n + 1) xs ys
    ∙ ap (λ (k : ℕ). effective_from (n + 1) xs ++ effective_from k ys) (omega arith))
    ∙ sym (append_assoc here (effective_from (n + 1) xs) (effective_from (n + suc (length xs)) ys))

-- one more pair brings its command, where it took effect
pub effective_commands-push : (pairs : List Pair) (p : Pair)
    → effective_commands (pairs ++ p ∷ [])
    ≡ effective_commands pairs ++ numbered_if (is_effective p) (length pairs + 1) p.command
effective_commands-push pairs p =
    effective_from-append 1 pairs (p ∷ [])
    ∙ ap (λ (cs : List Numbered). effective_commands pairs ++ cs)
    (append-nil (numbered_if (is_effective p) (1 + length pairs) p.command))
    ∙ ap (λ (n : ℕ). effective_commands pairs ++ numbered_if (is_effective p) n p.command) (omega arith)

-- a pair whose command brings nothing, or took no effect, changes nothing that is in force
quiet_if : {A : Type 0} (f : List Numbered → A) (b : Bool) (n : ℕ) (c : Command) (cs : List Numbered)
    → f (cs ++ record { number = n; command = c } ∷ []) ≡ f cs → f (cs ++ numbered_if b n c) ≡ f cs
quiet_if f true n c cs quiet = quiet
quiet_if f false n c cs quiet = ap f (append-nil cs)

none_if : {A : Type 0} (f : List Numbered → A) (b : Bool) (n : ℕ) (c : Command) (cs : List Numbered)
    → b ≡ false → f (cs ++ numbered_if b n c) ≡ f cs
none_if f b n c cs h = rw h (ap f (append-nil cs))

-- a pair that changes nothing that is in force
pub record IsIdle (profile : Profile) (pairs : List Pair) (p : Pair) : Type 0 where
  pub signature : signature_after profile (pairs ++ p ∷ []) ≡ signature_after profile pairs
  pub assertions : assertions_after profile (pairs ++ p ∷ []) ≡ assertions_after profile pairs

pub quiet_is_idle : (profile : Profile) (pairs : List Pair) (p : Pair) → IsQuiet p.command → IsIdle profile pairs p
quiet_is_idle profile pairs p quiet =
    let cs = effective_commands pairs in
    let n = length pairs + 1 in
    let c : Numbered = record { number = n; command = p.command } in
    record {
      signature = ap (signature_in_force profile) (effective_commands-push pairs p)
          ∙ quiet_if (signature_in_force profile) (is_effective p) n p.command cs (signature-quiet profile cs c quiet);
      assertions = ap (assertions_in_force profile) (effective_commands-push pairs p)
          ∙ quiet_if (assertions_in_force profile) (is_effective p) n p.command cs
          (assertions-quiet profile cs c quiet);
    }

pub refused_is_idle : (profile : Profile) (pairs : List Pair) (p : Pair) → is_effective p ≡ false
    → IsIdle profile pairs p
refused_is_idle profile pairs p h =
    let cs = effective_commands pairs in
    let n = length pairs + 1 in
    record {
      signature = ap (signature_in_force profile) (effective_commands-push pairs p)
          ∙ none_if (signature_in_force profile) (is_effective p) n p.command cs h;
      assertions = ap (assertions_in_force profile) (effective_commands-push pairs p)
          ∙ none_if (assertions_in_force profile) (is_effective p) n p.command cs h;
    }

-- a pair behind which a check claims the same as before it
pub record IsPassed (profile : Profile) (pairs : List Pair) (p : Pair) : Type 0 where
  pub signature : signature_after profile (pairs ++ p ∷ []) ≡ signature_after profile pairs
  pub claims : claims_after profile (pairs ++ p ∷ []) ≡ claims_after profile pairs

passed_by : (profile : Profile) (pairs : List Pair) (p : Pair) → IsIdle profile pairs p
    → assumptions_after (pairs ++ p ∷ []) ≡ assumptions_after pairs → IsPassed profile pairs p
passed_by profile pairs p idle same = record {
  signature = idle.signature;
  claims = ap (λ (as' : List Assertion). all_claims as' (assumptions_after (pairs ++ p ∷ []))) idle.assertions
      ∙ ap (all_claims (assertions_after profile pairs)) same;
}

-- the assumptions behind a pair that is no check and changes nothing that is in force, behind one that took no
-- effect, and behind a check that did
pub kept_assumptions : (pairs : List Pair) (p : Pair) → is_check p.command ≡ false
    → closes_window p.command ≡ false → assumptions_after (pairs ++ p ∷ []) ≡ assumptions_after pairs
kept_assumptions pairs p check closes =
    let cs = effective_commands pairs in
    let n = length pairs + 1 in
    ap assumptions_in_force (effective_commands-push pairs p)
    ∙ quiet_if assumptions_in_force (is_effective p) n p.command cs
    (assumptions-passed cs (record { number = n; command = p.command }) check closes)

pub refused_assumptions : (pairs : List Pair) (p : Pair) → is_effective p ≡ false
    → assumptions_after (pairs ++ p ∷ []) ≡ assumptions_after pairs
refused_assumptions pairs p h =
    ap assumptions_in_force (effective_commands-push pairs p)
    ∙ none_if assumptions_in_force (is_effective p) (length pairs + 1) p.command (effective_commands pairs) h

pub check_assumptions : (pairs : List Pair) (p : Pair) → is_check p.command ≡ true → is_effective p ≡ true
    → assumptions_after (pairs ++ p ∷ []) ≡ literals_of p.command
check_assumptions pairs p check effective =
    let cs = effective_commands pairs in
    let n = length pairs + 1 in
    ap assumptions_in_force (effective_commands-push pairs p)
    ∙ ap (λ (b : Bool). assumptions_in_force (cs ++ numbered_if b n p.command)) effective
    ∙ assumptions-check cs (record { number = n; command = p.command }) check

pub quiet_is_passed : (profile : Profile) (pairs : List Pair) (p : Pair) → IsQuiet p.command
    → is_check p.command ≡ false
    → closes_window p.command ≡ false → IsPassed profile pairs p
quiet_is_passed profile pairs p quiet check closes =
    passed_by profile pairs p (quiet_is_idle profile pairs p quiet) (kept_assumptions pairs p check closes)

pub refused_is_passed : (profile : Profile) (pairs : List Pair) (p : Pair) → is_effective p ≡ false
    → IsPassed profile pairs p
refused_is_passed profile pairs p h =
    passed_by profile pairs p (refused_is_idle profile pairs p h) (refused_assumptions pairs p h)

-- behind a check that took effect stand its own claims
pub claims_of_effective : (profile : Profile) (pairs : List Pair) (p : Pair) → IsQuiet p.command
    → is_check p.command ≡ true
    → is_effective p ≡ true → claims_after profile (pairs ++ p ∷ []) ≡ claims_of_check profile pairs p.command
claims_of_effective profile pairs p quiet check effective =
    ap (λ (as' : List Assertion). all_claims as' (assumptions_after (pairs ++ p ∷ [])))
    (quiet_is_idle profile pairs p quiet).assertions
    ∙ ap (all_claims (assertions_after profile pairs)) (check_assumptions pairs p check effective)

pub checks_in-append : (xs ys : List Pair) → checks_in (xs ++ ys) ≡ checks_in xs + checks_in ys
checks_in-append [] ys = omega arith
checks_in-append (x ∷ xs) ys = omega (arith, checks_in-append xs ys)

pub answers_taken-append : (xs ys : List Pair)
    → answers_taken (xs ++ ys) ≡ answers_taken xs + answers_taken ys
answers_taken-append [] ys = omega arith
answers_taken-append (x ∷ xs) ys = omega (arith, answers_taken-append xs ys)

check_count : (b : Bool) → cond b 1 0 ≤ 1
check_count true = omega arith
check_count false = omega arith

answer_count-le : (a : Option Sexp) → answer_count a ≤ 1
answer_count-le None = omega arith
answer_count-le (Some a) = omega arith

-- there are no more checks, and no more answers taken, than commands
pub checks_in-le : (xs : List Pair) → checks_in xs ≤ length xs
checks_in-le [] = omega arith
checks_in-le (x ∷ xs) = omega (arith, checks_in-le xs, check_count (is_check x.command))

pub answers_taken-le : (xs : List Pair) → answers_taken xs ≤ length xs
answers_taken-le [] = omega arith
answers_taken-le (x ∷ xs) = omega (arith, answers_taken-le xs, answer_count-le x.answer)

pub lines_in-append : (profile : Profile) (steps : ℕ) (closed : Bool) (before xs ys after : List Pair)
    → lines_in profile steps closed before (xs ++ ys) after
    ≡ lines_in profile steps closed before xs (ys ++ after) ++ lines_in profile steps closed (before ++ xs) ys after
lines_in-append profile steps closed before [] ys after =
    ap (λ (b : List Pair). lines_in profile steps closed b ys after) (sym (append-nil before))
lines_in-append profile steps closed before (x ∷ xs) ys after =
    let rest = lines_in profile steps closed (before ++ x ∷ []) xs (ys ++ after) in
    let far = lines_in profile steps closed (before ++ x ∷ xs) ys after in
    ap (λ (b : List Line). lines_of_pair profile steps closed before x ((xs ++ ys) ++ after) ++ b)
    (lines_in-append profile steps closed (before ++ x ∷ []) xs ys after
    ∙ ap (λ (b : List Pair). rest ++ lines_in profile steps closed b ys after) (append_assoc before (x ∷ []) xs))
    ∙ ap (λ (a : List Pair). lines_of_pair profile steps closed before x a ++ (rest ++ far)) (append_assoc xs ys after)
    ∙ sym (append_assoc (lines_of_pair profile steps closed before x (xs ++ (ys ++ after))) rest far)

pub answers_then-append : (xs ys : List Pair) (rest : Sexps)
    → answers_then (xs ++ ys) rest ≡ answers_then xs (answers_then ys rest)
answers_then-append [] ys rest = refl
answers_then-append (x ∷ xs) ys rest = ap (with_answer x.answer) (answers_then-append xs ys rest)

-- the pairs and one more take what they have, where the one takes it of what they leave
pub AllTake-append : (told : Bool) (start : Start) (before xs : List Pair) (y : Pair) (rest left : Sexps)
    → AllTake told start before xs rest → rest ≡ with_answer y.answer left
    → taken told (need_after start (before ++ xs) y.command) (next_of rest) ≡ Takes y.answer
    → AllTake told start before (xs ++ y ∷ []) left
AllTake-append told start before [] y rest left all next one = (
  ap (λ (r : Sexps). taken told (need_after start before y.command) (next_of r)) (sym next)
      ∙ rw (append-nil before) at one,
  tt,
)
AllTake-append told start before (x ∷ xs) y rest left all next one =
    let same : answers_then (x ∷ (xs ++ y ∷ [])) left ≡ answers_then (x ∷ xs) rest =
    ap (with_answer x.answer) (answers_then-append xs (y ∷ []) left ∙ ap (answers_then xs) (sym next)) in (
      ap (λ (r : Sexps). taken told (need_after start before x.command) (next_of r)) same ∙ all.0,
      AllTake-append told start (before ++ x ∷ []) xs y rest left all.1 next
          (rw (append_assoc before (x ∷ []) xs) one),
    )

pub AreFaultless-append : (profile : Profile) (before xs : List Pair) (y : Pair) → AreFaultless profile before xs
    → has_exited_after (before ++ xs) ≡ false → flaw_of_pair profile (before ++ xs) y ≡ None
    → AreFaultless profile before (xs ++ y ∷ [])
AreFaultless-append profile before [] y all goes_on one =
    (rw (append-nil before) at goes_on, rw (append-nil before) at one, tt)
AreFaultless-append profile before (x ∷ xs) y all goes_on one = (
  all.0,
  all.1,
  AreFaultless-append profile (before ++ x ∷ []) xs y all.2
      (rw (append_assoc before (x ∷ []) xs) goes_on) (rw (append_assoc before (x ∷ []) xs) one),
)
