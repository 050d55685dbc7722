-- How the state of a dialogue goes on with one more pair.
use Rattle.std.proofs.Common.{◌≡◌, ◌≤◌, ◌<◌, ◌^◌, inl, inr, ◌+◌, ℕ, Bool, true, false, cond, ◌&&◌, ◌||◌, List, [], ◌∷◌}
use Rattle.std.proofs.Common.{◌++◌, length, not, refl, Result, Ok, Err, OnErr}
use Rattle.std.proofs.lemmas.List.Folds.{list_any-append}
use Rattle.std.specs.List.{list_any}
use Rattle.std.proofs.Common.{Option, None, Some, ap, sym, ◌∙◌, subst, arith, append_assoc, length-append}
use Rattle.std.proofs.lemmas.List.{append-nil}
use Rattle.smt_script.specs.StackView.{last_of, profile_of, start_of}
use Rattle.smt_script.specs.declared.stack.Stack.{Stack}
use Rattle.smt_script.specs.declared.stack.Start.{Start}
use Rattle.smt_trees.specs.Sexp.{Sexp}
use Rattle.smt_script.specs.Command.{Command, closes_window, is_check, kind_of}
use Rattle.smt_script.specs.declared.command.Kind.{Kind}
use Rattle.smt_script.specs.Stack.{Numbered, signature_in_force}
use Rattle.smt_script.specs.StackView as stacks
use Rattle.smt_faults.specs.declared.command_fault.CommandFault.{CommandFault}
use Rattle.smt_faults.specs.Faults.{flaw_of_command_fault}
use Rattle.smt_faults.specs.Outcome.{TellsCommand}
use Rattle.smt_faults.specs.declared.command_flaw.CommandFlaw.{CommandFlaw}
use Rattle.smt_dialogue.proofs.CheckLineLemmas.{few_lines, no_faults, no_verdicts}
use Rattle.smt_dialogue.proofs.ChecksLemmas.{GoesOn, closing_lines, goes_on}
use Rattle.smt_dialogue.proofs.PairLemmas.{answers_taken-append, checks_in-append, checks_in-le}
use Rattle.smt_dialogue.proofs.PairLemmas.{effective_commands-push}
use Rattle.smt_dialogue.proofs.PairLemmas.{lines_in-append}
use Rattle.smt_dialogue.specs.Answers.{is_effective_with}
use Rattle.smt_dialogue.specs.InForce.{flaw_of_pair, signature_after}
use Rattle.smt_terms.specs.Signature.{Signature}
use Rattle.smt_dialogue.specs.Internal.Claims.{claims_after, claims_in_force}
use Rattle.smt_dialogue.specs.Judgement.{Claimed}
use Rattle.smt_dialogue.specs.Internal.ChecksState.{ChecksState, Step, checks_after, checks_state, pending_lines}
use Rattle.smt_dialogue.specs.Internal.ChecksState.{with_window_ended}
use Rattle.smt_dialogue.specs.Internal.AcceptedState.{Closing, Fits, State, StandsFor, flaw_if}
use Rattle.smt_dialogue.specs.Lines.{confirmed_line, is_empty, lines_in, lines_of_pair, sat_lines}
use Rattle.smt_dialogue.specs.Lines.{unconfirmed_line}
use Rattle.smt_dialogue.specs.Pairs.{Pair, answer_count, checks_in, effective_commands, is_effective, numbered_if}
use Rattle.smt_dialogue.specs.Pairs.{pair_of}
use Rattle.smt_dialogue.specs.Report.{lines_at_end, lines_of_end}
use Rattle.smt_dialogue.specs.SoFar.{IsBeginning, is_verdict_line}
use Rattle.smt_dialogue.specs.Internal.LineQueueView.{IsFaultLine, IsPartOf}
use Rattle.smt_dialogue.specs.Window.{closes, models_from, window}
use Rattle.smt_dialogue.specs.declared.checks.Checks.{Checks}
use Rattle.smt_dialogue.specs.declared.checks.PendingCheck.{PendingCheck}
use Rattle.smt_report.specs.Verdict.{is_fault_line, tally_of, verdict_of}
use Rattle.smt_report.specs.declared.line.Line.{Line}
use Rattle.smt_report.specs.declared.line.Line.TheVariants as lines
use Rattle.smt_theory.specs.declared.profile.Profile.{Profile}

or_true : (b : Bool) → b || true ≡ true
or_true true = refl
or_true false = refl

or_false : (b : Bool) → b || false ≡ b
or_false true = refl
or_false false = refl

-- the lines of the pairs and one more
lines_in-push : (profile : Profile) (steps : ℕ) (closed : Bool) (pairs : List Pair) (p : Pair) (after : List Pair)
    → lines_in profile steps closed [] (pairs ++ p ∷ []) after
    ≡ lines_in profile steps closed [] pairs (p ∷ after) ++ lines_of_pair profile steps closed pairs p after
lines_in-push profile steps closed pairs p after =
    lines_in-append profile steps closed [] pairs (p ∷ []) after
    ∙ ap (λ (ls : List Line). lines_in profile steps closed [] pairs (p ∷ after) ++ ls)
    (append-nil (lines_of_pair profile steps closed pairs p after))

-- these checks behind one more pair, with the lines that it decides
abbrev pub step : ChecksState → List Line → Step
step after decided = record { after = after; decided = decided }

-- the stack behind one more pair
stack_push : (s t : State) (pairs : List Pair) (p : Pair) → s.commands ≡ length pairs
    → stacks.StandsFor t.stack
    (effective_commands pairs ++ numbered_if (is_effective p) (s.commands + 1) p.command)
    → stacks.StandsFor t.stack (effective_commands (pairs ++ p ∷ []))
stack_push s t pairs p count stack =
    subst (stacks.StandsFor t.stack)
    (ap (λ (n : ℕ). effective_commands pairs ++ numbered_if (is_effective p) (n + 1) p.command) count
    ∙ sym (effective_commands-push pairs p)) stack

-- the lines of a state, by the profile of a stack that began alike
lines_as : (early : Bool) (s : State) (k : Stack) (pairs : List Pair) → start_of k ≡ start_of s.stack
    → Fits early s pairs → (closed : Bool) (after : List Pair) → (early ≡ true → Closing closed after)
    → lines_in (profile_of k) s.checks.limit closed [] pairs after
    ≡ s.lines ++ pending_lines s.checks.limit closed s.checks.pending (signature_after (profile_of k) pairs)
    (claims_after (profile_of k) pairs) (length pairs + 1) after
lines_as early s k pairs same h closed after closing =
    subst (λ (x : Start). lines_in x.profile s.checks.limit closed [] pairs after
    ≡ s.lines ++ pending_lines s.checks.limit closed s.checks.pending (signature_after x.profile pairs)
    (claims_after x.profile pairs) (length pairs + 1) after) (sym same) (h.lines closed after closing)

-- the checks behind one more pair
checks_push : (early : Bool) (s t : State) (new : List Line) (pairs : List Pair) (c : Command) (o : Option Sexp)
    → Fits early s pairs
    → stacks.StandsFor t.stack (effective_commands (pairs ++ pair_of c o ∷ []))
    → ((cs : List Numbered) → stacks.StandsFor t.stack cs
    → step t.checks new ≡ checks_after s.checks (signature_in_force (profile_of t.stack) cs)
    (claims_in_force (profile_of t.stack) cs) (s.commands + 1) (kind_of c) o)
    → GoesOn (profile_of t.stack) s.checks pairs (pair_of c o) (step t.checks new)
checks_push early s t new pairs c o before stack is =
    let all = pairs ++ pair_of c o ∷ [] in
    let same : step t.checks new ≡ checks_after s.checks (signature_after (profile_of t.stack) all)
    (claims_after (profile_of t.stack) all)
    (length pairs + 1) (kind_of c) o =
    is (effective_commands all) stack
    ∙ ap (λ (n : ℕ). checks_after s.checks (signature_after (profile_of t.stack) all)
    (claims_after (profile_of t.stack) all)
    (n + 1) (kind_of c) o) before.commands in
    subst (GoesOn (profile_of t.stack) s.checks pairs (pair_of c o)) (sym same)
    (goes_on (profile_of t.stack) s.checks pairs c o before.checks)

-- a check closes every window
closing_check : (closed : Bool) (p : Pair) (after : List Pair) → is_check p.command ≡ true → Closing closed (p ∷ after)
closing_check closed p after check =
    let it : closes p ≡ true = ap (λ b. b || (closes_window p.command && is_effective p)) check in
    record {
      none = ap (λ b. cond b [] (p ∷ window after)) it;
      closed = ap (λ b. closed || (b || list_any closes after)) it ∙ or_true closed;
    }

-- the lines that are decided behind pairs are no more than the checks among them
few_of : (profile : Profile) (steps : ℕ) (pairs : List Pair) (ls rest : List Line)
    → lines_in profile steps true [] pairs [] ≡ ls ++ rest
    → length ls ≤ checks_in pairs
few_of profile steps pairs ls rest is =
    omega (arith, ap length is, length-append ls rest, few_lines profile steps true [] pairs [])

-- t is s after one more pair, which decides these lines
pub accepted_stands : (early : Bool) (s t : State) (new : List Line) (pairs : List Pair) (c : Command)
    (o : Option Sexp) → (early ≡ true → is_check c ≡ true) → Fits early s pairs
    → start_of t.stack ≡ start_of s.stack → stacks.StandsFor t.stack
    (effective_commands pairs ++ numbered_if (is_effective_with o) (s.commands + 1) c)
    → last_of t.stack ≤ s.commands + 1
    → ((cs : List Numbered) → stacks.StandsFor t.stack cs
    → step t.checks new ≡ checks_after s.checks (signature_in_force (profile_of t.stack) cs)
    (claims_in_force (profile_of t.stack) cs) (s.commands + 1) (kind_of c) o)
    → t.commands ≡ s.commands + 1 → t.answers ≡ s.answers + answer_count o → t.lines ≡ s.lines ++ new
    → s.checks.count + 1 < 2 ^ 64
    → (s.tally ≡ tally_of s.lines → length s.lines + length new < 2 ^ 64 → t.tally ≡ tally_of (s.lines ++ new))
    → StandsFor t (pairs ++ pair_of c o ∷ [])
accepted_stands early s t new pairs c o check before start applied last checks commands answers decided room tally =
    let p = pair_of c o in
    let len : length (pairs ++ p ∷ []) ≡ length pairs + 1 = length-append pairs (p ∷ []) ∙ omega arith in
    let stack = stack_push s t pairs p before.commands applied in
    let g = checks_push early s t new pairs c o before stack checks in
    let pending : Bool → List Pair → List Line = λ closed after. pending_lines t.checks.limit closed t.checks.pending
    (signature_after (profile_of t.stack) (pairs ++ p ∷ [])) (claims_after (profile_of t.stack) (pairs ++ p ∷ []))
    (length (pairs ++ p ∷ []) + 1) after in
    let lines : (closed : Bool) (after : List Pair)
    → lines_in (profile_of t.stack) t.checks.limit closed [] (pairs ++ p ∷ []) after
    ≡ (s.lines ++ new) ++ pending closed after = λ closed after.
    let here = pending_lines s.checks.limit closed s.checks.pending (signature_after (profile_of t.stack) pairs)
    (claims_after (profile_of t.stack) pairs)
    (length pairs + 1) (p ∷ after) in
    let own = lines_of_pair (profile_of t.stack) s.checks.limit closed pairs p after in
    ap (λ (n : ℕ). lines_in (profile_of t.stack) n closed [] (pairs ++ p ∷ []) after) g.limit
    ∙ lines_in-push (profile_of t.stack) s.checks.limit closed pairs p after
    ∙ ap (λ (ls : List Line). ls ++ own)
    (lines_as early s t.stack pairs start before closed (p ∷ after) (λ e. closing_check closed p after (check e)))
    ∙ append_assoc s.lines here own
    ∙ ap (λ (ls : List Line). s.lines ++ ls) (g.lines closed after)
    ∙ sym (append_assoc s.lines new (pending closed after)) in
    let counted : t.checks.count ≡ checks_in (pairs ++ p ∷ []) =
    omega (arith, g.count, before.checks, checks_in-append pairs (p ∷ [])) in
    let few = few_of (profile_of t.stack) t.checks.limit (pairs ++ p ∷ []) (s.lines ++ new) (pending true [])
    (lines true []) in
    let one : checks_in (p ∷ []) ≤ 1 = checks_in-le (p ∷ []) in
    record {
      stack = stack;
      last = omega (arith, last, commands);
      commands = omega (arith, commands, before.commands, len);
      answers = omega (arith, answers, before.answers, answers_taken-append pairs (p ∷ []));
      checks = counted;
      tally = tally before.tally
          (omega (arith, few, length-append s.lines new, before.checks, checks_in-append pairs (p ∷ []), one, room))
          ∙ ap tally_of (sym decided);
      lines = λ closed after early'. lines closed after
          ∙ ap (λ (ls : List Line). ls ++ pending closed after) (sym decided);
    }

-- the fault of a pair is that of its command, if that took effect
pub flaw_same : (early : Bool) (s : State) (pairs : List Pair) (c : Command) (o : Option Sexp)
    → Fits early s pairs
    → flaw_of_pair (profile_of s.stack) pairs (pair_of c o)
    ≡ flaw_if (profile_of s.stack) (is_effective_with o) (effective_commands pairs) (s.commands + 1) c
flaw_same early s pairs c o before =
    ap (λ (n : ℕ). flaw_if (profile_of s.stack) (is_effective_with o) (effective_commands pairs) (n + 1) c)
    (sym before.commands)

-- where the stack is as it was, and nothing else changed
pub refused_stands : (early : Bool) (s t : State) (pairs : List Pair) → Fits early s pairs
    → start_of t.stack ≡ start_of s.stack → stacks.StandsFor t.stack (effective_commands pairs)
    → last_of t.stack ≡ last_of s.stack
    → t.checks ≡ s.checks → t.commands ≡ s.commands → t.answers ≡ s.answers → t.tally ≡ s.tally
    → t.lines ≡ s.lines → Fits early t pairs
refused_stands early s t pairs before start stack last checks commands answers tally lines = record {
  stack = stack;
  last = omega (arith, last, commands, before.last);
  commands = commands ∙ before.commands;
  answers = answers ∙ before.answers;
  checks = ap (λ (c : ChecksState). c.count) checks ∙ before.checks;
  tally = tally ∙ before.tally ∙ ap tally_of (sym lines);
  lines = λ closed after early'.
      ap (λ (c : ChecksState). lines_in (profile_of t.stack) c.limit closed [] pairs after) checks
      ∙ lines_as early s t.stack pairs start before closed after early'
      ∙ ap (λ (ls : List Line). ls ++ pending_lines s.checks.limit closed s.checks.pending
      (signature_after (profile_of t.stack) pairs)
      (claims_after (profile_of t.stack) pairs) (length pairs + 1) after) (sym lines)
      ∙ ap (λ (c : ChecksState). t.lines
      ++ pending_lines c.limit closed c.pending (signature_after (profile_of t.stack) pairs)
      (claims_after (profile_of t.stack) pairs) (length pairs + 1)
      after) (sym checks);
}

-- so a refused command has the fault that the stack told, or there was no memory
pub refused_fault : (early : Bool) (s t : State) (n : ℕ) (pairs : List Pair) (c : Command) (o : Option Sexp)
    (fault : CommandFault) (flaw : CommandFlaw) → n ≡ s.commands + 1 → Fits early s pairs
    → TellsCommand (flaw_if (profile_of s.stack) (is_effective_with o) (effective_commands pairs) n c) fault
    → flaw_of_command_fault fault ≡ Some flaw → Fits early t pairs
    → (flaw_of_pair (profile_of s.stack) pairs (pair_of c o) ≡ Some flaw) × Fits early t pairs
refused_fault early s t n pairs c o fault flaw is before (inl memory) told after = let none : None ≡ Some flaw =
    sym (ap flaw_of_command_fault memory) ∙ told in absurd (cc)
refused_fault early s t n pairs c o fault flaw is before (inr expected) told after = (
  flaw_same early s pairs c o before
      ∙ ap (λ (k : ℕ). flaw_if (profile_of s.stack) (is_effective_with o) (effective_commands pairs) k c) (sym is)
      ∙ expected.1 ∙ told,
  after,
)

-- the same of a command of this number and kind
pub accepted : (early : Bool) (s t : State) (new : List Line) (n : ℕ) (pairs : List Pair) (c : Command)
    (o : Option Sexp) (k : Kind) → n ≡ s.commands + 1 → k ≡ kind_of c → (early ≡ true → is_check c ≡ true)
    → Fits early s pairs → start_of t.stack ≡ start_of s.stack
    → (flaw_if (profile_of s.stack) (is_effective_with o) (effective_commands pairs) n c ≡ None)
    × stacks.StandsFor t.stack (effective_commands pairs ++ numbered_if (is_effective_with o) n c)
    → last_of t.stack ≤ n
    → ((cs : List Numbered) → stacks.StandsFor t.stack cs
    → step t.checks new ≡ checks_after s.checks (signature_in_force (profile_of t.stack) cs)
    (claims_in_force (profile_of t.stack) cs) n k o)
    → t.commands ≡ n → t.answers ≡ s.answers + answer_count o → t.lines ≡ s.lines ++ new
    → s.checks.count + 1 < 2 ^ 64
    → (s.tally ≡ tally_of s.lines → length s.lines + length new < 2 ^ 64 → t.tally ≡ tally_of (s.lines ++ new))
    → (flaw_of_pair (profile_of s.stack) pairs (pair_of c o) ≡ None) × StandsFor t (pairs ++ pair_of c o ∷ [])
accepted early s t new n pairs c o k is kind check before start applied last checks commands answers decided room
    tally =
    let done = subst (λ (i : ℕ). (flaw_if (profile_of s.stack) (is_effective_with o) (effective_commands pairs) i c
    ≡ None)
    × stacks.StandsFor t.stack (effective_commands pairs ++ numbered_if (is_effective_with o) i c)) is applied in (
      flaw_same early s pairs c o before ∙ done.0,
      accepted_stands early s t new pairs c o check before start done.1 (omega (arith, last, is))
          (λ cs on. checks cs on
          ∙ ap (λ (i : ℕ). checks_after s.checks (signature_in_force (profile_of t.stack) cs)
          (claims_in_force (profile_of t.stack) cs) i k o) is
          ∙ ap (λ (j : Kind). checks_after s.checks (signature_in_force (profile_of t.stack) cs)
          (claims_in_force (profile_of t.stack) cs) (s.commands + 1) j o)
          kind)
          (commands ∙ is) answers decided room tally,
    )

-- where every window is closed at once, the lines of the check whose window has not ended are those of its end
closing_is : (steps : ℕ) (o : Option PendingCheck) (closed : Bool) (names : Signature) (claims : List Claimed) (m : ℕ)
    (after : List Pair) → Closing closed after → pending_lines steps closed o names claims m after ≡ closing_lines o
closing_is steps None closed names claims m after h = refl
closing_is steps (Some c) closed names claims m after h =
    let at : List Pair → Bool → List Line = λ w b. sat_lines c.check c.command
    (unconfirmed_line steps c.check c.command names claims (models_from m w))
    (c.some_model || not (is_empty (models_from m w))) b in
    ap (λ w. at w (closed || list_any closes after)) h.none ∙ ap (at []) h.closed
    ∙ ap (λ b. confirmed_line c.check c.command b ∷ []) (or_false c.some_model)

pub state_ended : (c d : Checks) → d.limit ≡ c.limit → d.count ≡ c.count → d.pending ≡ None
    → checks_state d ≡ (with_window_ended (checks_state c)).after
state_ended c d limit count none = cc

-- nothing comes, and every window is closed
abbrev pub closed_end : Closing true []
closed_end = record { none = refl; closed = refl }

-- what was decided, and what a check whose window has not ended adds where all are closed
lines_at_once : (early : Bool) (s : State) (pairs : List Pair) → Fits early s pairs
    → lines_in (profile_of s.stack) s.checks.limit true [] pairs []
    ≡ s.lines ++ pending_lines s.checks.limit true s.checks.pending (signature_after (profile_of s.stack) pairs)
    (claims_after (profile_of s.stack) pairs)
    (length pairs + 1) []
lines_at_once early s pairs h = h.lines true [] (λ e. closed_end)

-- so the window may be ended before the pair comes
pub ended_early : (sooner : Bool) (s t : State) (pairs : List Pair) → Fits sooner s pairs → t.stack ≡ s.stack
    → t.checks ≡ (with_window_ended s.checks).after → t.commands ≡ s.commands → t.answers ≡ s.answers
    → t.lines ≡ s.lines ++ closing_lines s.checks.pending → s.checks.count < 2 ^ 64
    → (s.tally ≡ tally_of s.lines → length s.lines + length (closing_lines s.checks.pending) < 2 ^ 64
    → t.tally ≡ tally_of (s.lines ++ closing_lines s.checks.pending)) → Fits true t pairs
ended_early sooner s t pairs before stack checks commands answers decided room tally =
    let start = ap start_of stack in
    let line = closing_lines s.checks.pending in
    let lines : (closed : Bool) (after : List Pair) → Closing closed after
    → lines_in (profile_of t.stack) s.checks.limit closed [] pairs after ≡ s.lines ++ line = λ closed after closing.
    lines_as sooner s t.stack pairs start before closed after (λ e. closing)
    ∙ ap (λ (ls : List Line). s.lines ++ ls)
    (closing_is s.checks.limit s.checks.pending closed (signature_after (profile_of t.stack) pairs)
    (claims_after (profile_of t.stack) pairs)
    (length pairs + 1) after closing) in
    let few = few_of (profile_of t.stack) s.checks.limit pairs (s.lines ++ line) []
    (lines true [] closed_end ∙ sym (append-nil (s.lines ++ line))) in
    record {
      stack = subst (λ k. stacks.StandsFor k (effective_commands pairs)) (sym stack) before.stack;
      last = omega (arith, before.last, ap last_of stack, commands);
      commands = commands ∙ before.commands;
      answers = answers ∙ before.answers;
      checks = ap (λ (c : ChecksState). c.count) checks ∙ before.checks;
      tally = tally before.tally (omega (arith, few, length-append s.lines line, before.checks, room))
          ∙ ap tally_of (sym decided);
      lines = λ closed after early.
          ap (λ (c : ChecksState). lines_in (profile_of t.stack) c.limit closed [] pairs after) checks
          ∙ lines closed after (early refl)
          ∙ sym decided
          ∙ sym (append-nil t.lines)
          ∙ ap (λ (c : ChecksState). t.lines
          ++ pending_lines c.limit closed c.pending (signature_after (profile_of t.stack) pairs)
          (claims_after (profile_of t.stack) pairs) (length pairs + 1)
          after) (sym checks);
    }

-- ---- lines that are decided

first_none : (a b : Bool) → a || b ≡ false → a ≡ false
first_none true b h = absurd (cc)
first_none false b h = refl

-- and none is of a fault
pub lines_faultless : (early : Bool) (s : State) (pairs : List Pair) → Fits early s pairs
    → list_any is_fault_line s.lines ≡ false
lines_faultless early s pairs h =
    let pending = pending_lines s.checks.limit true s.checks.pending (signature_after (profile_of s.stack) pairs)
    (claims_after (profile_of s.stack) pairs) (length pairs + 1) []
    in
    first_none (list_any is_fault_line s.lines) (list_any is_fault_line pending)
    (sym (list_any-append is_fault_line s.lines pending)
    ∙ sym (ap (list_any is_fault_line) (lines_at_once early s pairs h))
    ∙ no_faults (profile_of s.stack) s.checks.limit true [] pairs [])

-- nor is any that of the verdict
pub lines_silent : (early : Bool) (s : State) (pairs : List Pair) → Fits early s pairs
    → list_any is_verdict_line s.lines ≡ false
lines_silent early s pairs h =
    let pending = pending_lines s.checks.limit true s.checks.pending (signature_after (profile_of s.stack) pairs)
    (claims_after (profile_of s.stack) pairs) (length pairs + 1) []
    in
    first_none (list_any is_verdict_line s.lines) (list_any is_verdict_line pending)
    (sym (list_any-append is_verdict_line s.lines pending)
    ∙ sym (ap (list_any is_verdict_line) (lines_at_once early s pairs h))
    ∙ no_verdicts (profile_of s.stack) s.checks.limit true [] pairs [])

pub part_silent : (ls rest all : List Line) → all ≡ ls ++ rest → list_any is_verdict_line all ≡ false
    → list_any is_verdict_line ls ≡ false
part_silent ls rest all is h =
    first_none (list_any is_verdict_line ls) (list_any is_verdict_line rest)
    (sym (list_any-append is_verdict_line ls rest) ∙ sym (ap (list_any is_verdict_line) is) ∙ h)

-- the line of a fault is not that of the verdict
fault_silent : (fault : Option Line) → IsFaultLine fault → list_any is_verdict_line (lines_of_end fault) ≡ false
fault_silent None h = refl
fault_silent (Some (lines.TextFault side flaw)) h = refl
fault_silent (Some (lines.CommandFault n flaw)) h = refl
fault_silent (Some (lines.MissingAnswer n)) h = refl
fault_silent (Some (lines.UnexpectedAnswer n m)) h = refl
fault_silent (Some (lines.ExtraAnswer m)) h = refl
fault_silent (Some _) h = absurd (cc)

both_silent : (xs ys : List Line) → list_any is_verdict_line xs ≡ false → list_any is_verdict_line ys ≡ false
    → list_any is_verdict_line (xs ++ ys) ≡ false
both_silent xs ys h g =
    list_any-append is_verdict_line xs ys ∙ ap (λ b. b || list_any is_verdict_line ys) h ∙ g

-- so none is among those that are decided, with that of a fault behind them or without
pub decided_silent : (xs before after : List Line) (fault : Option Line) → IsFaultLine fault
    → IsPartOf before (lines_of_end fault) after → list_any is_verdict_line (xs ++ before) ≡ false
    → list_any is_verdict_line (xs ++ after) ≡ false
decided_silent xs before after fault is (inl same) h = ap (λ b. list_any is_verdict_line (xs ++ b)) same ∙ h
decided_silent xs before after fault is (inr same) h =
    ap (λ b. list_any is_verdict_line (xs ++ b)) same
    ∙ sym (ap (list_any is_verdict_line) (append_assoc xs before (lines_of_end fault)))
    ∙ both_silent (xs ++ before) (lines_of_end fault) h (fault_silent fault is)

-- where nothing comes yet, a check whose window has not ended adds nothing
none_pending : (steps : ℕ) (o : Option PendingCheck) (names : Signature) (claims : List Claimed) (m : ℕ)
    → pending_lines steps false o names claims m [] ≡ []
none_pending steps None names claims m = refl
none_pending steps (Some c) names claims m = refl

pub waiting_lines : (s : State) (pairs : List Pair) → Fits false s pairs
    → lines_in (profile_of s.stack) s.checks.limit false [] pairs [] ≡ s.lines
waiting_lines s pairs h =
    h.lines false [] (λ e. absurd (cc))
    ∙ ap (λ ls. s.lines ++ ls)
    (none_pending s.checks.limit s.checks.pending (signature_after (profile_of s.stack) pairs)
    (claims_after (profile_of s.stack) pairs) (length pairs + 1))
    ∙ append-nil s.lines

-- and where no window is open, nothing where all are closed
pub closed_lines : (early : Bool) (s : State) (pairs : List Pair) → s.checks.pending ≡ None → Fits early s pairs
    → lines_in (profile_of s.stack) s.checks.limit true [] pairs [] ≡ s.lines
closed_lines early s pairs none h =
    lines_at_once early s pairs h
    ∙ ap (λ o. s.lines ++ pending_lines s.checks.limit true o (signature_after (profile_of s.stack) pairs)
    (claims_after (profile_of s.stack) pairs) (length pairs + 1) [])
    none ∙ append-nil s.lines

-- what is decided begins the lines, whatever comes
pub decided_first : (early : Bool) (s : State) (pairs : List Pair) → Fits early s pairs
    → (later : List Line) × (lines_in (profile_of s.stack) s.checks.limit early [] pairs [] ≡ s.lines ++ later)
decided_first true s pairs h = (_, lines_at_once true s pairs h)
decided_first false s pairs h = ([], waiting_lines s pairs h ∙ sym (append-nil s.lines))

-- ---- where the dialogue waits

pub settled_closed : (closed : Bool) (u : State) (pairs : List Pair) → closed ≡ true → Fits true u pairs
    → u.checks.pending ≡ None → Fits closed u pairs
    × (u.lines ≡ lines_in (profile_of u.stack) u.checks.limit closed [] pairs [])
settled_closed true u pairs is h none = (h, sym (closed_lines true u pairs none h))
settled_closed false u pairs is h none = absurd (cc)

pub settled_open : (closed early : Bool) (u : State) (pairs : List Pair) → closed ≡ false
    → (early ≡ true → closed ≡ true) → Fits early u pairs
    → Fits closed u pairs × (u.lines ≡ lines_in (profile_of u.stack) u.checks.limit closed [] pairs [])
settled_open true early u pairs is same h = absurd (cc)
settled_open false true u pairs is same h = absurd (let e = same refl in cc)
settled_open false false u pairs is same h = (h, sym (waiting_lines u pairs h))

-- ---- where the dialogue ends

pub begins_same : (ls ms : List Line) → ms ≡ ls → IsBeginning ls ms
begins_same ls ms h = ([], h ∙ sym (append-nil ls))

begins_more : (ls ms ns : List Line) → IsBeginning ls ms → IsBeginning ls (ms ++ ns)
begins_more ls ms ns h = (h.0 ++ ns, ap (λ xs. xs ++ ns) h.1 ∙ append_assoc ls h.0 ns)

pub begins_trans : (xs ys zs : List Line) → IsBeginning xs ys → IsBeginning ys zs → IsBeginning xs zs
begins_trans xs ys zs h g = (h.0 ++ g.0, g.1 ∙ ap (λ l. l ++ g.0) h.1 ∙ append_assoc xs h.0 g.0)

-- lines with which those that are decided begin
pub begins_end : (early : Bool) (s : State) (pairs : List Pair) (fault : Option Line) (ls rest : List Line)
    → s.lines ≡ ls ++ rest → Fits early s pairs
    → IsBeginning ls (lines_at_end (profile_of s.stack) s.checks.limit pairs fault)
begins_end early s pairs fault ls rest is h =
    let pending = pending_lines s.checks.limit true s.checks.pending (signature_after (profile_of s.stack) pairs)
    (claims_after (profile_of s.stack) pairs) (length pairs + 1) []
    in
    let mine = lines_in (profile_of s.stack) s.checks.limit true [] pairs [] in
    let first : IsBeginning ls mine = (
      rest ++ pending,
      lines_at_once early s pairs h ∙ ap (λ l. l ++ pending) is ∙ append_assoc ls rest pending,
    ) in
    let all = mine ++ lines_of_end fault in
    begins_more ls all (lines.Verdict (verdict_of all) (tally_of all) ∷ [])
    (begins_more ls mine (lines_of_end fault) first)

-- the lines that are decided, with that of a fault behind them or without
pub part_begins : (xs before more after all verdict : List Line) → IsPartOf before more after
    → all ≡ (xs ++ before) ++ more → IsBeginning (xs ++ after) (all ++ verdict)
part_begins xs before more after all verdict (inl same) is = (
  more ++ verdict,
  ap (λ l. l ++ verdict) (is ∙ ap (λ b. (xs ++ b) ++ more) (sym same)) ∙ append_assoc (xs ++ after) more verdict,
)
part_begins xs before more after all verdict (inr same) is = (
  verdict,
  ap (λ l. l ++ verdict) (is ∙ append_assoc xs before more ∙ ap (λ b. xs ++ b) (sym same)),
)

-- what any answer says of a failure
pub on_err : {T E P : Type 0} (r : Result T E) → P → OnErr r P
on_err (Ok x) p = tt
on_err (Err e) p = p
