-- How the checks of a dialogue go on with one more pair.
use Rattle.std.proofs.Common.{◌≡◌, ◌+◌, ℕ, Bool, true, false, not, ◌&&◌, ◌||◌, List, [], ◌∷◌, ◌++◌, length, Option}
use Rattle.std.proofs.Common.{Some}
use Rattle.std.proofs.Common.{None, cond, codes, refl, ap, sym, ◌∙◌, subst, arith, length-append}
use Rattle.std.proofs.lemmas.List.{append-nil}
use Rattle.std.specs.List.{list_any}
use Rattle.std.specs.Option.{option_or}
use Rattle.std.specs.Prelude.{option_map}
use Rattle.smt_trees.specs.Sexp.{Sexp, Sexps, Atom, Reserved, Items, is_symbol}
use Rattle.smt_terms.specs.Signature.{Signature}
use Rattle.smt_script.specs.Command.{Command, asks_check, changes_force, closes_window, is_check, kind_of}
use Rattle.smt_script.specs.declared.command.Kind.{Kind}
use Rattle.smt_script.specs.declared.command.Kind.TheVariants as kinds
use Rattle.smt_dialogue.proofs.AnswerLemmas.{refusal_told, sat_told, unchecked_told}
use Rattle.smt_dialogue.proofs.InForceLemmas.{quiet}
use Rattle.smt_dialogue.proofs.PairLemmas.{IsPassed, claims_of_effective, quiet_is_idle, quiet_is_passed}
use Rattle.smt_dialogue.proofs.PairLemmas.{refused_is_passed}
use Rattle.smt_dialogue.specs.Answers.{is_effective_with}
use Rattle.smt_dialogue.specs.InForce.{signature_after}
use Rattle.smt_dialogue.specs.Internal.AnswerView.{answer_of, is_sat, refuses, unchecked}
use Rattle.smt_dialogue.specs.Internal.ChecksState.{ChecksState, Step, checks_after, closing_line, own_line}
use Rattle.smt_dialogue.specs.Internal.ChecksState.{pending_lines, unchanged, with_check, with_line, with_models}
use Rattle.smt_dialogue.specs.Internal.ChecksState.{with_window_ended}
use Rattle.smt_dialogue.specs.Internal.Claims.{claims_after}
use Rattle.smt_dialogue.specs.Judgement.{Claimed, judgement_of}
use Rattle.smt_dialogue.specs.Lines.{claims_of_check, confirmed_line, is_empty, line_of_judgement, lines_of_answer}
use Rattle.smt_dialogue.specs.Lines.{lines_of_pair}
use Rattle.smt_dialogue.specs.Lines.{lines_of_sat, sat_lines, unchecked_line_or}
use Rattle.smt_dialogue.specs.Lines.{unconfirmed_line}
use Rattle.smt_dialogue.specs.Pairs.{Pair, checks_in, is_effective, pair_of}
use Rattle.smt_dialogue.specs.Report.{lines_of_end}
use Rattle.smt_dialogue.specs.Window.{Printed, asks_model, closes, models_from, printed_by, printed_in, window}
use Rattle.smt_dialogue.specs.declared.answer.Answer.{Answer}
use Rattle.smt_dialogue.specs.declared.answer.Answer.TheVariants as says
use Rattle.smt_report.specs.declared.line.CheckAnswer.{CheckAnswer}
use Rattle.smt_report.specs.declared.line.Line.{Line}
use Rattle.smt_report.specs.declared.line.Line.TheVariants as lines
use Rattle.smt_dialogue.specs.declared.checks.PendingCheck.{PendingCheck}
use Rattle.smt_theory.specs.declared.profile.Profile.{Profile}

-- the lines of a check whose window ends
abbrev pub closing_lines : Option PendingCheck → List Line
closing_lines pending = lines_of_end (closing_line pending)

-- ## The window that has not ended does, or goes on

sat_lines-closing : (closed s more : Bool) (k n : ℕ)
    → sat_lines k n None (s || false) (closed || (true || more)) ≡ confirmed_line k n s ∷ []
sat_lines-closing true true more k n = refl
sat_lines-closing true false more k n = refl
sat_lines-closing false true more k n = refl
sat_lines-closing false false more k n = refl

pub pending-closing : (steps : ℕ) (closed : Bool) (o : Option PendingCheck) (names : Signature) (claims : List Claimed)
    (m : ℕ) (p : Pair) (after : List Pair) → closes p ≡ true
    → pending_lines steps closed o names claims m (p ∷ after) ≡ closing_lines o
pending-closing steps closed None names claims m p after h = refl
pending-closing steps closed (Some c) names claims m p after h =
    rw h (sat_lines-closing closed c.some_model (list_any closes after) c.check c.command)

-- the models that a pair printed
abbrev models_of : ℕ → Pair → List Printed
models_of m p = cond (is_effective p) (printed_by m p.command p.answer) []

-- a pair that neither ends the window nor prints a model leaves the lines as they are
pending-past : (steps : ℕ) (closed : Bool) (o : Option PendingCheck) (names : Signature) (claims : List Claimed) (m : ℕ)
    (p : Pair) (after : List Pair) → closes p ≡ false → models_of m p ≡ []
    → pending_lines steps closed o names claims m (p ∷ after) ≡ pending_lines steps closed o names claims (m + 1) after
pending-past steps closed None names claims m p after h none = refl
pending-past steps closed (Some c) names claims m p after h none = rw (h, none) refl

-- ## The checks go on

-- this is one more pair: so many more checks, and the lines for whatever pairs come
pub record GoesOn (profile : Profile) (s : ChecksState) (pairs : List Pair) (p : Pair) (t : Step) : Type 0 where
  pub limit : t.after.limit ≡ s.limit
  pub count : t.after.count ≡ s.count + checks_in (p ∷ [])
  pub lines : (closed : Bool) (after : List Pair)
      → pending_lines s.limit closed s.pending (signature_after profile pairs) (claims_after profile pairs)
      (length pairs + 1) (p ∷ after) ++ lines_of_pair profile s.limit closed pairs p after
      ≡ t.decided ++ pending_lines t.after.limit closed t.after.pending (signature_after profile (pairs ++ p ∷ []))
      (claims_after profile (pairs ++ p ∷ [])) (length (pairs ++ p ∷ []) + 1) after

-- the lines where the window ends at a pair that has these lines itself
closes_with : (profile : Profile) (s : ChecksState) (pairs : List Pair) (p : Pair) (closed : Bool) (after : List Pair)
    (own : List Line) → closes p ≡ true → lines_of_pair profile s.limit closed pairs p after ≡ own
    → pending_lines s.limit closed s.pending (signature_after profile pairs) (claims_after profile pairs)
    (length pairs + 1) (p ∷ after) ++ lines_of_pair profile s.limit closed pairs p after
    ≡ closing_lines s.pending ++ own
closes_with profile s pairs p closed after own h is =
    ap (λ (ls : List Line). ls ++ lines_of_pair profile s.limit closed pairs p after)
    (pending-closing s.limit closed s.pending (signature_after profile pairs) (claims_after profile pairs)
    (length pairs + 1)
    p after h)
    ∙ ap (λ (ls : List Line). closing_lines s.pending ++ ls) is

-- a pair that is no check and no model ends the window, and has no line
ends_window : (profile : Profile) (s : ChecksState) (pairs : List Pair) (p : Pair) → closes p ≡ true
    → is_check p.command ≡ false
    → GoesOn profile s pairs p (with_window_ended s)
ends_window profile s pairs p ends other = record {
  limit = refl;
  count = rw other (omega arith);
  lines = λ closed after. closes_with profile s pairs p closed after [] ends (rw other refl);
}

-- the lines of a check whose window goes on behind a pair that changes nothing
pending-idle : (profile : Profile) (steps : ℕ) (closed : Bool) (o : Option PendingCheck) (pairs : List Pair) (p : Pair)
    (after : List Pair)
    → IsPassed profile pairs p
    → pending_lines steps closed o (signature_after profile pairs) (claims_after profile pairs)
    ((length pairs + 1) + 1) after
    ≡ pending_lines steps closed o (signature_after profile (pairs ++ p ∷ [])) (claims_after profile (pairs ++ p ∷ []))
    (length (pairs ++ p ∷ []) + 1) after
pending-idle profile steps closed o pairs p after idle =
    let new = pairs ++ p ∷ [] in
    let len : length new ≡ length pairs + 1 = length-append pairs (p ∷ []) ∙ omega arith in
    ap (λ (m : ℕ). pending_lines steps closed o (signature_after profile pairs) (claims_after profile pairs)
    (m + 1) after)
    (sym len)
    ∙ ap (λ (es : Signature). pending_lines steps closed o es (claims_after profile pairs) (length new + 1) after)
    (sym idle.signature)
    ∙ ap (λ (es : List Claimed). pending_lines steps closed o (signature_after profile new) es (length new + 1) after)
    (sym idle.claims)

-- a pair that neither ends the window nor prints a model, and changes nothing, leaves all as it is
stays : (profile : Profile) (s : ChecksState) (pairs : List Pair) (p : Pair) → closes p ≡ false
    → is_check p.command ≡ false
    → ((m : ℕ) → models_of m p ≡ []) → IsPassed profile pairs p → GoesOn profile s pairs p (unchanged s)
stays profile s pairs p open' other none idle = record {
  limit = refl;
  count = rw other (omega arith);
  lines = λ closed after.
      let names = signature_after profile pairs in
      let claims = claims_after profile pairs in
      let here = pending_lines s.limit closed s.pending names claims (length pairs + 1) (p ∷ after) in
      ap (λ (ls : List Line). here ++ ls) (rw other refl)
      ∙ append-nil here
      ∙ pending-past s.limit closed s.pending names claims (length pairs + 1) p after open'
      (none (length pairs + 1))
      ∙ pending-idle profile s.limit closed s.pending pairs p after idle;
}

neither : {A : Type 0} (b : Bool) → ◌≡◌ {A = List A} (cond b [] []) []
neither true = refl
neither false = refl

no_models : {A : Type 0} (b : Bool) (xs : List A) → b ≡ false → cond b xs [] ≡ []
no_models b xs h = rw h refl

-- a command that ends the window where it took effect
closes_if : (profile : Profile) (s : ChecksState) (pairs : List Pair) (p : Pair) (b : Bool) → is_effective p ≡ b
    → closes p ≡ is_effective p → is_check p.command ≡ false
    → GoesOn profile s pairs p (cond (is_effective p) (with_window_ended s) (unchanged s))
closes_if profile s pairs p true is ends other = rw is (ends_window profile s pairs p (ends ∙ is) other)
closes_if profile s pairs p false is ends other =
    rw is (stays profile s pairs p (ends ∙ is) other
    (λ m. no_models (is_effective p) (printed_by m p.command p.answer) is) (refused_is_passed profile pairs p is))

-- ## Checks

check_closes : (c : Command) (o : Option Sexp) → kind_of c ≡ kinds.Check → closes (pair_of c o) ≡ true
check_closes c o is = ap (λ (k : Kind). asks_check k || changes_force k && is_effective_with o) is

-- a check without an answer
none_goes : (profile : Profile) (s : ChecksState) (pairs : List Pair) (c : Command) → kind_of c ≡ kinds.Check
    → GoesOn profile s pairs (pair_of c None) (with_check s (length pairs + 1) None)
none_goes profile s pairs c is = record {
  limit = refl;
  count = rw is (omega arith);
  lines = λ closed after.
      closes_with profile s pairs (pair_of c None) closed after [] (check_closes c None is) (rw is refl)
      ∙ sym (append-nil (closing_lines s.pending ++ []));
}

-- the lines of a check, by what its answer says
lines_told : (profile : Profile) (steps : ℕ) (closed : Bool) (pairs : List Pair) (c : Command) (a : Sexp) (x : Answer)
    (after : List Pair)
    → answer_of a ≡ x
    → lines_of_answer profile steps closed pairs (claims_of_check profile pairs c) (checks_in pairs + 1) (Some a) after
    ≡ unchecked_line_or (checks_in pairs + 1) (length pairs + 1) (unchecked x)
    (cond (is_sat x) (lines_of_sat steps closed (checks_in pairs + 1) (length pairs + 1) (signature_after profile pairs)
    (claims_of_check profile pairs c) ((length pairs + 1) + 1) after) [])
lines_told profile steps closed pairs c a x after is =
    let k = checks_in pairs + 1 in
    let n = length pairs + 1 in
    let ls = lines_of_sat steps closed k n (signature_after profile pairs) (claims_of_check profile pairs c)
    (n + 1) after in
    ap (λ (u : Option CheckAnswer). unchecked_line_or k n u (cond (is_symbol (codes "sat") a) ls []))
    (unchecked_told a ∙ ap unchecked is)
    ∙ ap (λ (b : Bool). unchecked_line_or k n (unchecked x) (cond b ls [])) (sat_told a ∙ ap is_sat is)

own_is : (k n : ℕ) (u : Option CheckAnswer)
    → unchecked_line_or k n u [] ≡ lines_of_end (option_map (λ (t : CheckAnswer). lines.Unchecked k n t) u)
own_is k n None = refl
own_is k n (Some t) = refl

-- a check that was answered otherwise than `sat`
answered_goes : (profile : Profile) (s : ChecksState) (pairs : List Pair) (c : Command) (a : Sexp) (x : Answer)
    → kind_of c ≡ kinds.Check → answer_of a ≡ x → is_sat x ≡ false → s.count ≡ checks_in pairs
    → GoesOn profile s pairs (pair_of c (Some a)) (record {
      after = record { limit = s.limit; count = s.count + 1; pending = None };
      decided = closing_lines s.pending ++ lines_of_end (own_line (s.count + 1) (length pairs + 1) (Some x));
    })
answered_goes profile s pairs c a x is says_so other count =
    let n = length pairs + 1 in
    let own = lines_of_end (own_line (s.count + 1) n (Some x)) in
    record {
      limit = refl;
      count = rw is (omega arith);
      lines = λ closed after.
          let ls = lines_of_sat s.limit closed (checks_in pairs + 1) n (signature_after profile pairs)
          (claims_of_check profile pairs c) (n + 1) after in
          let mine : lines_of_answer profile s.limit closed pairs (claims_of_check profile pairs c)
          (checks_in pairs + 1) (Some a)
          after ≡ own =
          lines_told profile s.limit closed pairs c a x after says_so
          ∙ ap (λ (b : Bool). unchecked_line_or (checks_in pairs + 1) n (unchecked x) (cond b ls [])) other
          ∙ own_is (checks_in pairs + 1) n (unchecked x)
          ∙ ap (λ (k : ℕ). lines_of_end (own_line (k + 1) n (Some x))) (sym count) in
          closes_with profile s pairs (pair_of c (Some a)) closed after own (check_closes c (Some a) is) (rw is mine)
          ∙ sym (append-nil (closing_lines s.pending ++ own));
    }

-- a check that was answered `sat`
begun_goes : (profile : Profile) (s : ChecksState) (pairs : List Pair) (c : Command) (a : Sexp)
    → kind_of c ≡ kinds.Check → answer_of a ≡ says.Sat → s.count ≡ checks_in pairs
    → GoesOn profile s pairs (pair_of c (Some a)) (with_check s (length pairs + 1) (Some says.Sat))
begun_goes profile s pairs c a is says_so count =
    let p = pair_of c (Some a) in
    let new = pairs ++ p ∷ [] in
    let n = length pairs + 1 in
    let begun : Option PendingCheck = Some (record { check = s.count + 1; command = n; some_model = false }) in
    let calm = quiet c (ap changes_force is) in
    let len : length new ≡ length pairs + 1 = length-append pairs (p ∷ []) ∙ omega arith in
    let claims = claims_of_check profile pairs c in
    let effective : is_effective_with (Some a) ≡ true = ap not (refusal_told a ∙ ap refuses says_so) in
    record {
      limit = refl;
      count = rw is (omega arith);
      lines = λ closed after.
          let later = pending_lines s.limit closed begun (signature_after profile new) (claims_after profile new)
          (length new + 1) after
          in
          closes_with profile s pairs p closed after _ (check_closes c (Some a) is)
          (rw is (lines_told profile s.limit closed pairs c a says.Sat after says_so))
          ∙ ap (λ (i : ℕ). closing_lines s.pending
          ++ lines_of_sat s.limit closed (i + 1) n (signature_after profile pairs) claims (n + 1) after) (sym count)
          ∙ ap (λ (ls : List Line). closing_lines s.pending ++ ls)
          (ap (λ (m : ℕ). pending_lines s.limit closed begun (signature_after profile pairs) claims (m + 1) after)
          (sym len)
          ∙ ap (λ (es : Signature). pending_lines s.limit closed begun es claims (length new + 1) after)
          (sym (quiet_is_idle profile pairs p calm).signature)
          ∙ ap (λ (cs : List Claimed). pending_lines s.limit closed begun (signature_after profile new) cs
          (length new + 1) after) (sym (claims_of_effective profile pairs p calm (ap asks_check is) effective)))
          ∙ ap (λ (ls : List Line). ls ++ later) (sym (append-nil (closing_lines s.pending)));
    }

check_by : (profile : Profile) (s : ChecksState) (pairs : List Pair) (c : Command) (a : Sexp) (x : Answer)
    → kind_of c ≡ kinds.Check → answer_of a ≡ x → s.count ≡ checks_in pairs
    → GoesOn profile s pairs (pair_of c (Some a)) (with_check s (length pairs + 1) (Some x))
check_by profile s pairs c a says.Sat is says_so count = begun_goes profile s pairs c a is says_so count
check_by profile s pairs c a says.Unsat is says_so count =
    answered_goes profile s pairs c a says.Unsat is says_so refl count
check_by profile s pairs c a says.Unknown is says_so count =
    answered_goes profile s pairs c a says.Unknown is says_so refl count
check_by profile s pairs c a says.Unsupported is says_so count =
    answered_goes profile s pairs c a says.Unsupported is says_so refl count
check_by profile s pairs c a says.Error is says_so count =
    answered_goes profile s pairs c a says.Error is says_so refl count
check_by profile s pairs c a says.Success is says_so count =
    answered_goes profile s pairs c a says.Success is says_so refl count
check_by profile s pairs c a says.List is says_so count =
    answered_goes profile s pairs c a says.List is says_so refl count
check_by profile s pairs c a says.Text is says_so count =
    answered_goes profile s pairs c a says.Text is says_so refl count
check_by profile s pairs c a says.Other is says_so count =
    answered_goes profile s pairs c a says.Other is says_so refl count

check_goes : (profile : Profile) (s : ChecksState) (pairs : List Pair) (c : Command) (o : Option Sexp)
    → kind_of c ≡ kinds.Check
    → s.count ≡ checks_in pairs
    → GoesOn profile s pairs (pair_of c o) (with_check s (length pairs + 1) (option_map answer_of o))
check_goes profile s pairs c None is count = none_goes profile s pairs c is
check_goes profile s pairs c (Some a) is count = check_by profile s pairs c a (answer_of a) is refl count

-- ## Models

or_true : (b : Bool) → b || true ≡ true
or_true true = refl
or_true false = refl

model_open : (d : Command) (o : Option Sexp) → kind_of d ≡ kinds.Model → closes (pair_of d o) ≡ false
model_open d o is = ap (λ (k : Kind). asks_check k || changes_force k && is_effective_with o) is

model_passed : (profile : Profile) (pairs : List Pair) (d : Command) (o : Option Sexp) → kind_of d ≡ kinds.Model
    → IsPassed profile pairs (pair_of d o)
model_passed profile pairs d o is = quiet_is_passed profile pairs (pair_of d o) (quiet d (ap changes_force is))
    (ap asks_check is) (ap changes_force is)

-- the lines of a pending check at one more model
pending-model : (steps : ℕ) (closed : Bool) (c : PendingCheck) (names : Signature) (claims : List Claimed) (m : ℕ)
    (d : Command) (parts : Sexps) (after : List Pair) → kind_of d ≡ kinds.Model
    → is_effective_with (Some (Items parts)) ≡ true
    → pending_lines steps closed (Some c) names claims m (pair_of d (Some (Items parts)) ∷ after)
    ≡ sat_lines c.check c.command
    (option_or (line_of_judgement c.check c.command m (judgement_of steps names claims parts))
    (unconfirmed_line steps c.check c.command names claims (models_from (m + 1) (window after)))) true
    (closed || list_any closes after)
pending-model steps closed c names claims m d parts after is h =
    let p = pair_of d (Some (Items parts)) in
    let further = models_from (m + 1) (window after) in
    let printed : models_of m p ≡ record { command = m; parts = parts } ∷ [] =
    ap (λ (e : Bool). cond e (printed_by m d (Some (Items parts))) []) h
    ∙ ap (λ (k : Kind). cond (asks_model k) (printed_in m (Some (Items parts))) []) is in
    ap (λ (b : Bool). sat_lines c.check c.command
    (unconfirmed_line steps c.check c.command names claims (models_from m (cond b [] (p ∷ window after))))
    (c.some_model || not (is_empty (models_from m (cond b [] (p ∷ window after)))))
    (closed || (b || list_any closes after))) (model_open d (Some (Items parts)) is)
    ∙ ap (λ (ms : List Printed). sat_lines c.check c.command
    (unconfirmed_line steps c.check c.command names claims (ms ++ further))
    (c.some_model || not (is_empty (ms ++ further))) (closed || list_any closes after)) printed
    ∙ rw or_true refl

-- the lines of a pair that is a model, where a check is pending, with the line of the model
at_model : (profile : Profile) (s : ChecksState) (pairs : List Pair) (c : PendingCheck) (d : Command) (parts : Sexps)
    (l : Option Line) (closed : Bool) (after : List Pair)
    → s.pending ≡ Some c → kind_of d ≡ kinds.Model → is_effective_with (Some (Items parts)) ≡ true
    → line_of_judgement c.check c.command (length pairs + 1)
    (judgement_of s.limit (signature_after profile pairs) (claims_after profile pairs) parts) ≡ l
    → pending_lines s.limit closed s.pending (signature_after profile pairs) (claims_after profile pairs)
    (length pairs + 1) (pair_of d (Some (Items parts)) ∷ after)
    ++ lines_of_pair profile s.limit closed pairs (pair_of d (Some (Items parts))) after
    ≡ sat_lines c.check c.command
    (option_or l (unconfirmed_line s.limit c.check c.command (signature_after profile pairs)
    (claims_after profile pairs)
    (models_from ((length pairs + 1) + 1) (window after)))) true (closed || list_any closes after)
at_model profile s pairs c d parts l closed after is_pending is_model h is =
    let p = pair_of d (Some (Items parts)) in
    let here = pending_lines s.limit closed s.pending (signature_after profile pairs) (claims_after profile pairs)
    (length pairs + 1)
    (p ∷ after) in
    ap (λ (k : Kind). here
    ++ cond (asks_check k) (lines_of_answer profile s.limit closed pairs (claims_of_check profile pairs d)
    (checks_in pairs + 1)
    (Some (Items parts)) after) []) is_model
    ∙ append-nil here
    ∙ ap (λ (o : Option PendingCheck). pending_lines s.limit closed o (signature_after profile pairs)
    (claims_after profile pairs) (length pairs + 1) (p ∷ after)) is_pending
    ∙ pending-model s.limit closed c (signature_after profile pairs) (claims_after profile pairs)
    (length pairs + 1) d parts after
    is_model h
    ∙ ap (λ (x : Option Line). sat_lines c.check c.command
    (option_or x (unconfirmed_line s.limit c.check c.command (signature_after profile pairs)
    (claims_after profile pairs)
    (models_from ((length pairs + 1) + 1) (window after)))) true (closed || list_any closes after)) is

-- what is added where the model has a line, and where it is confirmed
model_line : (profile : Profile) (s : ChecksState) (pairs : List Pair) (c : PendingCheck) (d : Command) (parts : Sexps)
    (l : Option Line) → s.pending ≡ Some c → kind_of d ≡ kinds.Model
    → is_effective_with (Some (Items parts)) ≡ true
    → line_of_judgement c.check c.command (length pairs + 1)
    (judgement_of s.limit (signature_after profile pairs) (claims_after profile pairs) parts) ≡ l
    → GoesOn profile s pairs (pair_of d (Some (Items parts))) (with_line s c l)
model_line profile s pairs c d parts (Some line) is_pending is_model h is = record {
  limit = refl;
  count = rw is_model (omega arith);
  lines = λ closed after. at_model profile s pairs c d parts (Some line) closed after is_pending is_model h is;
}
model_line profile s pairs c d parts None is_pending is_model h is =
    let p = pair_of d (Some (Items parts)) in
    let noted : PendingCheck = record c { some_model = true } in
    record {
      limit = refl;
      count = rw is_model (omega arith);
      lines = λ closed after. at_model profile s pairs c d parts None closed after is_pending is_model h is
          ∙ pending-idle profile s.limit closed (Some noted) pairs p after
          (model_passed profile pairs d (Some (Items parts)) is_model);
    }

-- an answer that is no model leaves all as it is
no_model : (profile : Profile) (s : ChecksState) (pairs : List Pair) (d : Command) (o : Option Sexp)
    → kind_of d ≡ kinds.Model
    → ((m : ℕ) → cond (is_effective_with o) (printed_in m o) [] ≡ [])
    → GoesOn profile s pairs (pair_of d o) (unchanged s)
no_model profile s pairs d o is none =
    stays profile s pairs (pair_of d o) (model_open d o is) (ap asks_check is)
    (λ m. ap (λ (k : Kind). cond (is_effective_with o) (cond (asks_model k) (printed_in m o) []) []) is
    ∙ none m) (model_passed profile pairs d o is)

model_goes : (profile : Profile) (s : ChecksState) (pairs : List Pair) (pending : Option PendingCheck) (d : Command)
    (e : Bool)
    (o : Option Sexp) → kind_of d ≡ kinds.Model → s.pending ≡ pending → is_effective_with o ≡ e
    → GoesOn profile s pairs (pair_of d o)
    (with_models s pending (signature_after profile pairs) (claims_after profile pairs) (length pairs + 1) e o)
model_goes profile s pairs None d e o is_model is_pending is = record {
  limit = refl;
  count = rw is_model (omega arith);
  lines = λ closed after. rw (is_pending, is_model) refl;
}
model_goes profile s pairs (Some c) d false o is_model is_pending is =
    no_model profile s pairs d o is_model (λ m. no_models (is_effective_with o) (printed_in m o) is)
model_goes profile s pairs (Some c) d true None is_model is_pending is =
    no_model profile s pairs d None is_model (λ m. refl)
model_goes profile s pairs (Some c) d true (Some (Atom kind x)) is_model is_pending is =
    no_model profile s pairs d (Some (Atom kind x)) is_model (λ m. neither (is_effective_with (Some (Atom kind x))))
model_goes profile s pairs (Some c) d true (Some (Reserved w)) is_model is_pending is =
    no_model profile s pairs d (Some (Reserved w)) is_model (λ m. neither (is_effective_with (Some (Reserved w))))
model_goes profile s pairs (Some c) d true (Some (Items parts)) is_model is_pending is =
    model_line profile s pairs c d parts
    (line_of_judgement c.check c.command (length pairs + 1)
    (judgement_of s.limit (signature_after profile pairs)
    (claims_after profile pairs) parts)) is_pending is_model is refl

-- ## Every command

-- what is in force behind a model is what was in force before it
model_after : (profile : Profile) (s : ChecksState) (pairs : List Pair) (d : Command) (o : Option Sexp)
    → kind_of d ≡ kinds.Model
    → with_models s s.pending (signature_after profile (pairs ++ pair_of d o ∷ []))
    (claims_after profile (pairs ++ pair_of d o ∷ [])) (length pairs + 1) (is_effective_with o) o
    ≡ with_models s s.pending (signature_after profile pairs) (claims_after profile pairs) (length pairs + 1)
    (is_effective_with o) o
model_after profile s pairs d o is =
    let new = pairs ++ pair_of d o ∷ [] in
    let idle = model_passed profile pairs d o is in
    ap (λ (es : Signature). with_models s s.pending es (claims_after profile new) (length pairs + 1)
    (is_effective_with o) o) idle.signature
    ∙ ap (λ (es : List Claimed). with_models s s.pending (signature_after profile pairs) es (length pairs + 1)
    (is_effective_with o) o) idle.claims

-- a command that never ends a window, prints no model and brings nothing
passes : (profile : Profile) (s : ChecksState) (pairs : List Pair) (c : Command) (o : Option Sexp) → is_check c ≡ false
    → closes_window c ≡ false → asks_model (kind_of c) ≡ false → GoesOn profile s pairs (pair_of c o) (unchanged s)
passes profile s pairs c o other open' no_model' =
    stays profile s pairs (pair_of c o) (rw (other, open') refl) other
    (λ m. ap (λ (b : Bool). cond (is_effective_with o) (cond b (printed_in m o) []) []) no_model'
    ∙ neither (is_effective_with o)) (quiet_is_passed profile pairs (pair_of c o) (quiet c open') other open')

-- a command of a kind that ends a window where it took effect
changes : (profile : Profile) (s : ChecksState) (pairs : List Pair) (c : Command) (o : Option Sexp) → is_check c ≡ false
    → closes_window c ≡ true
    → GoesOn profile s pairs (pair_of c o) (cond (is_effective_with o) (with_window_ended s) (unchanged s))
changes profile s pairs c o other ends =
    closes_if profile s pairs (pair_of c o) (is_effective_with o) refl (rw (other, ends) refl) other

pub goes_on : (profile : Profile) (s : ChecksState) (pairs : List Pair) (c : Command) (o : Option Sexp)
    → s.count ≡ checks_in pairs
    → GoesOn profile s pairs (pair_of c o)
    (checks_after s (signature_after profile (pairs ++ pair_of c o ∷ []))
    (claims_after profile (pairs ++ pair_of c o ∷ []))
    (length pairs + 1) (kind_of c) o)
goes_on profile s pairs c o count = by (kind_of c) refl
  where
    pass : (k : Kind) → kind_of c ≡ k → asks_check k ≡ false → changes_force k ≡ false
        → asks_model k ≡ false → GoesOn profile s pairs (pair_of c o) (unchanged s)
    pass k is other open' no_model' =
        passes profile s pairs c o (ap asks_check is ∙ other) (ap changes_force is ∙ open')
        (ap asks_model is ∙ no_model')

    by : (k : Kind) → kind_of c ≡ k
        → GoesOn profile s pairs (pair_of c o)
        (checks_after s (signature_after profile (pairs ++ pair_of c o ∷ []))
        (claims_after profile (pairs ++ pair_of c o ∷ []))
        (length pairs + 1) k o)
    by kinds.Check is = check_goes profile s pairs c o is count
    by kinds.Model is = subst (GoesOn profile s pairs (pair_of c o)) (sym (model_after profile s pairs c o is))
        (model_goes profile s pairs s.pending c (is_effective_with o) o is refl refl)
    by (kinds.Logic known) is = changes profile s pairs c o (ap asks_check is) (ap changes_force is)
    by kinds.Change is = changes profile s pairs c o (ap asks_check is) (ap changes_force is)
    by kinds.Reset is = changes profile s pairs c o (ap asks_check is) (ap changes_force is)
    by (kinds.PrintSuccess on) is = pass (kinds.PrintSuccess on) is refl refl refl
    by kinds.Setting is = pass kinds.Setting is refl refl refl
    by kinds.Exit is = pass kinds.Exit is refl refl refl
    by kinds.Echo is = pass kinds.Echo is refl refl refl
    by kinds.Query is = pass kinds.Query is refl refl refl

-- ## The end

or_false : (b : Bool) → b || false ≡ b
or_false true = refl
or_false false = refl

-- at the end the window that has not ended does
pub pending-end : (steps : ℕ) (o : Option PendingCheck) (names : Signature) (claims : List Claimed) (m : ℕ)
    → pending_lines steps true o names claims m [] ≡ closing_lines o
pending-end steps None names claims m = refl
pending-end steps (Some c) names claims m =
    ap (λ (b : Bool). confirmed_line c.check c.command b ∷ []) (or_false c.some_model)
