-- The lines of pairs stay as more pairs come: those of checks that are decided, and all, where every window is
-- closed.
use Rattle.std.proofs.Common.{◌≡◌, ℕ, ◌+◌, Bool, true, false, cond, ◌&&◌, ◌||◌, List, [], ◌∷◌, ◌++◌, length}
use Rattle.std.proofs.Common.{Option, Some, None, not, refl, ap, sym, ◌∙◌, subst, append_assoc, inl, inr, ◌⊎◌}
use Rattle.std.proofs.Common.{codes}
use Rattle.std.proofs.lemmas.List.{append-nil}
use Rattle.std.specs.List.{list_any}
use Rattle.std.specs.Option.{option_or}
use Rattle.smt_trees.specs.Sexp.{Sexp, is_symbol}
use Rattle.smt_terms.specs.Signature.{Signature}
use Rattle.smt_script.specs.Command.{closes_window, is_check}
use Rattle.smt_dialogue.proofs.PairLemmas.{lines_in-append}
use Rattle.smt_dialogue.proofs.WaitLemmas.{ClosesNext}
use Rattle.smt_dialogue.specs.FirstFault.{Ends, GoesOn, IsRest, Turn, Waits}
use Rattle.smt_dialogue.specs.InForce.{signature_after}
use Rattle.smt_dialogue.specs.Judgement.{Claimed, judgement_of}
use Rattle.smt_dialogue.specs.Internal.AcceptedState.{Closing}
use Rattle.smt_dialogue.specs.Lines.{claims_of_check, is_empty, line_of_judgement, lines_in, lines_of_answer}
use Rattle.smt_dialogue.specs.Lines.{lines_of_pair, lines_of_sat, sat_lines, unchecked_answer}
use Rattle.smt_dialogue.specs.Lines.{unchecked_line_or, unconfirmed_line}
use Rattle.smt_dialogue.specs.Pairs.{Pair, checks_in, is_effective}
use Rattle.smt_dialogue.specs.Report.{lines_of_end}
use Rattle.smt_dialogue.specs.SoFar.{IsBeginning, lines_at}
use Rattle.smt_dialogue.specs.Window.{Printed, closes, models_from, printed_by, window}
use Rattle.smt_report.specs.Verdict.{tally_of, verdict_of}
use Rattle.smt_report.specs.declared.line.CheckAnswer.{CheckAnswer}
use Rattle.smt_report.specs.declared.line.Line.{Line}
use Rattle.smt_report.specs.declared.line.Line.TheVariants as lines
use Rattle.smt_theory.specs.declared.profile.Profile.{Profile}

-- ---- windows

or_true : (b : Bool) → b || true ≡ true
or_true true = refl
or_true false = refl

left_false : (a b : Bool) → a || b ≡ false → a ≡ false
left_false true b h = absurd (cc)
left_false false b h = refl

right_false : (a b : Bool) → a || b ≡ false → b ≡ false
right_false true b h = absurd (cc)
right_false false b h = h

-- a window that is closed among pairs
window_closed : (xs ys : List Pair) → list_any closes xs ≡ true
    → (window (xs ++ ys) ≡ window xs) × (list_any closes (xs ++ ys) ≡ true)
window_closed [] ys h = absurd (cc)
window_closed (x ∷ xs) ys h = by (closes x) h (window_closed xs ys)
  where
    by : (b : Bool) → b || list_any closes xs ≡ true
        → (list_any closes xs ≡ true
        → (window (xs ++ ys) ≡ window xs) × (list_any closes (xs ++ ys) ≡ true))
        → (cond b [] (x ∷ window (xs ++ ys)) ≡ cond b [] (x ∷ window xs))
        × (b || list_any closes (xs ++ ys) ≡ true)
    by true e on = (refl, refl)
    by false e on = (ap (λ w. x ∷ w) (on e).0, (on e).1)

-- one that isn't
window_open : (xs ys : List Pair) → list_any closes xs ≡ false
    → (window (xs ++ ys) ≡ xs ++ window ys) × (list_any closes (xs ++ ys) ≡ list_any closes ys)
window_open [] ys h = (refl, refl)
window_open (x ∷ xs) ys h = by (closes x) h (window_open xs ys)
  where
    by : (b : Bool) → b || list_any closes xs ≡ false
        → (list_any closes xs ≡ false
        → (window (xs ++ ys) ≡ xs ++ window ys) × (list_any closes (xs ++ ys) ≡ list_any closes ys))
        → (cond b [] (x ∷ window (xs ++ ys)) ≡ x ∷ (xs ++ window ys))
        × (b || list_any closes (xs ++ ys) ≡ list_any closes ys)
    by true e on = absurd (cc)
    by false e on = (ap (λ w. x ∷ w) (on e).0, (on e).1)

window_whole : (xs : List Pair) → list_any closes xs ≡ false → window xs ≡ xs
window_whole xs h = ap window (sym (append-nil xs)) ∙ (window_open xs [] h).0 ∙ append-nil xs

-- pairs of which none closes a window have no line of their own
no_lines : (profile : Profile) (steps : ℕ) (c : Bool) (before xs after : List Pair) → list_any closes xs ≡ false
    → lines_in profile steps c before xs after ≡ []
no_lines profile steps c before [] after h = refl
no_lines profile steps c before (x ∷ xs) after h =
    let open' : closes x ≡ false = left_false (closes x) (list_any closes xs) h in
    let none : is_check x.command ≡ false =
    left_false (is_check x.command) (closes_window x.command && is_effective x) open' in
    ap (λ b. cond b (lines_of_answer profile steps c before (claims_of_check profile before x.command)
    (checks_in before + 1) x.answer
    (xs ++ after)) []
    ++ lines_in profile steps c (before ++ x ∷ []) xs after) none
    ∙ no_lines profile steps c (before ++ x ∷ []) xs after (right_false (closes x) (list_any closes xs) h)

-- ---- models

models_more : (m : ℕ) (xs ys : List Pair)
    → (later : List Printed) × (models_from m (xs ++ ys) ≡ models_from m xs ++ later)
models_more m [] ys = (models_from m ys, refl)
models_more m (x ∷ xs) ys =
    let here = cond (is_effective x) (printed_by m x.command x.answer) [] in
    let rest = models_more (m + 1) xs ys in
    (rest.0, ap (λ ms. here ++ ms) rest.1 ∙ sym (append_assoc here (models_from (m + 1) xs) rest.0))

unconfirmed_more : (steps : ℕ) (k n : ℕ) (names : Signature) (claims : List Claimed) (ms ns : List Printed)
    (line : Line)
    → unconfirmed_line steps k n names claims ms ≡ Some line
    → unconfirmed_line steps k n names claims (ms ++ ns) ≡ Some line
unconfirmed_more steps k n names claims [] ns line h = absurd (cc)
unconfirmed_more steps k n names claims (m ∷ ms) ns line h =
    by (line_of_judgement k n m.command (judgement_of steps names claims m.parts)) h
    (unconfirmed_more steps k n names claims ms ns line)
  where
    by : (o : Option Line) → option_or o (unconfirmed_line steps k n names claims ms) ≡ Some line
        → (unconfirmed_line steps k n names claims ms ≡ Some line
        → unconfirmed_line steps k n names claims (ms ++ ns) ≡ Some line)
        → option_or o (unconfirmed_line steps k n names claims (ms ++ ns)) ≡ Some line
    by (Some l) e on = e
    by None e on = on e

-- ---- the lines of one check

-- a check whose window is closed among the pairs that there are
sat_closed : (steps : ℕ) (c d : Bool) (k n : ℕ) (names : Signature) (claims : List Claimed) (m : ℕ)
    (after xs : List Pair)
    → list_any closes after ≡ true
    → lines_of_sat steps c k n names claims m after ≡ lines_of_sat steps d k n names claims m (after ++ xs)
sat_closed steps c d k n names claims m after xs h =
    let e = window_closed after xs h in
    let lines_with : Bool → List Pair → List Line = λ closed w.
    sat_lines k n (unconfirmed_line steps k n names claims (models_from m w)) (not (is_empty (models_from m w))) closed
    in
    ap (λ b. lines_with (c || b) (window after)) h ∙ ap (λ b. lines_with b (window after)) (or_true c)
    ∙ ap (λ w. lines_with true w) (sym e.0)
    ∙ ap (λ b. lines_with b (window (after ++ xs))) (sym (or_true d))
    ∙ ap (λ b. lines_with (d || b) (window (after ++ xs))) (sym e.1)

-- one whose window isn't has the line of a model that isn't confirmed, or none yet
sat_open : (steps : ℕ) (c : Bool) (k n : ℕ) (names : Signature) (claims : List Claimed) (m : ℕ) (after xs : List Pair)
    → list_any closes after ≡ false
    → (lines_of_sat steps false k n names claims m after ≡ lines_of_sat steps c k n names claims m (after ++ xs))
    ⊎ (lines_of_sat steps false k n names claims m after ≡ [])
sat_open steps c k n names claims m after xs h =
    by (unconfirmed_line steps k n names claims (models_from m (window after))) refl
  where
    some_model : List Pair → Bool
    some_model w = not (is_empty (models_from m w))

    by : (o : Option Line) → unconfirmed_line steps k n names claims (models_from m (window after)) ≡ o
        → (lines_of_sat steps false k n names claims m after ≡ lines_of_sat steps c k n names claims m (after ++ xs))
        ⊎ (lines_of_sat steps false k n names claims m after ≡ [])
    by (Some line) is =
        let more = models_more m after (window xs) in
        let there : unconfirmed_line steps k n names claims (models_from m (window (after ++ xs))) ≡ Some line =
        ap (λ w. unconfirmed_line steps k n names claims (models_from m w)) (window_open after xs h).0
        ∙ ap (unconfirmed_line steps k n names claims) more.1
        ∙ unconfirmed_more steps k n names claims (models_from m after) more.0 line
        (ap (λ w. unconfirmed_line steps k n names claims (models_from m w)) (sym (window_whole after h)) ∙ is) in
        inl (ap (λ o. sat_lines k n o (some_model (window after)) (false || list_any closes after)) is
        ∙ sym (ap (λ o. sat_lines k n o (some_model (window (after ++ xs)))
        (c || list_any closes (after ++ xs))) there))
    by None is =
        inr (ap (λ o. sat_lines k n o (some_model (window after)) (false || list_any closes after)) is
        ∙ ap (λ b. sat_lines k n None (some_model (window after)) (false || b)) h)

sat_closing : (steps : ℕ) (c : Bool) (k n : ℕ) (names : Signature) (claims : List Claimed) (m : ℕ)
    (after xs : List Pair)
    → Closing c xs → list_any closes after ≡ false
    → lines_of_sat steps true k n names claims m after ≡ lines_of_sat steps c k n names claims m (after ++ xs)
sat_closing steps c k n names claims m after xs g h =
    let e = window_open after xs h in
    let lines_with : Bool → List Pair → List Line = λ closed w.
    sat_lines k n (unconfirmed_line steps k n names claims (models_from m w)) (not (is_empty (models_from m w))) closed
    in
    let same : window after ≡ window (after ++ xs) =
    window_whole after h ∙ sym (append-nil after) ∙ ap (λ w. after ++ w) (sym g.none) ∙ sym e.0 in
    ap (lines_with true) same
    ∙ ap (λ b. lines_with b (window (after ++ xs))) (sym g.closed)
    ∙ ap (λ b. lines_with (c || b) (window (after ++ xs))) (sym e.1)

-- ---- the lines of a pair

pair_same : (profile : Profile) (steps : ℕ) (c d : Bool) (before : List Pair) (p : Pair) (after after' : List Pair)
    → ((k n : ℕ) (names : Signature) (claims : List Claimed) (m : ℕ)
    → lines_of_sat steps c k n names claims m after ≡ lines_of_sat steps d k n names claims m after')
    → lines_of_pair profile steps c before p after ≡ lines_of_pair profile steps d before p after'
pair_same profile steps c d before p after after' h =
    ap (λ ls. cond (is_check p.command) ls []) (by p.answer)
  where
    n : ℕ
    n = length before + 1

    k : ℕ
    k = checks_in before + 1

    claims : List Claimed
    claims = claims_of_check profile before p.command

    by : (o : Option Sexp) → lines_of_answer profile steps c before claims k o after
        ≡ lines_of_answer profile steps d before claims k o after'
    by None = refl
    by (Some answer) =
        ap (λ ls. unchecked_line_or k n (unchecked_answer answer)
        (cond (is_symbol (codes "sat") answer) ls []))
        (h k n (signature_after profile before) claims (n + 1))

pair_open : (profile : Profile) (steps : ℕ) (c : Bool) (before : List Pair) (p : Pair) (after xs : List Pair)
    → list_any closes after ≡ false
    → (lines_of_pair profile steps false before p after ≡ lines_of_pair profile steps c before p (after ++ xs))
    ⊎ (lines_of_pair profile steps false before p after ≡ [])
pair_open profile steps c before p after xs h = by_check (is_check p.command)
  where
    n : ℕ
    n = length before + 1

    k : ℕ
    k = checks_in before + 1

    names : Signature
    names = signature_after profile before

    claims : List Claimed
    claims = claims_of_check profile before p.command

    by_sat : (b : Bool) (u : Option CheckAnswer)
        → (unchecked_line_or k n u (cond b (lines_of_sat steps false k n names claims (n + 1) after) [])
        ≡ unchecked_line_or k n u (cond b (lines_of_sat steps c k n names claims (n + 1) (after ++ xs)) []))
        ⊎ (unchecked_line_or k n u (cond b (lines_of_sat steps false k n names claims (n + 1) after) []) ≡ [])
    by_sat b (Some u) = inl refl
    by_sat false None = inl refl
    by_sat true None = sat_open steps c k n names claims (n + 1) after xs h

    by_answer : (o : Option Sexp)
        → (lines_of_answer profile steps false before claims k o after
        ≡ lines_of_answer profile steps c before claims k o (after ++ xs))
        ⊎ (lines_of_answer profile steps false before claims k o after ≡ [])
    by_answer None = inl refl
    by_answer (Some answer) = by_sat (is_symbol (codes "sat") answer) (unchecked_answer answer)

    by_check : (b : Bool)
        → (cond b (lines_of_answer profile steps false before claims k p.answer after) []
        ≡ cond b (lines_of_answer profile steps c before claims k p.answer (after ++ xs)) [])
        ⊎ (cond b (lines_of_answer profile steps false before claims k p.answer after) [] ≡ [])
    by_check true = by_answer p.answer
    by_check false = inl refl

-- ---- the lines of pairs

beginning_of : (as' ls ms : List Line) → IsBeginning ls ms → IsBeginning (as' ++ ls) (as' ++ ms)
beginning_of as' ls ms h = (h.0, ap (λ xs. as' ++ xs) h.1 ∙ sym (append_assoc as' ls h.0))

stays_open : (profile : Profile) (steps : ℕ) (c : Bool) (before ps xs : List Pair)
    → IsBeginning (lines_in profile steps false before ps []) (lines_in profile steps c before ps xs)
stays_open profile steps c before [] xs = ([], refl)
stays_open profile steps c before (p ∷ ps) xs =
    by (list_any closes ps) refl (stays_open profile steps c (before ++ p ∷ []) ps xs)
  where
    all : List Line
    all = lines_in profile steps c before (p ∷ ps) xs

    later : List Line
    later = lines_in profile steps false (before ++ p ∷ []) ps []

    with_same : lines_of_pair profile steps false before p (ps ++ [])
        ≡ lines_of_pair profile steps c before p (ps ++ xs)
        → IsBeginning later (lines_in profile steps c (before ++ p ∷ []) ps xs)
        → IsBeginning (lines_in profile steps false before (p ∷ ps) []) all
    with_same e rest = subst (λ ls. IsBeginning (ls ++ later) all) (sym e)
        (beginning_of (lines_of_pair profile steps c before p (ps ++ xs)) later
        (lines_in profile steps c (before ++ p ∷ []) ps xs) rest)

    nil : lines_of_pair profile steps false before p (ps ++ []) ≡ lines_of_pair profile steps false before p ps
    nil = ap (lines_of_pair profile steps false before p) (append-nil ps)

    by_open : list_any closes ps ≡ false
        → (lines_of_pair profile steps false before p ps ≡ lines_of_pair profile steps c before p (ps ++ xs))
        ⊎ (lines_of_pair profile steps false before p ps ≡ [])
        → IsBeginning later (lines_in profile steps c (before ++ p ∷ []) ps xs)
        → IsBeginning (lines_in profile steps false before (p ∷ ps) []) all
    by_open is (inl e) rest = with_same (nil ∙ e) rest
    by_open is (inr e) rest =
        let none : lines_in profile steps false before (p ∷ ps) [] ≡ [] =
        ap (λ ls. ls ++ later) (nil ∙ e) ∙ no_lines profile steps false (before ++ p ∷ []) ps [] is in
        subst (λ ls. IsBeginning ls all) (sym none) (all, refl)

    by : (b : Bool) → list_any closes ps ≡ b → IsBeginning later (lines_in profile steps c (before ++ p ∷ []) ps xs)
        → IsBeginning (lines_in profile steps false before (p ∷ ps) []) all
    by true is rest = with_same (nil ∙ pair_same profile steps false c before p ps (ps ++ xs)
        (λ k n names claims m. sat_closed steps false c k n names claims m ps xs is)) rest
    by false is rest = by_open is (pair_open profile steps c before p ps xs is) rest

stays_closed : (profile : Profile) (steps : ℕ) (c : Bool) (before ps xs : List Pair) → Closing c xs
    → lines_in profile steps true before ps [] ≡ lines_in profile steps c before ps xs
stays_closed profile steps c before [] xs g = refl
stays_closed profile steps c before (p ∷ ps) xs g =
    ap (λ ls. ls ++ lines_in profile steps true (before ++ p ∷ []) ps [])
    (ap (lines_of_pair profile steps true before p) (append-nil ps)
    ∙ pair_same profile steps true c before p ps (ps ++ xs)
    (λ k n names claims m. by k n names claims m (list_any closes ps) refl))
    ∙ ap (λ ls. lines_of_pair profile steps c before p (ps ++ xs) ++ ls)
    (stays_closed profile steps c (before ++ p ∷ []) ps xs g)
  where
    by : (k n : ℕ) (names : Signature) (claims : List Claimed) (m : ℕ) (b : Bool) → list_any closes ps ≡ b
        → lines_of_sat steps true k n names claims m ps ≡ lines_of_sat steps c k n names claims m (ps ++ xs)
    by k n names claims m true is = sat_closed steps true c k n names claims m ps xs is
    by k n names claims m false is = sat_closing steps c k n names claims m ps xs g is

-- ---- the lines where a dialogue is at rest

stays : (profile : Profile) (steps : ℕ) (closed c : Bool) (pairs xs : List Pair) → (closed ≡ true → Closing c xs)
    → IsBeginning (lines_in profile steps closed [] pairs []) (lines_in profile steps c [] pairs xs)
stays profile steps false c pairs xs g = stays_open profile steps c [] pairs xs
stays profile steps true c pairs xs g = (
  [],
  sym (stays_closed profile steps c [] pairs xs (g refl))
      ∙ sym (append-nil (lines_in profile steps true [] pairs [])),
)

closing_next : (c : Bool) (ws : List Pair) → ClosesNext ws (Waits c) → Closing c (ws ++ [])
closing_next c [] next = record { none = refl; closed = ap (λ b. b || false) next }
closing_next c (w ∷ ws) next = record {
  none = ap (λ b. cond b [] (w ∷ window (ws ++ []))) next;
  closed = ap (λ b. c || (b || list_any closes (ws ++ []))) next ∙ or_true c;
}

ended_next : (ws : List Pair) (fault : Option Line) → ClosesNext ws (Ends fault) → ClosesNext ws (Waits true)
ended_next [] fault next = refl
ended_next (w ∷ ws) fault next = next

-- the lines of more pairs
more_lines : (profile : Profile) (steps : ℕ) (c : Bool) (pairs ws : List Pair) (ls : List Line)
    → IsBeginning ls (lines_in profile steps c [] pairs (ws ++ []))
    → IsBeginning ls (lines_in profile steps c [] (pairs ++ ws) [])
more_lines profile steps c pairs ws ls h = (
  h.0 ++ lines_in profile steps c pairs ws [],
  lines_in-append profile steps c [] pairs ws [] ∙ ap (λ ms. ms ++ lines_in profile steps c pairs ws []) h.1
      ∙ append_assoc ls h.0 (lines_in profile steps c pairs ws []),
)

followed : (ls ms ns : List Line) → IsBeginning ls ms → IsBeginning ls (ms ++ ns)
followed ls ms ns h = (h.0 ++ ns, ap (λ xs. xs ++ ns) h.1 ∙ append_assoc ls h.0 ns)

pub begins_so : (profile : Profile) (steps : ℕ) (pairs ws : List Pair) (turn : Turn) (closed : Bool) → IsRest turn
    → (closed ≡ true → ClosesNext ws turn)
    → IsBeginning (lines_in profile steps closed [] pairs []) (lines_at profile steps (pairs ++ ws) turn)
begins_so profile steps pairs ws GoesOn closed rests next = absurd rests
begins_so profile steps pairs ws (Waits c) closed rests next =
    more_lines profile steps c pairs ws (lines_in profile steps closed [] pairs [])
    (stays profile steps closed c pairs (ws ++ []) (λ e. closing_next c ws (next e)))
begins_so profile steps pairs ws (Ends fault) closed rests next =
    let ls = lines_in profile steps closed [] pairs [] in
    let ms = lines_in profile steps true [] (pairs ++ ws) [] in
    let shown = ms ++ lines_of_end fault in
    followed ls shown (lines.Verdict (verdict_of shown) (tally_of shown) ∷ [])
    (followed ls ms (lines_of_end fault)
    (more_lines profile steps true pairs ws ls (stays profile steps closed true pairs (ws ++ [])
    (λ e. closing_next true ws (ended_next ws fault (next e))))))
