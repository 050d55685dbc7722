-- Each check that is decided where a dialogue waits has its line among those so far.
use Rattle.std.proofs.Common.{◌≡◌, ◌+◌, ℕ, Bool, true, false, not, ◌||◌, List, [], ◌∷◌, ◌++◌, length, Option, Some}
use Rattle.std.proofs.Common.{None, cond, codes, refl, ap, ◌∙◌, subst, arith}
use Rattle.std.specs.List.{AllByRecursion, list_any}
use Rattle.std.specs.Option.{option_or}
use Rattle.smt_trees.specs.Sexp.{Sexp, is_symbol}
use Rattle.smt_script.specs.Command.{is_check}
use Rattle.smt_terms.specs.Signature.{Signature}
use Rattle.smt_dialogue.proofs.ConfirmedLemmas.{all_confirmed, lines_at, lines_of_sat_at}
use Rattle.smt_dialogue.proofs.ReportUnique.{one_turn}
use Rattle.smt_dialogue.proofs.VerdictLawLemmas.{all_at}
use Rattle.smt_dialogue.specs.FirstFault.{TextSoFar, Waits}
use Rattle.smt_dialogue.specs.InForce.{signature_after, start_by}
use Rattle.smt_dialogue.specs.Judgement.{Claimed, judgement_of}
use Rattle.smt_dialogue.specs.Lines.{claims_of_check, confirmed_line, is_empty, line_of_judgement, lines_in}
use Rattle.smt_dialogue.specs.Lines.{lines_of_answer, lines_of_pair, lines_of_sat, sat_lines, unchecked_answer}
use Rattle.smt_dialogue.specs.Lines.{unchecked_line_or, unconfirmed_line}
use Rattle.smt_dialogue.specs.Pairs.{Pair, checks_in}
use Rattle.smt_dialogue.specs.SoFar as so_far
use Rattle.smt_dialogue.specs.Validity.{IsSatCheck}
use Rattle.smt_dialogue.specs.VerdictLaws.{HasItsLine, IsLineOf, IsModelIn, IsWaitingWith}
use Rattle.smt_dialogue.specs.Window.{Printed, closes, models_from, window}
use Rattle.smt_dialogue.specs.declared.judgement.Judgement.{Judgement}
use Rattle.smt_dialogue.specs.declared.judgement.Judgement.TheVariants as judgements
use Rattle.smt_dialogue.specs.declared.options.Options.{Options}
use Rattle.smt_report.specs.declared.line.CheckAnswer.{CheckAnswer}
use Rattle.smt_report.specs.declared.line.Line.{Line}
use Rattle.smt_report.specs.declared.line.Line.TheVariants as lines

-- ## A check whose window has ended

abbrev IsNoneOr : (k n : ℕ) → Option Line → Type 0
IsNoneOr k n None = Unit {0}
IsNoneOr k n (Some line) = IsLineOf k n line

judged_line : (k n g : ℕ) (j : Judgement) → IsNoneOr k n (line_of_judgement k n g j)
judged_line k n g (judgements.ItemFault item flaw) = (refl, refl)
judged_line k n g (judgements.Lacks declaration) = (refl, refl)
judged_line k n g judgements.TooLong = (refl, refl)
judged_line k n g (judgements.Refuted claim) = (refl, refl)
judged_line k n g (judgements.NotDecided claim) = (refl, refl)
judged_line k n g judgements.Confirmed = tt

or_line : (k n : ℕ) (o p : Option Line) → IsNoneOr k n o → IsNoneOr k n p → IsNoneOr k n (option_or o p)
or_line k n None p h g = g
or_line k n (Some line) p h g = h

unconfirmed_is : (steps k n : ℕ) (names : Signature) (claims : List Claimed) (ms : List Printed)
    → IsNoneOr k n (unconfirmed_line steps k n names claims ms)
unconfirmed_is steps k n names claims [] = tt
unconfirmed_is steps k n names claims (m ∷ ms) =
    or_line k n (line_of_judgement k n m.command (judgement_of steps names claims m.parts))
    (unconfirmed_line steps k n names claims ms)
    (judged_line k n m.command (judgement_of steps names claims m.parts))
    (unconfirmed_is steps k n names claims ms)

confirmed_is : (k n : ℕ) (some_model : Bool) → IsLineOf k n (confirmed_line k n some_model)
confirmed_is k n true = (refl, refl)
confirmed_is k n false = (refl, refl)

-- the lines are one, and it is that of the check
abbrev pub IsOne : (k n : ℕ) → List Line → Type 0
IsOne k n ls = (line : Line) × (ls ≡ line ∷ []) × IsLineOf k n line

sat_ended : (k n : ℕ) (o : Option Line) (some_model closed : Bool) → closed ≡ true → IsNoneOr k n o
    → IsOne k n (sat_lines k n o some_model closed)
sat_ended k n (Some line) some_model closed is h = (line, refl, h)
sat_ended k n None some_model closed is h = (
  confirmed_line k n some_model,
  ap (λ b. cond b (confirmed_line k n some_model ∷ []) []) is,
  confirmed_is k n some_model,
)

-- ## A model that is not confirmed

sat_unconfirmed : (k n : ℕ) (o : Option Line) (some_model closed : Bool) → (o ≡ None → ⊥) → IsNoneOr k n o
    → IsOne k n (sat_lines k n o some_model closed)
sat_unconfirmed k n (Some line) some_model closed not_none h = (line, refl, h)
sat_unconfirmed k n None some_model closed not_none h = absurd (not_none refl)

-- ## Where it waits

some_or : (b c : Bool) → c ≡ true → b || c ≡ true
some_or true c h = refl
some_or false c h = h

first_or : (b c : Bool) → b ≡ true → b || c ≡ true
first_or true c h = refl
first_or false c h = absurd (cc)

any_closes : (first : List Pair) (next : Pair) (last : List Pair) → closes next ≡ true
    → list_any closes (first ++ next ∷ last) ≡ true
any_closes [] next last h = first_or (closes next) (list_any closes last) h
any_closes (x ∷ first) next last h =
    some_or (closes x) (list_any closes (first ++ next ∷ last)) (any_closes first next last h)

-- the lines so far have those of each pair
waiting_lines : (options : Options) (script answers : TextSoFar) (before after : List Pair) (check : Pair)
    (closed : Bool) (ls : List Line) → IsWaitingWith options script answers before check after closed ls
    → IsOne (checks_in before + 1) (length before + 1)
    (lines_of_pair options.profile options.limit.steps closed before check after)
    → HasItsLine before ls
waiting_lines options script answers before after check closed ls w one =
    let profile = options.profile in
    let steps = options.limit.steps in
    let pairs = before ++ check ∷ after in
    let l = w.so_far in
    let same = one_turn (start_by options) script answers l.pairs pairs l.turn (Waits closed) l.rests tt l.turn_is
    w.waits in
    let first = lines_in profile steps closed [] before ((check ∷ after) ++ []) in
    let last = lines_in profile steps closed (before ++ check ∷ []) after [] in (
      first,
      one.0,
      last,
      l.lines_are
          ∙ ap (so_far.lines_at profile steps l.pairs) same.1
          ∙ ap (λ (ps : List Pair). so_far.lines_at profile steps ps (Waits closed)) same.0
          ∙ lines_at profile steps closed before check after
          ∙ ap (λ (xs : List Line). first ++ (xs ++ last)) one.1,
      one.2,
    )

pub answered_line : (options : Options) (script answers : TextSoFar) (before after : List Pair) (check : Pair)
    (closed : Bool) (ls : List Line) (answer : Sexp) (other : CheckAnswer)
    → IsWaitingWith options script answers before check after closed ls
    → is_check check.command ≡ true → check.answer ≡ Some answer → unchecked_answer answer ≡ Some other
    → HasItsLine before ls
answered_line options script answers before after check closed ls answer other w asks told is =
    let profile = options.profile in
    let steps = options.limit.steps in
    let k = checks_in before + 1 in
    let n = length before + 1 in
    let claims = claims_of_check profile before check.command in
    let others = cond (is_symbol (codes "sat") answer)
    (lines_of_sat steps closed k n (signature_after profile before) claims (n + 1) after) [] in
    waiting_lines options script answers before after check closed ls w (
      lines.Unchecked k n other,
      ap (λ (b : Bool). cond b (lines_of_answer profile steps closed before claims k check.answer after) []) asks
          ∙ ap (λ (o : Option Sexp). lines_of_answer profile steps closed before claims k o after) told
          ∙ ap (λ (o : Option CheckAnswer). unchecked_line_or k n o others) is,
      (refl, refl),
    )

-- a check that was answered `sat` has the lines of a `sat`
sat_line : (options : Options) (script answers : TextSoFar) (before after : List Pair) (check : Pair) (closed : Bool)
    (ls : List Line) → IsWaitingWith options script answers before check after closed ls → IsSatCheck check
    → IsOne (checks_in before + 1) (length before + 1)
    (lines_of_sat options.limit.steps closed (checks_in before + 1) (length before + 1)
    (signature_after options.profile before) (claims_of_check options.profile before check.command)
    ((length before + 1) + 1) after)
    → HasItsLine before ls
sat_line options script answers before after check closed ls w sat one =
    waiting_lines options script answers before after check closed ls w (
      one.0,
      lines_of_sat_at options.profile options.limit.steps closed before after check sat ∙ one.1,
      one.2,
    )

ended_at : (options : Options) (script answers : TextSoFar) (before after : List Pair) (check : Pair) (closed : Bool)
    (ls : List Line) → IsWaitingWith options script answers before check after closed ls → IsSatCheck check
    → closed || list_any closes after ≡ true → HasItsLine before ls
ended_at options script answers before after check closed ls w sat ends =
    let steps = options.limit.steps in
    let k = checks_in before + 1 in
    let n = length before + 1 in
    let names = signature_after options.profile before in
    let claims = claims_of_check options.profile before check.command in
    let models = models_from (n + 1) (window after) in
    sat_line options script answers before after check closed ls w sat
    (sat_ended k n (unconfirmed_line steps k n names claims models) (not (is_empty models))
    (closed || list_any closes after) ends (unconfirmed_is steps k n names claims models))

pub ended_line : (options : Options) (script answers : TextSoFar) (before first last : List Pair) (check next : Pair)
    (closed : Bool) (ls : List Line)
    → IsWaitingWith options script answers before check (first ++ next ∷ last) closed ls → IsSatCheck check
    → closes next ≡ true → HasItsLine before ls
ended_line options script answers before first last check next closed ls w sat ends =
    ended_at options script answers before (first ++ next ∷ last) check closed ls w sat
    (some_or closed (list_any closes (first ++ next ∷ last)) (any_closes first next last ends))

pub closed_line : (options : Options) (script answers : TextSoFar) (before after : List Pair) (check : Pair)
    (ls : List Line) → IsWaitingWith options script answers before check after true ls → IsSatCheck check
    → HasItsLine before ls
closed_line options script answers before after check ls w sat =
    ended_at options script answers before after check true ls w sat refl

pub unconfirmed_has : (options : Options) (script answers : TextSoFar) (before after : List Pair) (check : Pair)
    (closed : Bool) (ls : List Line) (model : Printed)
    → IsWaitingWith options script answers before check after closed ls → IsSatCheck check
    → IsModelIn before after model
    → (judgement_of options.limit.steps (signature_after options.profile before)
    (claims_of_check options.profile before check.command) model.parts ≡ judgements.Confirmed → ⊥)
    → HasItsLine before ls
unconfirmed_has options script answers before after check closed ls model w sat among open' =
    let steps = options.limit.steps in
    let k = checks_in before + 1 in
    let n = length before + 1 in
    let names = signature_after options.profile before in
    let claims = claims_of_check options.profile before check.command in
    let models = models_from (n + 1) (window after) in
    let place : models ≡ among.first ++ model ∷ among.last =
    ap (λ (i : ℕ). models_from i (window after)) (omega arith) ∙ among.models in
    let is_confirmed : Printed → Type 0 =
    λ (m : Printed). judgement_of steps names claims m.parts ≡ judgements.Confirmed
    in
    sat_line options script answers before after check closed ls w sat
    (sat_unconfirmed k n (unconfirmed_line steps k n names claims models) (not (is_empty models))
    (closed || list_any closes after)
    (λ none. open' (all_at is_confirmed among.first model among.last
    (subst (AllByRecursion is_confirmed) place (all_confirmed steps k n names claims models none))))
    (unconfirmed_is steps k n names claims models))
