-- What the lines of a report say of each check: the bridge from known values to the standard's.
use Rattle.std.proofs.Common.{◌≡◌, ◌+◌, ℕ, Bool, true, false, not, ◌||◌, List, [], ◌∷◌, ◌++◌, length, Option}
use Rattle.std.proofs.Common.{Some, None, Result, Ok, Err, cond, codes, refl, ap, sym, ◌∙◌, subst, arith}
use Rattle.std.proofs.Common.{nat_lt}
use Rattle.std.proofs.lemmas.List.{append-nil}
use Rattle.std.specs.List.{AllByRecursion, list_any}
use Rattle.smt_trees.specs.Sexp as sexp
use Rattle.smt_trees.specs.Sexp.{Sexp, Sexps, Atom}
use Rattle.smt_dialogue.proofs.FirstFaultLemmas.{none_of}
use Rattle.smt_dialogue.proofs.StructureLemmas.{ModelsGiveStructures, NamesAreIntroduced, structure_behind}
use Rattle.smt_dialogue.proofs.PairLemmas.{is_word, lines_in-append}
use Rattle.smt_dialogue.proofs.AssertedLemmas.{AssertionsAreFound, AssertionsStand}
use Rattle.smt_dialogue.proofs.ClaimLemmas.{claim_in, claim_sorted}
use Rattle.smt_dialogue.specs.Validity.{IsConfirmed, IsSatCheck, IsTrueModel}
use Rattle.smt_dialogue.specs.InForce.{AreFaultless, signature_after}
use Rattle.smt_dialogue.specs.Pairs.{Pair, checks_in}
use Rattle.smt_dialogue.specs.Lines.{claims_of_check, is_empty, line_of_judgement, lines_in, lines_of_answer}
use Rattle.smt_dialogue.specs.Lines.{lines_of_pair, lines_of_sat, sat_lines, unconfirmed_line}
use Rattle.smt_report.specs.Verdict.{is_refuted_line, is_undecided_line}
use Rattle.std.specs.Option.{option_or}
use Rattle.smt_dialogue.specs.Window.{Printed, models_from, structure_at, window}
use Rattle.smt_dialogue.specs.Judgement.{Claimed, first_claim, is_false_over, is_open_over}
use Rattle.smt_dialogue.specs.Judgement.{claims_cost, judged_in, judged_over, judgement_of, refuted_or}
use Rattle.smt_values.specs.Element.{Truth, Integer, Fraction, Vector, Abstract}
use Rattle.smt_arrays.specs.Element.{Agrees, Element, Filled, Written, Plain as NoArray, known_plain}
use Rattle.smt_arrays.specs.Operations.{truth}
use Rattle.smt_values.specs.Operations.{DivisionByZero}
use Rattle.smt_values.specs.KnownOperations.{is_known}
use Rattle.smt_eval.specs.Agreement.{AgreesWith}
use Rattle.smt_eval.specs.CompleteModel.{IsModelOf}
use Rattle.smt_eval.specs.Known.{known_in, known_of, known_over}
use Rattle.smt_eval.specs.Meaning.{value_over}
use Rattle.smt_eval.specs.Model.{model_in}
use Rattle.smt_eval.specs.Structure.{structure_of}
use Rattle.smt_terms.specs.Signature.{Signature}
use Rattle.smt_dialogue.specs.declared.judgement.Judgement.{Judgement}
use Rattle.smt_dialogue.specs.declared.judgement.Judgement.TheVariants as judgements
use Rattle.smt_eval.specs.declared.model_fault.ModelFlaw.{ModelFlaw}
use Rattle.smt_eval.specs.declared.model_fault.ModelFlaw.TheVariants as faults
use Rattle.smt_report.specs.declared.claim.Claim.{Claim}
use Rattle.smt_report.specs.declared.line.Line.{Line}
use Rattle.smt_theory.specs.declared.profile.Profile.{Profile}

-- the lines of a pair are among those of all pairs
pub lines_at : (profile : Profile) (steps : ℕ) (closed : Bool) (before : List Pair) (p : Pair) (after : List Pair)
    → lines_in profile steps closed [] (before ++ p ∷ after) []
    ≡ lines_in profile steps closed [] before ((p ∷ after) ++ [])
    ++ (lines_of_pair profile steps closed before p after ++ lines_in profile steps closed (before ++ p ∷ []) after [])
lines_at profile steps closed before p after =
    lines_in-append profile steps closed [] before (p ∷ after) []
    ∙ ap (λ (a : List Pair). lines_in profile steps closed [] before ((p ∷ after) ++ [])
    ++ (lines_of_pair profile steps closed before p a ++ lines_in profile steps closed (before ++ p ∷ []) after []))
    (append-nil after)

-- the lines of a check that was answered sat
pub lines_of_sat_at : (profile : Profile) (steps : ℕ) (closed : Bool) (before after : List Pair) (p : Pair)
    → IsSatCheck p → lines_of_pair profile steps closed before p after
    ≡ lines_of_sat steps closed (checks_in before + 1) (length before + 1) (signature_after profile before)
    (claims_of_check profile before p.command) ((length before + 1) + 1) after
lines_of_sat_at profile steps closed before after p s =
    let w = is_word (codes "sat") s.answer s.sat in
    let e : s.answer ≡ Atom sexp.Symbol (codes "sat") = w.1 ∙ ap (λ (x : List ℕ). Atom sexp.Symbol x) w.2 in
    let claims = claims_of_check profile before p.command in
    ap (λ (b : Bool). cond b (lines_of_answer profile steps closed before claims
    (checks_in before + 1) p.answer after) [])
    s.check
    ∙ ap (λ (o : Option Sexp). lines_of_answer profile steps closed before claims (checks_in before + 1) o after)
    (s.answered ∙ ap (λ (a : Sexp). Some a) e)

-- ## Judgements

is_true_value : (v : Option Element) → not (is_known true (known_plain v)) ≡ false → v ≡ Some (truth true)
is_true_value None h = absurd (cc)
is_true_value (Some (NoArray (Truth true))) h = refl
is_true_value (Some (NoArray (Truth false))) h = absurd (cc)
is_true_value (Some (NoArray (Integer z))) h = absurd (cc)
is_true_value (Some (NoArray (Fraction n d))) h = absurd (cc)
is_true_value (Some (NoArray (Vector v))) h = absurd (cc)
is_true_value (Some (NoArray (Abstract name))) h = absurd (cc)
is_true_value (Some (Filled e)) h = absurd (cc)
is_true_value (Some (Written a i e)) h = absurd (cc)

pub is_false_value : (v : Option Element) → is_known false (known_plain v) ≡ true → v ≡ Some (truth false)
is_false_value None h = absurd (cc)
is_false_value (Some (NoArray (Truth true))) h = absurd (cc)
is_false_value (Some (NoArray (Truth false))) h = refl
is_false_value (Some (NoArray (Integer z))) h = absurd (cc)
is_false_value (Some (NoArray (Fraction n d))) h = absurd (cc)
is_false_value (Some (NoArray (Vector v))) h = absurd (cc)
is_false_value (Some (NoArray (Abstract name))) h = absurd (cc)
is_false_value (Some (Filled e)) h = absurd (cc)
is_false_value (Some (Written a i e)) h = absurd (cc)

-- the laws of models, of what is known over them, of structures, and of the assertions in force
pub record Laws : Type 0 where
  pub complete : (script : Signature) (parts : Sexps) (definitions : Signature)
      → model_in script parts ≡ Ok definitions → IsModelOf script parts definitions
  pub known : (z : DivisionByZero) (definitions : Signature) (known : List (List ℕ × Option Element))
      (r : List (List ℕ × Element)) (term : Sexp)
      → AgreesWith known r → Agrees (known_of (known_in definitions) known term)
      (value_over z definitions r term)
  pub introduced : NamesAreIntroduced
  pub structures : ModelsGiveStructures
  pub stand : AssertionsStand
  pub found : AssertionsAreFound

-- what is known of a closed term is its value
pub closed_value : Laws → (z : DivisionByZero) (definitions : Signature) (term : Sexp) (e : Element)
    → known_over definitions term ≡ Some e → value_over z definitions [] term ≡ e
closed_value laws z definitions term e h =
    subst (λ (o : Option Element). Agrees o (value_over z definitions [] term)) h
    (laws.known z definitions [] [] term (λ x. tt))

chosen_none : (b : Bool) (n : Claim) (r : Option Claim) → cond b (Some n) r ≡ None → (b ≡ false) × (r ≡ None)
chosen_none true n r h = absurd (cc)
chosen_none false n r h = (refl, h)

-- where no claim passes a test, one among them doesn't
first_none : (test : Sexp → Bool) (xs : List Claimed) (c : Claimed) (ys : List Claimed)
    → first_claim test (xs ++ c ∷ ys) ≡ None → test c.term ≡ false
first_none test [] c ys h = (chosen_none (test c.term) c.claim (first_claim test ys) h).0
first_none test (x ∷ xs) c ys h =
    first_none test xs c ys (chosen_none (test x.term) x.claim (first_claim test (xs ++ c ∷ ys)) h).1

refuted_none : (f o : Option Claim) → refuted_or f o ≡ judgements.Confirmed → (f ≡ None) × (o ≡ None)
refuted_none (Some n) o h = absurd (cc)
refuted_none None (Some n) h = absurd (cc)
refuted_none None None h = (refl, refl)

-- a model that is confirmed is not too long
short_confirmed : (b : Bool) (j : Judgement) → cond b judgements.TooLong j ≡ judgements.Confirmed
    → j ≡ judgements.Confirmed
short_confirmed true j h = absurd (cc)
short_confirmed false j h = h

-- a model that is confirmed has definitions over which no assertion is false or open
confirmed_over : (steps : ℕ) (script : Signature) (as' : List Claimed) (r : Result Signature ModelFlaw)
    → judged_in steps script as' r ≡ judgements.Confirmed
    → (d : Signature) × (r ≡ Ok d) × (first_claim (is_false_over (structure_of script d)) as' ≡ None)
    × (first_claim (is_open_over (structure_of script d)) as' ≡ None)
confirmed_over steps script as' (Ok d) h =
    let s = structure_of script d in
    let none = refuted_none (first_claim (is_false_over s) as') (first_claim (is_open_over s) as')
    (short_confirmed (nat_lt steps (claims_cost s as')) (judged_over as' s) h) in
    (d, refl, none.0, none.1)
confirmed_over steps script as' (Err (faults.Item n f)) h = absurd (cc)
confirmed_over steps script as' (Err (faults.Lacks n)) h = absurd (cc)

-- ## Models that are confirmed are true

-- a model that is confirmed under what is in force is a true one
pub true_model : (profile : Profile) (steps : ℕ) → Laws → (pairs before after : List Pair) (p : Pair) (parts : Sexps)
    → pairs ≡ before ++ p ∷ after → AreFaultless profile [] pairs → IsSatCheck p
    → judgement_of steps (signature_after profile before) (claims_of_check profile before p.command) parts
    ≡ judgements.Confirmed
    → IsTrueModel profile before p parts
true_model profile steps laws pairs before after p parts place faultless sat h =
    let all = claims_of_check profile before p.command in
    let confirmed = confirmed_over steps (signature_after profile before) all
    (model_in (signature_after profile before) parts) h in
    record {
      definitions = confirmed.0;
      model = laws.complete (signature_after profile before) parts confirmed.0 confirmed.1;
      structure = structure_behind profile laws.introduced laws.structures before (p ∷ after) parts confirmed.0
          (subst (AreFaultless profile []) place faultless) confirmed.1;
      sorted = claim_sorted profile pairs before after p place faultless sat;
      true_in = λ z claim earlier term claimed.
          let here : Claimed = record { claim = claim; term = term } in
          let among = claim_in profile laws.stand before p claim earlier term claimed in
          let structure = structure_at profile confirmed.0 before in
          let not_open = first_none (is_open_over structure) among.0 here among.1
          (ap (first_claim (is_open_over structure)) (sym among.2) ∙ confirmed.3) in
          closed_value laws z structure term (truth true)
          (is_true_value (known_over structure term) not_open);
    }

-- ## The line of a check

or_none : (l r : Option Line) → option_or l r ≡ None → (l ≡ None) × (r ≡ None)
or_none None r h = (refl, h)
or_none (Some line) r h = absurd (cc)

judged_confirmed : (k n g : ℕ) (j : Judgement) → line_of_judgement k n g j ≡ None → j ≡ judgements.Confirmed
judged_confirmed k n g (judgements.ItemFault i f) h = absurd (cc)
judged_confirmed k n g (judgements.Lacks d) h = absurd (cc)
judged_confirmed k n g judgements.TooLong h = absurd (cc)
judged_confirmed k n g (judgements.Refuted a) h = absurd (cc)
judged_confirmed k n g (judgements.NotDecided a) h = absurd (cc)
judged_confirmed k n g judgements.Confirmed h = refl

-- where no model has a line, each is confirmed
pub all_confirmed : (steps : ℕ) (k n : ℕ) (names : Signature) (as' : List Claimed) (ms : List Printed)
    → unconfirmed_line steps k n names as' ms ≡ None
    → AllByRecursion (λ (m : Printed). judgement_of steps names as' m.parts ≡ judgements.Confirmed) ms
all_confirmed steps k n names as' [] h = tt
all_confirmed steps k n names as' (m ∷ ms) h =
    let none = or_none (line_of_judgement k n m.command (judgement_of steps names as' m.parts))
    (unconfirmed_line steps k n names as' ms) h in (
      judged_confirmed k n m.command (judgement_of steps names as' m.parts) none.0,
      all_confirmed steps k n names as' ms none.1,
    )

all_weaker : {A : Type 0} (P Q : A → Type 0) (xs : List A) → ((x : A) → P x → Q x) → AllByRecursion P xs
    → AllByRecursion Q xs
all_weaker P Q [] f h = tt
all_weaker P Q (x ∷ xs) f h = (f x h.0, all_weaker P Q xs f h.1)

some_same : {a b : Line} → ◌≡◌ {A = Option Line} (Some a) (Some b) → a ≡ b
some_same h = cc

-- a line of a judgement is that of a refuted or an undecided model
shown : (k n g : ℕ) (j : Judgement) (line : Line) → line_of_judgement k n g j ≡ Some line
    → is_refuted_line line || is_undecided_line line ≡ true
shown k n g (judgements.ItemFault i f) line h =
    ap (λ (l : Line). is_refuted_line l || is_undecided_line l) (sym (some_same h))
shown k n g (judgements.Lacks d) line h =
    ap (λ (l : Line). is_refuted_line l || is_undecided_line l) (sym (some_same h))
shown k n g judgements.TooLong line h =
    ap (λ (l : Line). is_refuted_line l || is_undecided_line l) (sym (some_same h))
shown k n g (judgements.Refuted a) line h =
    ap (λ (l : Line). is_refuted_line l || is_undecided_line l) (sym (some_same h))
shown k n g (judgements.NotDecided a) line h =
    ap (λ (l : Line). is_refuted_line l || is_undecided_line l) (sym (some_same h))
shown k n g judgements.Confirmed line h = absurd (cc)

first_shown : (k n g : ℕ) (j : Judgement) (l r : Option Line) (line : Line) → line_of_judgement k n g j ≡ l
    → (r ≡ Some line → is_refuted_line line || is_undecided_line line ≡ true) → option_or l r ≡ Some line
    → is_refuted_line line || is_undecided_line line ≡ true
first_shown k n g j None r line is later h = later h
first_shown k n g j (Some other) r line is later h = shown k n g j line (is ∙ h)

unconfirmed_shown : (steps : ℕ) (k n : ℕ) (names : Signature) (as' : List Claimed) (ms : List Printed) (line : Line)
    → unconfirmed_line steps k n names as' ms ≡ Some line → is_refuted_line line || is_undecided_line line ≡ true
unconfirmed_shown steps k n names as' [] line h = absurd (cc)
unconfirmed_shown steps k n names as' (m ∷ ms) line h =
    first_shown k n m.command (judgement_of steps names as' m.parts)
    (line_of_judgement k n m.command (judgement_of steps names as' m.parts))
    (unconfirmed_line steps k n names as' ms) line refl (unconfirmed_shown steps k n names as' ms line) h

both_false : {P : Type 0} (r u : Bool) → r || u ≡ true → r || false ≡ false → u || false ≡ false → P
both_false true u h a b = absurd (cc)
both_false false true h a b = absurd (cc)
both_false false false h a b = absurd (cc)

-- a check without the line of a refuted or an undecided one has a model, and no model of it has a line
sat_confirmed : (steps : ℕ) (k n : ℕ) (names : Signature) (as' : List Claimed) (ms : List Printed) (l : Option Line)
    → unconfirmed_line steps k n names as' ms ≡ l
    → list_any is_refuted_line (sat_lines k n l (not (is_empty ms)) true) ≡ false
    → list_any is_undecided_line (sat_lines k n l (not (is_empty ms)) true) ≡ false
    → (first : Printed) × (others : List Printed) × (ms ≡ first ∷ others)
    × (unconfirmed_line steps k n names as' ms ≡ None)
sat_confirmed steps k n names as' ms (Some line) is r u =
    both_false (is_refuted_line line) (is_undecided_line line) (unconfirmed_shown steps k n names as' ms line is)
    r u
sat_confirmed steps k n names as' [] None is r u = absurd (cc)
sat_confirmed steps k n names as' (m ∷ ms) None is r u = (m, ms, refl, is)

-- where the lines of all pairs have neither, each check that was answered sat is confirmed
pub confirmed_at : (profile : Profile) (steps : ℕ) → Laws → (pairs before after : List Pair) (p : Pair)
    → pairs ≡ before ++ p ∷ after
    → AreFaultless profile [] pairs → list_any is_refuted_line (lines_in profile steps true [] pairs []) ≡ false
    → list_any is_undecided_line (lines_in profile steps true [] pairs []) ≡ false → IsSatCheck p
    → IsConfirmed profile before p after
confirmed_at profile steps laws pairs before after p place faultless refuted undecided sat =
    let k = checks_in before + 1 in
    let n = length before + 1 in
    let names = signature_after profile before in
    let claimed = claims_of_check profile before p.command in
    let ms = models_from (n + 1) (window after) in
    let parts : lines_in profile steps true [] pairs []
    ≡ lines_in profile steps true [] before ((p ∷ after) ++ [])
    ++ (lines_of_pair profile steps true before p after ++ lines_in profile steps true (before ++ p ∷ []) after []) =
    ap (λ (ps : List Pair). lines_in profile steps true [] ps []) place ∙ lines_at profile steps true before p after in
    let here : (test : Line → Bool) → list_any test (lines_in profile steps true [] pairs []) ≡ false
    → list_any test (lines_of_sat steps true k n names claimed (n + 1) after) ≡ false =
    λ test h. ap (list_any test) (sym (lines_of_sat_at profile steps true before after p sat))
    ∙ (none_of test (lines_of_pair profile steps true before p after)
    (lines_in profile steps true (before ++ p ∷ []) after [])
    (none_of test (lines_in profile steps true [] before ((p ∷ after) ++ []))
    (lines_of_pair profile steps true before p after ++ lines_in profile steps true (before ++ p ∷ []) after [])
    (ap (list_any test) (sym parts) ∙ h)).1).0 in
    let found = sat_confirmed steps k n names claimed ms (unconfirmed_line steps k n names claimed ms) refl
    (here is_refuted_line refuted) (here is_undecided_line undecided) in
    let all : AllByRecursion (λ (m : Printed). judgement_of steps names claimed m.parts ≡ judgements.Confirmed)
    (found.0 ∷ found.1) = subst
    (AllByRecursion (λ (m : Printed). judgement_of steps names claimed m.parts ≡ judgements.Confirmed)) found.2
    (all_confirmed steps k n names claimed ms found.3) in
    record {
      first = found.0;
      others = found.1;
      models = ap (λ (i : ℕ). models_from i (window after)) (omega arith) ∙ found.2;
      true_models = all_weaker (λ (m : Printed). judgement_of steps names claimed m.parts ≡ judgements.Confirmed)
          (λ (m : Printed). IsTrueModel profile before p m.parts) (found.0 ∷ found.1)
          (λ m h. true_model profile steps laws pairs before after p m.parts place faultless sat h) all;
    }
