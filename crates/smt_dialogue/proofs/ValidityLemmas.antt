-- What the verdicts mean.
use Rattle.std.proofs.Common.{◌≡◌, ◌+◌, ℕ, Bool, true, false, not, ◌||◌, List, [], ◌∷◌, ◌++◌, length, Option}
use Rattle.std.proofs.Common.{Some, None, is_some, Result, Ok, Err, cond, codes, refl, ap, sym, ◌∙◌, subst}
use Rattle.std.proofs.Common.{arith, append_assoc, nat_lt}
use Rattle.std.proofs.lemmas.List.{append-nil}
use Rattle.std.specs.List.{list_any}
use Rattle.smt_text.specs.Grammar.{Forest}
use Rattle.smt_text.specs.Reading.{Reads}
use Rattle.smt_trees.specs.Sexp.{Sexp, Sexps, Nil, is_symbol}
use Rattle.smt_faults.specs.declared.text_flaw.TextFlaw.{TextFlaw}
use Rattle.smt_dialogue.proofs.FirstFaultLemmas.{any-append, ends_clean, invalid_lines, none_of, valid_lines}
use Rattle.smt_dialogue.proofs.ClaimLemmas.{claim_sorted, claimed_from}
use Rattle.smt_dialogue.proofs.StructureLemmas.{structure_behind}
use Rattle.smt_dialogue.proofs.PairingUnique.{all_commands, one_pairing}
use Rattle.smt_dialogue.proofs.ConfirmedLemmas.{Laws, closed_value, confirmed_at}
use Rattle.smt_dialogue.proofs.ConfirmedLemmas.{is_false_value, lines_at, lines_of_sat_at}
use Rattle.smt_script.specs.Command.{is_check}
use Rattle.smt_dialogue.specs.FirstFault.{TextSoFar, is_over}
use Rattle.smt_dialogue.specs.Depth.{max_depth_of}
use Rattle.smt_dialogue.specs.Report.{AreLinesOf, IsRead, lines_of_end}
use Rattle.smt_dialogue.specs.declared.options.Options.{Options}
use Rattle.smt_dialogue.specs.Validity.{IsFullyPaired, IsInvalid, IsSatCheck}
use Rattle.smt_dialogue.specs.Validity.{IsValid}
use Rattle.smt_dialogue.specs.InForce.{AreFaultless, signature_after, start_by}
use Rattle.smt_dialogue.specs.Pairing.{IsPairing, IsPairingSoFar}
use Rattle.smt_dialogue.specs.Pairs.{Pair, checks_in}
use Rattle.smt_dialogue.specs.Lines.{claims_of_check, is_empty, line_of_judgement, lines_in}
use Rattle.smt_dialogue.specs.Lines.{lines_of_answer, lines_of_pair, lines_of_sat, sat_lines, unchecked_answer}
use Rattle.smt_dialogue.specs.Lines.{unchecked_line_or}
use Rattle.smt_dialogue.specs.Lines.{unconfirmed_line}
use Rattle.smt_report.specs.Verdict.{IsVerdictOf, is_fault_line, is_refuted_line, is_undecided_line, tally_of}
use Rattle.smt_report.specs.Verdict.{verdict_of, with_verdict}
use Rattle.std.specs.Option.{option_or}
use Rattle.smt_dialogue.specs.Window.{Printed, models_from, structure_at, window}
use Rattle.smt_dialogue.specs.Judgement.{Claimed, first_claim, is_false_over, is_open_over}
use Rattle.smt_dialogue.specs.Judgement.{claims_cost, judged_in, judged_over, judgement_of, open_or_confirmed}
use Rattle.smt_dialogue.specs.Judgement.{refuted_or}
use Rattle.smt_arrays.specs.Operations.{truth}
use Rattle.smt_eval.specs.Known.{known_over}
use Rattle.smt_eval.specs.Model.{model_in}
use Rattle.smt_eval.specs.Structure.{structure_of}
use Rattle.smt_terms.specs.Signature.{Signature}
use Rattle.smt_dialogue.specs.declared.judgement.Judgement.{Judgement}
use Rattle.smt_dialogue.specs.declared.judgement.Judgement.TheVariants as judgements
use Rattle.smt_eval.specs.declared.model_fault.ModelFlaw.{ModelFlaw}
use Rattle.smt_eval.specs.declared.model_fault.ModelFlaw.TheVariants as faults
use Rattle.smt_report.specs.declared.claim.Claim.{Claim}
use Rattle.smt_report.specs.declared.line.CheckAnswer.{CheckAnswer}
use Rattle.smt_report.specs.declared.line.Line.{Line}
use Rattle.smt_report.specs.declared.line.Line.TheVariants as lines
use Rattle.smt_report.specs.declared.verdict.Tally.{Tally}
use Rattle.smt_report.specs.declared.verdict.Verdict.{Verdict}
use Rattle.smt_report.specs.declared.verdict.Verdict.TheVariants.{Valid, Invalid}
use Rattle.smt_theory.specs.declared.profile.Profile.{Profile}

-- ## A dialogue without the line of a fault is paired whole

pub fully_paired : (options : Options) (script answers : List ℕ) (st at' : TextSoFar) (ls : List Line)
    → IsRead (max_depth_of options.profile) true script st
    → IsRead (max_depth_of options.profile) true answers at' → (j : AreLinesOf options st at' ls)
    → list_any is_fault_line (lines_in options.profile options.limit.steps true [] j.pairs [] ++ lines_of_end j.fault)
    ≡ false
    → IsFullyPaired options script answers j.pairs × (j.fault ≡ None)
fully_paired options script answers st at' ls rs ra j h =
    let start = start_by options in
    let clean = ends_clean start j.pairs st.told at'.told j.ends.later st.fault j.ends.rest at'.fault j.fault
    j.ends.turn_is (none_of is_fault_line (lines_in options.profile options.limit.steps true [] j.pairs [])
    (lines_of_end j.fault) h).1 in
    let over : is_over at' ≡ true = ap (λ (b : Bool). b || is_some at'.fault) ra.told_so in
    let told : IsPairingSoFar true start j.pairs st.trees j.ends.later at'.trees j.ends.rest =
    subst (λ (b : Bool). IsPairingSoFar b start j.pairs st.trees j.ends.later at'.trees j.ends.rest)
    over j.ends.paired.pairing in
    let one : IsPairing start j.pairs st.trees Nil at'.trees j.ends.rest =
    subst (λ (t : Sexps). IsPairing start j.pairs st.trees t at'.trees j.ends.rest) clean.trees told in (
      record {
        script_trees = st.trees;
        script_forest = subst (λ (f : Option TextFlaw). Reads (max_depth_of options.profile) true script st.trees f)
            clean.script rs.reads;
        answer_trees = at'.trees;
        answers_forest = subst (λ (f : Option TextFlaw). Reads (max_depth_of options.profile) true answers at'.trees f)
            clean.answers ra.reads;
        pairing = subst (λ (t : Sexps). IsPairing start j.pairs st.trees Nil at'.trees t) clean.left one;
      },
      clean.none,
    )

-- ## The verdict is that of the lines

last_same : {A : Type 0} (xs ys : List A) (x y : A) → xs ++ x ∷ [] ≡ ys ++ y ∷ [] → x ≡ y
last_same [] [] x y h = cc
last_same [] (z ∷ []) x y h = absurd (cc)
last_same [] (z ∷ (w ∷ ys)) x y h = absurd (cc)
last_same (z ∷ []) [] x y h = absurd (cc)
last_same (z ∷ (w ∷ xs)) [] x y h = absurd (cc)
last_same (z ∷ xs) (w ∷ ys) x y h = last_same xs ys x y (cc)

verdict_same : (v w : Verdict) (t u : Tally) → lines.Verdict v t ≡ lines.Verdict w u → v ≡ w
verdict_same v w t u h = cc

-- the verdict of lines that end with theirs
pub verdict_of_lines : (v : Verdict) (ls ms : List Line) → IsVerdictOf v ls → ls ≡ with_verdict ms
    → v ≡ verdict_of ms
verdict_of_lines v ls ms h is =
    verdict_same v (verdict_of ms) h.1 (tally_of ms)
    (last_same h.0 ms (lines.Verdict v h.1) (lines.Verdict (verdict_of ms) (tally_of ms)) (sym h.2 ∙ is))

-- a text has at most one forest: a law of the reader's crate
abbrev pub OneForest : Type 0
OneForest = (bound other : ℕ) (text : List ℕ) (xs ys : Sexps) → Forest bound text xs → Forest other text ys
    → xs ≡ ys

-- there is one such pairing, and none that leaves answers
pub only_pairing : OneForest
    → (options : Options) (script answers : List ℕ) (pairs others : List Pair) (trees answered rest : Sexps)
    → IsFullyPaired options script answers pairs → Forest (max_depth_of options.profile) script trees
    → Forest (max_depth_of options.profile) answers answered
    → IsPairing (start_by options) others trees Nil answered rest → (others ≡ pairs) × (rest ≡ Nil)
only_pairing one options script answers pairs others trees answered rest whole f g p =
    let start = start_by options in
    let depth = max_depth_of options.profile in
    let same_script : whole.script_trees ≡ trees =
    one depth depth script whole.script_trees trees whole.script_forest f in
    let same_answers : whole.answer_trees ≡ answered =
    one depth depth answers whole.answer_trees answered whole.answers_forest g in
    let once : IsPairing start pairs trees Nil whole.answer_trees Nil =
    subst (λ (t : Sexps). IsPairing start pairs t Nil whole.answer_trees Nil) same_script whole.pairing in
    let mine : IsPairing start pairs trees Nil answered Nil =
    subst (λ (t : Sexps). IsPairing start pairs trees Nil t Nil) same_answers once in
    let same = one_pairing true start [] others pairs trees Nil Nil answered rest Nil
    (all_commands options.profile others trees p.commands
    ∙ sym (all_commands options.profile pairs trees mine.commands))
    p.commands mine.commands p.answered mine.answered p.taken_so mine.taken_so in
    (same.0, same.2)

-- ## Valid means valid

pub valid_means : Laws → OneForest
    → (options : Options) (script answers : List ℕ) (st at' : TextSoFar) (ls : List Line) (v : Verdict)
    → IsRead (max_depth_of options.profile) true script st
    → IsRead (max_depth_of options.profile) true answers at' → AreLinesOf options st at' ls
    → IsVerdictOf v ls → v ≡ Valid → IsValid options script answers
valid_means laws one options script answers st at' ls v rs ra l verdict h =
    let mine = lines_in options.profile options.limit.steps true [] l.pairs [] in
    let tests = valid_lines (mine ++ lines_of_end l.fault)
    (sym (verdict_of_lines v ls (mine ++ lines_of_end l.fault) verdict l.lines_are) ∙ h) in
    let whole = (fully_paired options script answers st at' ls rs ra l tests.0).0 in
    record {
      pairs = l.pairs;
      paired = whole;
      only = λ others trees answered rest f g p.
          only_pairing one options script answers l.pairs others trees answered rest whole f g p;
      confirmed = λ before after p place sat.
          confirmed_at options.profile options.limit.steps laws l.pairs before after p place l.ends.paired.faultless
          (none_of is_refuted_line mine (lines_of_end l.fault) tests.1).0
          (none_of is_undecided_line mine (lines_of_end l.fault) tests.2).0 sat;
    }

-- ## Invalid means invalid

by_or : {P : Type 0} (a b : Bool) → a || b ≡ true → (a ≡ true → P) → (b ≡ true → P) → P
by_or true b h f g = f refl
by_or false b h f g = g h

-- the pair that has a line of a kind
pub record HasLine (profile : Profile) (steps : ℕ) (test : Line → Bool) (before pairs : List Pair) : Type 0 where
  pub first : List Pair
  pub pair : Pair
  pub last : List Pair
  pub place : pairs ≡ first ++ pair ∷ last
  pub line : list_any test (lines_of_pair profile steps true (before ++ first) pair last) ≡ true

some_line : (profile : Profile) (steps : ℕ) (test : Line → Bool) (before pairs : List Pair)
    → list_any test (lines_in profile steps true before pairs []) ≡ true → HasLine profile steps test before pairs
some_line profile steps test before [] h = absurd (cc)
some_line profile steps test before (p ∷ ps) h =
    by_or (list_any test (lines_of_pair profile steps true before p (ps ++ [])))
    (list_any test (lines_in profile steps true (before ++ p ∷ []) ps []))
    (sym (any-append test (lines_of_pair profile steps true before p (ps ++ []))
    (lines_in profile steps true (before ++ p ∷ []) ps [])) ∙ h)
    (λ here. record {
      first = [];
      pair = p;
      last = ps;
      place = refl;
      line = ap (λ (b : List Pair). list_any test (lines_of_pair profile steps true b p ps)) (append-nil before)
          ∙ ap (λ (a : List Pair). list_any test (lines_of_pair profile steps true before p a)) (sym (append-nil ps))
          ∙ here;
    })
    (λ there. let g = some_line profile steps test (before ++ p ∷ []) ps there in record {
      first = p ∷ g.first;
      pair = g.pair;
      last = g.last;
      place = ap (λ (xs : List Pair). p ∷ xs) g.place;
      line = ap (λ (b : List Pair). list_any test (lines_of_pair profile steps true b g.pair g.last))
          (sym (append_assoc before (p ∷ []) g.first)) ∙ g.line;
    })

-- the line of a refuted model is not that of a check answered otherwise
answer_cases : (u : Option CheckAnswer) (sat : Bool) (k n : ℕ) (ls : List Line)
    → list_any is_refuted_line (unchecked_line_or k n u (cond sat ls [])) ≡ true
    → (sat ≡ true) × (list_any is_refuted_line ls ≡ true)
answer_cases (Some a) sat k n ls h = absurd (cc)
answer_cases None true k n ls h = (refl, h)
answer_cases None false k n ls h = absurd (cc)

-- a pair that has the line of a refuted model is a check that was answered sat
pub record IsRefutedCheck (profile : Profile) (steps : ℕ) (before : List Pair) (p : Pair)
    (after : List Pair) : Type 0 where
  pub sat : IsSatCheck p
  pub line : list_any is_refuted_line
      (lines_of_sat steps true (checks_in before + 1) (length before + 1) (signature_after profile before)
      (claims_of_check profile before p.command) ((length before + 1) + 1) after) ≡ true

refuted_check : (profile : Profile) (steps : ℕ) (before : List Pair) (p : Pair) (after : List Pair)
    → list_any is_refuted_line (lines_of_pair profile steps true before p after) ≡ true
    → IsRefutedCheck profile steps before p after
refuted_check profile steps before p after h = by (is_check p.command) p.answer refl refl h
  where
    by : (b : Bool) (o : Option Sexp) → is_check p.command ≡ b → p.answer ≡ o
        → list_any is_refuted_line (cond b
        (lines_of_answer profile steps true before (claims_of_check profile before p.command)
        (checks_in before + 1) o after) [])
        ≡ true
        → IsRefutedCheck profile steps before p after
    by false o is has refuted = absurd (cc)
    by true None is has refuted = absurd (cc)
    by true (Some a) is has refuted =
        let cases = answer_cases (unchecked_answer a) (is_symbol (codes "sat") a) (checks_in before + 1)
        (length before + 1) (lines_of_sat steps true (checks_in before + 1) (length before + 1)
        (signature_after profile before) (claims_of_check profile before p.command)
        ((length before + 1) + 1) after) refuted in
        record {
          sat = record { check = is; answer = a; answered = has; sat = cases.0 };
          line = cases.1;
        }

-- the line of a refuted model
pub record IsRefutedLine (k n g : ℕ) (j : Judgement) (line : Line) : Type 0 where
  pub claim : Claim
  pub found : j ≡ judgements.Refuted claim
  pub line_is : line ≡ lines.Refuted k n g claim

some_line_same : {a b : Line} → ◌≡◌ {A = Option Line} (Some a) (Some b) → a ≡ b
some_line_same h = cc

refuted_judgement : (k n g : ℕ) (j : Judgement) (line : Line) → line_of_judgement k n g j ≡ Some line
    → is_refuted_line line ≡ true → IsRefutedLine k n g j line
refuted_judgement k n g (judgements.Refuted a) line h r =
    record { claim = a; found = refl; line_is = sym (some_line_same h) }
refuted_judgement k n g (judgements.ItemFault i f) line h r = let e =
    ap is_refuted_line (some_line_same h) ∙ r in absurd (cc)
refuted_judgement k n g (judgements.Lacks d) line h r = let e =
    ap is_refuted_line (some_line_same h) ∙ r in absurd (cc)
refuted_judgement k n g judgements.TooLong line h r = let e =
    ap is_refuted_line (some_line_same h) ∙ r in absurd (cc)
refuted_judgement k n g (judgements.NotDecided a) line h r = let e =
    ap is_refuted_line (some_line_same h) ∙ r in absurd (cc)
refuted_judgement k n g judgements.Confirmed line h r = absurd (cc)

-- the model that has the line
pub record HasModel (steps : ℕ) (k n : ℕ) (names : Signature) (as' : List Claimed) (ms : List Printed) (line : Line)
    : Type 0 where
  pub first : List Printed
  pub model : Printed
  pub last : List Printed
  pub place : ms ≡ first ++ model ∷ last
  pub refuted : IsRefutedLine k n model.command (judgement_of steps names as' model.parts) line

first_model : (steps : ℕ) (k n : ℕ) (names : Signature) (as' : List Claimed) (m : Printed) (ms : List Printed)
    (line : Line) (l : Option Line) → line_of_judgement k n m.command (judgement_of steps names as' m.parts) ≡ l
    → is_refuted_line line ≡ true
    → (unconfirmed_line steps k n names as' ms ≡ Some line → HasModel steps k n names as' ms line)
    → option_or l (unconfirmed_line steps k n names as' ms) ≡ Some line → HasModel steps k n names as' (m ∷ ms) line
first_model steps k n names as' m ms line None is r later h = let g = later h in record {
  first = m ∷ g.first;
  model = g.model;
  last = g.last;
  place = ap (λ (xs : List Printed). m ∷ xs) g.place;
  refuted = g.refuted;
}
first_model steps k n names as' m ms line (Some other) is r later h = record {
  first = [];
  model = m;
  last = ms;
  place = refl;
  refuted = refuted_judgement k n m.command (judgement_of steps names as' m.parts) line (is ∙ h) r;
}

refuted_model : (steps : ℕ) (k n : ℕ) (names : Signature) (as' : List Claimed) (ms : List Printed) (line : Line)
    → is_refuted_line line ≡ true → unconfirmed_line steps k n names as' ms ≡ Some line
    → HasModel steps k n names as' ms line
refuted_model steps k n names as' [] line r h = absurd (cc)
refuted_model steps k n names as' (m ∷ ms) line r h =
    first_model steps k n names as' m ms line (line_of_judgement k n m.command (judgement_of steps names as' m.parts))
    refl r (refuted_model steps k n names as' ms line r) h

or_false_true : (b : Bool) → b || false ≡ true → b ≡ true
or_false_true true h = refl
or_false_true false h = cc

-- a check with the line of a refuted model
pub record HasRefuted (steps : ℕ) (k n : ℕ) (names : Signature) (as' : List Claimed) (ms : List Printed)
    (ls : List Line)
    : Type 0 where
  pub line : Line
  pub model : HasModel steps k n names as' ms line
  pub lines_are : ls ≡ line ∷ []

sat_refuted : (steps : ℕ) (k n : ℕ) (names : Signature) (as' : List Claimed) (ms : List Printed) (some : Bool)
    (l : Option Line) → unconfirmed_line steps k n names as' ms ≡ l
    → list_any is_refuted_line (sat_lines k n l some true) ≡ true
    → HasRefuted steps k n names as' ms (sat_lines k n l some true)
sat_refuted steps k n names as' ms some (Some line) is h = record {
  line = line;
  model = refuted_model steps k n names as' ms line (or_false_true (is_refuted_line line) h) is;
  lines_are = refl;
}
sat_refuted steps k n names as' ms true None is h = absurd (cc)
sat_refuted steps k n names as' ms false None is h = absurd (cc)

-- ## What makes a claim false

pub record HasFirst (test : Sexp → Bool) (cs : List Claimed) (claim : Claim) : Type 0 where
  pub first : List Claimed
  pub claimed : Claimed
  pub last : List Claimed
  pub place : cs ≡ first ++ claimed ∷ last
  pub claim_is : claimed.claim ≡ claim
  pub passes : test claimed.term ≡ true

pick : (test : Sexp → Bool) (c : Claimed) (cs : List Claimed) (claim : Claim) (b : Bool)
    → test c.term ≡ b → (first_claim test cs ≡ Some claim → HasFirst test cs claim)
    → cond b (Some c.claim) (first_claim test cs) ≡ Some claim
    → HasFirst test (c ∷ cs) claim
pick test c cs claim true is later h =
    record { first = []; claimed = c; last = cs; place = refl; claim_is = cc; passes = is }
pick test c cs claim false is later h = let g = later h in record {
  first = c ∷ g.first;
  claimed = g.claimed;
  last = g.last;
  place = ap (λ (xs : List Claimed). c ∷ xs) g.place;
  claim_is = g.claim_is;
  passes = g.passes;
}

first_some : (test : Sexp → Bool) (cs : List Claimed) (claim : Claim)
    → first_claim test cs ≡ Some claim → HasFirst test cs claim
first_some test [] claim h = absurd (cc)
first_some test (c ∷ cs) claim h = pick test c cs claim (test c.term) refl (first_some test cs claim) h

open_not_refuted : {P : Type 0} (o : Option Claim) (claim : Claim)
    → open_or_confirmed o ≡ judgements.Refuted claim → P
open_not_refuted None claim h = absurd (cc)
open_not_refuted (Some m) claim h = absurd (cc)

refuted_first : (f o : Option Claim) (claim : Claim) → refuted_or f o ≡ judgements.Refuted claim
    → f ≡ Some claim
refuted_first (Some m) o claim h = cc
refuted_first None o claim h = open_not_refuted o claim h

-- a model that is refuted is not too long
short_refuted : (b : Bool) (j : Judgement) (claim : Claim) → cond b judgements.TooLong j ≡ judgements.Refuted claim
    → j ≡ judgements.Refuted claim
short_refuted true j claim h = absurd (cc)
short_refuted false j claim h = h

-- a model that is refuted has definitions over which the claim is false
refuted_over : (steps : ℕ) (script : Signature) (as' : List Claimed) (r : Result Signature ModelFlaw) (claim : Claim)
    → judged_in steps script as' r ≡ judgements.Refuted claim
    → (d : Signature) × (r ≡ Ok d) × HasFirst (is_false_over (structure_of script d)) as' claim
refuted_over steps script as' (Ok d) claim h =
    let s = structure_of script d in (
      d,
      refl,
      first_some (is_false_over s) as' claim
          (refuted_first (first_claim (is_false_over s) as')
          (first_claim (is_open_over s) as') claim
          (short_refuted (nat_lt steps (claims_cost s as')) (judged_over as' s) claim h)),
    )
refuted_over steps script as' (Err (faults.Item i f)) claim h = absurd (cc)
refuted_over steps script as' (Err (faults.Lacks m)) claim h = absurd (cc)

-- ## The meaning of an invalid verdict

-- where the line stands in the report
line_place : (l1 l2 end : List Line) (line : Line)
    → (l1 ++ (line ∷ [] ++ l2)) ++ end ≡ l1 ++ line ∷ (l2 ++ end)
line_place l1 l2 end line = append_assoc l1 (line ∷ l2) end

pub invalid_means : Laws
    → (options : Options) (script answers : List ℕ) (st at' : TextSoFar) (ls : List Line) (v : Verdict)
    → IsRead (max_depth_of options.profile) true script st
    → IsRead (max_depth_of options.profile) true answers at' → AreLinesOf options st at' ls
    → IsVerdictOf v ls → v ≡ Invalid → IsInvalid options script answers ls
invalid_means laws options script answers st at' ls v rs ra j verdict h =
    let mine = lines_in options.profile options.limit.steps true [] j.pairs [] in
    let tests = invalid_lines (mine ++ lines_of_end j.fault)
    (sym (verdict_of_lines v ls (mine ++ lines_of_end j.fault) verdict j.lines_are) ∙ h) in
    let whole = fully_paired options script answers st at' ls rs ra j tests.0 in
    let no_fault : mine ++ lines_of_end j.fault ≡ mine =
    ap (λ (f : Option Line). mine ++ lines_of_end f) whole.1 ∙ append-nil mine in
    let at_pair = some_line options.profile options.limit.steps is_refuted_line [] j.pairs
    (ap (list_any is_refuted_line) (sym no_fault) ∙ tests.1) in
    let before = at_pair.first in
    let p = at_pair.pair in
    let check : IsRefutedCheck options.profile options.limit.steps before p at_pair.last =
    refuted_check options.profile options.limit.steps before p at_pair.last at_pair.line in
    let k = checks_in before + 1 in
    let n = length before + 1 in
    let names = signature_after options.profile before in
    let claimed = claims_of_check options.profile before p.command in
    let ms = models_from (n + 1) (window at_pair.last) in
    let found = sat_refuted options.limit.steps k n names claimed ms (not (is_empty ms))
    (unconfirmed_line options.limit.steps k n names claimed ms)
    refl check.line in
    let over = refuted_over options.limit.steps names claimed (model_in names found.model.model.parts)
    found.model.refuted.claim found.model.refuted.found in
    let source = claimed_from options.profile laws.found before p over.2.first over.2.last over.2.claimed over.2.place
    in
    let l1 = lines_in options.profile options.limit.steps true [] before ((p ∷ at_pair.last) ++ []) in
    let l2 = lines_in options.profile options.limit.steps true (before ++ p ∷ []) at_pair.last [] in
    let claim = over.2.claimed.claim in
    let line = lines.Refuted k n found.model.model.command claim in
    let same : found.model.refuted.claim ≡ claim = sym over.2.claim_is in
    let here : lines_of_pair options.profile options.limit.steps true before p at_pair.last ≡ line ∷ [] =
    lines_of_sat_at options.profile options.limit.steps true before at_pair.last p check.sat ∙ found.lines_are
    ∙ ap (λ (l : Line). l ∷ []) found.model.refuted.line_is
    ∙ ap (λ (c : Claim). lines.Refuted k n found.model.model.command c ∷ []) same in
    let end : List Line = lines.Verdict (verdict_of (mine ++ lines_of_end j.fault))
    (tally_of (mine ++ lines_of_end j.fault)) ∷ [] in
    record {
      pairs = j.pairs;
      paired = whole.0;
      before = before;
      check = p;
      after = at_pair.last;
      place = at_pair.place;
      sat = check.sat;
      models_before = found.model.first;
      model = found.model.model;
      models_after = found.model.last;
      models = ap (λ (i : ℕ). models_from i (window at_pair.last)) (omega arith) ∙ found.model.place;
      definitions = over.0;
      model_of = laws.complete names found.model.model.parts over.0 over.1;
      structure = structure_behind options.profile laws.introduced laws.structures before (p ∷ at_pair.last)
          found.model.model.parts over.0 (subst (AreFaultless options.profile []) at_pair.place j.ends.paired.faultless)
          over.1;
      claim = claim;
      earlier = source.0;
      term = over.2.claimed.term;
      claimed = source.1;
      sorted = claim_sorted options.profile j.pairs before at_pair.last p at_pair.place j.ends.paired.faultless
          check.sat claim
          source.0 over.2.claimed.term source.1;
      false_in = λ z. closed_value laws z (structure_at options.profile over.0 before) over.2.claimed.term (truth false)
          (is_false_value (known_over (structure_at options.profile over.0 before) over.2.claimed.term) over.2.passes);
      lines_before = l1;
      lines_after = l2 ++ end;
      line = j.lines_are
          ∙ ap (λ (x : List Line). x ++ end)
          (no_fault ∙ ap (λ (ps : List Pair). lines_in options.profile options.limit.steps true [] ps []) at_pair.place
          ∙ lines_at options.profile options.limit.steps true before p at_pair.last
          ∙ ap (λ (x : List Line). l1 ++ (x ++ l2)) here)
          ∙ line_place l1 l2 end line;
    }
