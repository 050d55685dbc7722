-- What a check claims: where each claim stands among all, where it comes from, and that it is a formula.
use Rattle.std.proofs.Common.{◌≡◌, ◌+◌, ℕ, zero, suc, true, ◌⊎◌, inl, inr, ⊎_elim, List, [], ◌∷◌, ◌++◌}
use Rattle.std.proofs.Common.{length, slice_get, Option, Some, None, Result, Ok, Err, cond, refl, ap, sym, ◌∙◌}
use Rattle.std.proofs.Common.{subst, arith, append_assoc, codes}
use Rattle.std.proofs.lemmas.List.{append-nil, map-append}
use Rattle.std.specs.Option.{option_or}
use Rattle.smt_trees.specs.Sexp as sexp
use Rattle.smt_trees.specs.Sexp.{Sexp, Sexps, Nil, Cons, Atom}
use Rattle.smt_theory.specs.Sort.{is_same_sort}
use Rattle.smt_theory.specs.Words.{result_and_then}
use Rattle.smt_theory.specs.Sort.{Sort}
use Rattle.smt_theory.specs.Sort.{Boolean as BooleanSort, Int as IntSort, Real as RealSort, Bits, Free, Array}
use Rattle.smt_forms.specs.Labels.{labels_in}
use Rattle.smt_terms.specs.Assertions.{label_entries}
use Rattle.smt_terms.specs.Checking.{sort_in}
use Rattle.smt_terms.specs.Signature.{Entry, Names, in_assertion, names_of}
use Rattle.smt_script.specs.Command.{Assert, Assumes, Brings, Effect, Pops, Pushes, Removing, SetsGlobal, SetsLogic}
use Rattle.smt_script.specs.Command.{effect_of}
use Rattle.smt_script.specs.Stack.{Assertion, flaw_by, flaw_of, flaw_of_formula, flaw_of_literals, literals_of}
use Rattle.smt_script.specs.Stack.{literals_of_effect, trees_of}
use Rattle.smt_dialogue.proofs.AssertedLemmas.{AssertionsAreFound, AssertionsStand, asserted_from, asserted_in_force}
use Rattle.smt_dialogue.proofs.PairLemmas.{is_word}
use Rattle.smt_dialogue.specs.InForce.{AreFaultless, assertions_after, flaw_of_pair, signature_after}
use Rattle.smt_dialogue.specs.Judgement.{Claimed, assumed_from, claims_of}
use Rattle.smt_dialogue.specs.Lines.{claims_of_check}
use Rattle.smt_dialogue.specs.Answers.{is_effective_with}
use Rattle.smt_dialogue.specs.Pairs.{Pair, effective_commands, is_effective}
use Rattle.smt_dialogue.specs.Validity.{IsAssumed, IsClaimed, IsSatCheck, names_of_claim}
use Rattle.smt_report.specs.declared.claim.Claim.{Claim}
use Rattle.smt_report.specs.declared.claim.Claim.TheVariants.{Assertion as OfAssertion, Assumption as OfAssumption}
use Rattle.smt_faults.specs.declared.term_flaw.TermFlaw.{TermFlaw}
use Rattle.smt_faults.specs.declared.term_flaw.TermFlaw.TheVariants.{IllSorted}
use Rattle.smt_theory.specs.declared.profile.Profile.{Profile}

-- ## What stands behind what

-- a pair among faultless ones has no fault
pub faultless_at : (profile : Profile) (before xs : List Pair) (p : Pair) (ys : List Pair)
    → AreFaultless profile before (xs ++ p ∷ ys)
    → flaw_of_pair profile (before ++ xs) p ≡ None
faultless_at profile before [] p ys h = ap (λ (b : List Pair). flaw_of_pair profile b p) (append-nil before) ∙ h.1
faultless_at profile before (x ∷ xs) p ys h =
    ap (λ (b : List Pair). flaw_of_pair profile b p) (sym (append_assoc before (x ∷ []) xs))
    ∙ faultless_at profile (before ++ x ∷ []) xs p ys h.2

-- what is asserted without a fault is a formula, whatever labels it brings
formula_sort : (r : Result Sort TermFlaw) (labels : List Entry)
    → flaw_of (result_and_then {B = List Entry} r
    (λ sort. cond (is_same_sort sort BooleanSort) (Ok labels) (Err IllSorted))) ≡ None → r ≡ Ok BooleanSort
formula_sort (Ok BooleanSort) labels h = refl
formula_sort (Ok IntSort) labels h = absurd (cc)
formula_sort (Ok RealSort) labels h = absurd (cc)
formula_sort (Ok (Bits w)) labels h = absurd (cc)
formula_sort (Ok (Free command)) labels h = absurd (cc)
formula_sort (Ok (Array index element)) labels h = absurd (cc)
formula_sort (Err f) labels h = absurd (cc)

-- an assertion that took effect, without a fault, is a formula
pub asserted_formula : (profile : Profile) (earlier : List Pair) (p : Pair) (term : Sexp) → p.command ≡ Assert term
    → is_effective p ≡ true → flaw_of_pair profile earlier p ≡ None
    → sort_in (in_assertion (names_of (signature_after profile earlier))) [] term ≡ Ok BooleanSort
asserted_formula profile earlier p term is effective h =
    let names = names_of (signature_after profile earlier) in
    formula_sort (sort_in (in_assertion names) [] term) (label_entries names (labels_in term))
    (rw (effective, is) at h)

-- ## Literals are formulas

none_of_two : {A : Type 0} (l r : Option A) → option_or l r ≡ None → (l ≡ None) × (r ≡ None)
none_of_two None r h = (refl, h)
none_of_two (Some x) r h = absurd (cc)

literal_sort : (r : Result Sort TermFlaw) → flaw_of_formula r ≡ None → r ≡ Ok BooleanSort
literal_sort (Ok BooleanSort) h = refl
literal_sort (Ok IntSort) h = absurd (cc)
literal_sort (Ok RealSort) h = absurd (cc)
literal_sort (Ok (Bits w)) h = absurd (cc)
literal_sort (Ok (Free command)) h = absurd (cc)
literal_sort (Ok (Array index element)) h = absurd (cc)
literal_sort (Err f) h = absurd (cc)

literal_at : (names : Names) (ls : Sexps) (k : ℕ) (t : Sexp) → flaw_of_literals names ls ≡ None
    → slice_get (trees_of ls) k ≡ Some t → sort_in names [] t ≡ Ok BooleanSort
literal_at names Nil k t none at = absurd (cc)
literal_at names (Cons l ls) zero t none at =
    let both = none_of_two (flaw_of_formula (sort_in names [] l)) (flaw_of_literals names ls) none in
    let same : l ≡ t = cc in
    subst (λ (x : Sexp). sort_in names [] x ≡ Ok BooleanSort) same
    (literal_sort (sort_in names [] l) both.0)
literal_at names (Cons l ls) (suc k) t none at =
    literal_at names ls k t
    (none_of_two (flaw_of_formula (sort_in names [] l)) (flaw_of_literals names ls) none).1 at

assumed_by : (profile : Profile) (before : List Pair) (n k : ℕ) (e : Effect) (t : Sexp)
    → flaw_by profile (effective_commands before) n e ≡ None → slice_get (literals_of_effect e) k ≡ Some t
    → sort_in (names_of (signature_after profile before)) [] t ≡ Ok BooleanSort
assumed_by profile before n k (SetsLogic x) t none at = absurd (cc)
assumed_by profile before n k (Brings item) t none at = absurd (cc)
assumed_by profile before n k (Pushes levels) t none at = absurd (cc)
assumed_by profile before n k (Pops levels) t none at = absurd (cc)
assumed_by profile before n k (Removing what) t none at = absurd (cc)
assumed_by profile before n k (SetsGlobal on) t none at = absurd (cc)
assumed_by profile before n k (Assumes ls) t none at =
    literal_at (names_of (signature_after profile before)) ls k t none at

-- an assumption of a check that took effect, without a fault, is a formula
assumed_formula : (profile : Profile) (before : List Pair) (p : Pair) (place : ℕ) (term : Sexp) → IsAssumed p place term
    → is_effective p ≡ true → flaw_of_pair profile before p ≡ None
    → sort_in (names_of (signature_after profile before)) [] term ≡ Ok BooleanSort
assumed_formula profile before p place term h effective none =
    assumed_by profile before (length before + 1) h.0 (effect_of p.command) term (rw effective at none) h.2

-- a check that was answered sat took effect
pub sat_took_effect : (p : Pair) → IsSatCheck p → is_effective p ≡ true
sat_took_effect p s =
    let w = is_word (codes "sat") s.answer s.sat in
    ap is_effective_with (s.answered ∙ ap (λ (a : Sexp). Some a)
    (w.1 ∙ ap (λ (x : List ℕ). Atom sexp.Symbol x) w.2))

-- what a check without a fault claims is a formula
pub claim_sorted : (profile : Profile) (pairs before after : List Pair) (p : Pair) → pairs ≡ before ++ p ∷ after
    → AreFaultless profile [] pairs → IsSatCheck p → (claim : Claim) (earlier : List Pair) (term : Sexp)
    → IsClaimed before p claim earlier term
    → sort_in (names_of_claim claim (names_of (signature_after profile earlier))) [] term ≡ Ok BooleanSort
claim_sorted profile pairs before after p place faultless sat (OfAssertion command) earlier term claimed =
    let asserted = claimed.0 in
    let q = asserted.pair in
    let far : pairs ≡ earlier ++ q ∷ (asserted.between ++ p ∷ after) =
    place ∙ ap (λ (b : List Pair). b ++ p ∷ after) asserted.place
    ∙ append_assoc earlier (q ∷ asserted.between) (p ∷ after) in
    asserted_formula profile earlier q term asserted.command asserted.effective
    (faultless_at profile [] earlier q (asserted.between ++ p ∷ after) (subst (AreFaultless profile []) far faultless))
claim_sorted profile pairs before after p place faultless sat (OfAssumption n) earlier term claimed =
    subst (λ (b : List Pair). sort_in (names_of (signature_after profile b)) [] term ≡ Ok BooleanSort) (sym claimed.0)
    (assumed_formula profile before p n term claimed.1 (sat_took_effect p sat)
    (faultless_at profile [] before p after (subst (AreFaultless profile []) place faultless)))

-- ## Where a claim stands

abbrev pub IsIn : {A : Type 0} → A → List A → Type 0
IsIn {A} x xs = (first last : List A) × (xs ≡ first ++ x ∷ last)

of_assertion : Assertion → Claimed
of_assertion a = record { claim = OfAssertion a.command; term = a.term }

assertion_in : (as' : List Assertion) (a : Assertion) (first last : List Assertion) → as' ≡ first ++ a ∷ last
    → claims_of as' ≡ claims_of first ++ record { claim = OfAssertion a.command; term = a.term } ∷ claims_of last
assertion_in as' a first last h =
    ap claims_of h ∙ map-append (λ (x : Assertion). record { claim = OfAssertion x.command; term = x.term })
    first (a ∷ last)

assumption_in : (n k : ℕ) (ts : List Sexp) (t : Sexp) → slice_get ts k ≡ Some t
    → IsIn (record { claim = OfAssumption (n + k); term = t }) (assumed_from n ts)
assumption_in n k [] t h = absurd (cc)
assumption_in n zero (x ∷ ts) t h =
    let same : x ≡ t = cc in
    let place : n ≡ n + 0 = omega arith in (
      [],
      assumed_from (n + 1) ts,
      ap (λ (y : Sexp). record { claim = OfAssumption n; term = y } ∷ assumed_from (n + 1) ts) same
          ∙ ap (λ (m : ℕ). record { claim = OfAssumption m; term = t } ∷ assumed_from (n + 1) ts) place,
    )
assumption_in n (suc k) (x ∷ ts) t h =
    let rest = assumption_in (n + 1) k ts t h in
    let here : Claimed = record { claim = OfAssumption n; term = x } in
    let place : (n + 1) + k ≡ n + suc k = omega arith in (
      here ∷ rest.0,
      rest.1,
      ap (λ (cs : List Claimed). here ∷ cs) rest.2
          ∙ ap (λ (m : ℕ). here ∷ (rest.0 ++ record { claim = OfAssumption m; term = t } ∷ rest.1)) place,
    )

-- each claim is one of all
pub claim_in : (profile : Profile) → AssertionsStand
    → (before : List Pair) (p : Pair) (claim : Claim) (earlier : List Pair)
    (term : Sexp) → IsClaimed before p claim earlier term
    → IsIn (record { claim = claim; term = term }) (claims_of_check profile before p.command)
claim_in profile stand before p (OfAssertion command) earlier term h =
    let among = asserted_in_force profile stand before earlier term h.0 in
    let assumed = assumed_from 1 (literals_of p.command) in
    let it : Claimed = record { claim = OfAssertion command; term = term } in
    let number : length earlier + 1 ≡ command = sym h.1 in (
      claims_of among.0,
      claims_of among.1 ++ assumed,
      ap (λ (cs : List Claimed). cs ++ assumed)
          (assertion_in (assertions_after profile before) (record { command = length earlier + 1; term = term }) among.0
          among.1 among.2
          ∙ ap (λ (n : ℕ). claims_of among.0
          ++ record { claim = OfAssertion n; term = term } ∷ claims_of among.1) number)
          ∙ append_assoc (claims_of among.0) (it ∷ claims_of among.1) assumed,
    )
claim_in profile stand before p (OfAssumption place) earlier term h =
    let k = h.1.0 in
    let among = assumption_in 1 k (literals_of p.command) term h.1.2 in
    let asserted = claims_of (assertions_after profile before) in
    let number : 1 + k ≡ place = omega (arith, h.1.1) in (
      asserted ++ among.0,
      among.1,
      ap (λ (cs : List Claimed). asserted ++ cs) (among.2
          ∙ ap (λ (n : ℕ). among.0 ++ record { claim = OfAssumption n; term = term } ∷ among.1) number)
          ∙ sym (append_assoc asserted among.0 (record { claim = OfAssumption place; term = term } ∷ among.1)),
    )

-- ## Where a claim comes from

head_same : {A : Type 0} {x y : A} {xs ys : List A} → x ∷ xs ≡ y ∷ ys → x ≡ y
head_same h = cc

tail_same : {A : Type 0} {x y : A} {xs ys : List A} → x ∷ xs ≡ y ∷ ys → xs ≡ ys
tail_same h = cc

in_either : {A : Type 0} (xs ys first last : List A) (x : A) → xs ++ ys ≡ first ++ x ∷ last
    → IsIn x xs ⊎ IsIn x ys
in_either [] ys first last x h = inr (first, last, h)
in_either (y ∷ xs) ys [] last x h = inl ([], xs, ap (λ z. z ∷ xs) (head_same h))
in_either (y ∷ xs) ys (z ∷ first) last x h =
    ⊎_elim
    (λ it. inl (y ∷ it.0, it.1, ap (λ l. y ∷ l) it.2))
    (λ it. inr it)
    (in_either xs ys first last x (tail_same h))

assertion_of : (as' : List Assertion) (first last : List Claimed) (c : Claimed) → claims_of as' ≡ first ++ c ∷ last
    → (a : Assertion) × (c ≡ record { claim = OfAssertion a.command; term = a.term }) × IsIn a as'
assertion_of [] [] last c h = absurd (cc)
assertion_of [] (x ∷ first) last c h = absurd (cc)
assertion_of (a ∷ as') [] last c h = (a, sym (head_same h), ([], as', refl))
assertion_of (a ∷ as') (x ∷ first) last c h =
    let rest = assertion_of as' first last c (tail_same h) in
    (rest.0, rest.1, (a ∷ rest.2.0, rest.2.1, ap (λ l. a ∷ l) rest.2.2))

assumption_of : (n : ℕ) (ts : List Sexp) (first last : List Claimed) (c : Claimed)
    → assumed_from n ts ≡ first ++ c ∷ last
    → (k : ℕ) × (c.claim ≡ OfAssumption (n + k)) × (slice_get ts k ≡ Some c.term)
assumption_of n [] [] last c h = absurd (cc)
assumption_of n [] (x ∷ first) last c h = absurd (cc)
assumption_of n (t ∷ ts) [] last c h =
    let same = head_same h in
    let place : n ≡ n + 0 = omega arith in (
      0,
      ap (λ (x : Claimed). x.claim) (sym same) ∙ ap OfAssumption place,
      ap (λ (x : Claimed). Some x.term) same,
    )
assumption_of n (t ∷ ts) (x ∷ first) last c h =
    let rest = assumption_of (n + 1) ts first last c (tail_same h) in
    let place : (n + 1) + rest.0 ≡ n + suc rest.0 = omega arith in
    (suc rest.0, rest.1 ∙ ap OfAssumption place, rest.2)

-- what is among all claims is claimed
pub claimed_from : (profile : Profile) → AssertionsAreFound
    → (before : List Pair) (p : Pair) (first last : List Claimed) (c : Claimed)
    → claims_of_check profile before p.command ≡ first ++ c ∷ last
    → (earlier : List Pair) × IsClaimed before p c.claim earlier c.term
claimed_from profile found before p first last c h =
    ⊎_elim
    (λ it.
    let source = assertion_of (assertions_after profile before) it.0 it.1 c it.2 in
    let a = source.0 in
    let asserted = asserted_from profile found before source.2.0 source.2.1 a source.2.2 in (
      asserted.0,
      subst (λ (x : Claimed). IsClaimed before p x.claim asserted.0 x.term) (sym source.1)
          (asserted.1, asserted.2),
    ))
    (λ it.
    let source = assumption_of 1 (literals_of p.command) it.0 it.1 c it.2 in
    let place : 1 + source.0 ≡ source.0 + 1 = omega arith in (
      before,
      subst (λ (x : Claim). IsClaimed before p x before c.term) (sym source.1)
          (refl, (source.0, place, source.2)),
    ))
    (in_either (claims_of (assertions_after profile before)) (assumed_from 1 (literals_of p.command)) first last c h)
