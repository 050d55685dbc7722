-- How many lines pass a test, and whether any does.
use Rattle.std.proofs.Common.{◌≡◌, ℕ, ◌+◌, ◌<◌, Bool, true, false, cond, ◌&&◌, ◌||◌, List, [], ◌∷◌, refl, sym, ◌∙◌, ap}
use Rattle.std.proofs.Common.{arith, subst}
use Rattle.std.proofs.Math.Dec.{eqb, ltb}
use Rattle.std.proofs.lemmas.Bool.{eqb-true, ltb-true}
use Rattle.std.proofs.lemmas.List.Sums.{sum_by-cons}
use Rattle.std.specs.List.{count_by, list_any}
use Rattle.smt_report.specs.Verdict.{are_all_confirmed, exit_status_of, is_confirmed_line, is_fault_line}
use Rattle.smt_report.specs.Verdict.{is_refuted_line, is_unchecked_line, is_undecided_line, strict_status_of}
use Rattle.smt_report.specs.Verdict.{summary_of, tally_of, verdict_of}
use Rattle.smt_report.specs.declared.line.Line.{Line}
use Rattle.smt_report.specs.declared.verdict.Tally.{Tally}
use Rattle.smt_report.specs.declared.verdict.Verdict.{Verdict}
use Rattle.smt_report.specs.declared.verdict.Verdict.TheVariants as verdicts

no_first : (b rest : Bool) (n : ℕ) → (n ≡ 0 → rest ≡ false) → cond b 1 0 + n ≡ 0 → b || rest ≡ false
no_first true rest n h none = absurd (omega (arith, none))
no_first false rest n h none = h (omega (arith, none))

some_first : (b rest : Bool) (n : ℕ) → (0 < n → rest ≡ true) → 0 < cond b 1 0 + n → b || rest ≡ true
some_first true rest n h some = refl
some_first false rest n h some = h (omega (arith, some))

pub none_passes : {X : Type 0} (p : X → Bool) (xs : List X) → count_by p xs ≡ 0 → list_any p xs ≡ false
none_passes p [] h = refl
none_passes p (x ∷ xs) h =
    no_first (p x) (list_any p xs) (count_by p xs) (none_passes p xs)
    (sym (sum_by-cons (λ y. cond (p y) 1 0) x xs) ∙ h)

pub some_passes : {X : Type 0} (p : X → Bool) (xs : List X) → 0 < count_by p xs → list_any p xs ≡ true
some_passes p [] h = absurd (omega (arith, h))
some_passes p (x ∷ xs) h =
    some_first (p x) (list_any p xs) (count_by p xs) (some_passes p xs)
    (subst (λ n. 0 < n) (sum_by-cons (λ y. cond (p y) 1 0) x xs) h)

-- the verdict, by what the tally says
pub invalid_so : (t : Tally) (ls : List Line) (fault : Bool) → t ≡ tally_of ls → fault ≡ false → 0 < t.refuted
    → (any : Bool) → fault ≡ any
    → verdicts.Invalid ≡ cond any verdicts.Refused (cond (list_any is_refuted_line ls) verdicts.Invalid
    (cond (list_any is_undecided_line ls) verdicts.NotDecided verdicts.Valid))
invalid_so t ls fault is none some any same =
    let refuted = some_passes is_refuted_line ls (subst (λ (u : Tally). 0 < u.refuted) is some) in
    rw (sym same ∙ none, refuted)

pub not_decided_so : (t : Tally) (ls : List Line) (fault : Bool) → t ≡ tally_of ls → fault ≡ false
    → t.refuted ≡ 0 → 0 < t.undecided → (any : Bool) → fault ≡ any
    → verdicts.NotDecided ≡ cond any verdicts.Refused (cond (list_any is_refuted_line ls) verdicts.Invalid
    (cond (list_any is_undecided_line ls) verdicts.NotDecided verdicts.Valid))
not_decided_so t ls fault is none zero some any same =
    let refuted = none_passes is_refuted_line ls (sym (ap (λ (u : Tally). u.refuted) is) ∙ zero) in
    let undecided = some_passes is_undecided_line ls (subst (λ (u : Tally). 0 < u.undecided) is some) in
    rw (sym same ∙ none, refuted, undecided)

pub valid_so : (t : Tally) (ls : List Line) (fault : Bool) → t ≡ tally_of ls → fault ≡ false
    → t.refuted ≡ 0 → t.undecided ≡ 0 → (any : Bool) → fault ≡ any
    → verdicts.Valid ≡ cond any verdicts.Refused (cond (list_any is_refuted_line ls) verdicts.Invalid
    (cond (list_any is_undecided_line ls) verdicts.NotDecided verdicts.Valid))
valid_so t ls fault is none zero zero' any same =
    let refuted = none_passes is_refuted_line ls (sym (ap (λ (u : Tally). u.refuted) is) ∙ zero) in
    let undecided = none_passes is_undecided_line ls (sym (ap (λ (u : Tally). u.undecided) is) ∙ zero') in
    rw (sym same ∙ none, refuted, undecided)

-- ---- a strict program that ends with 0

both_hold : (b c : Bool) → b && c ≡ true → (b ≡ true) × (c ≡ true)
both_hold true true h = (refl, refl)
both_hold true false h = absurd (cc)
both_hold false c h = absurd (cc)

strictly_valid : (v : Verdict) (all : Bool) → strict_status_of v all ≡ 0 → (v ≡ verdicts.Valid) × (all ≡ true)
strictly_valid verdicts.Valid true h = (refl, refl)
strictly_valid verdicts.Valid false h = absurd (omega (arith, h))
strictly_valid verdicts.Invalid all h = absurd (omega (arith, h))
strictly_valid verdicts.NotDecided all h = absurd (omega (arith, h))
strictly_valid verdicts.Refused all h = absurd (omega (arith, h))

valid_faultless : (fault : Bool) (rest : Verdict) → cond fault verdicts.Refused rest ≡ verdicts.Valid → fault ≡ false
valid_faultless true rest h = absurd (cc)
valid_faultless false rest h = refl

-- what then holds of the lines
pub record AreAllConfirmed (ls : List Line) : Type 0 where
  pub some : list_any is_confirmed_line ls ≡ true
  pub unchecked : list_any is_unchecked_line ls ≡ false
  pub undecided : list_any is_undecided_line ls ≡ false
  pub refuted : list_any is_refuted_line ls ≡ false
  pub fault : list_any is_fault_line ls ≡ false

pub all_confirmed : (ls : List Line) → exit_status_of true (summary_of ls) ≡ 0 → AreAllConfirmed ls
all_confirmed ls h =
    let t = tally_of ls in
    let both = strictly_valid (verdict_of ls) (are_all_confirmed t) h in
    let checked = both_hold (ltb 0 t.confirmed && eqb t.refuted 0 && eqb t.undecided 0) (eqb t.unchecked 0) both.1 in
    let decided = both_hold (ltb 0 t.confirmed && eqb t.refuted 0) (eqb t.undecided 0) checked.0 in
    let kept = both_hold (ltb 0 t.confirmed) (eqb t.refuted 0) decided.0 in
    record {
      some = some_passes is_confirmed_line ls (ltb-true 0 t.confirmed kept.0);
      unchecked = none_passes is_unchecked_line ls (eqb-true t.unchecked 0 checked.1);
      undecided = none_passes is_undecided_line ls (eqb-true t.undecided 0 decided.1);
      refuted = none_passes is_refuted_line ls (eqb-true t.refuted 0 kept.1);
      fault = valid_faultless (list_any is_fault_line ls) _ both.0;
    }
