-- What stands in the window of a check changes nothing.
use Rattle.std.proofs.Common.{◌≡◌, Bool, true, false, ◌&&◌, ◌||◌, cond, List, [], ◌∷◌, ◌++◌, refl, ap}
use Rattle.std.proofs.Common.{sym, ◌∙◌, subst, arith, append_assoc}
use Rattle.std.proofs.lemmas.List.{append-nil}
use Rattle.std.specs.List.{AllByRecursion}
use Rattle.smt_script.specs.Command.{asks_check, changes_force, closes_window, is_check, kind_of}
use Rattle.smt_script.specs.declared.command.Kind.{Kind}
use Rattle.smt_dialogue.proofs.InForceLemmas.{quiet}
use Rattle.smt_script.specs.Stack.{literals_of}
use Rattle.smt_dialogue.proofs.PairLemmas.{IsIdle, check_assumptions, kept_assumptions, quiet_is_idle}
use Rattle.smt_dialogue.proofs.PairLemmas.{refused_assumptions, refused_is_idle}
use Rattle.smt_dialogue.specs.InForce.{assertions_after, assumptions_after, signature_after}
use Rattle.smt_dialogue.specs.Pairs.{Pair, is_effective}
use Rattle.smt_dialogue.specs.Window.{closes, window}
use Rattle.smt_theory.specs.declared.profile.Profile.{Profile}

not_effective : (check effective : Bool) → check || effective ≡ false → effective ≡ false
not_effective true effective h = absurd (cc)
not_effective false effective h = h

-- a pair that ends no window changes nothing
open_is_idle : (profile : Profile) (pairs : List Pair) (p : Pair) → closes p ≡ false → IsIdle profile pairs p
open_is_idle profile pairs p h = by (closes_window p.command) refl h
  where
    by : (b : Bool) → closes_window p.command ≡ b → is_check p.command || b && is_effective p ≡ false
        → IsIdle profile pairs p
    by true is open' = refused_is_idle profile pairs p (not_effective (is_check p.command) (is_effective p) open')
    by false is open' = quiet_is_idle profile pairs p (quiet p.command is)

-- the kind of a check is none that changes what is in force
check_changes_none : (k : Kind) → asks_check k ≡ true → changes_force k ≡ false
check_changes_none k h = grind (arith)

-- a check changes nothing either, whatever it was answered
check_is_idle : (profile : Profile) (pairs : List Pair) (p : Pair) → is_check p.command ≡ true → IsIdle profile pairs p
check_is_idle profile pairs p h =
    quiet_is_idle profile pairs p (quiet p.command (check_changes_none (kind_of p.command) h))

-- pairs none of which ends a window change nothing
unchanged : (profile : Profile) (before xs : List Pair) → AllByRecursion (λ (p : Pair). closes p ≡ false) xs
    → (signature_after profile (before ++ xs) ≡ signature_after profile before)
    × (assertions_after profile (before ++ xs) ≡ assertions_after profile before)
unchanged profile before [] h =
    (ap (signature_after profile) (append-nil before), ap (assertions_after profile) (append-nil before))
unchanged profile before (p ∷ ps) h =
    let here = open_is_idle profile before p h.0 in
    let there = unchanged profile (before ++ p ∷ []) ps h.1 in (
      ap (signature_after profile) (sym (append_assoc before (p ∷ []) ps)) ∙ there.0 ∙ here.signature,
      ap (assertions_after profile) (sym (append_assoc before (p ∷ []) ps)) ∙ there.1 ∙ here.assertions,
    )

first_of : (p : Pair → Type 0) (xs ys : List Pair) → AllByRecursion p (xs ++ ys) → AllByRecursion p xs
first_of p [] ys h = tt
first_of p (x ∷ xs) ys h = (h.0, first_of p xs ys h.1)

-- so do those of a window
all_open : (pairs : List Pair) → AllByRecursion (λ (p : Pair). closes p ≡ false) (window pairs)
all_open [] = tt
all_open (p ∷ ps) = by (closes p) refl (all_open ps)
  where
    by : (b : Bool) → closes p ≡ b → AllByRecursion (λ (q : Pair). closes q ≡ false) (window ps)
        → AllByRecursion (λ (q : Pair). closes q ≡ false) (cond b [] (p ∷ window ps))
    by true is later = tt
    by false is later = (is, later)

pub nothing_changes : (profile : Profile) (before after first last : List Pair) (check : Pair)
    → is_check check.command ≡ true
    → window after ≡ first ++ last
    → (signature_after profile (before ++ check ∷ first) ≡ signature_after profile before)
    × (assertions_after profile (before ++ check ∷ first) ≡ assertions_after profile before)
nothing_changes profile before after first last check is parts =
    let here = check_is_idle profile before check is in
    let some = first_of (λ (p : Pair). closes p ≡ false) first last
    (subst (AllByRecursion (λ (p : Pair). closes p ≡ false)) parts (all_open after)) in
    let there = unchanged profile (before ++ check ∷ []) first some in (
      ap (signature_after profile) (sym (append_assoc before (check ∷ []) first)) ∙ there.0 ∙ here.signature,
      ap (assertions_after profile) (sym (append_assoc before (check ∷ []) first)) ∙ there.1 ∙ here.assertions,
    )

-- pairs none of which ends a window leave the assumptions as they are
open_keeps : (pairs : List Pair) (p : Pair) → closes p ≡ false
    → assumptions_after (pairs ++ p ∷ []) ≡ assumptions_after pairs
open_keeps pairs p h = by (is_check p.command) (closes_window p.command) refl refl h
  where
    by : (check changes : Bool) → is_check p.command ≡ check → closes_window p.command ≡ changes
        → check || changes && is_effective p ≡ false
        → assumptions_after (pairs ++ p ∷ []) ≡ assumptions_after pairs
    by true changes is is' open' = absurd (cc)
    by false true is is' open' = refused_assumptions pairs p open'
    by false false is is' open' = kept_assumptions pairs p is is'

all_keep : (before xs : List Pair) → AllByRecursion (λ (p : Pair). closes p ≡ false) xs
    → assumptions_after (before ++ xs) ≡ assumptions_after before
all_keep before [] h = ap assumptions_after (append-nil before)
all_keep before (p ∷ ps) h =
    ap assumptions_after (sym (append_assoc before (p ∷ []) ps))
    ∙ all_keep (before ++ p ∷ []) ps h.1 ∙ open_keeps before p h.0

pub assumed_in_window : (before after first last : List Pair) (check : Pair) → is_check check.command ≡ true
    → is_effective check ≡ true → window after ≡ first ++ last
    → assumptions_after (before ++ check ∷ first) ≡ literals_of check.command
assumed_in_window before after first last check is effective parts =
    let some = first_of (λ (p : Pair). closes p ≡ false) first last
    (subst (AllByRecursion (λ (p : Pair). closes p ≡ false)) parts (all_open after)) in
    ap assumptions_after (sym (append_assoc before (check ∷ []) first))
    ∙ all_keep (before ++ check ∷ []) first some ∙ check_assumptions before check is effective

-- behind a window stands nothing, or what ends it
abbrev EndsSo : List Pair → List Pair → Type 0
EndsSo pairs ws = (rest : List Pair) × (pairs ≡ ws ++ rest)
    × ((next : Pair) (later : List Pair) → rest ≡ next ∷ later → closes next ≡ true)

first_same : {p q : Pair} {ps qs : List Pair} → p ∷ ps ≡ q ∷ qs → p ≡ q
first_same h = cc

pub window_ends : (pairs : List Pair) → EndsSo pairs (window pairs)
window_ends [] = ([], refl, λ next later h. absurd (cc))
window_ends (p ∷ ps) = by (closes p) refl (window_ends ps)
  where
    by : (b : Bool) → closes p ≡ b → EndsSo ps (window ps) → EndsSo (p ∷ ps) (cond b [] (p ∷ window ps))
    by true is g = (p ∷ ps, refl, λ next later h. ap closes (sym (first_same h)) ∙ is)
    by false is g = (g.0, ap (λ (xs : List Pair). p ∷ xs) g.1, g.2)
