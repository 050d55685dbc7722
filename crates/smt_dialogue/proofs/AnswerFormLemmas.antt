-- The forms of answers in other words, and which logics may be refused.
use Rattle.std.proofs.Common.{◌≡◌, ◌≢◌, ◌⊎◌, ◌↔◌, inl, inr, ℕ, Bool, true, false, not, cond, ◌||◌, List, Option, Some}
use Rattle.std.proofs.Common.{None, codes, is_some, refl, ap, sym, ◌∙◌}
use Rattle.std.proofs.lemmas.Slice.Eq.{bytes_eq-Decides}
use Rattle.smt_trees.specs.Sexp.{Sexp, Sexps, Atom, Items, Reserved, Symbol, Keyword, Numeral, Decimal, Hexadecimal}
use Rattle.smt_trees.specs.Sexp.{Binary, Text, is_symbol}
use Rattle.smt_theory.specs.Theories.{theories_named}
use Rattle.smt_theory.specs.declared.profile.Profile.TheVariants.{Wide}
use Rattle.smt_theory.specs.declared.theories.Theories.{Theories}
use Rattle.smt_script.specs.Command.{SetLogic, is_known_logic}
use Rattle.smt_dialogue.specs.Answers.{Taken, Takes, is_list, is_refusal, is_text, need_of, silent_logic_need, taken}
use Rattle.smt_dialogue.proofs.AnswerLawLemmas.{SaysSo, is_a_refusal, named, refusal_is}

-- ---- forms

pub either : {A B : Type 0} (a b : Bool) → (a ≡ true) ↔ A → (b ≡ true) ↔ B → (a || b ≡ true) ↔ (A ⊎ B)
either a b p q = (one a b p.0 q.0, other a b p.1 q.1)
  where
    one : {A B : Type 0} (a b : Bool) → (a ≡ true → A) → (b ≡ true → B) → a || b ≡ true → A ⊎ B
    one true b f g h = inl (f refl)
    one false b f g h = inr (g h)

    other : {A B : Type 0} (a b : Bool) → (A → a ≡ true) → (B → b ≡ true) → A ⊎ B → a || b ≡ true
    other true b f g h = refl
    other false b f g (inl x) = let k = f x in cc
    other false b f g (inr y) = g y

regrouped : (a b c d : Bool) → ((a || b) || c) || d ≡ a || (b || (c || d))
regrouped true b c d = refl
regrouped false true c d = refl
regrouped false false c d = refl

pub one_of_four : {A B C D : Type 0} (a b c d : Bool) → (a ≡ true) ↔ A → (b ≡ true) ↔ B → (c ≡ true) ↔ C
    → (d ≡ true) ↔ D → (((a || b) || c) || d ≡ true) ↔ (A ⊎ B ⊎ C ⊎ D)
one_of_four a b c d p q r s =
    let all = either a (b || (c || d)) p (either b (c || d) q (either c d r s)) in
    (λ h. all.0 (sym (regrouped a b c d) ∙ h), λ h. regrouped a b c d ∙ all.1 h)

pub symbol : (name : List ℕ) (answer : Sexp) → (is_symbol name answer ≡ true) ↔ (answer ≡ Atom Symbol name)
symbol name answer = (named name answer, λ is. ap (is_symbol name) is ∙ (bytes_eq-Decides name name).1 refl)

pub refusal : (answer : Sexp) → (is_refusal answer ≡ true) ↔ SaysSo answer
refusal answer = (refusal_is answer, is_a_refusal answer)

pub list : (answer : Sexp) → (is_list answer ≡ true) ↔ ((parts : Sexps) × (answer ≡ Items parts))
list answer = (of answer, λ p. ap is_list p.1)
  where
    of : (x : Sexp) → is_list x ≡ true → (parts : Sexps) × (x ≡ Items parts)
    of (Items parts) h = (parts, refl)
    of (Atom kind bytes) h = cc
    of (Reserved word) h = cc

pub text : (answer : Sexp) → (is_text answer ≡ true) ↔ ((bytes : List ℕ) × (answer ≡ Atom Text bytes))
text answer = (of answer, λ p. ap is_text p.1)
  where
    of : (x : Sexp) → is_text x ≡ true → (bytes : List ℕ) × (x ≡ Atom Text bytes)
    of (Atom Text bytes) h = (bytes, refl)
    of (Atom Symbol bytes) h = cc
    of (Atom Keyword bytes) h = cc
    of (Atom Numeral bytes) h = cc
    of (Atom Decimal bytes) h = cc
    of (Atom Hexadecimal bytes) h = cc
    of (Atom Binary bytes) h = cc
    of (Reserved word) h = cc
    of (Items parts) h = cc

pub no_symbol : (name : List ℕ) (answer : Sexp)
    → (not (is_symbol name answer) ≡ true) ↔ (answer ≢ Atom Symbol name)
no_symbol name answer = (
  λ h is. let yes = (symbol name answer).1 is in cc,
  λ other. by other (is_symbol name answer) refl,
)
  where
    by : answer ≢ Atom Symbol name → (b : Bool) → is_symbol name answer ≡ b → not b ≡ true
    by other true is = absurd (other ((symbol name answer).0 is))
    by other false is = refl

-- ---- logics

is_known : (name : List ℕ) (t : Theories) → theories_named Wide name ≡ Some t → is_known_logic name ≡ true
unfolding is_known_logic
is_known name t h = ap is_some h

is_unknown : (name : List ℕ) → theories_named Wide name ≡ None → is_known_logic name ≡ false
unfolding is_known_logic
is_unknown name h = ap is_some h

none_named : (name : List ℕ) → is_known_logic name ≡ false → theories_named Wide name ≡ None
unfolding is_known_logic
none_named name h = by (theories_named Wide name) h
  where
    by : (o : Option Theories) → is_some o ≡ false → o ≡ None
    by None h = refl
    by (Some t) h = cc

-- what a `set-logic` takes, by whether its logic is known
abbrev taken_by : Bool → Option Sexp → Bool → Taken
taken_by told next known = taken told (silent_logic_need Wide known) next

abbrev unsupported : Sexp
unsupported = Atom Symbol (codes "unsupported")

pub unknown_refused : (told : Bool) (name : List ℕ)
    → (taken told (need_of Wide false (SetLogic name)) (Some unsupported) ≡ Takes (Some unsupported))
    ↔ (theories_named Wide name ≡ None)
unknown_refused told name = (
  λ h. none_named name (by (is_known_logic name) h),
  λ h. ap (taken_by told (Some unsupported)) (is_unknown name h),
)
  where
    by : (k : Bool) → taken_by told (Some unsupported) k ≡ Takes (Some unsupported) → k ≡ false
    by false h = refl
    by true h = cc

pub known_passed : (told : Bool) (name : List ℕ) (t : Theories) (next : Option Sexp)
    → theories_named Wide name ≡ Some t → taken told (need_of Wide false (SetLogic name)) next ≡ Takes None
known_passed told name t next h = ap (taken_by told next) (is_known name t h)

pub others_passed : (told : Bool) (name : List ℕ) (answer : Sexp) → answer ≢ unsupported
    → taken told (need_of Wide false (SetLogic name)) (Some answer) ≡ Takes None
others_passed told name answer other =
    by (is_known_logic name) (is_symbol (codes "unsupported") answer) refl
  where
    by : (k b : Bool) → is_symbol (codes "unsupported") answer ≡ b → taken_by told (Some answer) k ≡ Takes None
    by true b is = refl
    by false true is = absurd (other ((symbol (codes "unsupported") answer).0 is))
    by false false is = ap (λ (c : Bool). cond c (Takes (Some answer)) (Takes None)) is
