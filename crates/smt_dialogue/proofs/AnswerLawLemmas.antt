-- Answers, windows and claims in other words.
use Rattle.std.proofs.Common.{◌≡◌, ◌⊎◌, inl, inr, ℕ, suc, ◌+◌, Bool, true, false, not, cond, ◌||◌, ◌&&◌, List, [], ◌∷◌}
use Rattle.std.proofs.Common.{◌++◌, length, Option, Some, None, codes, append_assoc, refl, ap, sym, ◌∙◌, arith}
use Rattle.std.specs.List.{All}
use Rattle.std.proofs.lemmas.List.Elements.{All-cons, All-head, All-nil, All-tail}
use Rattle.std.specs.Cmp.Lexicographic.{same_text}
use Rattle.smt_trees.specs.Sexp.{Sexp, Sexps, Atom, Cons, Items, Nil, Reserved, Symbol, Keyword, Numeral, Decimal}
use Rattle.smt_trees.specs.Sexp.{Hexadecimal, Binary, Text, is_symbol}
use Rattle.smt_report.specs.declared.claim.Claim.{Claim}
use Rattle.smt_dialogue.specs.Answers.{is_effective_with, is_error, is_refusal}
use Rattle.smt_dialogue.specs.Judgement.{Claimed, first_claim}
use Rattle.smt_dialogue.specs.Pairs.{Pair, pair_of}
use Rattle.smt_dialogue.specs.Window.{Printed, asks_model, closes, models_from, printed_by, printed_in}
use Rattle.smt_script.specs.Command.{Command, GetModel, closes_window, is_check, kind_of}

-- ---- claims

-- what is found first stands behind some that do not pass
abbrev pub IsFirst : (Sexp → Bool) → List Claimed → Claim → Type 0
IsFirst test claims claim = (before after : List Claimed) × (c : Claimed) × (claims ≡ before ++ c ∷ after)
    × (c.claim ≡ claim) × (test c.term ≡ true) × All (λ d. test d.term ≡ false) before

pub first_found : (test : Sexp → Bool) (claims : List Claimed) (claim : Claim)
    → first_claim test claims ≡ Some claim → IsFirst test claims claim
first_found test [] claim h = cc
first_found test (c ∷ claims) claim h = by (test c.term) refl h (first_found test claims claim)
  where
    by : (b : Bool) → test c.term ≡ b → cond b (Some c.claim) (first_claim test claims) ≡ Some claim
        → (first_claim test claims ≡ Some claim → IsFirst test claims claim) → IsFirst test (c ∷ claims) claim
    by true is g next = ([], claims, c, refl, cc, is, All-nil (λ d. test d.term ≡ false))
    by false is g next =
        let r = next g in (
          c ∷ r.0,
          r.1,
          r.2,
          ap (λ (cs : List Claimed). c ∷ cs) r.3,
          r.4,
          r.5,
          All-cons (λ d. test d.term ≡ false) c r.0 is r.6,
        )

found_behind : (test : Sexp → Bool) (before after : List Claimed) (c : Claimed) → test c.term ≡ true
    → All (λ d. test d.term ≡ false) before → first_claim test (before ++ c ∷ after) ≡ Some c.claim
found_behind test [] after c passes none =
    ap (λ (b : Bool). cond b (Some c.claim) (first_claim test after)) passes
found_behind test (d ∷ before) after c passes none =
    ap (λ (b : Bool). cond b (Some d.claim) (first_claim test (before ++ c ∷ after)))
    (All-head (λ x. test x.term ≡ false) d before none)
    ∙ found_behind test before after c passes (All-tail (λ x. test x.term ≡ false) d before none)

pub is_found : (test : Sexp → Bool) (claims : List Claimed) (claim : Claim) → IsFirst test claims claim
    → first_claim test claims ≡ Some claim
is_found test claims claim (before, after, c, is, same, passes, none) =
    ap (first_claim test) is ∙ found_behind test before after c passes none ∙ ap (λ (x : Claim). Some x) same

pub none_passes : (test : Sexp → Bool) (claims : List Claimed) → first_claim test claims ≡ None
    → All (λ d. test d.term ≡ false) claims
none_passes test [] h = All-nil (λ d. test d.term ≡ false)
none_passes test (c ∷ claims) h = by (test c.term) refl h (none_passes test claims)
  where
    by : (b : Bool) → test c.term ≡ b → cond b (Some c.claim) (first_claim test claims) ≡ None
        → (first_claim test claims ≡ None → All (λ d. test d.term ≡ false) claims)
        → All (λ d. test d.term ≡ false) (c ∷ claims)
    by true is g next = cc
    by false is g next = All-cons (λ d. test d.term ≡ false) c claims is (next g)

pub none_found : (test : Sexp → Bool) (claims : List Claimed) → All (λ d. test d.term ≡ false) claims
    → first_claim test claims ≡ None
none_found test [] h = refl
none_found test (c ∷ claims) h =
    ap (λ (b : Bool). cond b (Some c.claim) (first_claim test claims)) (All-head (λ x. test x.term ≡ false) c claims h)
    ∙ none_found test claims (All-tail (λ x. test x.term ≡ false) c claims h)

-- ---- models

pub models_joined : (n : ℕ) (xs ys : List Pair)
    → models_from n (xs ++ ys) ≡ models_from n xs ++ models_from (n + length xs) ys
models_joined n [] ys = let same : n ≡ n + 0 = omega arith in ap (λ (k : ℕ). models_from k ys) same
models_joined n (x ∷ xs) ys =
    let first : List Printed = cond (is_effective_with x.answer) (printed_by n x.command x.answer) [] in
    let same : (n + 1) + length xs ≡ n + suc (length xs) = omega arith in
    ap (λ (ms : List Printed). first ++ ms) (models_joined (n + 1) xs ys)
    ∙ sym (append_assoc first (models_from (n + 1) xs) (models_from ((n + 1) + length xs) ys))
    ∙ ap (λ (k : ℕ). (first ++ models_from (n + 1) xs) ++ models_from k ys) same

-- the list that was answered to a `get-model`
pub model_told : (n : ℕ) (parts : Sexps) → is_refusal (Items parts) ≡ false
    → models_from n (pair_of GetModel (Some (Items parts)) ∷ []) ≡ record { command = n; parts = parts } ∷ []
model_told n parts told =
    ap (λ (b : Bool). cond (not b) (printed_by n GetModel (Some (Items parts))) [] ++ []) told

pub no_model_refused : (n : ℕ) (command : Command) (answer : Sexp) → is_refusal answer ≡ true
    → models_from n (pair_of command (Some answer) ∷ []) ≡ []
no_model_refused n command answer refused =
    ap (λ (b : Bool). cond (not b) (printed_by n command (Some answer)) [] ++ []) refused

pub no_other_model : (n : ℕ) (command : Command) (answer : Option Sexp) → asks_model (kind_of command) ≡ false
    → models_from n (pair_of command answer ∷ []) ≡ []
no_other_model n command answer other =
    ap (λ (b : Bool). cond (is_effective_with answer) (cond b (printed_in n answer) []) [] ++ []) other
    ∙ either (is_effective_with answer)
  where
    either : (b : Bool) → cond b (cond false (printed_in n answer) []) [] ++ [] ≡ []
    either true = refl
    either false = refl

-- ---- what ends a window

or_true : (b : Bool) → (b || true) ≡ true
or_true true = refl
or_true false = refl

pub silent_closes : (command : Command) → closes_window command ≡ true → closes (pair_of command None) ≡ true
silent_closes command changes =
    ap (λ (b : Bool). is_check command || (b && true)) changes ∙ or_true (is_check command)

pub change_closes : (command : Command) (answer : Sexp) → closes_window command ≡ true → is_refusal answer ≡ false
    → closes (pair_of command (Some answer)) ≡ true
change_closes command answer changes told =
    ap (λ (b : Bool). is_check command || (b && not (is_refusal answer))) changes
    ∙ ap (λ (b : Bool). is_check command || not b) told ∙ or_true (is_check command)

pub refused_leaves : (command : Command) (answer : Sexp) → is_check command ≡ false → is_refusal answer ≡ true
    → closes (pair_of command (Some answer)) ≡ false
refused_leaves command answer other refused =
    ap (λ (b : Bool). b || (closes_window command && not (is_refusal answer))) other
    ∙ ap (λ (b : Bool). closes_window command && not b) refused ∙ and_false (closes_window command)
  where
    and_false : (b : Bool) → (b && false) ≡ false
    and_false true = refl
    and_false false = refl

pub other_leaves : (command : Command) (answer : Option Sexp) → is_check command ≡ false
    → closes_window command ≡ false → closes (pair_of command answer) ≡ false
other_leaves command answer other keeps =
    ap (λ (b : Bool). b || (closes_window command && is_effective_with answer)) other
    ∙ ap (λ (b : Bool). b && is_effective_with answer) keeps

-- ---- refusals

-- an answer that says that its command took no effect
abbrev pub SaysSo : Sexp → Type 0
SaysSo answer = (answer ≡ Atom Symbol (codes "unsupported"))
    ⊎ ((message : List ℕ) × (answer ≡ Items (Cons (Atom Symbol (codes "error")) (Cons (Atom Text message) Nil))))

-- the symbol of a name
pub named : (name : List ℕ) (x : Sexp) → is_symbol name x ≡ true → x ≡ Atom Symbol name
named name (Atom Symbol bytes) h = ap (Atom Symbol) (same_text bytes name (sym h))
named name (Atom Keyword bytes) h = cc
named name (Atom Numeral bytes) h = cc
named name (Atom Decimal bytes) h = cc
named name (Atom Hexadecimal bytes) h = cc
named name (Atom Binary bytes) h = cc
named name (Atom Text bytes) h = cc
named name (Reserved word) h = cc
named name (Items parts) h = cc

error_is : (answer : Sexp) → is_error answer ≡ true
    → (message : List ℕ) × (answer ≡ Items (Cons (Atom Symbol (codes "error")) (Cons (Atom Text message) Nil)))
error_is (Items (Cons first (Cons (Atom Text message) Nil))) h =
    (message, ap (λ (x : Sexp). Items (Cons x (Cons (Atom Text message) Nil))) (named (codes "error") first h))
error_is _ h = cc

pub refusal_is : (answer : Sexp) → is_refusal answer ≡ true → SaysSo answer
refusal_is answer h = by (is_symbol (codes "unsupported") answer) refl h
  where
    by : (b : Bool) → is_symbol (codes "unsupported") answer ≡ b → (b || is_error answer) ≡ true → SaysSo answer
    by true is g = inl (named (codes "unsupported") answer is)
    by false is g = inr (error_is answer g)

pub is_a_refusal : (answer : Sexp) → SaysSo answer → is_refusal answer ≡ true
is_a_refusal answer (inl is) = ap is_refusal is
is_a_refusal answer (inr (message, is)) = ap is_refusal is
