-- What is asked of an answer's tree is told by what it says.
use Rattle.std.proofs.Common.{◌≡◌, ℕ, Bool, true, false, List, Option, None, Some, codes, is_some, option_map}
use Rattle.std.proofs.Common.{◌∙◌, ap, refl, subst, sym}
use Rattle.std.specs.Cmp.Lexicographic.{same_text}
use Rattle.std.specs.Int.{from_bool}
use Rattle.std.specs.Str.{bytes_eq}
use Rattle.smt_trees.specs.Sexp.{Sexp, Sexps, Atom, Reserved, Items, Nil, is_symbol}
use Rattle.smt_trees.specs.Sexp as sexp
use Rattle.smt_dialogue.specs.Answers.{is_error, is_refusal}
use Rattle.smt_dialogue.specs.Internal.AnswerView.{answer_of, is_sat}
use Rattle.smt_dialogue.specs.Internal.AnswerView.{refuses, tree_of, unchecked}
use Rattle.smt_dialogue.specs.Lines.{unchecked_answer}
use Rattle.smt_dialogue.specs.Pairs.{answer_count}
use Rattle.smt_dialogue.specs.declared.answer.Answer.{Answer}
use Rattle.smt_dialogue.specs.declared.answer.TakenAnswer.{TakenAnswer}
use Rattle.smt_report.specs.declared.line.CheckAnswer.{CheckAnswer}

-- ## All that is asked

record Told : Type 0 where
  sat : Bool
  refusal : Bool
  unchecked : Option CheckAnswer

-- of a tree
abbrev asked : Sexp → Told
asked a = record {
  sat = is_symbol (codes "sat") a;
  refusal = is_refusal a;
  unchecked = unchecked_answer a;
}

-- of what it says
abbrev told : Answer → Told
told answer = record { sat = is_sat answer; refusal = refuses answer; unchecked = unchecked answer }

abbrev IsToldOf : Sexp → Type 0
IsToldOf a = asked a ≡ told (answer_of a)

symbol_told : (w : List ℕ) → IsToldOf (Atom sexp.Symbol w)
symbol_told w =
    by (bytes_eq w (codes "success")) (bytes_eq w (codes "unsupported")) (bytes_eq w (codes "sat"))
    (bytes_eq w (codes "unsat")) (bytes_eq w (codes "unknown")) refl refl refl refl refl
  where
    at : (word : List ℕ) → bytes_eq w word ≡ true → IsToldOf (Atom sexp.Symbol word) → IsToldOf (Atom sexp.Symbol w)
    at word h it = subst (λ x. IsToldOf (Atom sexp.Symbol x)) (sym (same_text w word (sym h))) it

    by : (a b c d e : Bool) → bytes_eq w (codes "success") ≡ a → bytes_eq w (codes "unsupported") ≡ b
        → bytes_eq w (codes "sat") ≡ c → bytes_eq w (codes "unsat") ≡ d → bytes_eq w (codes "unknown") ≡ e
        → IsToldOf (Atom sexp.Symbol w)
    by true b c d e ha hb hc hd he = at (codes "success") ha refl
    by false true c d e ha hb hc hd he = at (codes "unsupported") hb refl
    by false false true d e ha hb hc hd he = at (codes "sat") hc refl
    by false false false true e ha hb hc hd he = at (codes "unsat") hd refl
    by false false false false true ha hb hc hd he = at (codes "unknown") he refl
    by false false false false false ha hb hc hd he = rw (ha, hb, hc, hd, he) refl

list_told : (parts : Sexps) (b : Bool) → is_error (Items parts) ≡ b → IsToldOf (Items parts)
list_told parts true h = rw h refl
list_told parts false h = rw h refl

all_told : (a : Sexp) → IsToldOf a
all_told (Atom sexp.Symbol w) = symbol_told w
all_told (Atom sexp.Numeral x) = refl
all_told (Atom sexp.Decimal x) = refl
all_told (Atom sexp.Hexadecimal x) = refl
all_told (Atom sexp.Binary x) = refl
all_told (Atom sexp.Text x) = refl
all_told (Atom sexp.Keyword x) = refl
all_told (Reserved w) = refl
all_told (Items parts) = list_told parts (is_error (Items parts)) refl

-- ## Each question

pub refusal_told : (a : Sexp) → is_refusal a ≡ refuses (answer_of a)
refusal_told a = ap (λ (t : Told). t.refusal) (all_told a)

pub unchecked_told : (a : Sexp) → unchecked_answer a ≡ unchecked (answer_of a)
unchecked_told a = ap (λ (t : Told). t.unchecked) (all_told a)

pub sat_told : (a : Sexp) → is_symbol (codes "sat") a ≡ is_sat (answer_of a)
sat_told a = ap (λ (t : Told). t.sat) (all_told a)

abbrev parts_of : Sexp → Sexps
parts_of (Items parts) = parts
parts_of _ = Nil

pub same_items : (xs ys : Sexps) → Items xs ≡ Items ys → xs ≡ ys
same_items xs ys h = ap parts_of h

-- an answer counts as one, and none as none
pub counted : (o : Option TakenAnswer) (b : Bool) (n : ℕ) → n ≡ from_bool b → b ≡ is_some o
    → n ≡ answer_count (option_map tree_of o)
counted None b n is some = is ∙ ap from_bool some
counted (Some answer) b n is some = is ∙ ap from_bool some
