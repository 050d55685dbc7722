-- Positions after bytes, and after more of them.
use Rattle.std.proofs.Common.{◌≡◌, ◌≤◌, ◌+◌, ℕ, List, ◌++◌, length, reverse}
use Rattle.std.proofs.Common.{Bool, true, false, cond, eqb, not, refl, sym, ap, ◌∙◌, arith, subst}
use Rattle.std.proofs.lemmas.Bool.Decides.{nat_tests}
use Rattle.std.proofs.lemmas.List.{length-append, length-reverse, reverse-append}
use Rattle.std.proofs.lemmas.List.Elements.{filter-append}
use Rattle.std.proofs.lemmas.List.Folds.{prefix_len-append}
use Rattle.std.proofs.lemmas.List.Sums.{prefix_len-le-length}
use Rattle.std.specs.List.{filter, prefix_len}
use Rattle.smt_text.specs.Positions.{after, beginning, bytes_in_last_line, capped, ends_line, lines_ended}
use Rattle.smt_text.specs.Positions.{position_after}
use Rattle.smt_text.specs.declared.position.Position.{Position}

abbrev goes_on : ℕ → Bool
goes_on b = not (ends_line b)

last-append : (a b : List ℕ) → bytes_in_last_line (a ++ b)
    ≡ cond (eqb (bytes_in_last_line b) (length b)) (length b + bytes_in_last_line a) (bytes_in_last_line b)
last-append a b =
    ap (prefix_len goes_on) (reverse-append a b) ∙ prefix_len-append goes_on (reverse b) (reverse a)
    ∙ ap (λ n. cond (eqb (bytes_in_last_line b) n) (n + bytes_in_last_line a) (bytes_in_last_line b))
    (length-reverse b)

last-le : (a : List ℕ) → bytes_in_last_line a ≤ length a
last-le a = subst (λ n. bytes_in_last_line a ≤ n) (length-reverse a) (prefix_len-le-length goes_on (reverse a))

lines-append : (a b : List ℕ) → lines_ended (a ++ b) ≡ lines_ended a + lines_ended b
lines-append a b = ap length (filter-append ends_line a b) ∙ length-append (filter ends_line a) (filter ends_line b)

abbrev column : ℕ → ℕ → ℕ → ℕ
column c n l = capped (cond (eqb n l) c 1 + n)

abbrev position : ℕ → ℕ → Position
position l c = record { line = l; column = c }

column_join : (c m la n lb s l : ℕ) → m ≤ la → n ≤ lb → l ≡ la + lb → s ≡ cond (eqb n lb) (lb + m) n
    → column c s l ≡ column (column c m la) n lb
column_join c m la n lb s l le le' e f = grind (arith, nat_tests)

both : {l l' c c' : ℕ} → l ≡ l' → c ≡ c'
    → position l c ≡ position l' c'
both {l} {l'} {c} {c'} e f = ap (λ x. position x c) e ∙ ap (position l') f

pub after_join : (here : Position) (a b : List ℕ) → after here (a ++ b) ≡ after (after here a) b
after_join here a b =
    let lines : (after here (a ++ b)).line ≡ (after (after here a) b).line = omega (arith, lines-append a b) in
    let columns : (after here (a ++ b)).column ≡ (after (after here a) b).column = column_join here.column
    (bytes_in_last_line a) (length a) (bytes_in_last_line b) (length b) (bytes_in_last_line (a ++ b))
    (length (a ++ b)) (last-le a) (last-le b) (length-append a b) (last-append a b) in
    both lines columns

pub after_beginning : (text : List ℕ) → after beginning text ≡ position_after text
after_beginning text = by (eqb (bytes_in_last_line text) (length text)) refl
  where
    by : (t : Bool) → eqb (bytes_in_last_line text) (length text) ≡ t → after beginning text ≡ position_after text
    by true e = rw e refl
    by false e = rw e refl

pub position_join : (a b : List ℕ) → position_after (a ++ b) ≡ after (position_after a) b
position_join a b =
    sym (after_beginning (a ++ b)) ∙ after_join beginning a b ∙ ap (λ p. after p b) (after_beginning a)
