-- More of a text has no fewer trees.
use Rattle.std.proofs.Common.{◌≡◌, ◌⊎◌, ◌==◌, ◌<◌, ◌≤◌, ◌+◌, ◌-◌, ℕ, List, [], ◌∷◌, ◌++◌, length, take, drop}
use Rattle.std.proofs.Common.{Option, Some, None, Bool, true, false, cond, ltb, refl, sym, ap, ◌∙◌, inl, inr, arith}
use Rattle.std.proofs.Common.{subst}
use Rattle.std.specs.Prelude.{if◌then◌else◌}
use Rattle.std.proofs.Math.Seq.{take-add}
use Rattle.std.proofs.lemmas.Bool.{cases_lt}
use Rattle.smt_text.proofs.EndingLemmas.{ends, in_hash, in_text, needed}
use Rattle.smt_text.proofs.ReaderCompleteness.{reads-forest, run-append}
use Rattle.smt_text.proofs.SexpLemmas.{count-append}
use Rattle.smt_text.specs.Grammar.{OpenParenthesis, CloseParenthesis}
use Rattle.smt_text.specs.Internal.LexerStates.{Levels, On, State, At, act, add_if, atom_of, begun_by, flush}
use Rattle.smt_text.specs.Internal.LexerStates.{go_on, lex, may_end, move, run, separated, settle, start, step}
use Rattle.smt_text.specs.Internal.LexerStates.{token_in}
use Rattle.smt_text.specs.Lexical.{is_binary_digit, is_comment_byte, is_digit, is_hexadecimal_digit, is_letter}
use Rattle.smt_text.specs.Lexical.{is_nonzero_digit, is_quoted_byte, is_symbol_byte, is_text_byte, is_white}
use Rattle.smt_text.specs.Reading.{Reads}
use Rattle.smt_text.specs.declared.lexer.AtomState.{AtomState}
use Rattle.smt_text.specs.declared.lexer.AtomState.TheVariants.{Nothing, Zero, Digits, Point, Fraction, Hash}
use Rattle.smt_text.specs.declared.lexer.AtomState.TheVariants.{HexMark, HexDigits, BinMark, BinDigits, Name}
use Rattle.smt_text.specs.declared.lexer.AtomState.TheVariants.{Colon, KeywordName, InText, TextQuote, InBars}
use Rattle.smt_text.specs.declared.lexer.AtomState.TheVariants.{AfterBar, InComment}
use Rattle.smt_text.specs.declared.lexer.LexerStep.{LexerStep}
use Rattle.smt_text.specs.declared.lexer.LexerStep.TheVariants.{Push, Skip, Finish, Open, Close, Stuck}
use Rattle.smt_trees.specs.Sexp.{Sexp, Sexps, Items, Nil, Cons, append, count}

-- ## The token that has begun

-- how many trees it is to be
abbrev pub begins : AtomState → ℕ
begins Nothing = 0
begins AfterBar = 0
begins InComment = 0
begins _ = 1

-- a token goes on as a token
abbrev Lasts : ℕ → LexerStep → Type 0
Lasts n (Push next) = n ≤ begins next
Lasts n (Skip next) = n ≤ begins next
Lasts n (Finish next) = Unit {0}
Lasts n Open = Unit {0}
Lasts n Close = Unit {0}
Lasts n Stuck = Unit {0}

apart : (n b : ℕ) → Lasts n (separated b)
apart n b = by (b == 40) (b == 41) (b == 59) (is_white b)
  where
    by : (s t u v : Bool) → Lasts n (if s then Open else if t then Close else if u then Finish InComment
        else if v then Finish Nothing else Stuck)
    by true t u v = tt
    by false true u v = tt
    by false false true v = tt
    by false false false true = tt
    by false false false false = tt

on : (n b : ℕ) (t : Bool) (next : AtomState) → n ≤ begins next → Lasts n (if t then Push next else separated b)
on n b true next le = le
on n b false next le = apart n b

needs : (n : ℕ) (t : Bool) (next : AtomState) → n ≤ begins next → Lasts n (if t then Push next else Stuck)
needs n true next le = le
needs n false next le = tt

digits : (b : ℕ) (t u : Bool) → Lasts 1 (if t then Push Digits else if u then Push Point else separated b)
digits b true u = omega arith
digits b false true = omega arith
digits b false false = apart 1 b

hash : (t u : Bool) → Lasts 1 (if t then Skip HexMark else if u then Skip BinMark else Stuck)
hash true u = omega arith
hash false true = omega arith
hash false false = tt

quoted : (t u : Bool) → Lasts 1 (if t then Skip TextQuote else if u then Push InText else Stuck)
quoted true u = omega arith
quoted false true = omega arith
quoted false false = tt

barred : (t u : Bool) → Lasts 1 (if t then Push InBars else if u then Finish AfterBar else Stuck)
barred true u = omega arith
barred false true = tt
barred false false = tt

comment : (t : Bool) → Lasts 0 (if t then Skip InComment else Finish Nothing)
comment true = omega arith
comment false = tt

first : (b : ℕ) → Lasts 0 (begun_by b)
first b =
    by (b == 48) (is_nonzero_digit b) (b == 34) (b == 124) (b == 35) (b == 58) (is_letter b)
  where
    by : (s t u v w x y : Bool) → Lasts 0 (if s then Push Zero else if t then Push Digits else if u then Skip InText
        else if v then Skip InBars else if w then Skip Hash else if x then Skip Colon else if y then Push Name
        else separated b)
    by true t u v w x y = omega arith
    by false true u v w x y = omega arith
    by false false true v w x y = omega arith
    by false false false true w x y = omega arith
    by false false false false true x y = omega arith
    by false false false false false true y = omega arith
    by false false false false false false true = omega arith
    by false false false false false false false = apart 0 b

lasts : (token : AtomState) (b : ℕ) → Lasts (begins token) (lex token b)
lasts Nothing b = first b
lasts Zero b = on 1 b (b == 46) Point (omega arith)
lasts Digits b = digits b (is_digit b) (b == 46)
lasts Point b = needs 1 (is_digit b) Fraction (omega arith)
lasts Fraction b = on 1 b (is_digit b) Fraction (omega arith)
lasts Hash b = hash (b == 120) (b == 98)
lasts HexMark b = needs 1 (is_hexadecimal_digit b) HexDigits (omega arith)
lasts HexDigits b = on 1 b (is_hexadecimal_digit b) HexDigits (omega arith)
lasts BinMark b = needs 1 (is_binary_digit b) BinDigits (omega arith)
lasts BinDigits b = on 1 b (is_binary_digit b) BinDigits (omega arith)
lasts Name b = on 1 b (is_symbol_byte b) Name (omega arith)
lasts Colon b = needs 1 (is_symbol_byte b) KeywordName (omega arith)
lasts KeywordName b = on 1 b (is_symbol_byte b) KeywordName (omega arith)
lasts InText b = quoted (b == 34) (is_text_byte b)
lasts TextQuote b = on 1 b (b == 34) InText (omega arith)
lasts InBars b = barred (is_quoted_byte b) (b == 124)
lasts AfterBar b = apart 0 b
lasts InComment b = comment (is_comment_byte b)

-- how many trees a token is
abbrev is_tree : Option Sexp → ℕ
is_tree None = 0
is_tree (Some x) = 1

-- where a token ends, it is as many as it was to be
ended_tree : (token : AtomState) (b : ℕ) (bytes : List ℕ) → ends (lex token b) ≡ true
    → begins token ≡ is_tree (atom_of token bytes)
ended_tree Nothing b bytes e = refl
ended_tree Zero b bytes e = refl
ended_tree Digits b bytes e = refl
ended_tree Point b bytes e = absurd (needed (is_digit b) Fraction e)
ended_tree Fraction b bytes e = refl
ended_tree Hash b bytes e = absurd (in_hash (b == 120) (b == 98) e)
ended_tree HexMark b bytes e = absurd (needed (is_hexadecimal_digit b) HexDigits e)
ended_tree HexDigits b bytes e = refl
ended_tree BinMark b bytes e = absurd (needed (is_binary_digit b) BinDigits e)
ended_tree BinDigits b bytes e = refl
ended_tree Name b bytes e = refl
ended_tree Colon b bytes e = absurd (needed (is_symbol_byte b) KeywordName e)
ended_tree KeywordName b bytes e = refl
ended_tree InText b bytes e = absurd (in_text (b == 34) (is_text_byte b) e)
ended_tree TextQuote b bytes e = refl
ended_tree InBars b bytes e = refl
ended_tree AfterBar b bytes e = refl
ended_tree InComment b bytes e = refl

last_tree : (token : AtomState) (bytes : List ℕ) → may_end token ≡ true
    → begins token ≡ is_tree (atom_of token bytes)
last_tree Nothing bytes e = refl
last_tree Zero bytes e = refl
last_tree Digits bytes e = refl
last_tree Point bytes e = absurd (cc)
last_tree Fraction bytes e = refl
last_tree Hash bytes e = absurd (cc)
last_tree HexMark bytes e = absurd (cc)
last_tree HexDigits bytes e = refl
last_tree BinMark bytes e = absurd (cc)
last_tree BinDigits bytes e = refl
last_tree Name bytes e = refl
last_tree Colon bytes e = absurd (cc)
last_tree KeywordName bytes e = refl
last_tree InText bytes e = absurd (cc)
last_tree TextQuote bytes e = refl
last_tree InBars bytes e = absurd (cc)
last_tree AfterBar bytes e = refl
last_tree InComment bytes e = refl

-- ## The trees at the top

-- those that are complete, and one that has begun
abbrev at_top : ℕ → Levels → ℕ
at_top n (On [] top) = count top + n
at_top n (On (parts ∷ lists) top) = count top + 1

abbrev trees_at : State → ℕ
trees_at (At token bytes levels) = at_top (begins token) levels

flush_count : (o : Option Sexp) (n : ℕ) (levels : Levels) → n ≡ is_tree o
    → at_top 0 (add_if o levels) ≡ at_top n levels
flush_count None n (On [] top) e = omega (arith, e)
flush_count None n (On (parts ∷ lists) top) e = refl
flush_count (Some x) n (On [] top) e = omega (arith, e, count-append top (Cons x Nil))
flush_count (Some x) n (On (parts ∷ lists) top) e = refl

more_top : (n m : ℕ) (levels : Levels) → n ≤ m → at_top n levels ≤ at_top m levels
more_top n m (On [] top) le = omega arith
more_top n m (On (parts ∷ lists) top) le = omega arith

open_count : (max_depth : ℕ) (levels : Levels) (next : State)
    → settle (act max_depth OpenParenthesis levels) ≡ Some next → at_top 0 levels ≤ trees_at next
open_count max_depth (On lists top) next e = by (ltb (length lists) max_depth) e
  where
    opened : (ls : List Sexps) → at_top 0 (On ls top) ≤ count top + 1
    opened [] = omega arith
    opened (parts ∷ ls) = omega arith

    by : (t : Bool) → settle (cond t (Some (On (Nil ∷ lists) top)) None) ≡ Some next
        → at_top 0 (On lists top) ≤ trees_at next
    by true e =
        let same : At Nothing [] (On (Nil ∷ lists) top) ≡ next = cc in
        subst (λ s. at_top 0 (On lists top) ≤ trees_at s) same (opened lists)
    by false e = absurd (cc)

close_count : (max_depth : ℕ) (levels : Levels) (next : State)
    → settle (act max_depth CloseParenthesis levels) ≡ Some next → at_top 0 levels ≤ trees_at next
close_count max_depth (On [] top) next e = absurd (cc)
close_count max_depth (On (parts ∷ []) top) next e =
    let same : At Nothing [] (On [] (append top (Cons (Items parts) Nil))) ≡ next = cc in
    subst (λ s. count top + 1 ≤ trees_at s) same (omega (arith, count-append top (Cons (Items parts) Nil)))
close_count max_depth (On (parts ∷ around ∷ lists) top) next e =
    let same : At Nothing [] (On (append around (Cons (Items parts) Nil) ∷ lists) top) ≡ next = cc in
    subst (λ s. count top + 1 ≤ trees_at s) same (omega arith)

-- what a step makes of them
move_count : (max_depth : ℕ) (what : LexerStep) (token : AtomState) (bytes : List ℕ) (levels : Levels) (b : ℕ)
    (next : State) → Lasts (begins token) what
    → (ends what ≡ true → begins token ≡ is_tree (atom_of token bytes))
    → move max_depth what (At token bytes levels) b ≡ Some next
    → at_top (begins token) levels ≤ trees_at next
move_count max_depth (Push later) token bytes levels b next h k e =
    let same : At later (bytes ++ b ∷ []) levels ≡ next = cc in
    subst (λ s. at_top (begins token) levels ≤ trees_at s) same (more_top (begins token) (begins later) levels h)
move_count max_depth (Skip later) token bytes levels b next h k e =
    let same : At later bytes levels ≡ next = cc in
    subst (λ s. at_top (begins token) levels ≤ trees_at s) same (more_top (begins token) (begins later) levels h)
move_count max_depth (Finish later) token bytes levels b next h k e =
    let after = add_if (atom_of token bytes) levels in
    let same : At later [] after ≡ next = cc in
    let all : at_top 0 after ≡ at_top (begins token) levels = flush_count (atom_of token bytes) (begins token)
    levels (k refl) in
    let more : at_top 0 after ≤ at_top (begins later) after = more_top 0 (begins later) after (omega arith) in
    subst (λ s. at_top (begins token) levels ≤ trees_at s) same
    (subst (λ n. n ≤ at_top (begins later) after) all more)
move_count max_depth Open token bytes levels b next h k e =
    subst (λ n. n ≤ trees_at next) (flush_count (atom_of token bytes) (begins token) levels (k refl))
    (open_count max_depth (add_if (atom_of token bytes) levels) next e)
move_count max_depth Close token bytes levels b next h k e =
    subst (λ n. n ≤ trees_at next) (flush_count (atom_of token bytes) (begins token) levels (k refl))
    (close_count max_depth (add_if (atom_of token bytes) levels) next e)
move_count max_depth Stuck token bytes levels b next h k e = absurd (cc)

step_count : (max_depth : ℕ) (s : State) (b : ℕ) (next : State) → step max_depth s b ≡ Some next
    → trees_at s ≤ trees_at next
step_count max_depth (At token bytes levels) b next e =
    move_count max_depth (lex token b) token bytes levels b next (lasts token b) (ended_tree token b bytes) e

run_count : (max_depth : ℕ) (s : State) (text : List ℕ) (end : State) → run max_depth s text ≡ Some end
    → trees_at s ≤ trees_at end
run_count max_depth s [] end e =
    let same : s ≡ end = cc in subst (λ x. trees_at s ≤ trees_at x) same (omega arith)
run_count max_depth s (b ∷ text) end e =
    by (step max_depth s b) refl e (λ next. run_count max_depth next text end)
  where
    by : (o : Option State) → step max_depth s b ≡ o → go_on o (λ x. run max_depth x text) ≡ Some end
        → ((next : State) → run max_depth next text ≡ Some end → trees_at next ≤ trees_at end)
        → trees_at s ≤ trees_at end
    by None h k later = absurd (cc)
    by (Some next) h k later =
        let one = step_count max_depth s b next h in
        let rest = later next k in
        omega (arith, one, rest)

-- where the text may end, they are those of the text
none_inside : (o : Option Sexp) (parts : Sexps) (lists : List Sexps) (top trees : Sexps)
    → add_if o (On (parts ∷ lists) top) ≡ On [] trees → ⊥
none_inside None parts lists top trees e = cc
none_inside (Some x) parts lists top trees e = cc

whole_count : (s : State) (trees : Sexps) → flush s ≡ On [] trees → may_end (token_in s) ≡ true
    → trees_at s ≡ count trees
whole_count (At token bytes (On [] top)) trees e w =
    let all = flush_count (atom_of token bytes) (begins token) (On [] top) (last_tree token bytes w) in
    sym all ∙ ap (at_top 0) e ∙ (omega arith)
whole_count (At token bytes (On (parts ∷ lists) top)) trees e w =
    absurd (none_inside (atom_of token bytes) parts lists top trees e)

-- one more tree ends no earlier
pub later_end : (max_depth : ℕ) (text : List ℕ) (end later : ℕ) (trees : Sexps) (x : Sexp)
    → Reads max_depth true (take end text) trees None
    → Reads max_depth true (take later text) (append trees (Cons x Nil)) None → end ≤ later
later_end max_depth text end later trees x h k = by (cases_lt later end)
  where
    by : (later < end) ⊎ (end ≤ later) → end ≤ later
    by (inr le) = le
    by (inl lt) =
        let long = reads-forest max_depth (take end text) trees h in
        let short = reads-forest max_depth (take later text) (append trees (Cons x Nil)) k in
        let more = take (end - later) (drop later text) in
        let parts : take end text ≡ take later text ++ more = ap (λ n. take n text) (omega arith)
        ∙ take-add later (end - later) text in
        let runs : run max_depth short.next more ≡ Some long.next = sym
        (run-append max_depth start short.next (take later text) more short.runs) ∙ ap (run max_depth start)
        (sym parts) ∙ long.runs in
        let grows = run_count max_depth short.next more long.next runs in
        let few = whole_count long.next trees long.trees long.whole in
        let many = whole_count short.next (append trees (Cons x Nil)) short.trees short.whole in
        absurd (omega (arith, grows, few, many, count-append trees (Cons x Nil)))
