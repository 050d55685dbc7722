-- What a run has read is spelled by its trees.
use Rattle.std.proofs.Common.{◌≡◌, ◌⊎◌, ◌==◌, ℕ, List, [], ◌∷◌, ◌++◌, Option, Some}
use Rattle.std.proofs.Common.{None, Bool, true, false, refl, sym, ap, ◌∙◌, inl, inr, arith, subst}
use Rattle.std.proofs.lemmas.Bool.{eqb-true}
use Rattle.std.proofs.lemmas.List.{append-nil, append_assoc}
use Rattle.std.specs.Prelude.{if◌then◌else◌}
use Rattle.smt_text.proofs.ByteLemmas.{MayBeEnded, ender_values, white_separates, FirstByte, ZeroFirst}
use Rattle.smt_text.proofs.ByteLemmas.{DigitFirst, QuoteFirst, BarFirst, HashFirst, ColonFirst, LetterFirst}
use Rattle.smt_text.proofs.ByteLemmas.{NoneFirst, first_byte, View, Kept, Skipped, Refused, Separates}
use Rattle.smt_text.proofs.ByteLemmas.{BarEnds, LineEnds, view}
use Rattle.smt_text.proofs.LexerStepLemmas.{separated_no_push, separated_no_skip, one_push, one_skip}
use Rattle.smt_text.proofs.LexerStepLemmas.{needed_push, needed_skip, digits_push, digits_skip, hash_push}
use Rattle.smt_text.proofs.LexerStepLemmas.{hash_skip, text_push, text_skip, bars_push, bars_skip}
use Rattle.smt_text.proofs.LexerStepLemmas.{comment_push, comment_skip}
use Rattle.smt_text.proofs.TreesSoFarLemmas.{spent-acts, shallow-acts}
use Rattle.smt_text.proofs.ReservedLemmas.{find_word-some, word_named-none}
use Rattle.smt_text.proofs.ReaderCompleteness.{IsName, act_next, acts}
use Rattle.smt_text.specs.Grammar.{Token, OpenParenthesis, CloseParenthesis, AtomToken, WordToken, ZeroOrMore}
use Rattle.smt_text.specs.Grammar.{OneOrMore, IsNumeral, IsDecimal, IsSimpleSymbol, IsSpelling, IsComment}
use Rattle.smt_text.specs.Grammar.{IsSeparator, IsGap, IsTextThen, IsTextEnd, IsText, EndsToken, IsApart}
use Rattle.smt_text.specs.Grammar.{doubled, barred, tokens_of_all, Forest}
use Rattle.smt_text.specs.Lexical.{quote, bar, point, zero_digit, is_white, is_line_end, is_digit}
use Rattle.smt_text.specs.Lexical.{is_nonzero_digit, is_hexadecimal_digit, is_binary_digit, is_symbol_byte}
use Rattle.smt_text.specs.Lexical.{is_text_byte, is_quoted_byte, is_comment_byte, ends_token}
use Rattle.smt_text.specs.Internal.LexerStates.{Levels, On, State, At, start, add, word_named, name_or_word}
use Rattle.smt_text.specs.Internal.LexerStates.{flush, act, settle, separated, lex, move, may_end, token_in, step}
use Rattle.smt_text.specs.Internal.LexerStates.{go_on, run}
use Rattle.smt_text.specs.Reading.{IsClosed, EndsClosed}
use Rattle.smt_trees.specs.Reserved.{all_words}
use Rattle.smt_trees.specs.Sexp as sexp
use Rattle.smt_trees.specs.Sexp.{Sexps, Atom, Reserved, Nil, append}
use Rattle.smt_text.specs.declared.lexer.AtomState.{AtomState}
use Rattle.smt_text.specs.declared.lexer.AtomState.TheVariants.{Nothing, Zero, Digits, Point, Fraction, Hash}
use Rattle.smt_text.specs.declared.lexer.AtomState.TheVariants.{HexMark, HexDigits, BinMark, BinDigits, Name}
use Rattle.smt_text.specs.declared.lexer.AtomState.TheVariants.{Colon, KeywordName, InText, TextQuote, InBars}
use Rattle.smt_text.specs.declared.lexer.AtomState.TheVariants.{AfterBar, InComment}
use Rattle.smt_text.specs.declared.lexer.LexerStep.{LexerStep}
use Rattle.smt_text.specs.declared.lexer.LexerStep.TheVariants.{Push, Skip, Finish, Open, Close, Stuck}
use Rattle.smt_trees.specs.declared.reserved.Word.{Word}

-- a numeral that does not begin with `0`
abbrev pub IsLong : List ℕ → Type 0
IsLong [] = ⊥
IsLong (b ∷ bs) = (is_nonzero_digit b ≡ true) × ZeroOrMore is_digit bs

-- how a token that has begun is written so far, which says these bytes
abbrev pub IsWritten : AtomState → List ℕ → List ℕ → Type 0
IsWritten Nothing bytes text = (bytes ≡ []) × (text ≡ [])
IsWritten Zero bytes text = (bytes ≡ zero_digit ∷ []) × (text ≡ bytes)
IsWritten Digits bytes text = IsLong bytes × (text ≡ bytes)
IsWritten Point bytes text =
    ((whole : List ℕ) × (bytes ≡ whole ++ point ∷ []) × IsNumeral whole) × (text ≡ bytes)
IsWritten Fraction bytes text = IsDecimal bytes × (text ≡ bytes)
IsWritten Hash bytes text = (bytes ≡ []) × (text ≡ 35 ∷ [])
IsWritten HexMark bytes text = (bytes ≡ []) × (text ≡ 35 ∷ 120 ∷ [])
IsWritten HexDigits bytes text = OneOrMore is_hexadecimal_digit bytes × (text ≡ 35 ∷ 120 ∷ bytes)
IsWritten BinMark bytes text = (bytes ≡ []) × (text ≡ 35 ∷ 98 ∷ [])
IsWritten BinDigits bytes text = OneOrMore is_binary_digit bytes × (text ≡ 35 ∷ 98 ∷ bytes)
IsWritten Name bytes text = IsName bytes × (text ≡ bytes)
IsWritten Colon bytes text = (bytes ≡ []) × (text ≡ 58 ∷ [])
IsWritten KeywordName bytes text = OneOrMore is_symbol_byte bytes × (text ≡ 58 ∷ bytes)
IsWritten InText bytes text = ZeroOrMore is_text_byte bytes × (text ≡ quote ∷ doubled bytes)
IsWritten TextQuote bytes text =
    ZeroOrMore is_text_byte bytes × (text ≡ quote ∷ (doubled bytes ++ quote ∷ []))
IsWritten InBars bytes text = ZeroOrMore is_quoted_byte bytes × (text ≡ bar ∷ bytes)
IsWritten AfterBar bytes text = ⊥
IsWritten InComment bytes text = (bytes ≡ []) × IsComment text

-- the state stands behind this writing of a token, which began after these trees. A symbol in bars is among
-- its trees
abbrev IsAfterBar : AtomState → List ℕ → Levels → List ℕ → Levels → Type 0
IsAfterBar token bytes levels text before =
    (name : List ℕ) × (token ≡ AfterBar) × ZeroOrMore is_quoted_byte name × (text ≡ barred name)
    × (levels ≡ add (Atom sexp.Symbol name) before)

abbrev pub IsBehind : State → List ℕ → Levels → Type 0
IsBehind (At token bytes levels) text before =
    (IsWritten token bytes text × (levels ≡ before)) ⊎ IsAfterBar token bytes levels text before

all-push : (test : ℕ → Bool) (xs : List ℕ) (y : ℕ) → ZeroOrMore test xs → test y ≡ true
    → ZeroOrMore test (xs ++ y ∷ [])
all-push test [] y h p = (p, tt)
all-push test (x ∷ xs) y h p = (h.0, all-push test xs y h.1 p)

some-push : (test : ℕ → Bool) (xs : List ℕ) (y : ℕ) → OneOrMore test xs → test y ≡ true
    → OneOrMore test (xs ++ y ∷ [])
some-push test [] y h p = absurd h
some-push test (x ∷ xs) y h p = (h.0, all-push test xs y h.1 p)

long-push : (xs : List ℕ) (y : ℕ) → IsLong xs → is_digit y ≡ true → IsLong (xs ++ y ∷ [])
long-push [] y h p = absurd h
long-push (x ∷ xs) y h p = (h.0, all-push is_digit xs y h.1 p)

name-push : (xs : List ℕ) (y : ℕ) → IsName xs → is_symbol_byte y ≡ true → IsName (xs ++ y ∷ [])
name-push [] y h p = absurd h
name-push (x ∷ xs) y h p = (h.0, all-push is_symbol_byte xs y h.1 p)

decimal-push : (xs : List ℕ) (y : ℕ) → IsDecimal xs → is_digit y ≡ true → IsDecimal (xs ++ y ∷ [])
decimal-push xs y h p = (
  h.0,
  h.1 ++ y ∷ [],
  ap (λ x. x ++ y ∷ []) h.2 ∙ append_assoc h.0 (point ∷ h.1)
      (y ∷ []),
  h.3,
  some-push is_digit h.1 y h.4 p,
)

long_is_numeral : (bytes : List ℕ) → IsLong bytes → IsNumeral bytes
long_is_numeral [] h = absurd h
long_is_numeral (b ∷ bs) h = inr h

doubled-one : (b : ℕ) → (b == quote) ≡ false → doubled (b ∷ []) ≡ b ∷ []
doubled-one b e = ap (λ t. if t then b ∷ b ∷ [] else b ∷ []) e

doubled-append : (xs ys : List ℕ) → doubled (xs ++ ys) ≡ doubled xs ++ doubled ys
doubled-append [] ys = refl
doubled-append (x ∷ xs) ys = by (x == quote) (doubled-append xs ys)
  where
    by : (t : Bool) → doubled (xs ++ ys) ≡ doubled xs ++ doubled ys
        → (if t then x ∷ x ∷ doubled (xs ++ ys) else x ∷ doubled (xs ++ ys))
        ≡ (if t then x ∷ x ∷ doubled xs else x ∷ doubled xs) ++ doubled ys
    by true e = ap (λ z. x ∷ x ∷ z) e
    by false e = ap (λ z. x ∷ z) e

-- tokens that a text has up to its rest, and the trees that they leave
pub record Spells (max_depth : ℕ) (Last : List ℕ → Type 0) (levels : Levels) (text : List ℕ)
    (after_all : Levels) : Type 0 where
  pub tokens : List Token
  pub is_text : IsTextThen Last tokens text
  pub leaves : acts max_depth tokens levels ≡ Some after_all

no_gap : IsGap []
no_gap = ([], refl, tt)

only_last : (max_depth : ℕ) (Last : List ℕ → Type 0) (levels : Levels) (text : List ℕ) → Last text
    → Spells max_depth Last levels text levels
only_last max_depth Last levels text h =
    record { tokens = []; is_text = ([], text, refl, no_gap, h); leaves = refl }

-- a token before a text
token_first : (max_depth : ℕ) (Last : List ℕ → Type 0) (token : Token) (levels next : Levels)
    (spelled text : List ℕ) (end : Levels) → IsSpelling token spelled → IsApart token text
    → act max_depth token levels ≡ Some next → Spells max_depth Last next text end
    → Spells max_depth Last levels (spelled ++ text) end
token_first max_depth Last token levels next spelled text end is apart e r = record {
  tokens = token ∷ r.tokens;
  is_text = ([], spelled, text, refl, no_gap, is, apart, r.is_text);
  leaves = ap (λ o. act_next o (λ x. acts max_depth r.tokens x)) e ∙ r.leaves;
}

-- a separator before a text
longer_gap : (part gap : List ℕ) → IsSeparator part → IsGap gap → IsGap (part ++ gap)
longer_gap part gap is h = (part ∷ h.0, ap (λ x. part ++ x) h.1, (is, h.2))

separated_text : (Last : List ℕ → Type 0) (tokens : List Token) (part text : List ℕ) → IsSeparator part
    → IsTextThen Last tokens text → IsTextThen Last tokens (part ++ text)
separated_text Last [] part text is h = (
  part ++ h.0,
  h.1,
  ap (λ x. part ++ x) h.2 ∙ sym
      (append_assoc part h.0 h.1),
  longer_gap part h.0 is h.3,
  h.4,
)
separated_text Last (token ∷ tokens) part text is h = (
  part ++ h.0,
  h.1,
  h.2,
  ap (λ x. part ++ x) h.3 ∙ sym
      (append_assoc part h.0 (h.1 ++ h.2)),
  longer_gap part h.0 is h.4,
  h.5,
  h.6,
  h.7,
)

separator_first : (max_depth : ℕ) (Last : List ℕ → Type 0) (levels : Levels) (part text : List ℕ) (end : Levels)
    → IsSeparator part → Spells max_depth Last levels text end → Spells max_depth Last levels (part ++ text) end
separator_first max_depth Last levels part text end is r = record
    { tokens = r.tokens; is_text = separated_text Last r.tokens part text is r.is_text; leaves = r.leaves }

name_is_symbol : (bytes : List ℕ) → IsName bytes → word_named bytes ≡ None → IsSimpleSymbol bytes
name_is_symbol [] h e = absurd h
name_is_symbol (b ∷ bs) h e = (h.0, h.1, word_named-none (b ∷ bs) e)

-- a token that has ended is one of the tokens
written_first : (max_depth : ℕ) (Last : List ℕ → Type 0) (token : AtomState) (bytes written : List ℕ)
    (levels : Levels) (text : List ℕ) (end : Levels) → MayBeEnded token → IsWritten token bytes written
    → EndsToken text → Spells max_depth Last (flush (At token bytes levels)) text end
    → Spells max_depth Last levels (written ++ text) end
written_first max_depth Last Nothing bytes written levels text end m h ends r =
    subst (λ x. Spells max_depth Last levels (x ++ text) end) (sym h.1) r
written_first max_depth Last Zero bytes written levels text end m h ends r =
    token_first max_depth Last (AtomToken sexp.Numeral bytes) levels (add (Atom sexp.Numeral bytes) levels)
    written text end (h.1, subst IsNumeral (sym h.0) (inl (refl, refl))) ends refl r
written_first max_depth Last Digits bytes written levels text end m h ends r =
    token_first max_depth Last (AtomToken sexp.Numeral bytes) levels
    (add (Atom sexp.Numeral bytes) levels) written text end (h.1, long_is_numeral bytes h.0) ends refl r
written_first max_depth Last Fraction bytes written levels text end m h ends r =
    token_first max_depth Last (AtomToken sexp.Decimal bytes) levels
    (add (Atom sexp.Decimal bytes) levels) written text end (h.1, h.0) ends refl r
written_first max_depth Last HexDigits bytes written levels text end m h ends r =
    token_first max_depth Last (AtomToken sexp.Hexadecimal bytes) levels
    (add (Atom sexp.Hexadecimal bytes) levels) written text end (h.1, h.0) ends refl r
written_first max_depth Last BinDigits bytes written levels text end m h ends r =
    token_first max_depth Last (AtomToken sexp.Binary bytes) levels
    (add (Atom sexp.Binary bytes) levels) written text end (h.1, h.0) ends refl r
written_first max_depth Last KeywordName bytes written levels text end m h ends r =
    token_first max_depth Last (AtomToken sexp.Keyword bytes) levels
    (add (Atom sexp.Keyword bytes) levels) written text end (h.1, h.0) ends refl r
written_first max_depth Last TextQuote bytes written levels text end m h ends r =
    token_first max_depth Last (AtomToken sexp.Text bytes) levels
    (add (Atom sexp.Text bytes) levels) written text end (h.1, h.0) ends refl r
written_first max_depth Last Name bytes written levels text end m h ends r = by_word (word_named bytes) refl
  where
    by_word : (o : Option Word) → word_named bytes ≡ o → Spells max_depth Last levels (written ++ text) end
    by_word None e =
        let is : name_or_word (word_named bytes) bytes ≡ Atom sexp.Symbol bytes = ap
        (λ o. name_or_word o bytes) e in
        token_first max_depth Last (AtomToken sexp.Symbol bytes) levels
        (add (Atom sexp.Symbol bytes) levels) written text end (inl (h.1, name_is_symbol bytes h.0 e))
        ends refl (subst (λ x. Spells max_depth Last (add x levels) text end) is r)
    by_word (Some word) e =
        let is : name_or_word (word_named bytes) bytes ≡ Reserved word = ap (λ o. name_or_word o bytes) e in
        token_first max_depth Last (WordToken word) levels (add (Reserved word) levels) written text end
        (h.1 ∙ find_word-some bytes all_words word e) ends refl
        (subst (λ x. Spells max_depth Last (add x levels) text end) is r)
written_first max_depth Last AfterBar bytes written levels text end m h ends r = absurd h
written_first max_depth Last Point bytes written levels text end m h ends r = absurd m
written_first max_depth Last Hash bytes written levels text end m h ends r = absurd m
written_first max_depth Last HexMark bytes written levels text end m h ends r = absurd m
written_first max_depth Last BinMark bytes written levels text end m h ends r = absurd m
written_first max_depth Last Colon bytes written levels text end m h ends r = absurd m
written_first max_depth Last InText bytes written levels text end m h ends r = absurd m
written_first max_depth Last InBars bytes written levels text end m h ends r = absurd m
written_first max_depth Last InComment bytes written levels text end m h ends r = absurd m

behind_first : (max_depth : ℕ) (Last : List ℕ → Type 0) (s : State) (written : List ℕ) (before : Levels)
    (text : List ℕ) (end : Levels) → IsBehind s written before → MayBeEnded (token_in s) → EndsToken text
    → Spells max_depth Last (flush s) text end → Spells max_depth Last before (written ++ text) end
behind_first max_depth Last (At token bytes levels) written before text end (inl h) m ends r =
    subst (λ x. Spells max_depth Last x (written ++ text) end) h.1
    (written_first max_depth Last token bytes written levels text end m h.0 ends r)
behind_first max_depth Last (At token bytes levels) written before text end (inr h) m ends r =
    let trees : flush (At token bytes levels) ≡ add (Atom sexp.Symbol h.0) before = ap
    (λ x. flush (At x bytes levels)) h.1 ∙ h.4 in
    token_first max_depth Last (AtomToken sexp.Symbol h.0) before (add (Atom sexp.Symbol h.0) before) written text
    end (inr (h.3, h.2)) ends refl (subst (λ x. Spells max_depth Last x text end) trees r)

-- what a run reads from a state on, whatever was written before it
abbrev pub GoesOn : ℕ → (List ℕ → Type 0) → List ℕ → Levels → State → Type 0
GoesOn max_depth Last text end s = (written : List ℕ) (before : Levels) → IsBehind s written before
    → Spells max_depth Last before (written ++ text) end

-- a byte that shows the end of a token
pub to_next : (max_depth : ℕ) (what : LexerStep) (s : State) (b : ℕ) (next : State) → step max_depth s b ≡ Some next
    → lex (token_in s) b ≡ what → move max_depth what s b ≡ Some next
to_next max_depth what s b next e k = ap (λ x. move max_depth x s b) (sym k) ∙ e

sound_settled : (max_depth : ℕ) (Last : List ℕ → Type 0) (token : Token) (s : State) (written : List ℕ)
    (before : Levels) (b : ℕ) (text : List ℕ) (end : Levels) (o : Option Levels) (next : State)
    → IsBehind s written before → MayBeEnded (token_in s) → ends_token b ≡ true → IsSpelling token (b ∷ [])
    → IsApart token text → act max_depth token (flush s) ≡ o → settle o ≡ Some next
    → GoesOn max_depth Last text end next → Spells max_depth Last before (written ++ b ∷ text) end
sound_settled max_depth Last token s written before b text end None next h m ends is apart a e later = absurd (cc)
sound_settled max_depth Last token s written before b text end (Some levels) next h m ends is apart a e later =
    let same : next ≡ At Nothing [] levels = cc in
    let r : Spells max_depth Last levels text end = later [] levels
    (subst (λ x. IsBehind x [] levels) (sym same) (inl ((refl, refl), refl))) in
    behind_first max_depth Last s written before (b ∷ text) end h m ends
    (token_first max_depth Last token (flush s) levels (b ∷ []) text end is apart a r)

sound_separated : (max_depth : ℕ) (Last : List ℕ → Type 0) (s : State) (written : List ℕ) (before : Levels)
    (b : ℕ) (text : List ℕ) (end : Levels) (next : State) → IsBehind s written before
    → MayBeEnded (token_in s) → ends_token b ≡ true → move max_depth (separated b) s b ≡ Some next
    → GoesOn max_depth Last text end next → Spells max_depth Last before (written ++ b ∷ text) end
sound_separated max_depth Last s written before b text end next h m ends e later = by (ender_values b ends)
  where
    by : (is_white b ≡ true) ⊎ ((b ≡ 59) ⊎ ((b ≡ 40) ⊎ (b ≡ 41)))
        → Spells max_depth Last before (written ++ b ∷ text) end
    by (inl w) =
        let some : move max_depth (Finish Nothing) s b ≡ Some next = ap (λ x. move max_depth x s b)
        (sym (white_separates b w)) ∙ e in
        let same : next ≡ At Nothing [] (flush s) = cc in
        let r : Spells max_depth Last (flush s) text end = later [] (flush s)
        (subst (λ x. IsBehind x [] (flush s)) (sym same) (inl ((refl, refl), refl))) in
        behind_first max_depth Last s written before (b ∷ text) end h m ends
        (separator_first max_depth Last (flush s) (b ∷ []) text end (inl (b, refl, w)) r)
    by (inr (inl k)) =
        let some : move max_depth (Finish InComment) s b ≡ Some next = ap (λ x. move max_depth (separated x) s b)
        (sym k) ∙ e in
        let same : next ≡ At InComment [] (flush s) = cc in
        let r : Spells max_depth Last (flush s) (b ∷ text) end = later (b ∷ []) (flush s)
        (subst (λ x. IsBehind x (b ∷ []) (flush s)) (sym same)
        (inl ((refl, ([], ap (λ x. x ∷ []) k, tt)), refl))) in
        behind_first max_depth Last s written before (b ∷ text) end h m ends r
    by (inr (inr (inl k))) =
        let some : move max_depth Open s b ≡ Some next = ap (λ x. move max_depth (separated x) s b) (sym k) ∙ e in
        sound_settled max_depth Last OpenParenthesis s written before b text end
        (act max_depth OpenParenthesis (flush s)) next h m ends (ap (λ x. x ∷ []) k) tt refl some later
    by (inr (inr (inr k))) =
        let some : move max_depth Close s b ≡ Some next = ap (λ x. move max_depth (separated x) s b) (sym k) ∙ e in
        sound_settled max_depth Last CloseParenthesis s written before b text end
        (act max_depth CloseParenthesis (flush s)) next h m ends (ap (λ x. x ∷ []) k) tt refl some later

-- a byte with which the token goes on
sound_longer : (max_depth : ℕ) (Last : List ℕ → Type 0) (written : List ℕ) (before : Levels) (b : ℕ)
    (text : List ℕ) (end : Levels) (made next : State) → Some made ≡ Some next
    → IsBehind made (written ++ b ∷ []) before → GoesOn max_depth Last text end next
    → Spells max_depth Last before (written ++ b ∷ text) end
sound_longer max_depth Last written before b text end made next e h later =
    let same : made ≡ next = cc in
    subst (λ x. Spells max_depth Last before x end) (append_assoc written (b ∷ []) text)
    (later (written ++ b ∷ []) before (subst (λ x. IsBehind x (written ++ b ∷ []) before) same h))

sound_kept : (max_depth : ℕ) (Last : List ℕ → Type 0) (token longer : AtomState) (bytes written : List ℕ)
    (levels before : Levels) (b : ℕ) (text : List ℕ) (end : Levels) (next : State) → lex token b ≡ Push longer
    → step max_depth (At token bytes levels) b ≡ Some next
    → IsWritten longer (bytes ++ b ∷ []) (written ++ b ∷ []) → levels ≡ before
    → GoesOn max_depth Last text end next → Spells max_depth Last before (written ++ b ∷ text) end
sound_kept max_depth Last token longer bytes written levels before b text end next k e h l later =
    sound_longer max_depth Last written before b text end (At longer (bytes ++ b ∷ []) levels) next
    (to_next max_depth (Push longer) (At token bytes levels) b next e k) (inl (h, l)) later

sound_skipped : (max_depth : ℕ) (Last : List ℕ → Type 0) (token longer : AtomState) (bytes written : List ℕ)
    (levels before : Levels) (b : ℕ) (text : List ℕ) (end : Levels) (next : State) → lex token b ≡ Skip longer
    → step max_depth (At token bytes levels) b ≡ Some next → IsWritten longer bytes (written ++ b ∷ [])
    → levels ≡ before → GoesOn max_depth Last text end next → Spells max_depth Last before (written ++ b ∷ text) end
sound_skipped max_depth Last token longer bytes written levels before b text end next k e h l later =
    sound_longer max_depth Last written before b text end (At longer bytes levels) next
    (to_next max_depth (Skip longer) (At token bytes levels) b next e k) (inl (h, l)) later

-- how a token is written with a byte that is kept
abbrev Longer : AtomState → List ℕ → List ℕ → ℕ → Type 0
Longer next bytes written b = IsWritten next (bytes ++ b ∷ []) (written ++ b ∷ [])

one_byte : (next : AtomState) (bytes written : List ℕ) (b : ℕ) → bytes ≡ [] → written ≡ []
    → IsWritten next (b ∷ []) (b ∷ []) → Longer next bytes written b
one_byte next bytes written b e f h = subst (λ x. IsWritten next (x ++ b ∷ []) (written ++ b ∷ [])) (sym e)
    (subst (λ x. IsWritten next (b ∷ []) (x ++ b ∷ [])) (sym f) h)

kept_first : (next : AtomState) (bytes written : List ℕ) (b : ℕ) → bytes ≡ [] → written ≡ [] → FirstByte b
    → lex Nothing b ≡ Push next → Longer next bytes written b
kept_first next bytes written b e f (ZeroFirst k g) h = let same : Zero ≡ next = cc
    in subst (λ x. Longer x bytes written b) same
    (one_byte Zero bytes written b e f (ap (λ x. x ∷ []) k, refl))
kept_first next bytes written b e f (DigitFirst k g) h = let same : Digits ≡ next = cc
    in subst (λ x. Longer x bytes written b) same (one_byte Digits bytes written b e f ((k, tt), refl))
kept_first next bytes written b e f (LetterFirst k g) h = let same : Name ≡ next = cc
    in subst (λ x. Longer x bytes written b) same (one_byte Name bytes written b e f ((k, tt), refl))
kept_first next bytes written b e f (QuoteFirst k g) h = absurd (cc)
kept_first next bytes written b e f (BarFirst k g) h = absurd (cc)
kept_first next bytes written b e f (HashFirst k g) h = absurd (cc)
kept_first next bytes written b e f (ColonFirst k g) h = absurd (cc)
kept_first next bytes written b e f (NoneFirst g) h = absurd (separated_no_push b next (sym g ∙ h))

longer_text : (bytes written : List ℕ) (b : ℕ) → (b == quote) ≡ false → is_text_byte b ≡ true
    → ZeroOrMore is_text_byte bytes → written ≡ quote ∷ doubled bytes → Longer InText bytes written b
longer_text bytes written b e k h w = (
  all-push is_text_byte bytes b h k,
  ap (λ x. x ++ b ∷ []) w ∙ ap (λ x. quote ∷ (doubled bytes ++ x))
      (sym (doubled-one b e)) ∙ ap (λ x. quote ∷ x) (sym (doubled-append bytes (b ∷ []))),
)

longer_quote : (bytes written : List ℕ) (b : ℕ) → b ≡ quote → ZeroOrMore is_text_byte bytes
    → written ≡ quote ∷ (doubled bytes ++ quote ∷ []) → Longer InText bytes written b
longer_quote bytes written b e h w =
    subst (λ x. Longer InText bytes written x) (sym e) (
      all-push is_text_byte bytes quote h refl,
      ap (λ x. x ++ quote ∷ []) w ∙ ap (λ x. quote ∷ x)
          (append_assoc (doubled bytes) (quote ∷ []) (quote ∷ []) ∙ sym (doubled-append bytes (quote ∷ []))),
    )

kept : (token next : AtomState) (bytes written : List ℕ) (b : ℕ) → IsWritten token bytes written
    → lex token b ≡ Push next → Longer next bytes written b
kept Nothing next bytes written b h e = kept_first next bytes written b h.0 h.1 (first_byte b) e
kept Zero next bytes written b h e =
    let k = one_push (b == point) Point next b e in
    subst (λ x. Longer x bytes written b) k.1 (
      (
        bytes,
        ap (λ x. bytes ++ x ∷ []) (eqb-true b point k.0),
        subst IsNumeral (sym h.0)
            (inl (refl, refl)),
      ),
      ap (λ x. x ++ b ∷ []) h.1,
    )
kept Digits next bytes written b h e = by (digits_push (is_digit b) (b == point) next b e)
  where
    by : ((is_digit b ≡ true) × (Digits ≡ next)) ⊎ (Point ≡ next) × ((b == point) ≡ true)
        → Longer next bytes written b
    by (inl k) =
        subst (λ x. Longer x bytes written b) k.1 (long-push bytes b h.0 k.0, ap (λ x. x ++ b ∷ []) h.1)
    by (inr k) = subst (λ x. Longer x bytes written b) k.0 (
      (bytes, ap (λ x. bytes ++ x ∷ []) (eqb-true b point k.1), long_is_numeral bytes h.0),
      ap
          (λ x. x ++ b ∷ []) h.1,
    )
kept Point next bytes written b h e =
    let k = needed_push (is_digit b) Fraction next e in
    subst (λ x. Longer x bytes written b) k.1 (
      (
        h.0.0,
        b ∷ [],
        ap (λ x. x ++ b ∷ []) h.0.1 ∙ append_assoc h.0.0 (point ∷ []) (b ∷ []),
        h.0.2,
        (k.0, tt),
      ),
      ap (λ x. x ++ b ∷ []) h.1,
    )
kept Fraction next bytes written b h e =
    let k = one_push (is_digit b) Fraction next b e in
    subst (λ x. Longer x bytes written b) k.1 (decimal-push bytes b h.0 k.0, ap (λ x. x ++ b ∷ []) h.1)
kept Hash next bytes written b h e = absurd (hash_push (b == 120) (b == 98) next e)
kept HexMark next bytes written b h e =
    let k = needed_push (is_hexadecimal_digit b) HexDigits next e in
    subst (λ x. Longer x bytes written b) k.1
    (subst (λ x. IsWritten HexDigits (x ++ b ∷ []) (written ++ b ∷ [])) (sym h.0)
    ((k.0, tt), ap (λ x. x ++ b ∷ []) h.1))
kept HexDigits next bytes written b h e =
    let k = one_push (is_hexadecimal_digit b) HexDigits next b e in
    subst (λ x. Longer x bytes written b) k.1
    (some-push is_hexadecimal_digit bytes b h.0 k.0, ap (λ x. x ++ b ∷ []) h.1)
kept BinMark next bytes written b h e =
    let k = needed_push (is_binary_digit b) BinDigits next e in
    subst (λ x. Longer x bytes written b) k.1
    (subst (λ x. IsWritten BinDigits (x ++ b ∷ []) (written ++ b ∷ [])) (sym h.0)
    ((k.0, tt), ap (λ x. x ++ b ∷ []) h.1))
kept BinDigits next bytes written b h e =
    let k = one_push (is_binary_digit b) BinDigits next b e in
    subst (λ x. Longer x bytes written b) k.1
    (some-push is_binary_digit bytes b h.0 k.0, ap (λ x. x ++ b ∷ []) h.1)
kept Name next bytes written b h e =
    let k = one_push (is_symbol_byte b) Name next b e in
    subst (λ x. Longer x bytes written b) k.1 (name-push bytes b h.0 k.0, ap (λ x. x ++ b ∷ []) h.1)
kept Colon next bytes written b h e =
    let k = needed_push (is_symbol_byte b) KeywordName next e in
    subst (λ x. Longer x bytes written b) k.1
    (subst (λ x. IsWritten KeywordName (x ++ b ∷ []) (written ++ b ∷ [])) (sym h.0)
    ((k.0, tt), ap (λ x. x ++ b ∷ []) h.1))
kept KeywordName next bytes written b h e =
    let k = one_push (is_symbol_byte b) KeywordName next b e in
    subst (λ x. Longer x bytes written b) k.1
    (some-push is_symbol_byte bytes b h.0 k.0, ap (λ x. x ++ b ∷ []) h.1)
kept InText next bytes written b h e =
    let k = text_push (b == quote) (is_text_byte b) next e in
    subst (λ x. Longer x bytes written b) k.2 (longer_text bytes written b k.0 k.1 h.0 h.1)
kept TextQuote next bytes written b h e =
    let k = one_push (b == quote) InText next b e in
    subst (λ x. Longer x bytes written b) k.1 (longer_quote bytes written b (eqb-true b quote k.0) h.0 h.1)
kept InBars next bytes written b h e =
    let k = bars_push (is_quoted_byte b) (b == bar) next e in
    subst (λ x. Longer x bytes written b) k.1
    (all-push is_quoted_byte bytes b h.0 k.0, ap (λ x. x ++ b ∷ []) h.1)
kept AfterBar next bytes written b h e = absurd h
kept InComment next bytes written b h e = absurd (comment_push (is_comment_byte b) next e)

-- and with one that is not kept
abbrev Passed : AtomState → List ℕ → List ℕ → ℕ → Type 0
Passed next bytes written b = IsWritten next bytes (written ++ b ∷ [])

begun_with : (next : AtomState) (bytes written : List ℕ) (b c : ℕ) → bytes ≡ [] → written ≡ [] → b ≡ c
    → IsWritten next [] (c ∷ []) → Passed next bytes written b
begun_with next bytes written b c e f k h =
    subst (λ x. IsWritten next x (written ++ b ∷ [])) (sym e)
    (subst (λ x. IsWritten next [] x) (sym (ap (λ x. x ++ b ∷ []) f ∙ ap (λ x. x ∷ []) k)) h)

skipped_first : (next : AtomState) (bytes written : List ℕ) (b : ℕ) → bytes ≡ [] → written ≡ [] → FirstByte b
    → lex Nothing b ≡ Skip next → Passed next bytes written b
skipped_first next bytes written b e f (QuoteFirst k g) h = let same : InText ≡ next = cc
    in subst (λ x. Passed x bytes written b) same (begun_with InText bytes written b quote e f k (tt, refl))
skipped_first next bytes written b e f (BarFirst k g) h = let same : InBars ≡ next = cc
    in subst (λ x. Passed x bytes written b) same (begun_with InBars bytes written b bar e f k (tt, refl))
skipped_first next bytes written b e f (HashFirst k g) h = let same : Hash ≡ next = cc
    in subst (λ x. Passed x bytes written b) same (begun_with Hash bytes written b 35 e f k (refl, refl))
skipped_first next bytes written b e f (ColonFirst k g) h = let same : Colon ≡ next = cc
    in subst (λ x. Passed x bytes written b) same (begun_with Colon bytes written b 58 e f k (refl, refl))
skipped_first next bytes written b e f (ZeroFirst k g) h = absurd (cc)
skipped_first next bytes written b e f (DigitFirst k g) h = absurd (cc)
skipped_first next bytes written b e f (LetterFirst k g) h = absurd (cc)
skipped_first next bytes written b e f (NoneFirst g) h = absurd (separated_no_skip b next (sym g ∙ h))

skipped : (token next : AtomState) (bytes written : List ℕ) (b : ℕ) → IsWritten token bytes written
    → lex token b ≡ Skip next → Passed next bytes written b
skipped Nothing next bytes written b h e = skipped_first next bytes written b h.0 h.1 (first_byte b) e
skipped Hash next bytes written b h e = by (hash_skip (b == 120) (b == 98) next e)
  where
    by : (((b == 120) ≡ true) × (HexMark ≡ next)) ⊎ (((b == 98) ≡ true) × (BinMark ≡ next))
        → Passed next bytes written b
    by (inl k) = subst (λ x. Passed x bytes written b) k.1
        (h.0, ap (λ x. x ++ b ∷ []) h.1 ∙ ap (λ x. 35 ∷ x ∷ []) (eqb-true b 120 k.0))
    by (inr k) = subst (λ x. Passed x bytes written b) k.1
        (h.0, ap (λ x. x ++ b ∷ []) h.1 ∙ ap (λ x. 35 ∷ x ∷ []) (eqb-true b 98 k.0))
skipped InText next bytes written b h e =
    let k = text_skip (b == quote) (is_text_byte b) next e in
    subst (λ x. Passed x bytes written b) k.1
    (h.0, ap (λ x. x ++ b ∷ []) h.1 ∙ ap (λ x. quote ∷ (doubled bytes ++ x ∷ [])) (eqb-true b quote k.0))
skipped InComment next bytes written b h e =
    let k = comment_skip (is_comment_byte b) next e in
    subst (λ x. Passed x bytes written b) k.1
    (h.0, (h.1.0 ++ b ∷ [], ap (λ x. x ++ b ∷ []) h.1.1, all-push is_comment_byte h.1.0 b h.1.2 k.0))
skipped Zero next bytes written b h e = absurd (one_skip (b == point) Point next b e)
skipped Digits next bytes written b h e = absurd (digits_skip (is_digit b) (b == point) next b e)
skipped Point next bytes written b h e = absurd (needed_skip (is_digit b) Fraction next e)
skipped Fraction next bytes written b h e = absurd (one_skip (is_digit b) Fraction next b e)
skipped HexMark next bytes written b h e = absurd (needed_skip (is_hexadecimal_digit b) HexDigits next e)
skipped HexDigits next bytes written b h e = absurd (one_skip (is_hexadecimal_digit b) HexDigits next b e)
skipped BinMark next bytes written b h e = absurd (needed_skip (is_binary_digit b) BinDigits next e)
skipped BinDigits next bytes written b h e = absurd (one_skip (is_binary_digit b) BinDigits next b e)
skipped Name next bytes written b h e = absurd (one_skip (is_symbol_byte b) Name next b e)
skipped Colon next bytes written b h e = absurd (needed_skip (is_symbol_byte b) KeywordName next e)
skipped KeywordName next bytes written b h e = absurd (one_skip (is_symbol_byte b) KeywordName next b e)
skipped TextQuote next bytes written b h e = absurd (one_skip (b == quote) InText next b e)
skipped InBars next bytes written b h e = absurd (bars_skip (is_quoted_byte b) (b == bar) next e)
skipped AfterBar next bytes written b h e = absurd h

-- behind a bar only what shows an end may come
after_bar_kept : (token next : AtomState) (b : ℕ) → token ≡ AfterBar → lex token b ≡ Push next → ⊥
after_bar_kept token next b e k = separated_no_push b next (ap (λ x. lex x b) (sym e) ∙ k)

after_bar_skipped : (token next : AtomState) (b : ℕ) → token ≡ AfterBar → lex token b ≡ Skip next → ⊥
after_bar_skipped token next b e k = separated_no_skip b next (ap (λ x. lex x b) (sym e) ∙ k)

-- a symbol in bars is complete
sound_barred : (max_depth : ℕ) (Last : List ℕ → Type 0) (token : AtomState) (bytes written : List ℕ)
    (levels before : Levels) (b : ℕ) (text : List ℕ) (end : Levels) (next : State) → token ≡ InBars → b ≡ bar
    → move max_depth (Finish AfterBar) (At token bytes levels) b ≡ Some next → IsWritten token bytes written
    → levels ≡ before → GoesOn max_depth Last text end next → Spells max_depth Last before (written ++ b ∷ text) end
sound_barred max_depth Last token bytes written levels before b text end next e k m h l later =
    let w : IsWritten InBars bytes written = subst (λ x. IsWritten x bytes written) e h in
    let made : At AfterBar [] (add (Atom sexp.Symbol bytes) before)
    ≡ At AfterBar [] (flush (At token bytes levels)) = ap
    (λ x. At AfterBar [] (add (Atom sexp.Symbol bytes) x)) (sym l) ∙ ap
    (λ x. At AfterBar [] (flush (At x bytes levels))) (sym e) in
    sound_longer max_depth Last written before b text end
    (At AfterBar [] (add (Atom sexp.Symbol bytes) before)) next (ap Some made ∙ m)
    (inr (bytes, refl, w.0, ap (λ x. x ++ b ∷ []) w.1 ∙ ap (λ x. bar ∷ (bytes ++ x ∷ [])) k, refl)) later

-- a comment has ended
sound_line_end : (max_depth : ℕ) (Last : List ℕ → Type 0) (token : AtomState) (bytes written : List ℕ)
    (levels before : Levels) (b : ℕ) (text : List ℕ) (end : Levels) (next : State) → token ≡ InComment
    → is_line_end b ≡ true → move max_depth (Finish Nothing) (At token bytes levels) b ≡ Some next
    → IsWritten token bytes written → levels ≡ before → GoesOn max_depth Last text end next
    → Spells max_depth Last before (written ++ b ∷ text) end
sound_line_end max_depth Last token bytes written levels before b text end next e k m h l later =
    let w : IsWritten InComment bytes written = subst (λ x. IsWritten x bytes written) e h in
    let made : At Nothing [] before ≡ At Nothing [] (flush (At token bytes levels)) = ap
    (λ x. At Nothing [] x) (sym l) ∙ ap (λ x. At Nothing [] (flush (At x bytes levels))) (sym e) in
    let some : Some (At Nothing [] before) ≡ Some next = ap Some made ∙ m in
    let same : At Nothing [] before ≡ next = cc in
    let r : Spells max_depth Last before text end = later [] before
    (subst (λ x. IsBehind x [] before) same (inl ((refl, refl), refl))) in
    subst (λ x. Spells max_depth Last before x end) (append_assoc written (b ∷ []) text)
    (separator_first max_depth Last before (written ++ b ∷ []) text end (inr (written, b, refl, w.1, k)) r)

sound_view : (max_depth : ℕ) (Last : List ℕ → Type 0) (token : AtomState) (bytes written : List ℕ)
    (levels before : Levels) (b : ℕ) (text : List ℕ) (end : Levels) (next : State) → View token b
    → IsBehind (At token bytes levels) written before → step max_depth (At token bytes levels) b ≡ Some next
    → GoesOn max_depth Last text end next → Spells max_depth Last before (written ++ b ∷ text) end
sound_view max_depth Last token bytes written levels before b text end next (Kept longer k) (inl h) e later =
    sound_kept max_depth Last token longer bytes written levels before b text end next k e
    (kept token longer bytes written b h.0 k) h.1 later
sound_view max_depth Last token bytes written levels before b text end next (Skipped longer k) (inl h) e later =
    sound_skipped max_depth Last token longer bytes written levels before b text end next k e
    (skipped token longer bytes written b h.0 k) h.1 later
sound_view max_depth Last token bytes written levels before b text end next (Refused k) h e later =
    let none = to_next max_depth Stuck (At token bytes levels) b next e k in absurd (cc)
sound_view max_depth Last token bytes written levels before b text end next (Separates m ends k) h e later =
    sound_separated max_depth Last (At token bytes levels) written before b text end next h m ends
    (to_next max_depth (separated b) (At token bytes levels) b next e k) later
sound_view max_depth Last token bytes written levels before b text end next (BarEnds t k m) (inl h) e later =
    sound_barred max_depth Last token bytes written levels before b text end next t k
    (to_next max_depth (Finish AfterBar) (At token bytes levels) b next e m) h.0 h.1 later
sound_view max_depth Last token bytes written levels before b text end next (LineEnds t k m) (inl h) e later =
    sound_line_end max_depth Last token bytes written levels before b text end next t k
    (to_next max_depth (Finish Nothing) (At token bytes levels) b next e m) h.0 h.1 later
sound_view max_depth Last token bytes written levels before b text end next (Kept longer k) (inr h) e later =
    absurd (after_bar_kept token longer b h.1 k)
sound_view max_depth Last token bytes written levels before b text end next (Skipped longer k) (inr h) e later =
    absurd (after_bar_skipped token longer b h.1 k)
sound_view max_depth Last token bytes written levels before b text end next (BarEnds t k m) (inr h) e later =
    let clash : InBars ≡ AfterBar = sym t ∙ h.1 in absurd (cc)
sound_view max_depth Last token bytes written levels before b text end next (LineEnds t k m) (inr h) e later =
    let clash : InComment ≡ AfterBar = sym t ∙ h.1 in absurd (cc)

sound_byte : (max_depth : ℕ) (Last : List ℕ → Type 0) (s : State) (b : ℕ) (text : List ℕ) (end : Levels)
    (next : State) → step max_depth s b ≡ Some next → GoesOn max_depth Last text end next
    → GoesOn max_depth Last (b ∷ text) end s
sound_byte max_depth Last (At token bytes levels) b text end next e later = λ written before h. sound_view max_depth
    Last token bytes written levels before b text end next (view token b) h e later

-- what is read is spelled by tokens that leave the same trees
pub sound : (max_depth : ℕ) (Last : List ℕ → Type 0) (text rest : List ℕ) (s mid : State) (end : Levels)
    → run max_depth s text ≡ Some mid → GoesOn max_depth Last rest end mid → GoesOn max_depth Last (text ++ rest) end s
sound max_depth Last [] rest s mid end e h =
    let same : mid ≡ s = cc in subst (λ x. GoesOn max_depth Last rest end x) same h
sound max_depth Last (b ∷ text) rest s mid end e h =
    by_step (step max_depth s b) refl e (λ next f. sound max_depth Last text rest next mid end f h)
  where
    by_step : (o : Option State) → step max_depth s b ≡ o → go_on o (λ x. run max_depth x text) ≡ Some mid
        → ((next : State) → run max_depth next text ≡ Some mid → GoesOn max_depth Last (text ++ rest) end next)
        → GoesOn max_depth Last ((b ∷ text) ++ rest) end s
    by_step None k f later = absurd (cc)
    by_step (Some next) k f later = sound_byte max_depth Last s b (text ++ rest) end next k (later next f)

-- where a text may end
pub record EndsWell (token : AtomState) : Type 0 where
  pub is : (MayBeEnded token) ⊎ (token ≡ InComment)

pub ends_well : (token : AtomState) → may_end token ≡ true → EndsWell token
ends_well Nothing e = record { is = inl tt }
ends_well Zero e = record { is = inl tt }
ends_well Digits e = record { is = inl tt }
ends_well Fraction e = record { is = inl tt }
ends_well HexDigits e = record { is = inl tt }
ends_well BinDigits e = record { is = inl tt }
ends_well Name e = record { is = inl tt }
ends_well KeywordName e = record { is = inl tt }
ends_well TextQuote e = record { is = inl tt }
ends_well AfterBar e = record { is = inl tt }
ends_well InComment e = record { is = inr refl }
ends_well Point e = absurd (cc)
ends_well Hash e = absurd (cc)
ends_well HexMark e = absurd (cc)
ends_well BinMark e = absurd (cc)
ends_well Colon e = absurd (cc)
ends_well InText e = absurd (cc)
ends_well InBars e = absurd (cc)

end_comment_text : (max_depth : ℕ) (token : AtomState) (bytes : List ℕ) (levels : Levels) (written : List ℕ)
    (before : Levels) → token ≡ InComment → IsBehind (At token bytes levels) written before
    → Spells max_depth IsTextEnd before (written ++ []) (flush (At token bytes levels))
end_comment_text max_depth token bytes levels written before e (inl h) =
    let w : IsWritten InComment bytes written = subst (λ x. IsWritten x bytes written) e h.0 in
    let trees : before ≡ flush (At token bytes levels) = sym h.1 ∙ ap (λ x. flush (At x bytes levels)) (sym e)
    in
    subst (λ x. Spells max_depth IsTextEnd before x (flush (At token bytes levels))) (sym (append-nil written))
    (subst (λ x. Spells max_depth IsTextEnd before written x) trees
    (only_last max_depth IsTextEnd before written (inr w.1)))
end_comment_text max_depth token bytes levels written before e (inr h) =
    let clash : InComment ≡ AfterBar = sym e ∙ h.1 in absurd (cc)

ends_text : (max_depth : ℕ) (s : State) → may_end (token_in s) ≡ true → GoesOn max_depth IsTextEnd [] (flush s) s
ends_text max_depth (At token bytes levels) e = λ written before h. by written before h (ends_well token e).is
  where
    by : (written : List ℕ) (before : Levels) → IsBehind (At token bytes levels) written before
        → (MayBeEnded token) ⊎ (token ≡ InComment)
        → Spells max_depth IsTextEnd before (written ++ []) (flush (At token bytes levels))
    by written before h (inl m) = behind_first max_depth IsTextEnd (At token bytes levels) written before []
        (flush (At token bytes levels)) h m tt
        (only_last max_depth IsTextEnd (flush (At token bytes levels)) [] (inl refl))
    by written before h (inr k) = end_comment_text max_depth token bytes levels written before k h

-- a text that runs to trees is theirs
pub forest-read : (max_depth : ℕ) (text : List ℕ) (end : State) (xs : Sexps) → run max_depth start text ≡ Some end
    → flush end ≡ On [] xs → may_end (token_in end) ≡ true → Forest max_depth text xs
forest-read max_depth text end xs e f whole =
    let r = sound max_depth IsTextEnd text [] start end (flush end) e (ends_text max_depth end whole) [] (On [] Nil)
    (inl ((refl, refl), refl)) in
    let leaves : acts max_depth r.tokens (On [] Nil) ≡ Some (On [] xs) = r.leaves ∙ ap Some f in
    let all : tokens_of_all xs [] ≡ r.tokens = spent-acts max_depth r.tokens (On [] Nil) (On [] xs) leaves in
    record {
      tokens =
          subst (λ x. IsText x text) (sym all) (subst (λ x. IsText r.tokens x) (append-nil text) r.is_text);
      shallow = (shallow-acts max_depth r.tokens (On [] Nil) (On [] xs) leaves (omega arith, tt)).0;
    }

-- one more token
acts-last : (max_depth : ℕ) (tokens : List Token) (token : Token) (levels mid next : Levels)
    → acts max_depth tokens levels ≡ Some mid → act max_depth token mid ≡ Some next
    → acts max_depth (tokens ++ token ∷ []) levels ≡ Some next
acts-last max_depth [] token levels mid next e f =
    let same : levels ≡ mid = cc in
    ap (λ x. acts max_depth (token ∷ []) x) same ∙ ap (λ o. act_next o (λ x. acts max_depth [] x)) f
acts-last max_depth (first ∷ tokens) token levels mid next e f =
    by_act (act max_depth first levels) refl e (λ nearer g. acts-last max_depth tokens token nearer mid next g f)
  where
    by_act : (o : Option Levels) → act max_depth first levels ≡ o
        → act_next o (λ x. acts max_depth tokens x) ≡ Some mid
        → ((nearer : Levels) → acts max_depth tokens nearer ≡ Some mid
        → acts max_depth (tokens ++ token ∷ []) nearer ≡ Some next)
        → acts max_depth ((first ∷ tokens) ++ token ∷ []) levels ≡ Some next
    by_act None a g later = absurd (cc)
    by_act (Some nearer) a g later =
        ap (λ o. act_next o (λ x. acts max_depth (tokens ++ token ∷ []) x)) a ∙ later nearer g

-- a text that ends with a token which shows its end itself
abbrev pub ClosedLast : Token → List ℕ → Type 0
ClosedLast token spelled = IsSpelling token spelled × IsClosed token spelled

closed_by : (max_depth : ℕ) (token : Token) (text rest : List ℕ) (levels : Levels) (trees : Sexps)
    → Spells max_depth (ClosedLast token) (On [] Nil) text levels → act max_depth token levels ≡ Some (On [] trees)
    → EndsClosed (tokens_of_all trees []) text
closed_by max_depth token text rest levels trees r a =
    let all : tokens_of_all trees [] ≡ r.tokens ++ token ∷ [] = spent-acts max_depth (r.tokens ++ token ∷ [])
    (On [] Nil) (On [] trees) (acts-last max_depth r.tokens token (On [] Nil) levels (On [] trees) r.leaves a)
    in
    (r.tokens, token, all, r.is_text)

pub closed_list : (max_depth : ℕ) (prefix : List ℕ) (s : State) (trees : Sexps) → run max_depth start prefix ≡ Some s
    → MayBeEnded (token_in s) → act max_depth CloseParenthesis (flush s) ≡ Some (On [] trees)
    → EndsClosed (tokens_of_all trees []) (prefix ++ 41 ∷ [])
closed_list max_depth prefix s trees e m a =
    let base : GoesOn max_depth (ClosedLast CloseParenthesis) (41 ∷ []) (flush s) s = λ written before h.
    behind_first max_depth (ClosedLast CloseParenthesis) s written before (41 ∷ []) (flush s) h m refl
    (only_last max_depth (ClosedLast CloseParenthesis) (flush s) (41 ∷ []) (refl, tt)) in
    let r = sound max_depth (ClosedLast CloseParenthesis) prefix (41 ∷ []) start s (flush s) e base [] (On [] Nil)
    (inl ((refl, refl), refl)) in
    closed_by max_depth CloseParenthesis (prefix ++ 41 ∷ []) [] (flush s) trees r a

pub closed_bar : (max_depth : ℕ) (prefix bytes : List ℕ) (top trees : Sexps)
    → run max_depth start prefix ≡ Some (At InBars bytes (On [] top))
    → add (Atom sexp.Symbol bytes) (On [] top) ≡ On [] trees
    → EndsClosed (tokens_of_all trees []) (prefix ++ bar ∷ [])
closed_bar max_depth prefix bytes top trees e a =
    let r = sound max_depth (ClosedLast (AtomToken sexp.Symbol bytes)) prefix (bar ∷ []) start
    (At InBars bytes (On [] top)) (On [] top) e base [] (On [] Nil) (inl ((refl, refl), refl)) in
    closed_by max_depth (AtomToken sexp.Symbol bytes) (prefix ++ bar ∷ []) [] (On [] top) trees r (ap Some a)
  where
    base : GoesOn max_depth (ClosedLast (AtomToken sexp.Symbol bytes)) (bar ∷ []) (On [] top)
        (At InBars bytes (On [] top))
    base written before (inl h) =
        let spelled : written ++ bar ∷ [] ≡ barred bytes = ap (λ x. x ++ bar ∷ []) h.0.1 in
        subst (λ x. Spells max_depth (ClosedLast (AtomToken sexp.Symbol bytes)) before (written ++ bar ∷ []) x)
        (sym h.1)
        (only_last max_depth (ClosedLast (AtomToken sexp.Symbol bytes)) before (written ++ bar ∷ [])
        (inr (spelled, h.0.0), spelled))
    base written before (inr h) = let clash = h.1 in absurd (cc)
