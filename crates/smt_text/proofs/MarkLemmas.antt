-- How atoms begin, by the mark before them or by their first byte.
use Rattle.std.proofs.Common.{◌≡◌, ◌<◌, ℕ, Bool, true, false, List, [], ◌∷◌, length, get_or, take, Some, refl}
use Rattle.std.proofs.Common.{arith, sym, ap, ◌∙◌, subst, ltb-true, nat_lt}
use Rattle.std.specs.Prelude.{◌==◌, if◌then◌else◌}
use Rattle.smt_text.proofs.ByteLemmas.{digit_begins, letter_begins, lex_ended, push_first_bin, push_first_hex, push_first_keyword}
use Rattle.smt_text.proofs.ReaderCompleteness.{step-at, run-cons}
use Rattle.smt_text.specs.Internal.LexerStates.{Levels, At, lex, run, separated}
use Rattle.smt_text.specs.Internal.ReaderState.{BeginsAtom}
use Rattle.smt_text.specs.Lexical.{is_binary_digit, is_hexadecimal_digit, is_letter, is_nonzero_digit, is_symbol_byte}
use Rattle.smt_text.specs.Lexical.{is_white}
use Rattle.smt_text.specs.declared.lexer.AtomState.{AtomState}
use Rattle.smt_text.specs.declared.lexer.AtomState.TheVariants.{Nothing, Digits, Hash, HexMark, HexDigits}
use Rattle.smt_text.specs.declared.lexer.AtomState.TheVariants.{BinMark, BinDigits, Colon, KeywordName, Name, InComment}
use Rattle.smt_text.specs.declared.lexer.LexerStep.TheVariants.{Push, Skip, Finish, Open, Close, Stuck}

-- a byte between tokens is kept by none
not_kept : (token : AtomState) (s t u v : Bool)
    → (if s then Open else if t then Close else if u then Finish InComment else if v then Finish Nothing
    else Stuck) ≡ Push token → ⊥
not_kept token true t u v h = cc
not_kept token false true u v h = cc
not_kept token false false true v h = cc
not_kept token false false false true h = cc
not_kept token false false false false h = cc

-- a digit is kept because of what it is
kept_digit : (token : AtomState) (b : ℕ) (t : Bool) → (if t then Push token else separated b) ≡ Push token
    → t ≡ true
kept_digit token b true h = refl
kept_digit token b false h = absurd (not_kept token (b == 40) (b == 41) (b == 59) (is_white b) h)

-- the two bytes of a mark
mark_run : (max_depth : ℕ) (levels : Levels) (mark : AtomState) (text : List ℕ) (b d : ℕ) → 1 < length text
    → get_or text 0 0 ≡ 35 → get_or text 1 d ≡ b → lex Hash b ≡ Skip mark
    → run max_depth (At Nothing [] levels) (take 2 text) ≡ Some (At mark [] levels)
mark_run max_depth levels mark [] b d lt first second e = absurd (omega arith)
mark_run max_depth levels mark (h ∷ []) b d lt first second e = absurd (omega arith)
mark_run max_depth levels mark (h ∷ c ∷ text) b d lt first second e =
    run-cons max_depth (At Nothing [] levels) (At Hash [] levels) h (c ∷ [])
    (step-at max_depth (At Nothing [] levels) h (Skip Hash) (ap (lex Nothing) first))
    ∙ run-cons max_depth (At Hash [] levels) (At mark [] levels) c []
    (step-at max_depth (At Hash [] levels) c (Skip mark) (ap (lex Hash) second ∙ e))

-- the byte before a keyword
colon_run : (max_depth : ℕ) (levels : Levels) (text : List ℕ) → 0 < length text → get_or text 0 0 ≡ 58
    → run max_depth (At Nothing [] levels) (take 1 text) ≡ Some (At Colon [] levels)
colon_run max_depth levels [] some first = absurd (omega arith)
colon_run max_depth levels (h ∷ text) some first =
    run-cons max_depth (At Nothing [] levels) (At Colon [] levels) h []
    (step-at max_depth (At Nothing [] levels) h (Skip Colon) (ap (lex Nothing) first))

-- the state where no token has begun
at_start : (P : AtomState → List ℕ → Type 0) (token : AtomState) (bytes : List ℕ) → token ≡ Nothing
    → bytes ≡ [] → P Nothing [] → P token bytes
at_start P token bytes e f p = subst (λ t. P t bytes) (sym e) (subst (λ b. P Nothing b) (sym f) p)

pub hexadecimal_begins : (max_depth : ℕ) (token : AtomState) (bytes text : List ℕ) (levels : Levels) (d : ℕ)
    → token ≡ Nothing → bytes ≡ [] → true ≡ nat_lt 1 (length text) → get_or text 0 0 ≡ 35 → get_or text 1 d ≡ 120
    → BeginsAtom max_depth (At token bytes levels) text 2 HexDigits
hexadecimal_begins max_depth token bytes text levels d e f lt first second =
    at_start (λ t b. BeginsAtom max_depth (At t b levels) text 2 HexDigits) token bytes e f (record {
      start = HexMark;
      marked = mark_run max_depth levels HexMark text 120 d (ltb-true 1 (length text) (sym lt)) first second refl;
      first = λ h. push_first_hex (get_or text 2 0)
          (kept_digit HexDigits (get_or text 2 0) (is_hexadecimal_digit (get_or text 2 0)) h);
      ended = λ b h. lex_ended HexDigits b tt h;
      whole = refl;
    })

pub binary_begins : (max_depth : ℕ) (token : AtomState) (bytes text : List ℕ) (levels : Levels) (d : ℕ)
    → token ≡ Nothing → bytes ≡ [] → true ≡ nat_lt 1 (length text) → get_or text 0 0 ≡ 35 → get_or text 1 d ≡ 98
    → BeginsAtom max_depth (At token bytes levels) text 2 BinDigits
binary_begins max_depth token bytes text levels d e f lt first second =
    at_start (λ t b. BeginsAtom max_depth (At t b levels) text 2 BinDigits) token bytes e f (record {
      start = BinMark;
      marked = mark_run max_depth levels BinMark text 98 d (ltb-true 1 (length text) (sym lt)) first second refl;
      first = λ h. push_first_bin (get_or text 2 0)
          (kept_digit BinDigits (get_or text 2 0) (is_binary_digit (get_or text 2 0)) h);
      ended = λ b h. lex_ended BinDigits b tt h;
      whole = refl;
    })

pub keyword_begins : (max_depth : ℕ) (token : AtomState) (bytes text : List ℕ) (levels : Levels)
    → token ≡ Nothing → bytes ≡ [] → 0 < length text → get_or text 0 0 ≡ 58
    → BeginsAtom max_depth (At token bytes levels) text 1 KeywordName
keyword_begins max_depth token bytes text levels e f some first =
    at_start (λ t b. BeginsAtom max_depth (At t b levels) text 1 KeywordName) token bytes e f (record {
      start = Colon;
      marked = colon_run max_depth levels text some first;
      first = λ h. push_first_keyword (get_or text 1 0)
          (kept_digit KeywordName (get_or text 1 0) (is_symbol_byte (get_or text 1 0)) h);
      ended = λ b h. lex_ended KeywordName b tt h;
      whole = refl;
    })

pub name_begins : (max_depth : ℕ) (token : AtomState) (bytes text : List ℕ) (levels : Levels)
    → token ≡ Nothing → bytes ≡ [] → is_letter (get_or text 0 0) ≡ true → BeginsAtom max_depth (At token bytes levels) text 0 Name
name_begins max_depth token bytes text levels e f letter =
    at_start (λ t b. BeginsAtom max_depth (At t b levels) text 0 Name) token bytes e f (record {
      start = Nothing;
      marked = refl;
      first = λ h. letter_begins (get_or text 0 0) letter;
      ended = λ b h. lex_ended Name b tt h;
      whole = refl;
    })

pub numeral_begins : (max_depth : ℕ) (token : AtomState) (bytes text : List ℕ) (levels : Levels)
    → token ≡ Nothing → bytes ≡ [] → is_nonzero_digit (get_or text 0 0) ≡ true → BeginsAtom max_depth (At token bytes levels) text 0 Digits
numeral_begins max_depth token bytes text levels e f digit =
    at_start (λ t b. BeginsAtom max_depth (At t b levels) text 0 Digits) token bytes e f (record {
      start = Nothing;
      marked = refl;
      first = λ h. digit_begins (get_or text 0 0) digit;
      ended = λ b h. lex_ended Digits b tt h;
      whole = refl;
    })
