-- Bytes, and what they do to tokens.
use Rattle.std.proofs.Common.{◌≡◌, ◌⊎◌, ◌==◌, ◌||◌, ℕ, Bool, true, false, not, refl, sym, ap, ◌∙◌, inl, inr}
use Rattle.std.proofs.Common.{arith, subst}
use Rattle.std.proofs.lemmas.Bool.{eqb-true}
use Rattle.std.proofs.lemmas.Bool.Decides.{nat_tests}
use Rattle.std.specs.Prelude.{if◌then◌else◌}
use Rattle.smt_text.specs.Lexical.{quote, bar, point, is_white, is_line_end, is_digit, is_nonzero_digit}
use Rattle.smt_text.specs.Lexical.{is_hexadecimal_digit, is_binary_digit, is_letter, is_symbol_byte}
use Rattle.smt_text.specs.Lexical.{is_text_byte, is_quoted_byte, is_comment_byte, ends_token}
use Rattle.smt_text.specs.Internal.LexerStates.{separated, lex}
use Rattle.smt_text.specs.declared.lexer.AtomState.{AtomState}
use Rattle.smt_text.specs.declared.lexer.AtomState.TheVariants.{Nothing, Zero, Digits, Point, Fraction, Hash}
use Rattle.smt_text.specs.declared.lexer.AtomState.TheVariants.{HexMark, HexDigits, BinMark, BinDigits, Name}
use Rattle.smt_text.specs.declared.lexer.AtomState.TheVariants.{Colon, KeywordName, InText, TextQuote, InBars}
use Rattle.smt_text.specs.declared.lexer.AtomState.TheVariants.{AfterBar, InComment}
use Rattle.smt_text.specs.declared.lexer.LexerStep.TheVariants.{Push, Skip, Finish, Stuck}

pub white_values : (b : ℕ) → is_white b ≡ true → (b ≡ 9) ⊎ ((b ≡ 10) ⊎ ((b ≡ 13) ⊎ (b ≡ 32)))
white_values b h = grind (arith, nat_tests)

pub ender_values : (b : ℕ) → ends_token b ≡ true → (is_white b ≡ true) ⊎ ((b ≡ 59) ⊎ ((b ≡ 40) ⊎ (b ≡ 41)))
ender_values b h = grind (arith, nat_tests)

pub white_ends : (b : ℕ) → is_white b ≡ true → ends_token b ≡ true
white_ends b h = ap (λ t. t || b == 59 || b == 40 || b == 41) h

pub line_end_is_white : (b : ℕ) → is_line_end b ≡ true → is_white b ≡ true
line_end_is_white b h = grind (arith, nat_tests)

-- what holds of each byte of white space, or of each that ends a token
by_white : (P : ℕ → Type 0) (b : ℕ) → is_white b ≡ true → P 9 → P 10 → P 13 → P 32 → P b
by_white P b h p9 p10 p13 p32 = by (white_values b h)
  where
    by : (b ≡ 9) ⊎ ((b ≡ 10) ⊎ ((b ≡ 13) ⊎ (b ≡ 32))) → P b
    by (inl e) = subst P (sym e) p9
    by (inr (inl e)) = subst P (sym e) p10
    by (inr (inr (inl e))) = subst P (sym e) p13
    by (inr (inr (inr e))) = subst P (sym e) p32

by_ender : (P : ℕ → Type 0) (b : ℕ) → ends_token b ≡ true → P 9 → P 10 → P 13 → P 32 → P 59 → P 40 → P 41
    → P b
by_ender P b h p9 p10 p13 p32 p59 p40 p41 = by (ender_values b h)
  where
    by : (is_white b ≡ true) ⊎ ((b ≡ 59) ⊎ ((b ≡ 40) ⊎ (b ≡ 41))) → P b
    by (inl w) = by_white P b w p9 p10 p13 p32
    by (inr (inl e)) = subst P (sym e) p59
    by (inr (inr (inl e))) = subst P (sym e) p40
    by (inr (inr (inr e))) = subst P (sym e) p41

pub white_separates : (b : ℕ) → is_white b ≡ true → separated b ≡ Finish Nothing
white_separates b h = by_white (λ x. separated x ≡ Finish Nothing) b h refl refl refl refl

-- tokens whose end a byte may show
abbrev pub MayBeEnded : AtomState → Type 0
MayBeEnded Nothing = Unit {0}
MayBeEnded Zero = Unit {0}
MayBeEnded Digits = Unit {0}
MayBeEnded Fraction = Unit {0}
MayBeEnded HexDigits = Unit {0}
MayBeEnded BinDigits = Unit {0}
MayBeEnded Name = Unit {0}
MayBeEnded KeywordName = Unit {0}
MayBeEnded TextQuote = Unit {0}
MayBeEnded AfterBar = Unit {0}
MayBeEnded Point = ⊥
MayBeEnded Hash = ⊥
MayBeEnded HexMark = ⊥
MayBeEnded BinMark = ⊥
MayBeEnded Colon = ⊥
MayBeEnded InText = ⊥
MayBeEnded InBars = ⊥
MayBeEnded InComment = ⊥

pub lex_ended : (token : AtomState) (b : ℕ) → MayBeEnded token → ends_token b ≡ true
    → lex token b ≡ separated b
lex_ended Nothing b m h = by_ender (λ x. lex Nothing x ≡ separated x) b h refl refl refl refl refl refl refl
lex_ended Zero b m h = by_ender (λ x. lex Zero x ≡ separated x) b h refl refl refl refl refl refl refl
lex_ended Digits b m h = by_ender (λ x. lex Digits x ≡ separated x) b h refl refl refl refl refl refl refl
lex_ended Fraction b m h = by_ender (λ x. lex Fraction x ≡ separated x) b h refl refl refl refl refl refl refl
lex_ended HexDigits b m h =
    by_ender (λ x. lex HexDigits x ≡ separated x) b h refl refl refl refl refl refl refl
lex_ended BinDigits b m h =
    by_ender (λ x. lex BinDigits x ≡ separated x) b h refl refl refl refl refl refl refl
lex_ended Name b m h = by_ender (λ x. lex Name x ≡ separated x) b h refl refl refl refl refl refl refl
lex_ended KeywordName b m h =
    by_ender (λ x. lex KeywordName x ≡ separated x) b h refl refl refl refl refl refl refl
lex_ended TextQuote b m h =
    by_ender (λ x. lex TextQuote x ≡ separated x) b h refl refl refl refl refl refl refl
lex_ended AfterBar b m h = refl
lex_ended Point b m h = absurd m
lex_ended Hash b m h = absurd m
lex_ended HexMark b m h = absurd m
lex_ended BinMark b m h = absurd m
lex_ended Colon b m h = absurd m
lex_ended InText b m h = absurd m
lex_ended InBars b m h = absurd m
lex_ended InComment b m h = absurd m

-- bytes with which a token goes on
pub push_digit : (b : ℕ) → is_digit b ≡ true → lex Digits b ≡ Push Digits
push_digit b h = ap (λ t. if t then Push Digits else if b == point then Push Point else separated b) h

pub push_first_fraction : (b : ℕ) → is_digit b ≡ true → lex Point b ≡ Push Fraction
push_first_fraction b h = ap (λ t. if t then Push Fraction else Stuck) h

pub push_fraction : (b : ℕ) → is_digit b ≡ true → lex Fraction b ≡ Push Fraction
push_fraction b h = ap (λ t. if t then Push Fraction else separated b) h

pub push_first_hex : (b : ℕ) → is_hexadecimal_digit b ≡ true → lex HexMark b ≡ Push HexDigits
push_first_hex b h = ap (λ t. if t then Push HexDigits else Stuck) h

pub push_hex : (b : ℕ) → is_hexadecimal_digit b ≡ true → lex HexDigits b ≡ Push HexDigits
push_hex b h = ap (λ t. if t then Push HexDigits else separated b) h

pub push_first_bin : (b : ℕ) → is_binary_digit b ≡ true → lex BinMark b ≡ Push BinDigits
push_first_bin b h = ap (λ t. if t then Push BinDigits else Stuck) h

pub push_bin : (b : ℕ) → is_binary_digit b ≡ true → lex BinDigits b ≡ Push BinDigits
push_bin b h = ap (λ t. if t then Push BinDigits else separated b) h

pub push_name : (b : ℕ) → is_symbol_byte b ≡ true → lex Name b ≡ Push Name
push_name b h = ap (λ t. if t then Push Name else separated b) h

pub push_first_keyword : (b : ℕ) → is_symbol_byte b ≡ true → lex Colon b ≡ Push KeywordName
push_first_keyword b h = ap (λ t. if t then Push KeywordName else Stuck) h

pub push_keyword : (b : ℕ) → is_symbol_byte b ≡ true → lex KeywordName b ≡ Push KeywordName
push_keyword b h = ap (λ t. if t then Push KeywordName else separated b) h

pub push_quoted : (b : ℕ) → is_quoted_byte b ≡ true → lex InBars b ≡ Push InBars
push_quoted b h = ap (λ t. if t then Push InBars else if b == bar then Finish AfterBar else Stuck) h

pub push_text : (b : ℕ) → (b == quote) ≡ false → is_text_byte b ≡ true → lex InText b ≡ Push InText
push_text b e h = ap (λ t. if t then Skip TextQuote else if is_text_byte b then Push InText else Stuck) e ∙ ap
    (λ t. if t then Push InText else Stuck) h

pub skip_comment : (b : ℕ) → is_comment_byte b ≡ true → lex InComment b ≡ Skip InComment
skip_comment b h = ap (λ t. if t then Skip InComment else Finish Nothing) h

pub end_comment : (b : ℕ) → is_line_end b ≡ true → lex InComment b ≡ Finish Nothing
end_comment b h = ap (λ t. if not t then Skip InComment else Finish Nothing) h

pub letter_begins : (b : ℕ) → is_letter b ≡ true → lex Nothing b ≡ Push Name
letter_begins b h = grind (arith, nat_tests)

pub digit_begins : (b : ℕ) → is_nonzero_digit b ≡ true → lex Nothing b ≡ Push Digits
digit_begins b h = grind (arith, nat_tests)

-- a byte that begins a token ends none
pub letter_goes_on : (b : ℕ) → is_letter b ≡ true → is_symbol_byte b ≡ true
letter_goes_on b h = ap (λ t. t || is_digit b) h

pub letter_no_ender : (b : ℕ) → is_letter b ≡ true → ends_token b ≡ true → ⊥
letter_no_ender b h e = by_ender (λ x. is_letter x ≡ true → ⊥) b e (λ f. cc) (λ f. cc) (λ f. cc) (λ f. cc)
    (λ f. cc) (λ f. cc) (λ f. cc) h

pub digit_no_ender : (b : ℕ) → is_nonzero_digit b ≡ true → ends_token b ≡ true → ⊥
digit_no_ender b h e = by_ender (λ x. is_nonzero_digit x ≡ true → ⊥) b e (λ f. cc) (λ f. cc) (λ f. cc)
    (λ f. cc) (λ f. cc) (λ f. cc) (λ f. cc) h

no_ender_sticks : (b : ℕ) → ends_token b ≡ false → separated b ≡ Stuck
no_ender_sticks b h = grind (arith, nat_tests)

-- what a byte does to a token, whichever it is
pub data View (token : AtomState) (b : ℕ) : Type 0 where
  Kept : (next : AtomState) → lex token b ≡ Push next → View token b
  Skipped : (next : AtomState) → lex token b ≡ Skip next → View token b
  Refused : lex token b ≡ Stuck → View token b
  Separates : MayBeEnded token → ends_token b ≡ true → lex token b ≡ separated b → View token b
  BarEnds : token ≡ InBars → b ≡ bar → lex token b ≡ Finish AfterBar → View token b
  LineEnds : token ≡ InComment → is_line_end b ≡ true → lex token b ≡ Finish Nothing → View token b

view_separated : (token : AtomState) (b : ℕ) → MayBeEnded token → lex token b ≡ separated b → View token b
view_separated token b m e = by (ends_token b) refl
  where
    by : (t : Bool) → ends_token b ≡ t → View token b
    by true h = Separates m h e
    by false h = Refused (e ∙ no_ender_sticks b h)

view_one : (token next : AtomState) (b : ℕ) (t : Bool) → MayBeEnded token
    → lex token b ≡ (if t then Push next else separated b) → View token b
view_one token next b true m e = Kept next e
view_one token next b false m e = view_separated token b m e

view_needed : (token next : AtomState) (b : ℕ) (t : Bool) → lex token b ≡ (if t then Push next else Stuck)
    → View token b
view_needed token next b true e = Kept next e
view_needed token next b false e = Refused e

view_digits : (b : ℕ) (s t : Bool)
    → lex Digits b ≡ (if s then Push Digits else if t then Push Point else separated b) → View Digits b
view_digits b true t e = Kept Digits e
view_digits b false true e = Kept Point e
view_digits b false false e = view_separated Digits b tt e

view_hash : (b : ℕ) (s t : Bool)
    → lex Hash b ≡ (if s then Skip HexMark else if t then Skip BinMark else Stuck) → View Hash b
view_hash b true t e = Skipped HexMark e
view_hash b false true e = Skipped BinMark e
view_hash b false false e = Refused e

view_text : (b : ℕ) (s t : Bool)
    → lex InText b ≡ (if s then Skip TextQuote else if t then Push InText else Stuck) → View InText b
view_text b true t e = Skipped TextQuote e
view_text b false true e = Kept InText e
view_text b false false e = Refused e

view_bars : (b : ℕ) (s t : Bool) → (b == bar) ≡ t
    → lex InBars b ≡ (if s then Push InBars else if t then Finish AfterBar else Stuck) → View InBars b
view_bars b true t k e = Kept InBars e
view_bars b false true k e = BarEnds refl (eqb-true b bar k) e
view_bars b false false k e = Refused e

line_end : (s : Bool) → not s ≡ false → s ≡ true
line_end true e = refl
line_end false e = absurd (cc)

view_comment : (b : ℕ) (t : Bool) → is_comment_byte b ≡ t
    → lex InComment b ≡ (if t then Skip InComment else Finish Nothing) → View InComment b
view_comment b true k e = Skipped InComment e
view_comment b false k e = LineEnds refl (line_end (is_line_end b) k) e

-- the first byte of a token
pub data FirstByte (b : ℕ) : Type 0 where
  ZeroFirst : b ≡ 48 → lex Nothing b ≡ Push Zero → FirstByte b
  DigitFirst : is_nonzero_digit b ≡ true → lex Nothing b ≡ Push Digits → FirstByte b
  QuoteFirst : b ≡ quote → lex Nothing b ≡ Skip InText → FirstByte b
  BarFirst : b ≡ bar → lex Nothing b ≡ Skip InBars → FirstByte b
  HashFirst : b ≡ 35 → lex Nothing b ≡ Skip Hash → FirstByte b
  ColonFirst : b ≡ 58 → lex Nothing b ≡ Skip Colon → FirstByte b
  LetterFirst : is_letter b ≡ true → lex Nothing b ≡ Push Name → FirstByte b
  NoneFirst : lex Nothing b ≡ separated b → FirstByte b

first_by : (b : ℕ) (t₁ t₂ t₃ t₄ t₅ t₆ t₇ : Bool) → (b == 48) ≡ t₁ → is_nonzero_digit b ≡ t₂
    → (b == quote) ≡ t₃ → (b == bar) ≡ t₄ → (b == 35) ≡ t₅ → (b == 58) ≡ t₆ → is_letter b ≡ t₇
    → lex Nothing b ≡ (if t₁ then Push Zero else if t₂ then Push Digits else if t₃ then Skip InText
    else if t₄ then Skip InBars else if t₅ then Skip Hash else if t₆ then Skip Colon else if t₇ then Push Name
    else separated b) → FirstByte b
first_by b true t₂ t₃ t₄ t₅ t₆ t₇ k₁ k₂ k₃ k₄ k₅ k₆ k₇ e = ZeroFirst (eqb-true b 48 k₁) e
first_by b false true t₃ t₄ t₅ t₆ t₇ k₁ k₂ k₃ k₄ k₅ k₆ k₇ e = DigitFirst k₂ e
first_by b false false true t₄ t₅ t₆ t₇ k₁ k₂ k₃ k₄ k₅ k₆ k₇ e = QuoteFirst (eqb-true b quote k₃) e
first_by b false false false true t₅ t₆ t₇ k₁ k₂ k₃ k₄ k₅ k₆ k₇ e = BarFirst (eqb-true b bar k₄) e
first_by b false false false false true t₆ t₇ k₁ k₂ k₃ k₄ k₅ k₆ k₇ e = HashFirst (eqb-true b 35 k₅) e
first_by b false false false false false true t₇ k₁ k₂ k₃ k₄ k₅ k₆ k₇ e = ColonFirst (eqb-true b 58 k₆) e
first_by b false false false false false false true k₁ k₂ k₃ k₄ k₅ k₆ k₇ e = LetterFirst k₇ e
first_by b false false false false false false false k₁ k₂ k₃ k₄ k₅ k₆ k₇ e = NoneFirst e

pub first_byte : (b : ℕ) → FirstByte b
first_byte b = first_by b (b == 48) (is_nonzero_digit b) (b == quote) (b == bar) (b == 35) (b == 58)
    (is_letter b) refl refl refl refl refl refl refl refl

view_first : (b : ℕ) → FirstByte b → View Nothing b
view_first b (ZeroFirst k e) = Kept Zero e
view_first b (DigitFirst k e) = Kept Digits e
view_first b (QuoteFirst k e) = Skipped InText e
view_first b (BarFirst k e) = Skipped InBars e
view_first b (HashFirst k e) = Skipped Hash e
view_first b (ColonFirst k e) = Skipped Colon e
view_first b (LetterFirst k e) = Kept Name e
view_first b (NoneFirst e) = view_separated Nothing b tt e

pub view : (token : AtomState) (b : ℕ) → View token b
view Nothing b = view_first b (first_byte b)
view Zero b = view_one Zero Point b (b == point) tt refl
view Digits b = view_digits b (is_digit b) (b == point) refl
view Point b = view_needed Point Fraction b (is_digit b) refl
view Fraction b = view_one Fraction Fraction b (is_digit b) tt refl
view Hash b = view_hash b (b == 120) (b == 98) refl
view HexMark b = view_needed HexMark HexDigits b (is_hexadecimal_digit b) refl
view HexDigits b = view_one HexDigits HexDigits b (is_hexadecimal_digit b) tt refl
view BinMark b = view_needed BinMark BinDigits b (is_binary_digit b) refl
view BinDigits b = view_one BinDigits BinDigits b (is_binary_digit b) tt refl
view Name b = view_one Name Name b (is_symbol_byte b) tt refl
view Colon b = view_needed Colon KeywordName b (is_symbol_byte b) refl
view KeywordName b = view_one KeywordName KeywordName b (is_symbol_byte b) tt refl
view InText b = view_text b (b == quote) (is_text_byte b) refl
view TextQuote b = view_one TextQuote InText b (b == quote) tt refl
view InBars b = view_bars b (is_quoted_byte b) (b == bar) refl refl
view AfterBar b = view_separated AfterBar b tt refl
view InComment b = view_comment b (is_comment_byte b) refl refl
