-- White space and comments at the beginning of a text.
use Rattle.std.proofs.Common.{◌≡◌, ◌≢◌, ◌⊎◌, ◌<◌, ◌≤◌, ◌+◌, ◌-◌, ℕ, zero, suc, List, [], ◌∷◌, ◌++◌, length, take, drop}
use Rattle.std.proofs.Common.{get_or, true, false, None, refl, sym, ap, ◌∙◌, inl, inr, arith, subst}
use Rattle.std.specs.List.{AllByRecursion}
use Rattle.std.proofs.Math.Seq.{take-add, take-append_seam}
use Rattle.std.proofs.lemmas.List.{append-nil, append_assoc, drop_all, drop_more, length-append, length-take-le, take_all}
use Rattle.std.proofs.lemmas.List.{take_more, take-append-drop}
use Rattle.smt_text.proofs.LexerStepLemmas.{comment_skip}
use Rattle.smt_text.proofs.RunLemmas.{at_rest, first_of_rest, rest_is, rest_length, rest_of}
use Rattle.smt_text.specs.Grammar.{joined, IsComment, IsGap, IsSeparator, ZeroOrMore}
use Rattle.smt_text.specs.Internal.LexerStates.{lex}
use Rattle.smt_text.specs.Lexical.{is_comment_byte, is_line_end, is_white}
use Rattle.smt_text.specs.Reading.{Reads}
use Rattle.smt_text.specs.Spans.{BeginsNoGap, IsGapLength}
use Rattle.smt_text.specs.declared.lexer.AtomState.TheVariants.{InComment}
use Rattle.smt_text.specs.declared.lexer.LexerStep.TheVariants.{Skip}
use Rattle.smt_trees.specs.Sexp.{Nil}

-- ## One more separator

joined_last : (parts : List (List ℕ)) (part : List ℕ) → joined parts ++ part ≡ joined (parts ++ part ∷ [])
joined_last [] part = sym (append-nil part)
joined_last (first ∷ parts) part =
    append_assoc first (joined parts) part ∙ ap (λ x. first ++ x) (joined_last parts part)

all_last : (parts : List (List ℕ)) (part : List ℕ) → AllByRecursion IsSeparator parts → IsSeparator part
    → AllByRecursion IsSeparator (parts ++ part ∷ [])
all_last [] part h k = (k, tt)
all_last (first ∷ parts) part h k = (h.0, all_last parts part h.1 k)

gap_more : (gap part : List ℕ) → IsGap gap → IsSeparator part → IsGap (gap ++ part)
gap_more gap part (parts, e, all) h =
    (parts ++ part ∷ [], ap (λ x. x ++ part) e ∙ joined_last parts part, all_last parts part all h)

pub no_bytes : (text : List ℕ) → IsGap (take 0 text)
no_bytes text = ([], refl, tt)

pub white_more : (text : List ℕ) (place : ℕ) → place < length text → is_white (get_or text place 0) ≡ true
    → IsGap (take place text) → IsGap (take (place + 1) text)
white_more text place lt white h =
    subst IsGap (sym (take_more text place 0 lt))
    (gap_more (take place text) (get_or text place 0 ∷ []) h (inl (get_or text place 0, refl, white)))

-- ## Comments

body : (text : List ℕ) (n : ℕ) → n ≤ length text
    → ((k : ℕ) → k < n → lex InComment (get_or text k 0) ≡ Skip InComment)
    → ZeroOrMore is_comment_byte (take n text)
body text zero le h = tt
body [] (suc n) le h = absurd (omega arith)
body (b ∷ text) (suc n) le h = (
  (comment_skip (is_comment_byte b) InComment (h 0 (omega arith))).0,
  body text n (omega arith) (λ k lt. h (suc k) (omega arith)),
)

comment_is : (text : List ℕ) (n : ℕ) → 0 < n → n ≤ length text → get_or text 0 0 ≡ 59
    → ((k : ℕ) → k < n → lex InComment (get_or text k 0) ≡ Skip InComment) → IsComment (take n text)
comment_is text zero some le e h = absurd (omega arith)
comment_is [] (suc n) some le e h = absurd (omega arith)
comment_is (b ∷ text) (suc n) some le e h = (
  take n text,
  ap (λ x. x ∷ take n text) e,
  body text n (omega arith) (λ k lt. h (suc k) (omega arith)),
)

-- a comment has its first byte
has_first : (text : List ℕ) (n : ℕ) → 0 < length text → get_or text 0 0 ≡ 59
    → (n < length text → is_line_end (get_or text n 0) ≡ true) → 0 < n
has_first text zero some e stops =
    let ends : is_line_end (get_or text 0 0) ≡ true = stops some in
    let none : is_line_end (get_or text 0 0) ≡ false = ap is_line_end e in
    absurd (cc)
has_first text (suc n) some e stops = omega arith

-- a comment that ends with its line
pub comment_more : (text : List ℕ) (place n : ℕ) → place < length text → get_or text place 0 ≡ 59
    → n ≤ length (rest_of text place)
    → ((k : ℕ) → k < n → lex InComment (get_or (rest_of text place) k 0) ≡ Skip InComment)
    → (n < length (rest_of text place) → is_line_end (get_or (rest_of text place) n 0) ≡ true)
    → (place + n ≡ length text → ⊥) → IsGap (take place text) → IsGap (take (place + n + 1) text)
comment_more text place n lt e le h stops more gap =
    let rest = rest_of text place in
    let count : length rest ≡ length text - place = rest_length text place in
    let some : 0 < n = has_first rest n (omega (arith, count)) (first_of_rest text place ∙ e) stops in
    let byte = get_or text (place + n) 0 in
    let differs : place + n ≢ length text = more in
    let ends : is_line_end byte ≡ true = ap is_line_end (sym (at_rest text place n)) ∙ stops
    (omega (arith, count, le, differs)) in
    let comment : IsComment (take n (drop place text)) = subst (λ x. IsComment (take n x)) (rest_is text place)
    (comment_is rest n some le (first_of_rest text place ∙ e) h) in
    let parts : take (place + n + 1) text ≡ take place text ++ (take n (drop place text) ++ byte ∷ []) =
    take_more text (place + n) 0 (omega (arith, count, le, differs))
    ∙ ap (λ x. x ++ byte ∷ []) (take-add place n text)
    ∙ append_assoc (take place text) (take n (drop place text)) (byte ∷ []) in
    subst IsGap (sym parts) (gap_more (take place text) (take n (drop place text) ++ byte ∷ []) gap
    (inr (take n (drop place text), byte, refl, comment, ends)))

-- a comment that ends with the text
pub comment_last : (text : List ℕ) (place n : ℕ) → place < length text → get_or text place 0 ≡ 59
    → n ≤ length (rest_of text place)
    → ((k : ℕ) → k < n → lex InComment (get_or (rest_of text place) k 0) ≡ Skip InComment)
    → (n < length (rest_of text place) → is_line_end (get_or (rest_of text place) n 0) ≡ true)
    → place + n ≡ length text → IsGap (take place text) → IsGapLength text (place + n)
comment_last text place n lt e le h stops all gap =
    let rest = rest_of text place in
    let count : length rest ≡ length text - place = rest_length text place in
    let some : 0 < n = has_first rest n (omega (arith, count)) (first_of_rest text place ∙ e) stops in
    let comment : IsComment (drop place text) = subst IsComment
    (take_all n rest (omega (arith, count, all)) ∙ rest_is text place)
    (comment_is rest n some le (first_of_rest text place ∙ e) h) in
    record {
      gap = take place text;
      rest = drop place text;
      parts = sym (take-append-drop place text);
      is_gap = gap;
      ends = inr (all, comment);
    }

-- ## The length

split_at : (text : List ℕ) (place : ℕ) → place ≤ length text → IsGap (take place text)
    → BeginsNoGap (drop place text) → IsGapLength text place
split_at text place le gap none = record {
  gap = take place text;
  rest = drop place text;
  parts = sym (take-append-drop place text);
  is_gap = gap;
  ends = inl (sym (length-take-le place text le), none);
}

pub gap_before : (text : List ℕ) (place : ℕ) → place < length text → IsGap (take place text)
    → is_white (get_or text place 0) ≡ false → get_or text place 0 ≢ 59 → IsGapLength text place
gap_before text place lt gap white comment =
    split_at text place (omega arith) gap (subst BeginsNoGap (sym (drop_more text place 0 lt)) (white, comment))

pub gap_all : (text : List ℕ) (place : ℕ) → place ≤ length text → length text ≤ place → IsGap (take place text)
    → IsGapLength text place
gap_all text place le ge gap = split_at text place le gap (subst BeginsNoGap (sym (drop_all place text ge)) tt)

pub gap_within : (text : List ℕ) (count : ℕ) → IsGapLength text count → count ≤ length text
gap_within text count h = by h.ends
  where
    by : ((count ≡ length h.gap) × BeginsNoGap h.rest) ⊎ ((count ≡ length text) × IsComment h.rest)
        → count ≤ length text
    by (inl e) = omega (arith, e.0, ap length h.parts, length-append h.gap h.rest)
    by (inr e) = omega (arith, e.0)

pub gap_reads : (max_depth : ℕ) (text : List ℕ) (count : ℕ) → IsGapLength text count
    → Reads max_depth true (take count text) Nil None
gap_reads max_depth text count h = by h.ends
  where
    by : ((count ≡ length h.gap) × BeginsNoGap h.rest) ⊎ ((count ≡ length text) × IsComment h.rest)
        → Reads max_depth true (take count text) Nil None
    by (inl e) =
        let all : take count text ≡ h.gap = ap (λ n. take n text) e.0 ∙ ap (take (length h.gap)) h.parts
        ∙ take-append_seam h.gap h.rest in
        record {
          tokens = (h.gap, [], all ∙ sym (append-nil h.gap), h.is_gap, inl refl);
          shallow = omega arith;
        }
    by (inr e) = record {
      tokens = (
        h.gap,
        h.rest,
        take_all count text (omega (arith, e.0)) ∙ h.parts,
        h.is_gap,
        inr e.1,
      );
      shallow = omega arith;
    }
