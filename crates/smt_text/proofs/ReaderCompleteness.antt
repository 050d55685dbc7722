-- A text of tokens runs to their trees.
use Rattle.std.proofs.Common.{◌≡◌, ◌⊎◌, ◌<◌, ◌≤◌, ◌+◌, ◌==◌, ◌&&◌, ℕ, Bool, true, false, List, [], ◌∷◌, ◌++◌}
use Rattle.std.proofs.Common.{length, Option, Some, None, refl, sym, ap, ◌∙◌, inl, inr, arith, subst}
use Rattle.std.proofs.lemmas.Bool.{lt-ltb}
use Rattle.std.proofs.lemmas.List.{append-nil, append_assoc}
use Rattle.std.specs.List.{AllByRecursion, list_all}
use Rattle.std.specs.Prelude.{if◌then◌else◌}
use Rattle.smt_text.proofs.ByteLemmas.{MayBeEnded, lex_ended, white_ends, white_separates, push_digit}
use Rattle.smt_text.proofs.ByteLemmas.{push_first_fraction, push_fraction, push_first_hex, push_hex}
use Rattle.smt_text.proofs.ByteLemmas.{push_first_bin, push_bin, push_name, push_first_keyword, push_keyword}
use Rattle.smt_text.proofs.ByteLemmas.{push_quoted, push_text, skip_comment, end_comment, letter_begins}
use Rattle.smt_text.proofs.ByteLemmas.{digit_begins, letter_no_ender, digit_no_ender}
use Rattle.smt_text.proofs.SexpLemmas.{append_nil, append_assoc as sexps_assoc}
use Rattle.smt_text.proofs.ReservedLemmas.{word_named-spelling, find_word-some}
use Rattle.smt_text.specs.Grammar.{Token, OpenParenthesis, CloseParenthesis, AtomToken, WordToken, ZeroOrMore}
use Rattle.smt_text.specs.Grammar.{OneOrMore, IsNumeral, IsDecimal, IsSimpleSymbol, IsSpelling, IsComment}
use Rattle.smt_text.specs.Grammar.{IsSeparator, IsGap, IsTextThen, IsTextEnd, EndsToken, IsApart, joined}
use Rattle.smt_text.specs.Grammar.{doubled, barred, tokens_of, tokens_of_all, Forest}
use Rattle.smt_text.specs.Lexical.{quote, bar, semicolon, point, zero_digit, is_white, is_digit}
use Rattle.smt_text.specs.Lexical.{is_hexadecimal_digit, is_binary_digit, is_letter, is_symbol_byte}
use Rattle.smt_text.specs.Lexical.{is_text_byte, is_quoted_byte, is_comment_byte, ends_token}
use Rattle.smt_text.specs.Internal.LexerStates.{Levels, On, State, At, start, add, word_named, name_or_word}
use Rattle.smt_text.specs.Internal.LexerStates.{flush, act, settle, separated, lex, move, may_end, token_in, step}
use Rattle.smt_text.specs.Internal.LexerStates.{go_on, run, depth_of}
use Rattle.smt_trees.specs.Reserved.{spelling_of, all_words}
use Rattle.smt_trees.specs.Sexp as sexp
use Rattle.smt_trees.specs.Sexp.{Sexp, Sexps, Atom, Reserved, Items, Nil, Cons, append, depth, depth_all}
use Rattle.smt_text.specs.declared.lexer.AtomState.{AtomState}
use Rattle.smt_text.specs.declared.lexer.AtomState.TheVariants.{Nothing, Zero, Digits, Point, Fraction, Hash}
use Rattle.smt_text.specs.declared.lexer.AtomState.TheVariants.{HexMark, HexDigits, BinMark, BinDigits, Name}
use Rattle.smt_text.specs.declared.lexer.AtomState.TheVariants.{Colon, KeywordName, InText, TextQuote, InBars}
use Rattle.smt_text.specs.declared.lexer.AtomState.TheVariants.{AfterBar, InComment}
use Rattle.smt_text.specs.declared.lexer.LexerStep.{LexerStep}
use Rattle.smt_text.specs.declared.lexer.LexerStep.TheVariants.{Push, Skip, Finish, Stuck}
use Rattle.smt_trees.specs.declared.reserved.Word.{Word}
use Rattle.smt_trees.specs.declared.reserved.Word.TheVariants as words

-- a step of a token that is known
pub step-at : (max_depth : ℕ) (s : State) (b : ℕ) (what : LexerStep) → lex (token_in s) b ≡ what
    → step max_depth s b ≡ move max_depth what s b
step-at max_depth s b what e = ap (λ x. move max_depth x s b) e

pub run-cons : (max_depth : ℕ) (s next : State) (b : ℕ) (bs : List ℕ) → step max_depth s b ≡ Some next
    → run max_depth s (b ∷ bs) ≡ run max_depth next bs
run-cons max_depth s next b bs e = ap (λ o. go_on o (λ x. run max_depth x bs)) e

pub run-append : (max_depth : ℕ) (s next : State) (xs ys : List ℕ) → run max_depth s xs ≡ Some next
    → run max_depth s (xs ++ ys) ≡ run max_depth next ys
run-append max_depth s next [] ys e = let same : s ≡ next = cc in ap (λ x. run max_depth x ys) same
run-append max_depth s next (b ∷ bs) ys e = by_step (step max_depth s b) refl (λ x. run-append max_depth x next bs ys)
  where
    by_step : (o : Option State) → step max_depth s b ≡ o
        → ((x : State) → run max_depth x bs ≡ Some next → run max_depth x (bs ++ ys) ≡ run max_depth next ys)
        → run max_depth s ((b ∷ bs) ++ ys) ≡ run max_depth next ys
    by_step None h later =
        let none : run max_depth s (b ∷ bs) ≡ None = ap (λ o. go_on o (λ x. run max_depth x bs)) h in cc
    by_step (Some x) h later =
        run-cons max_depth s x b (bs ++ ys) h ∙ later x (sym (run-cons max_depth s x b bs h) ∙ e)

-- one byte that is kept
pub run-push : (max_depth : ℕ) (levels : Levels) (token next : AtomState) (bytes : List ℕ) (b : ℕ) (rest : List ℕ)
    → lex token b ≡ Push next
    → run max_depth (At token bytes levels) (b ∷ rest) ≡ run max_depth (At next (bytes ++ b ∷ []) levels) rest
run-push max_depth levels token next bytes b rest e =
    run-cons max_depth (At token bytes levels) (At next (bytes ++ b ∷ []) levels) b rest
    (step-at max_depth (At token bytes levels) b (Push next) e)

-- bytes that are kept, one after another
pub run-pushes : (max_depth : ℕ) (levels : Levels) (test : ℕ → Bool) (token : AtomState)
    → ((b : ℕ) → test b ≡ true → lex token b ≡ Push token) → (bytes bs rest : List ℕ) → ZeroOrMore test bs
    → run max_depth (At token bytes levels) (bs ++ rest) ≡ run max_depth (At token (bytes ++ bs) levels) rest
run-pushes max_depth levels test token goes bytes [] rest h =
    ap (λ x. run max_depth (At token x levels) rest) (sym (append-nil bytes))
run-pushes max_depth levels test token goes bytes (b ∷ bs) rest h =
    run-push max_depth levels token token bytes b (bs ++ rest) (goes b h.0)
    ∙ run-pushes max_depth levels test token goes (bytes ++ b ∷ []) bs rest h.1 ∙ ap
    (λ x. run max_depth (At token x levels) rest) (append_assoc bytes (b ∷ []) bs)

-- the first of them by another step
run-some : (max_depth : ℕ) (levels : Levels) (test : ℕ → Bool) (token next : AtomState)
    → ((b : ℕ) → test b ≡ true → lex token b ≡ Push next) → ((b : ℕ) → test b ≡ true → lex next b ≡ Push next)
    → (bytes bs rest : List ℕ) → OneOrMore test bs
    → run max_depth (At token bytes levels) (bs ++ rest) ≡ run max_depth (At next (bytes ++ bs) levels) rest
run-some max_depth levels test token next first goes bytes [] rest h = absurd h
run-some max_depth levels test token next first goes bytes (b ∷ bs) rest h =
    run-push max_depth levels token next bytes b (bs ++ rest) (first b h.0)
    ∙ run-pushes max_depth levels test next goes (bytes ++ b ∷ []) bs rest h.1 ∙ ap
    (λ x. run max_depth (At next x levels) rest) (append_assoc bytes (b ∷ []) bs)

-- what must follow in a state: where a token has begun, its end
abbrev pub Rests : State → List ℕ → Type 0
Rests (At token bytes levels) text = ((token ≡ Nothing) × (bytes ≡ [])) ⊎ (MayBeEnded token × EndsToken text)

-- a byte that shows the end of a token
step-separated : (max_depth : ℕ) (token : AtomState) (bytes : List ℕ) (levels : Levels) (b : ℕ) (bs : List ℕ)
    → Rests (At token bytes levels) (b ∷ bs) → ends_token b ≡ true
    → step max_depth (At token bytes levels) b ≡ move max_depth (separated b) (At token bytes levels) b
step-separated max_depth token bytes levels b bs (inl e) h =
    step-at max_depth (At token bytes levels) b (separated b) (ap (λ x. lex x b) e.0 ∙ lex_ended Nothing b tt h)
step-separated max_depth token bytes levels b bs (inr m) h =
    step-at max_depth (At token bytes levels) b (separated b) (lex_ended token b m.0 h)

step-white : (max_depth : ℕ) (s : State) (b : ℕ) (bs : List ℕ) → is_white b ≡ true → Rests s (b ∷ bs)
    → step max_depth s b ≡ Some (At Nothing [] (flush s))
step-white max_depth (At token bytes levels) b bs h r =
    step-separated max_depth token bytes levels b bs r (white_ends b h) ∙ ap
    (λ x. move max_depth x (At token bytes levels) b) (white_separates b h)

step-semicolon : (max_depth : ℕ) (s : State) (bs : List ℕ) → Rests s (semicolon ∷ bs)
    → step max_depth s semicolon ≡ Some (At InComment [] (flush s))
step-semicolon max_depth (At token bytes levels) bs r =
    step-separated max_depth token bytes levels semicolon bs r refl

-- a comment is passed over
pub run-comment : (max_depth : ℕ) (levels : Levels) (body rest : List ℕ) → ZeroOrMore is_comment_byte body
    → run max_depth (At InComment [] levels) (body ++ rest) ≡ run max_depth (At InComment [] levels) rest
run-comment max_depth levels [] rest h = refl
run-comment max_depth levels (b ∷ body) rest h =
    run-cons max_depth (At InComment [] levels) (At InComment [] levels) b (body ++ rest)
    (step-at max_depth (At InComment [] levels) b (Skip InComment) (skip_comment b h.0))
    ∙ run-comment max_depth levels body rest h.1

comment-begun : (max_depth : ℕ) (s : State) (comment rest : List ℕ) → IsComment comment
    → Rests s (comment ++ rest) → run max_depth s (comment ++ rest) ≡ run max_depth (At InComment [] (flush s)) rest
comment-begun max_depth s comment rest h r =
    ap (λ x. run max_depth s (x ++ rest)) h.1
    ∙ run-cons max_depth s (At InComment [] (flush s)) semicolon (h.0 ++ rest)
    (step-semicolon max_depth s (h.0 ++ rest) (subst (λ x. Rests s (x ++ rest)) h.1 r))
    ∙ run-comment max_depth (flush s) h.0 rest h.2

after-separator : (max_depth : ℕ) (s : State) (part text : List ℕ) → IsSeparator part → Rests s (part ++ text)
    → run max_depth s (part ++ text) ≡ run max_depth (At Nothing [] (flush s)) text
after-separator max_depth s part text (inl h) r =
    ap (λ x. run max_depth s (x ++ text)) h.1
    ∙ run-cons max_depth s (At Nothing [] (flush s)) h.0 text
    (step-white max_depth s h.0 text h.2 (subst (λ x. Rests s (x ++ text)) h.1 r))
after-separator max_depth s part text (inr h) r =
    let parts : part ++ text ≡ h.0 ++ (h.1 ∷ text) = ap (λ x. x ++ text) h.2 ∙ append_assoc h.0
    (h.1 ∷ []) text in
    ap (run max_depth s) parts ∙ comment-begun max_depth s h.0 (h.1 ∷ text) h.3 (subst (Rests s) parts r)
    ∙ run-cons max_depth (At InComment [] (flush s)) (At Nothing [] (flush s)) h.1 text
    (step-at max_depth (At InComment [] (flush s)) h.1 (Finish Nothing) (end_comment h.1 h.4))

run-parts : (max_depth : ℕ) (levels : Levels) (parts : List (List ℕ)) (text : List ℕ)
    → AllByRecursion IsSeparator parts
    → run max_depth (At Nothing [] levels) (joined parts ++ text) ≡ run max_depth (At Nothing [] levels) text
run-parts max_depth levels [] text h = refl
run-parts max_depth levels (part ∷ parts) text h =
    ap (run max_depth (At Nothing [] levels)) (append_assoc part (joined parts) text)
    ∙ after-separator max_depth (At Nothing [] levels) part (joined parts ++ text) h.0 (inl (refl, refl))
    ∙ run-parts max_depth levels parts text h.1

-- after the bytes that a state was given: it has these trees, and stands before the rest
pub record Reaches (max_depth : ℕ) (s : State) (text : List ℕ) (levels : Levels) (rest : List ℕ) : Type 0 where
  pub next : State
  pub runs : run max_depth s text ≡ run max_depth next rest
  pub trees : flush next ≡ levels
  pub rests : Rests next rest

after-parts : (max_depth : ℕ) (s : State) (parts : List (List ℕ)) (text : List ℕ)
    → AllByRecursion IsSeparator parts → Rests s (joined parts ++ text)
    → Reaches max_depth s (joined parts ++ text) (flush s) text
after-parts max_depth s [] text h r = record { next = s; runs = refl; trees = refl; rests = r }
after-parts max_depth s (part ∷ parts) text h r =
    let split : joined (part ∷ parts) ++ text ≡ part ++ (joined parts ++ text) = append_assoc part
    (joined parts) text in
    record {
      next = At Nothing [] (flush s);
      runs = ap (run max_depth s) split ∙ after-separator max_depth s part (joined parts ++ text) h.0
          (subst (Rests s) split r) ∙ run-parts max_depth (flush s) parts text h.1;
      trees = refl;
      rests = inl (refl, refl);
    }

after-gap : (max_depth : ℕ) (s : State) (gap text : List ℕ) → IsGap gap → Rests s (gap ++ text)
    → Reaches max_depth s (gap ++ text) (flush s) text
after-gap max_depth s gap text h r =
    subst (λ x. Reaches max_depth s (x ++ text) (flush s) text) (sym h.1)
    (after-parts max_depth s h.0 text h.2 (subst (λ x. Rests s (x ++ text)) h.1 r))

-- a numeral is read to its end
record Numbered (max_depth : ℕ) (levels : Levels) (digits rest : List ℕ) : Type 0 where
  token : AtomState
  kind : (token ≡ Zero) ⊎ (token ≡ Digits)
  runs : run max_depth (At Nothing [] levels) (digits ++ rest) ≡ run max_depth (At token digits levels) rest

run-numeral : (max_depth : ℕ) (levels : Levels) (digits rest : List ℕ) → IsNumeral digits
    → Numbered max_depth levels digits rest
run-numeral max_depth levels [] rest h = absurd h
run-numeral max_depth levels (b ∷ bs) rest (inl h) = record {
  token = Zero;
  kind = inl refl;
  runs = run-push max_depth levels Nothing Zero [] b (bs ++ rest) (ap (λ x. lex Nothing x) h.0) ∙ ap
      (λ x. run max_depth (At Zero (b ∷ []) levels) (x ++ rest)) h.1 ∙ ap
      (λ x. run max_depth (At Zero (b ∷ x) levels) rest) (sym h.1);
}
run-numeral max_depth levels (b ∷ bs) rest (inr h) = record {
  token = Digits;
  kind = inr refl;
  runs = run-push max_depth levels Nothing Digits [] b (bs ++ rest)
      (digit_begins b h.0) ∙ run-pushes max_depth levels is_digit Digits push_digit (b ∷ []) bs rest h.1;
}

take-numeral : (max_depth : ℕ) (levels : Levels) (digits rest : List ℕ) → IsNumeral digits → EndsToken rest
    → Reaches max_depth (At Nothing [] levels) (digits ++ rest) (add (Atom sexp.Numeral digits) levels) rest
take-numeral max_depth levels digits rest h ends =
    let n = run-numeral max_depth levels digits rest h in by n.token n.kind n.runs
  where
    by : (token : AtomState) → (token ≡ Zero) ⊎ (token ≡ Digits)
        → run max_depth (At Nothing [] levels) (digits ++ rest) ≡ run max_depth (At token digits levels) rest
        → Reaches max_depth (At Nothing [] levels) (digits ++ rest) (add (Atom sexp.Numeral digits) levels) rest
    by token (inl e) r = record {
      next = At Zero digits levels;
      runs = r ∙ ap (λ x. run max_depth (At x digits levels) rest) e;
      trees = refl;
      rests = inr (tt, ends);
    }
    by token (inr e) r = record {
      next = At Digits digits levels;
      runs = r ∙ ap (λ x. run max_depth (At x digits levels) rest) e;
      trees = refl;
      rests = inr (tt, ends);
    }

run-point : (max_depth : ℕ) (levels : Levels) (token : AtomState) (bytes rest : List ℕ)
    → (token ≡ Zero) ⊎ (token ≡ Digits)
    → run max_depth (At token bytes levels) (point ∷ rest)
    ≡ run max_depth (At Point (bytes ++ point ∷ []) levels) rest
run-point max_depth levels token bytes rest (inl e) =
    run-push max_depth levels token Point bytes point rest (ap (λ x. lex x point) e)
run-point max_depth levels token bytes rest (inr e) =
    run-push max_depth levels token Point bytes point rest (ap (λ x. lex x point) e)

take-decimal : (max_depth : ℕ) (levels : Levels) (text rest : List ℕ) → IsDecimal text → EndsToken rest
    → Reaches max_depth (At Nothing [] levels) (text ++ rest) (add (Atom sexp.Decimal text) levels) rest
take-decimal max_depth levels text rest h ends =
    let n = run-numeral max_depth levels h.0 (point ∷ (h.1 ++ rest)) h.3 in
    let split : text ++ rest ≡ h.0 ++ (point ∷ (h.1 ++ rest)) = ap (λ x. x ++ rest) h.2 ∙ append_assoc h.0
    (point ∷ h.1) rest in
    let all : (h.0 ++ point ∷ []) ++ h.1 ≡ text = append_assoc h.0 (point ∷ []) h.1 ∙ sym h.2 in
    record {
      next = At Fraction text levels;
      runs = ap (run max_depth (At Nothing [] levels)) split ∙ n.runs ∙ run-point max_depth levels n.token h.0
          (h.1 ++ rest) n.kind
          ∙ run-some max_depth levels is_digit Point Fraction push_first_fraction push_fraction
          (h.0 ++ point ∷ []) h.1 rest h.4
          ∙ ap (λ x. run max_depth (At Fraction x levels) rest) all;
      trees = refl;
      rests = inr (tt, ends);
    }

-- a token that begins with bytes that are not kept
take-hex : (max_depth : ℕ) (levels : Levels) (digits rest : List ℕ) → OneOrMore is_hexadecimal_digit digits
    → EndsToken rest → Reaches max_depth (At Nothing [] levels) (35 ∷ 120 ∷ (digits ++ rest))
    (add (Atom sexp.Hexadecimal digits) levels) rest
take-hex max_depth levels digits rest h ends = record {
  next = At HexDigits digits levels;
  runs =
      run-some max_depth levels is_hexadecimal_digit HexMark HexDigits push_first_hex push_hex [] digits rest h;
  trees = refl;
  rests = inr (tt, ends);
}

take-bin : (max_depth : ℕ) (levels : Levels) (digits rest : List ℕ) → OneOrMore is_binary_digit digits
    → EndsToken rest → Reaches max_depth (At Nothing [] levels) (35 ∷ 98 ∷ (digits ++ rest))
    (add (Atom sexp.Binary digits) levels) rest
take-bin max_depth levels digits rest h ends = record {
  next = At BinDigits digits levels;
  runs = run-some max_depth levels is_binary_digit BinMark BinDigits push_first_bin push_bin [] digits rest h;
  trees = refl;
  rests = inr (tt, ends);
}

take-keyword : (max_depth : ℕ) (levels : Levels) (name rest : List ℕ) → OneOrMore is_symbol_byte name
    → EndsToken rest → Reaches max_depth (At Nothing [] levels) (58 ∷ (name ++ rest))
    (add (Atom sexp.Keyword name) levels) rest
take-keyword max_depth levels name rest h ends = record {
  next = At KeywordName name levels;
  runs =
      run-some max_depth levels is_symbol_byte Colon KeywordName push_first_keyword push_keyword [] name rest h;
  trees = refl;
  rests = inr (tt, ends);
}

-- a string literal
run-doubled : (max_depth : ℕ) (levels : Levels) (bytes bs rest : List ℕ) → ZeroOrMore is_text_byte bs
    → run max_depth (At InText bytes levels) (doubled bs ++ rest)
    ≡ run max_depth (At InText (bytes ++ bs) levels) rest
run-doubled max_depth levels bytes [] rest h =
    ap (λ x. run max_depth (At InText x levels) rest) (sym (append-nil bytes))
run-doubled max_depth levels bytes (b ∷ bs) rest h =
    by (b == quote) refl (run-doubled max_depth levels (bytes ++ b ∷ []) bs rest h.1)
  where
    by : (t : Bool) → (b == quote) ≡ t
        → run max_depth (At InText (bytes ++ b ∷ []) levels) (doubled bs ++ rest)
        ≡ run max_depth (At InText ((bytes ++ b ∷ []) ++ bs) levels) rest
        → run max_depth (At InText bytes levels) (doubled (b ∷ bs) ++ rest)
        ≡ run max_depth (At InText (bytes ++ b ∷ bs) levels) rest
    by true e later =
        ap (λ t. run max_depth (At InText bytes levels)
        ((if t then b ∷ b ∷ doubled bs else b ∷ doubled bs) ++ rest)) e
        ∙ run-cons max_depth (At InText bytes levels) (At TextQuote bytes levels) b (b ∷ (doubled bs ++ rest))
        (step-at max_depth (At InText bytes levels) b (Skip TextQuote)
        (ap (λ t. if t then Skip TextQuote else if is_text_byte b then Push InText else Stuck) e))
        ∙ run-push max_depth levels TextQuote InText bytes b (doubled bs ++ rest)
        (ap (λ t. if t then Push InText else separated b) e)
        ∙ later ∙ ap (λ x. run max_depth (At InText x levels) rest) (append_assoc bytes (b ∷ []) bs)
    by false e later =
        ap (λ t. run max_depth (At InText bytes levels)
        ((if t then b ∷ b ∷ doubled bs else b ∷ doubled bs) ++ rest)) e
        ∙ run-push max_depth levels InText InText bytes b (doubled bs ++ rest) (push_text b e h.0)
        ∙ later ∙ ap (λ x. run max_depth (At InText x levels) rest) (append_assoc bytes (b ∷ []) bs)

take-text : (max_depth : ℕ) (levels : Levels) (bytes rest : List ℕ) → ZeroOrMore is_text_byte bytes
    → EndsToken rest → Reaches max_depth (At Nothing [] levels) ((quote ∷ (doubled bytes ++ quote ∷ [])) ++ rest)
    (add (Atom sexp.Text bytes) levels) rest
take-text max_depth levels bytes rest h ends = record {
  next = At TextQuote bytes levels;
  runs = ap (run max_depth (At InText [] levels))
      (append_assoc (doubled bytes) (quote ∷ []) rest) ∙ run-doubled max_depth levels [] bytes (quote ∷ rest) h;
  trees = refl;
  rests = inr (tt, ends);
}

-- a quoted symbol
pub run-barred : (max_depth : ℕ) (levels : Levels) (name rest : List ℕ) → ZeroOrMore is_quoted_byte name
    → run max_depth (At Nothing [] levels) (barred name ++ rest)
    ≡ run max_depth (At AfterBar [] (add (Atom sexp.Symbol name) levels)) rest
run-barred max_depth levels name rest h =
    ap (run max_depth (At InBars [] levels)) (append_assoc name (bar ∷ []) rest)
    ∙ run-pushes max_depth levels is_quoted_byte InBars push_quoted [] name (bar ∷ rest) h

take-barred : (max_depth : ℕ) (levels : Levels) (name rest : List ℕ) → ZeroOrMore is_quoted_byte name
    → EndsToken rest → Reaches max_depth (At Nothing [] levels) (barred name ++ rest)
    (add (Atom sexp.Symbol name) levels) rest
take-barred max_depth levels name rest h ends = record {
  next = At AfterBar [] (add (Atom sexp.Symbol name) levels);
  runs = run-barred max_depth levels name rest h;
  trees = refl;
  rests = inr (tt, ends);
}

-- the bytes of a simple symbol, or of a reserved word
abbrev pub IsName : List ℕ → Type 0
IsName [] = ⊥
IsName (b ∷ bs) = (is_letter b ≡ true) × ZeroOrMore is_symbol_byte bs

run-name : (max_depth : ℕ) (levels : Levels) (name rest : List ℕ) → IsName name
    → run max_depth (At Nothing [] levels) (name ++ rest) ≡ run max_depth (At Name name levels) rest
run-name max_depth levels [] rest h = absurd h
run-name max_depth levels (b ∷ bs) rest h =
    run-push max_depth levels Nothing Name [] b (bs ++ rest)
    (letter_begins b h.0) ∙ run-pushes max_depth levels is_symbol_byte Name push_name (b ∷ []) bs rest h.1

-- a name that is no reserved word
name_is : (o : Option Word) (bytes : List ℕ) → word_named bytes ≡ o
    → ((word : Word) → bytes ≡ spelling_of word → ⊥)
    → name_or_word (word_named bytes) bytes ≡ Atom sexp.Symbol bytes
name_is None bytes e other = ap (λ o. name_or_word o bytes) e
name_is (Some word) bytes e other = absurd (other word (find_word-some bytes all_words word e))

name_of_symbol : (name : List ℕ) → IsSimpleSymbol name → IsName name
name_of_symbol [] h = absurd h
name_of_symbol (b ∷ bs) h = (h.0, h.1)

no_word : (name : List ℕ) → IsSimpleSymbol name → (word : Word) → name ≡ spelling_of word → ⊥
no_word [] h = absurd h
no_word (b ∷ bs) h = h.2

take-symbol : (max_depth : ℕ) (levels : Levels) (name rest : List ℕ) → IsSimpleSymbol name → EndsToken rest
    → Reaches max_depth (At Nothing [] levels) (name ++ rest) (add (Atom sexp.Symbol name) levels) rest
take-symbol max_depth levels name rest h ends = record {
  next = At Name name levels;
  runs = run-name max_depth levels name rest (name_of_symbol name h);
  trees = ap (λ x. add x levels) (name_is (word_named name) name refl (no_word name h));
  rests = inr (tt, ends);
}

abbrev is_name : List ℕ → Bool
is_name [] = false
is_name (b ∷ bs) = is_letter b && list_all is_symbol_byte bs

both : (s t : Bool) → (s && t) ≡ true → (s ≡ true) × (t ≡ true)
both true t e = (refl, e)
both false t e = absurd (cc)

all_pass : (test : ℕ → Bool) (bs : List ℕ) → list_all test bs ≡ true → ZeroOrMore test bs
all_pass test [] e = tt
all_pass test (b ∷ bs) e = let h = both (test b) (list_all test bs) e in (h.0, all_pass test bs h.1)

name_by : (bytes : List ℕ) → is_name bytes ≡ true → IsName bytes
name_by [] e = absurd (cc)
name_by (b ∷ bs) e =
    let h = both (is_letter b) (list_all is_symbol_byte bs) e in (h.0, all_pass is_symbol_byte bs h.1)

letters_of : (word : Word) → IsName (spelling_of word)
letters_of words.Bang = name_by (spelling_of words.Bang) refl
letters_of words.Underscore = name_by (spelling_of words.Underscore) refl
letters_of words.As = name_by (spelling_of words.As) refl
letters_of words.Binary = name_by (spelling_of words.Binary) refl
letters_of words.Decimal = name_by (spelling_of words.Decimal) refl
letters_of words.Exists = name_by (spelling_of words.Exists) refl
letters_of words.Hexadecimal = name_by (spelling_of words.Hexadecimal) refl
letters_of words.Forall = name_by (spelling_of words.Forall) refl
letters_of words.Let = name_by (spelling_of words.Let) refl
letters_of words.Match = name_by (spelling_of words.Match) refl
letters_of words.Numeral = name_by (spelling_of words.Numeral) refl
letters_of words.Par = name_by (spelling_of words.Par) refl
letters_of words.String = name_by (spelling_of words.String) refl
letters_of words.Assert = name_by (spelling_of words.Assert) refl
letters_of words.CheckSat = name_by (spelling_of words.CheckSat) refl
letters_of words.CheckSatAssuming = name_by (spelling_of words.CheckSatAssuming) refl
letters_of words.DeclareConst = name_by (spelling_of words.DeclareConst) refl
letters_of words.DeclareDatatype = name_by (spelling_of words.DeclareDatatype) refl
letters_of words.DeclareDatatypes = name_by (spelling_of words.DeclareDatatypes) refl
letters_of words.DeclareFun = name_by (spelling_of words.DeclareFun) refl
letters_of words.DeclareSort = name_by (spelling_of words.DeclareSort) refl
letters_of words.DefineFun = name_by (spelling_of words.DefineFun) refl
letters_of words.DefineFunRec = name_by (spelling_of words.DefineFunRec) refl
letters_of words.DefineFunsRec = name_by (spelling_of words.DefineFunsRec) refl
letters_of words.DefineSort = name_by (spelling_of words.DefineSort) refl
letters_of words.Echo = name_by (spelling_of words.Echo) refl
letters_of words.Exit = name_by (spelling_of words.Exit) refl
letters_of words.GetAssertions = name_by (spelling_of words.GetAssertions) refl
letters_of words.GetAssignment = name_by (spelling_of words.GetAssignment) refl
letters_of words.GetInfo = name_by (spelling_of words.GetInfo) refl
letters_of words.GetModel = name_by (spelling_of words.GetModel) refl
letters_of words.GetOption = name_by (spelling_of words.GetOption) refl
letters_of words.GetProof = name_by (spelling_of words.GetProof) refl
letters_of words.GetUnsatAssumptions = name_by (spelling_of words.GetUnsatAssumptions) refl
letters_of words.GetUnsatCore = name_by (spelling_of words.GetUnsatCore) refl
letters_of words.GetValue = name_by (spelling_of words.GetValue) refl
letters_of words.Pop = name_by (spelling_of words.Pop) refl
letters_of words.Push = name_by (spelling_of words.Push) refl
letters_of words.Reset = name_by (spelling_of words.Reset) refl
letters_of words.ResetAssertions = name_by (spelling_of words.ResetAssertions) refl
letters_of words.SetInfo = name_by (spelling_of words.SetInfo) refl
letters_of words.SetLogic = name_by (spelling_of words.SetLogic) refl
letters_of words.SetOption = name_by (spelling_of words.SetOption) refl

take-word : (max_depth : ℕ) (levels : Levels) (word : Word) (name rest : List ℕ) → name ≡ spelling_of word
    → EndsToken rest → Reaches max_depth (At Nothing [] levels) (name ++ rest) (add (Reserved word) levels) rest
take-word max_depth levels word name rest is ends = record {
  next = At Name name levels;
  runs = run-name max_depth levels name rest (subst IsName (sym is) (letters_of word));
  trees = ap (λ o. add (name_or_word o name) levels) (ap word_named is ∙ word_named-spelling word);
  rests = inr (tt, ends);
}

-- a token other than a parenthesis begins with a byte that ends none, so that none has begun before it
abbrev BeginsToken : List ℕ → Type 0
BeginsToken [] = ⊥
BeginsToken (b ∷ bs) = ends_token b ≡ true → ⊥

pub none_begun : (s : State) (spelled rest : List ℕ) → BeginsToken spelled → Rests s (spelled ++ rest)
    → At Nothing [] (flush s) ≡ s
none_begun (At token bytes levels) [] rest h r = absurd h
none_begun (At token bytes levels) (b ∷ bs) rest h (inl e) =
    let same : At token bytes levels ≡ At Nothing [] levels = ap (λ x. At x bytes levels) e.0 ∙ ap
    (λ x. At Nothing x levels) e.1 in
    ap (λ x. At Nothing [] (flush x)) same ∙ sym same
none_begun (At token bytes levels) (b ∷ bs) rest h (inr m) = absurd (h m.1)

begins_numeral : (digits : List ℕ) → IsNumeral digits → BeginsToken digits
begins_numeral [] h = absurd h
begins_numeral (b ∷ bs) (inl h) =
    λ e. let at : ends_token zero_digit ≡ true = ap ends_token (sym h.0) ∙ e in cc
begins_numeral (b ∷ bs) (inr h) = digit_no_ender b h.0

begins_longer : (digits more : List ℕ) → BeginsToken digits → BeginsToken (digits ++ more)
begins_longer [] more h = absurd h
begins_longer (b ∷ bs) more h = h

begins_name : (name : List ℕ) → IsName name → BeginsToken name
begins_name [] h = absurd h
begins_name (b ∷ bs) h = letter_no_ender b h.0

pub no_ender : (b : ℕ) → ends_token b ≡ false → ends_token b ≡ true → ⊥
no_ender b e f = cc

after-parenthesis : (max_depth : ℕ) (s : State) (b : ℕ) (spelled rest : List ℕ) (levels : Levels)
    → spelled ≡ b ∷ [] → step max_depth s b ≡ Some (At Nothing [] levels)
    → Reaches max_depth s (spelled ++ rest) levels rest
after-parenthesis max_depth s b spelled rest levels is e = record {
  next = At Nothing [] levels;
  runs = ap (λ x. run max_depth s (x ++ rest)) is ∙ run-cons max_depth s (At Nothing [] levels) b rest e;
  trees = refl;
  rests = inl (refl, refl);
}

step-open : (max_depth : ℕ) (s : State) (spelled rest : List ℕ) (levels : Levels) → spelled ≡ 40 ∷ []
    → Rests s (spelled ++ rest) → act max_depth OpenParenthesis (flush s) ≡ Some levels
    → step max_depth s 40 ≡ Some (At Nothing [] levels)
step-open max_depth (At token bytes at) spelled rest levels is r e =
    step-separated max_depth token bytes at 40 rest
    (subst (λ x. Rests (At token bytes at) (x ++ rest)) is r) refl ∙ ap settle e

pub step-close : (max_depth : ℕ) (s : State) (spelled rest : List ℕ) (levels : Levels) → spelled ≡ 41 ∷ []
    → Rests s (spelled ++ rest) → act max_depth CloseParenthesis (flush s) ≡ Some levels
    → step max_depth s 41 ≡ Some (At Nothing [] levels)
step-close max_depth (At token bytes at) spelled rest levels is r e =
    step-separated max_depth token bytes at 41 rest
    (subst (λ x. Rests (At token bytes at) (x ++ rest)) is r) refl ∙ ap settle e

-- a token other than a parenthesis, read where none has begun
moved : (max_depth : ℕ) (s : State) (x : Sexp) (spelled written rest : List ℕ) (levels : Levels)
    → spelled ≡ written → BeginsToken written → Rests s (spelled ++ rest)
    → Some (add x (flush s)) ≡ Some levels
    → Reaches max_depth (At Nothing [] (flush s)) (written ++ rest) (add x (flush s)) rest
    → Reaches max_depth s (spelled ++ rest) levels rest
moved max_depth s x spelled written rest levels is begins r e t =
    let at : At Nothing [] (flush s) ≡ s = none_begun s written rest begins
    (subst (λ y. Rests s (y ++ rest)) is r) in
    let same : add x (flush s) ≡ levels = cc in
    record {
      next = t.next;
      runs = ap (λ y. run max_depth s (y ++ rest)) is ∙ ap (λ y. run max_depth y (written ++ rest)) (sym at) ∙ t.runs;
      trees = t.trees ∙ same;
      rests = t.rests;
    }

-- a token does to a state what it does to its trees
pub after-token : (max_depth : ℕ) (s : State) (token : Token) (spelled rest : List ℕ) (levels : Levels)
    → IsSpelling token spelled → IsApart token rest → Rests s (spelled ++ rest)
    → act max_depth token (flush s) ≡ Some levels → Reaches max_depth s (spelled ++ rest) levels rest
after-token max_depth s OpenParenthesis spelled rest levels is apart r e =
    after-parenthesis max_depth s 40 spelled rest levels is (step-open max_depth s spelled rest levels is r e)
after-token max_depth s CloseParenthesis spelled rest levels is apart r e =
    after-parenthesis max_depth s 41 spelled rest levels is (step-close max_depth s spelled rest levels is r e)
after-token max_depth s (WordToken word) spelled rest levels is apart r e =
    moved max_depth s (Reserved word) spelled spelled rest levels refl
    (begins_name spelled (subst IsName (sym is) (letters_of word))) r e
    (take-word max_depth (flush s) word spelled rest is apart)
after-token max_depth s (AtomToken sexp.Numeral digits) spelled rest levels is apart r e =
    moved max_depth s (Atom sexp.Numeral digits) spelled digits rest levels is.0 (begins_numeral digits is.1) r e
    (take-numeral max_depth (flush s) digits rest is.1 apart)
after-token max_depth s (AtomToken sexp.Decimal bytes) spelled rest levels is apart r e =
    moved max_depth s (Atom sexp.Decimal bytes) spelled bytes rest levels is.0
    (subst BeginsToken (sym is.1.2)
    (begins_longer is.1.0 (point ∷ is.1.1) (begins_numeral is.1.0 is.1.3))) r e
    (take-decimal max_depth (flush s) bytes rest is.1 apart)
after-token max_depth s (AtomToken sexp.Hexadecimal digits) spelled rest levels is apart r e =
    moved max_depth s (Atom sexp.Hexadecimal digits) spelled (35 ∷ 120 ∷ digits) rest levels is.0
    (no_ender 35 refl) r e (take-hex max_depth (flush s) digits rest is.1 apart)
after-token max_depth s (AtomToken sexp.Binary digits) spelled rest levels is apart r e =
    moved max_depth s (Atom sexp.Binary digits) spelled (35 ∷ 98 ∷ digits) rest levels is.0 (no_ender 35 refl) r e
    (take-bin max_depth (flush s) digits rest is.1 apart)
after-token max_depth s (AtomToken sexp.Text bytes) spelled rest levels is apart r e =
    moved max_depth s (Atom sexp.Text bytes) spelled (quote ∷ (doubled bytes ++ quote ∷ [])) rest levels is.0
    (no_ender quote refl) r e (take-text max_depth (flush s) bytes rest is.1 apart)
after-token max_depth s (AtomToken sexp.Keyword name) spelled rest levels is apart r e =
    moved max_depth s (Atom sexp.Keyword name) spelled (58 ∷ name) rest levels is.0 (no_ender 58 refl) r e
    (take-keyword max_depth (flush s) name rest is.1 apart)
after-token max_depth s (AtomToken sexp.Symbol name) spelled rest levels (inl is) apart r e =
    moved max_depth s (Atom sexp.Symbol name) spelled name rest levels is.0
    (begins_name name (name_of_symbol name is.1)) r e (take-symbol max_depth (flush s) name rest is.1 apart)
after-token max_depth s (AtomToken sexp.Symbol name) spelled rest levels (inr is) apart r e =
    moved max_depth s (Atom sexp.Symbol name) spelled (barred name) rest levels is.0 (no_ender bar refl) r e
    (take-barred max_depth (flush s) name rest is.1 apart)

-- what tokens do to the trees
abbrev pub act_next : Option Levels → (Levels → Option Levels) → Option Levels
act_next None f = None
act_next (Some levels) f = f levels

abbrev pub acts : ℕ → List Token → Levels → Option Levels
acts max_depth [] levels = Some levels
acts max_depth (token ∷ tokens) levels = act_next (act max_depth token levels) (λ next. acts max_depth tokens next)

-- a text of tokens does what they do, up to its rest
pub record Arrives (max_depth : ℕ) (Last : List ℕ → Type 0) (s : State) (text : List ℕ)
    (levels : Levels) : Type 0 where
  pub rest : List ℕ
  pub last : Last rest
  pub reaches : Reaches max_depth s text levels rest

pub arrives : (max_depth : ℕ) (Last : List ℕ → Type 0) (tokens : List Token) (text : List ℕ) (s : State)
    (levels : Levels) → IsTextThen Last tokens text → Rests s text → acts max_depth tokens (flush s) ≡ Some levels
    → Arrives max_depth Last s text levels
arrives max_depth Last [] text s levels h r e =
    let g = after-gap max_depth s h.0 h.1 h.3 (subst (Rests s) h.2 r) in
    let same : flush s ≡ levels = cc in
    record {
      rest = h.1;
      last = h.4;
      reaches = record {
        next = g.next;
        runs = ap (run max_depth s) h.2 ∙ g.runs;
        trees = g.trees ∙ same;
        rests = g.rests;
      };
    }
arrives max_depth Last (token ∷ tokens) text s levels h r e =
    by_act (act max_depth token (flush s)) refl (λ rest next. arrives max_depth Last tokens rest next levels)
  where
    by_act : (o : Option Levels) → act max_depth token (flush s) ≡ o
        → ((rest : List ℕ) (next : State) → IsTextThen Last tokens rest → Rests next rest
        → acts max_depth tokens (flush next) ≡ Some levels → Arrives max_depth Last next rest levels)
        → Arrives max_depth Last s text levels
    by_act None a later = let none : acts max_depth (token ∷ tokens) (flush s)
        ≡ None = ap (λ o. act_next o (λ next. acts max_depth tokens next)) a in absurd (cc)
    by_act (Some nearer) a later =
        let g = after-gap max_depth s h.0 (h.1 ++ h.2) h.4 (subst (Rests s) h.3 r) in
        let t = after-token max_depth g.next token h.1 h.2 nearer h.5 h.6 g.rests
        (ap (act max_depth token) g.trees ∙ a) in
        let rest_acts : acts max_depth tokens nearer ≡ Some levels = sym
        (ap (λ o. act_next o (λ next. acts max_depth tokens next)) a) ∙ e in
        let end = later h.2 t.next h.7 t.rests (ap (acts max_depth tokens) t.trees ∙ rest_acts) in
        let way : run max_depth s text ≡ run max_depth end.reaches.next end.rest = ap
        (run max_depth s) h.3 ∙ g.runs ∙ t.runs ∙ end.reaches.runs in
        record {
          rest = end.rest;
          last = end.last;
          reaches = record {
            next = end.reaches.next;
            runs = way;
            trees = end.reaches.trees;
            rests = end.reaches.rests;
          };
        }

-- the end of a text
pub record Ends (max_depth : ℕ) (s : State) (text : List ℕ) (levels : Levels) : Type 0 where
  pub next : State
  pub runs : run max_depth s text ≡ Some next
  pub trees : flush next ≡ levels
  pub whole : may_end (token_in next) ≡ true

pub may_be_ended_ends : (token : AtomState) → MayBeEnded token → may_end token ≡ true
may_be_ended_ends Nothing m = refl
may_be_ended_ends Zero m = refl
may_be_ended_ends Digits m = refl
may_be_ended_ends Fraction m = refl
may_be_ended_ends HexDigits m = refl
may_be_ended_ends BinDigits m = refl
may_be_ended_ends Name m = refl
may_be_ended_ends KeywordName m = refl
may_be_ended_ends TextQuote m = refl
may_be_ended_ends AfterBar m = refl
may_be_ended_ends Point m = absurd m
may_be_ended_ends Hash m = absurd m
may_be_ended_ends HexMark m = absurd m
may_be_ended_ends BinMark m = absurd m
may_be_ended_ends Colon m = absurd m
may_be_ended_ends InText m = absurd m
may_be_ended_ends InBars m = absurd m
may_be_ended_ends InComment m = absurd m

rests_end : (s : State) (text : List ℕ) → Rests s text → may_end (token_in s) ≡ true
rests_end (At token bytes levels) text (inl e) = ap may_end e.0
rests_end (At token bytes levels) text (inr m) = may_be_ended_ends token m.0

ends_after : (max_depth : ℕ) (s : State) (rest : List ℕ) → IsTextEnd rest → Rests s rest
    → Ends max_depth s rest (flush s)
ends_after max_depth s rest (inl e) r =
    record { next = s; runs = ap (run max_depth s) e; trees = refl; whole = rests_end s rest r }
ends_after max_depth s rest (inr h) r =
    let all : rest ++ [] ≡ rest = append-nil rest in
    record {
      next = At InComment [] (flush s);
      runs = ap (run max_depth s) (sym all) ∙ comment-begun max_depth s rest [] h (subst (Rests s) (sym all) r);
      trees = refl;
      whole = refl;
    }

-- trees side by side at the innermost place
abbrev pub extend : Sexps → Levels → Levels
extend xs (On [] top) = On [] (append top xs)
extend xs (On (parts ∷ lists) top) = On (append parts xs ∷ lists) top

extend_none : (levels : Levels) → extend Nil levels ≡ levels
extend_none (On [] top) = ap (λ x. On [] x) (append_nil top)
extend_none (On (parts ∷ lists) top) = ap (λ x. On (x ∷ lists) top) (append_nil parts)

extend_more : (x : Sexp) (xs : Sexps) (levels : Levels) → extend xs (add x levels) ≡ extend (Cons x xs) levels
extend_more x xs (On [] top) = ap (λ z. On [] z) (sexps_assoc top (Cons x Nil) xs)
extend_more x xs (On (parts ∷ lists) top) = ap (λ z. On (z ∷ lists) top) (sexps_assoc parts (Cons x Nil) xs)

pub depth_of-add : (x : Sexp) (levels : Levels) → depth_of (add x levels) ≡ depth_of levels
depth_of-add x (On [] top) = refl
depth_of-add x (On (parts ∷ lists) top) = refl

acts-open : (max_depth : ℕ) (tokens : List Token) (lists : List Sexps) (top : Sexps) → length lists < max_depth
    → acts max_depth (OpenParenthesis ∷ tokens) (On lists top) ≡ acts max_depth tokens (On (Nil ∷ lists) top)
acts-open max_depth tokens lists top h = rw (lt-ltb (length lists) max_depth h) refl

-- the tokens of trees add them, where lists may nest so deep
mutual
  pub acts-tree : (max_depth : ℕ) (x : Sexp) (later : List Token) (levels : Levels)
      → depth x + depth_of levels ≤ max_depth
      → acts max_depth (tokens_of x later) levels ≡ acts max_depth later (add x levels)
  acts-tree max_depth (Atom kind bytes) later levels h = refl
  acts-tree max_depth (Reserved word) later levels h = refl
  acts-tree max_depth (Items parts) later (On lists top) h =
      acts-open max_depth (tokens_of_all parts (CloseParenthesis ∷ later)) lists top (omega arith)
      ∙ acts-trees max_depth parts (CloseParenthesis ∷ later) (On (Nil ∷ lists) top) (omega arith)

  pub acts-trees : (max_depth : ℕ) (xs : Sexps) (later : List Token) (levels : Levels)
      → depth_all xs + depth_of levels ≤ max_depth
      → acts max_depth (tokens_of_all xs later) levels ≡ acts max_depth later (extend xs levels)
  acts-trees max_depth Nil later levels h = ap (acts max_depth later) (sym (extend_none levels))
  acts-trees max_depth (Cons x xs) later levels h =
      acts-tree max_depth x (tokens_of_all xs later) levels (omega arith)
      ∙ acts-trees max_depth xs later (add x levels) (omega (arith, depth_of-add x levels))
      ∙ ap (acts max_depth later) (extend_more x xs levels)

-- a text of trees runs to them
pub reads-forest : (max_depth : ℕ) (text : List ℕ) (xs : Sexps) → Forest max_depth text xs
    → Ends max_depth start text (On [] xs)
reads-forest max_depth text xs h =
    let a = arrives max_depth IsTextEnd (tokens_of_all xs []) text start (On [] xs) h.tokens (inl (refl, refl))
    (acts-trees max_depth xs [] (On [] Nil) (omega (arith, h.shallow))) in
    let e = ends_after max_depth a.reaches.next a.rest a.last a.reaches.rests in
    record {
      next = e.next;
      runs = a.reaches.runs ∙ e.runs;
      trees = e.trees ∙ a.reaches.trees;
      whole = e.whole;
    }
