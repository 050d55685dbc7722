-- SMT-LIB 2.6, sections 3.1 and 3.2: texts, as tokens with white space and comments between them, and the
-- trees of a text. This project's rules are that two neighbouring tokens, neither a parenthesis, need white
-- space or a comment between them, that a comment may end with the text and may have any bytes, and that
-- lists nest no deeper than a max_depth.
use Rattle.std.specs.Prelude.{◌≡◌, ◌≢◌, ◌⊎◌, ◌≤◌, ℕ, Bool, true, List, [], ◌∷◌, ◌++◌, codes, ◌==◌}
use Rattle.std.specs.Prelude.{if◌then◌else◌}
use Rattle.std.specs.List.{AllByRecursion}
use Rattle.smt_text.specs.Lexical.{quote, bar, semicolon, point, zero_digit, is_white, is_line_end, is_digit}
use Rattle.smt_text.specs.Lexical.{is_nonzero_digit, is_hexadecimal_digit, is_binary_digit, is_letter}
use Rattle.smt_text.specs.Lexical.{is_symbol_byte, is_text_byte, is_quoted_byte, is_comment_byte, ends_token}
use Rattle.smt_trees.specs.Reserved.{spelling_of}
use Rattle.smt_trees.specs.Sexp.{AtomKind, Numeral, Decimal, Hexadecimal, Binary, Text, Symbol, Keyword, Sexp}
use Rattle.smt_trees.specs.Sexp.{Sexps, Atom, Reserved, Items, Nil, Cons, depth_all}
use Rattle.smt_text.specs.declared.reader.TheConstants.{MAX_DEPTH}
use Rattle.smt_trees.specs.declared.reserved.Word.{Word}

-- how deep lists may nest in a text that is at hand as a whole, a list at the top being at depth 1
abbrev pub max_depth : ℕ
max_depth = MAX_DEPTH

-- a token: a parenthesis, an atom with what it says, or a reserved word
pub data Token : Type 0 where
  OpenParenthesis : Token
  CloseParenthesis : Token
  AtomToken : (kind : AtomKind) → (bytes : List ℕ) → Token
  WordToken : (word : Word) → Token

-- bytes that pass a test
abbrev pub ZeroOrMore : (ℕ → Bool) → List ℕ → Type 0
ZeroOrMore test bytes = AllByRecursion (λ b. test b ≡ true) bytes

abbrev pub OneOrMore : (ℕ → Bool) → List ℕ → Type 0
OneOrMore test [] = ⊥
OneOrMore test (b ∷ bs) = (test b ≡ true) × ZeroOrMore test bs

-- `0`, or digits that don't start with `0`
abbrev pub IsNumeral : List ℕ → Type 0
IsNumeral [] = ⊥
IsNumeral (b ∷ bs) = ((b ≡ zero_digit) × (bs ≡ [])) ⊎ ((is_nonzero_digit b ≡ true) × ZeroOrMore is_digit bs)

-- a numeral, a point and digits
abbrev pub IsDecimal : List ℕ → Type 0
IsDecimal text =
    (whole : List ℕ) × (fraction : List ℕ) × (text ≡ whole ++ point ∷ fraction) × IsNumeral whole
    × OneOrMore is_digit fraction

-- bytes of symbols that don't start with a digit and are no reserved word
abbrev pub IsSimpleSymbol : List ℕ → Type 0
IsSimpleSymbol [] = ⊥
IsSimpleSymbol (b ∷ bs) =
    (is_letter b ≡ true) × ZeroOrMore is_symbol_byte bs × ((word : Word) → b ∷ bs ≢ spelling_of word)

-- each quote is written twice
abbrev pub doubled : List ℕ → List ℕ
doubled [] = []
doubled (b ∷ bs) = if b == quote then b ∷ b ∷ doubled bs else b ∷ doubled bs

-- the name between bars
abbrev pub barred : List ℕ → List ℕ
barred name = bar ∷ (name ++ bar ∷ [])

-- how a token may be written
abbrev pub IsSpelling : Token → List ℕ → Type 0
IsSpelling OpenParenthesis text = text ≡ codes "("
IsSpelling CloseParenthesis text = text ≡ codes ")"
IsSpelling (WordToken word) text = text ≡ spelling_of word
IsSpelling (AtomToken Numeral digits) text = (text ≡ digits) × IsNumeral digits
IsSpelling (AtomToken Decimal bytes) text = (text ≡ bytes) × IsDecimal bytes
IsSpelling (AtomToken Hexadecimal digits) text =
    (text ≡ codes "#x" ++ digits) × OneOrMore is_hexadecimal_digit digits
IsSpelling (AtomToken Binary digits) text = (text ≡ codes "#b" ++ digits) × OneOrMore is_binary_digit digits
IsSpelling (AtomToken Text bytes) text =
    (text ≡ quote ∷ (doubled bytes ++ quote ∷ [])) × ZeroOrMore is_text_byte bytes
IsSpelling (AtomToken Symbol name) text =
    ((text ≡ name) × IsSimpleSymbol name) ⊎ ((text ≡ barred name) × ZeroOrMore is_quoted_byte name)
IsSpelling (AtomToken Keyword name) text = (text ≡ codes ":" ++ name) × OneOrMore is_symbol_byte name

-- a comment, without the end of its line
abbrev pub IsComment : List ℕ → Type 0
IsComment text = (body : List ℕ) × (text ≡ semicolon ∷ body) × ZeroOrMore is_comment_byte body

-- one byte of white space, or a comment with the end of its line
abbrev pub IsSeparator : List ℕ → Type 0
IsSeparator text =
    ((b : ℕ) × (text ≡ b ∷ []) × (is_white b ≡ true))
    ⊎ ((comment : List ℕ) × (b : ℕ) × (text ≡ comment ++ b ∷ []) × IsComment comment
    × (is_line_end b ≡ true))

-- texts one after another
abbrev pub joined : List (List ℕ) → List ℕ
joined [] = []
joined (text ∷ texts) = text ++ joined texts

-- any number of separators
abbrev pub IsGap : List ℕ → Type 0
IsGap text = (parts : List (List ℕ)) × (text ≡ joined parts) × AllByRecursion IsSeparator parts

-- a token ends here: with the text, or before a byte that shows it
abbrev pub EndsToken : List ℕ → Type 0
EndsToken [] = Unit {0}
EndsToken (b ∷ bs) = ends_token b ≡ true

-- what follows a token leaves it apart from the next one
abbrev pub IsApart : Token → List ℕ → Type 0
IsApart OpenParenthesis rest = Unit {0}
IsApart CloseParenthesis rest = Unit {0}
IsApart (AtomToken kind bytes) rest = EndsToken rest
IsApart (WordToken word) rest = EndsToken rest

-- the text is these tokens, with a gap before each, then a gap, and then such a rest
abbrev pub IsTextThen : (List ℕ → Type 0) → List Token → List ℕ → Type 0
IsTextThen Last [] text = (gap : List ℕ) × (rest : List ℕ) × (text ≡ gap ++ rest) × IsGap gap × Last rest
IsTextThen Last (token ∷ tokens) text =
    (gap : List ℕ) × (spelled : List ℕ) × (rest : List ℕ) × (text ≡ gap ++ (spelled ++ rest)) × IsGap gap
    × IsSpelling token spelled × IsApart token rest × IsTextThen Last tokens rest

-- nothing, or a comment that ends with the text
abbrev pub IsTextEnd : List ℕ → Type 0
IsTextEnd rest = (rest ≡ []) ⊎ IsComment rest

-- the text is tokens and gaps in turn
abbrev pub IsText : List Token → List ℕ → Type 0
IsText tokens text = IsTextThen IsTextEnd tokens text

-- the tokens of a tree, or of trees side by side, and then those that come later
abbrev mutual
  pub tokens_of : Sexp → List Token → List Token
  tokens_of (Atom kind bytes) later = AtomToken kind bytes ∷ later
  tokens_of (Reserved word) later = WordToken word ∷ later
  tokens_of (Items parts) later = OpenParenthesis ∷ tokens_of_all parts (CloseParenthesis ∷ later)

  pub tokens_of_all : Sexps → List Token → List Token
  tokens_of_all Nil later = later
  tokens_of_all (Cons x xs) later = tokens_of x (tokens_of_all xs later)

-- the text is that of the trees, and no list of them is deeper than the max_depth
pub record Forest (max_depth : ℕ) (text : List ℕ) (trees : Sexps) : Type 0 where
  pub tokens : IsText (tokens_of_all trees []) text
  pub shallow : depth_all trees ≤ max_depth
