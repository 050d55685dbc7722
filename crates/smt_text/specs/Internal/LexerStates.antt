-- How a reader goes over a text, byte by byte. Proofs and private contracts name this; what a text means is
-- in Grammar and Reading.
use Rattle.std.specs.Prelude.{◌≡◌, ◌==◌, ◌&&◌, ℕ, Bool, true, false, List, [], ◌∷◌, ◌++◌, length, Option}
use Rattle.std.specs.Prelude.{Some, None, nat_lt, if◌then◌else◌}
use Rattle.std.specs.Str.{bytes_eq}
use Rattle.smt_text.specs.Grammar.{Token, OpenParenthesis, CloseParenthesis, AtomToken, WordToken}
use Rattle.smt_text.specs.Lexical.{quote, bar, semicolon, point, zero_digit, open_parenthesis}
use Rattle.smt_text.specs.Lexical.{close_parenthesis, is_white, is_digit, is_nonzero_digit}
use Rattle.smt_text.specs.Lexical.{is_hexadecimal_digit, is_binary_digit, is_letter, is_symbol_byte}
use Rattle.smt_text.specs.Lexical.{is_text_byte, is_quoted_byte, is_comment_byte}
use Rattle.smt_trees.specs.Reserved.{spelling_of, all_words}
use Rattle.smt_trees.specs.Sexp as sexp
use Rattle.smt_trees.specs.Sexp.{Sexp, Sexps, Atom, Reserved, Items, Nil, Cons, append}
use Rattle.smt_text.specs.declared.lexer.AtomState.{AtomState}
use Rattle.smt_text.specs.declared.lexer.AtomState.TheVariants.{Nothing, Zero, Digits, Point, Fraction, Hash}
use Rattle.smt_text.specs.declared.lexer.AtomState.TheVariants.{HexMark, HexDigits, BinMark, BinDigits, Name}
use Rattle.smt_text.specs.declared.lexer.AtomState.TheVariants.{Colon, KeywordName, InText, TextQuote, InBars}
use Rattle.smt_text.specs.declared.lexer.AtomState.TheVariants.{AfterBar, InComment}
use Rattle.smt_text.specs.declared.lexer.LexerStep.{LexerStep}
use Rattle.smt_text.specs.declared.lexer.LexerStep.TheVariants.{Push, Skip, Finish, Open, Close, Stuck}
use Rattle.smt_trees.specs.declared.reserved.Word.{Word}
use Rattle.smt_trees.specs.declared.reserved.Word.TheVariants as words
use Rattle.smt_faults.specs.declared.text_flaw.TextFlaw.{TextFlaw}
use Rattle.smt_faults.specs.declared.text_flaw.TextFlaw.TheVariants.{Byte, Deep}
use Rattle.smt_text.specs.declared.refusal.Refusal.{Refusal}
use Rattle.smt_text.specs.declared.refusal.Refusal.TheVariants.{Unfit, TooDeep}

-- the trees so far: those of each list that is not closed, the innermost list first, and those at the top
pub data Levels : Type 0 where
  On : (lists : List Sexps) → (top : Sexps) → Levels

-- the token that has begun, what it says so far, and the trees before it
pub data State : Type 0 where
  At : (token : AtomState) → (bytes : List ℕ) → (levels : Levels) → State

-- before any byte
abbrev pub start : State
start = At Nothing [] (On [] Nil)

-- one more tree at the innermost place
abbrev pub add : Sexp → Levels → Levels
add x (On [] top) = On [] (append top (Cons x Nil))
add x (On (parts ∷ lists) top) = On (append parts (Cons x Nil) ∷ lists) top

-- the first of the words that is written so
abbrev pub find_word : List ℕ → List Word → Option Word
find_word bytes [] = None
find_word bytes (word ∷ words) =
    if bytes_eq (spelling_of word) bytes then Some word else find_word bytes words

-- the reserved word that is written so
abbrev pub word_named : List ℕ → Option Word
word_named bytes = find_word bytes all_words

-- the reserved words that are written with so many bytes and begin with this one
abbrev pub words_like : ℕ → ℕ → List Word
words_like n b =
    if n == 1 && b == 33 then words.Bang ∷ []
    else if n == 1 && b == 95 then words.Underscore ∷ []
    else if n == 2 && b == 97 then words.As ∷ []
    else if n == 3 && b == 108 then words.Let ∷ []
    else if n == 3 && b == 112 then words.Par ∷ words.Pop ∷ []
    else if n == 4 && b == 101 then words.Echo ∷ words.Exit ∷ []
    else if n == 4 && b == 112 then words.Push ∷ []
    else if n == 5 && b == 109 then words.Match ∷ []
    else if n == 5 && b == 114 then words.Reset ∷ []
    else if n == 6 && b == 66 then words.Binary ∷ []
    else if n == 6 && b == 83 then words.String ∷ []
    else if n == 6 && b == 97 then words.Assert ∷ []
    else if n == 6 && b == 101 then words.Exists ∷ []
    else if n == 6 && b == 102 then words.Forall ∷ []
    else if n == 7 && b == 68 then words.Decimal ∷ []
    else if n == 7 && b == 78 then words.Numeral ∷ []
    else if n == 8 && b == 103 then words.GetInfo ∷ []
    else if n == 8 && b == 115 then words.SetInfo ∷ []
    else if n == 9 && b == 99 then words.CheckSat ∷ []
    else if n == 9 && b == 103 then words.GetModel ∷ words.GetProof ∷ words.GetValue ∷ []
    else if n == 9 && b == 115 then words.SetLogic ∷ []
    else if n == 10 && b == 100 then words.DefineFun ∷ []
    else if n == 10 && b == 103 then words.GetOption ∷ []
    else if n == 10 && b == 115 then words.SetOption ∷ []
    else if n == 11 && b == 72 then words.Hexadecimal ∷ []
    else if n == 11 && b == 100 then words.DeclareFun ∷ words.DefineSort ∷ []
    else if n == 12 && b == 100 then words.DeclareSort ∷ []
    else if n == 13 && b == 100 then words.DeclareConst ∷ []
    else if n == 14 && b == 100 then words.DefineFunRec ∷ []
    else if n == 14 && b == 103 then words.GetAssertions ∷ words.GetAssignment ∷ words.GetUnsatCore ∷ []
    else if n == 15 && b == 100 then words.DefineFunsRec ∷ []
    else if n == 16 && b == 100 then words.DeclareDatatype ∷ []
    else if n == 16 && b == 114 then words.ResetAssertions ∷ []
    else if n == 17 && b == 100 then words.DeclareDatatypes ∷ []
    else if n == 18 && b == 99 then words.CheckSatAssuming ∷ []
    else if n == 21 && b == 103 then words.GetUnsatAssumptions ∷ []
    else []

abbrev pub name_or_word : Option Word → List ℕ → Sexp
name_or_word None bytes = Atom sexp.Symbol bytes
name_or_word (Some word) bytes = Reserved word

-- the atom that the token is if it ends here. A symbol in bars is among the trees before its end is left
abbrev pub atom_of : AtomState → List ℕ → Option Sexp
atom_of Zero bytes = Some (Atom sexp.Numeral bytes)
atom_of Digits bytes = Some (Atom sexp.Numeral bytes)
atom_of Fraction bytes = Some (Atom sexp.Decimal bytes)
atom_of HexDigits bytes = Some (Atom sexp.Hexadecimal bytes)
atom_of BinDigits bytes = Some (Atom sexp.Binary bytes)
atom_of Name bytes = Some (name_or_word (word_named bytes) bytes)
atom_of KeywordName bytes = Some (Atom sexp.Keyword bytes)
atom_of TextQuote bytes = Some (Atom sexp.Text bytes)
atom_of InBars bytes = Some (Atom sexp.Symbol bytes)
atom_of Nothing bytes = None
atom_of Point bytes = None
atom_of Hash bytes = None
atom_of HexMark bytes = None
atom_of BinMark bytes = None
atom_of Colon bytes = None
atom_of InText bytes = None
atom_of AfterBar bytes = None
atom_of InComment bytes = None

-- the text may end here
abbrev pub may_end : AtomState → Bool
may_end Point = false
may_end Hash = false
may_end HexMark = false
may_end BinMark = false
may_end Colon = false
may_end InText = false
may_end InBars = false
may_end Nothing = true
may_end Zero = true
may_end Digits = true
may_end Fraction = true
may_end HexDigits = true
may_end BinDigits = true
may_end Name = true
may_end KeywordName = true
may_end TextQuote = true
may_end AfterBar = true
may_end InComment = true

-- 1 where the byte that ended a token, after which the text goes on as this, belongs to it: the second bar of
-- a quoted symbol does
abbrev pub own_end : AtomState → ℕ
own_end AfterBar = 1
own_end _ = 0

abbrev pub add_if : Option Sexp → Levels → Levels
add_if None levels = levels
add_if (Some x) levels = add x levels

-- the trees, if the token that has begun ends here
abbrev pub flush : State → Levels
flush (At token bytes levels) = add_if (atom_of token bytes) levels

-- a byte that shows the end of the token before it
abbrev pub separated : ℕ → LexerStep
separated b =
    if b == open_parenthesis then Open else if b == close_parenthesis then Close
    else if b == semicolon then Finish InComment else if is_white b then Finish Nothing else Stuck

-- the first byte of a token
abbrev pub begun_by : ℕ → LexerStep
begun_by b =
    if b == zero_digit then Push Zero
    else if is_nonzero_digit b then Push Digits
    else if b == quote then Skip InText
    else if b == bar then Skip InBars
    else if b == 35 then Skip Hash
    else if b == 58 then Skip Colon
    else if is_letter b then Push Name
    else separated b

-- what one more byte does to a token
abbrev pub lex : AtomState → ℕ → LexerStep
lex Nothing b = begun_by b
lex Zero b = if b == point then Push Point else separated b
lex Digits b = if is_digit b then Push Digits else if b == point then Push Point else separated b
lex Point b = if is_digit b then Push Fraction else Stuck
lex Fraction b = if is_digit b then Push Fraction else separated b
lex Hash b = if b == 120 then Skip HexMark else if b == 98 then Skip BinMark else Stuck
lex HexMark b = if is_hexadecimal_digit b then Push HexDigits else Stuck
lex HexDigits b = if is_hexadecimal_digit b then Push HexDigits else separated b
lex BinMark b = if is_binary_digit b then Push BinDigits else Stuck
lex BinDigits b = if is_binary_digit b then Push BinDigits else separated b
lex Name b = if is_symbol_byte b then Push Name else separated b
lex Colon b = if is_symbol_byte b then Push KeywordName else Stuck
lex KeywordName b = if is_symbol_byte b then Push KeywordName else separated b
lex InText b = if b == quote then Skip TextQuote else if is_text_byte b then Push InText else Stuck
lex TextQuote b = if b == quote then Push InText else separated b
lex InBars b = if is_quoted_byte b then Push InBars else if b == bar then Finish AfterBar else Stuck
lex AfterBar b = separated b
lex InComment b = if is_comment_byte b then Skip InComment else Finish Nothing

-- the token that has begun after a step
abbrev pub token_behind : LexerStep → AtomState
token_behind (Push next) = next
token_behind (Skip next) = next
token_behind (Finish next) = next
token_behind Open = Nothing
token_behind Close = Nothing
token_behind Stuck = Nothing

-- a list begins
abbrev pub begun : Levels → Levels
begun (On lists top) = On (Nil ∷ lists) top

-- the innermost list ends
abbrev pub ended : Levels → Levels
ended (On [] top) = On [] top
ended (On (parts ∷ lists) top) = add (Items parts) (On lists top)

-- what a token does to the trees, if it may come
abbrev pub act : ℕ → Token → Levels → Option Levels
act max_depth OpenParenthesis (On lists top) =
    if nat_lt (length lists) max_depth then Some (On (Nil ∷ lists) top) else None
act max_depth CloseParenthesis (On [] top) = None
act max_depth CloseParenthesis (On (parts ∷ lists) top) = Some (add (Items parts) (On lists top))
act max_depth (AtomToken kind bytes) levels = Some (add (Atom kind bytes) levels)
act max_depth (WordToken word) levels = Some (add (Reserved word) levels)

-- no atom has begun
abbrev pub settle : Option Levels → Option State
settle None = None
settle (Some levels) = Some (At Nothing [] levels)

-- what a step of the token does to the state
abbrev pub move : ℕ → LexerStep → State → ℕ → Option State
move max_depth (Push next) (At token bytes levels) b = Some (At next (bytes ++ b ∷ []) levels)
move max_depth (Skip next) (At token bytes levels) b = Some (At next bytes levels)
move max_depth (Finish next) s b = Some (At next [] (flush s))
move max_depth Open s b = settle (act max_depth OpenParenthesis (flush s))
move max_depth Close s b = settle (act max_depth CloseParenthesis (flush s))
move max_depth Stuck s b = None

abbrev pub token_in : State → AtomState
token_in (At token bytes levels) = token

abbrev pub levels_in : State → Levels
levels_in (At token bytes levels) = levels

-- one byte of the text
abbrev pub step : ℕ → State → ℕ → Option State
step max_depth s b = move max_depth (lex (token_in s) b) s b

abbrev pub go_on : Option State → (State → Option State) → Option State
go_on None f = None
go_on (Some s) f = f s

-- the bytes of a text in turn
abbrev pub run : ℕ → State → List ℕ → Option State
run max_depth s [] = Some s
run max_depth s (b ∷ bs) = go_on (step max_depth s b) (λ next. run max_depth next bs)

-- the fault of a byte that no text goes on with
abbrev pub blame : ℕ → LexerStep → TextFlaw
blame place Open = Deep place
blame place _ = Byte place

-- the same, apart from its place
abbrev pub refusal_of : LexerStep → Refusal
refusal_of Open = TooDeep
refusal_of _ = Unfit

abbrev pub flaw_at : ℕ → Refusal → TextFlaw
flaw_at place Unfit = Byte place
flaw_at place TooDeep = Deep place

-- the text, in which no text goes on with one byte, up to that byte
pub record IsStuck (max_depth : ℕ) (text : List ℕ) (s : State) (fault : TextFlaw) : Type 0 where
  pub prefix : List ℕ
  pub byte : ℕ
  pub rest : List ℕ
  pub parts : text ≡ prefix ++ byte ∷ rest
  pub runs : run max_depth start prefix ≡ Some s
  pub stops : step max_depth s byte ≡ None
  pub is : fault ≡ blame (length prefix) (lex (token_in s) byte)

-- the state and the fault that a text leaves, while more of it may come
abbrev pub Leaves : ℕ → List ℕ → State → Option TextFlaw → Type 0
Leaves max_depth text s None = run max_depth start text ≡ Some s
Leaves max_depth text s (Some fault) = IsStuck max_depth text s fault

abbrev pub top_of : Levels → Sexps
top_of (On lists top) = top

-- how many lists are not closed
abbrev pub depth_of : Levels → ℕ
depth_of (On lists top) = length lists

abbrev pub depth_in : State → ℕ
depth_in (At token bytes levels) = depth_of levels

-- the trees that are complete
abbrev pub complete_of : State → Sexps
complete_of (At token bytes levels) = top_of levels

-- the token that has begun ends here
abbrev pub finished : AtomState → State → State
finished next s = At next [] (flush s)
