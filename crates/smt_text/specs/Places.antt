-- Where in a token, and in how many lists, a text is at each of its places, in bytes from 0. A byte that cannot be
-- there ends the token, as white space does.
use Rattle.std.specs.Prelude.{◌+◌, ◌-◌, ℕ, zero, suc, List, Bool, true, false, get_or}
use Rattle.smt_text.specs.Internal.LexerStates.{lex, token_behind}
use Rattle.smt_text.specs.declared.lexer.AtomState.{AtomState}
use Rattle.smt_text.specs.declared.lexer.AtomState.TheVariants.{Nothing}
use Rattle.smt_text.specs.declared.lexer.LexerStep.{LexerStep}
use Rattle.smt_text.specs.declared.lexer.LexerStep.TheVariants.{Open, Close}

-- where in a token the text is after so many bytes
abbrev pub token_at : List ℕ → ℕ → AtomState
token_at text zero = Nothing
token_at text (suc place) = token_behind (lex (token_at text place) (get_or text place 0))

-- what the byte at the place does
abbrev pub step_at : List ℕ → ℕ → LexerStep
step_at text place = lex (token_at text place) (get_or text place 0)

abbrev pub depth_behind : LexerStep → ℕ → ℕ
depth_behind Open depth = depth + 1
depth_behind Close depth = depth - 1
depth_behind _ depth = depth

-- how many lists are open after so many bytes. A parenthesis that closes none changes nothing
abbrev pub depth_at : List ℕ → ℕ → ℕ
depth_at text zero = 0
depth_at text (suc place) = depth_behind (step_at text place) (depth_at text place)

-- no token and no comment has begun
abbrev pub is_between : AtomState → Bool
is_between Nothing = true
is_between _ = false
