use Rattle.std.proofs.Common.{◌≡◌, ℕ, ◌<◌, get_or}
use Rattle.smt_text.specs.Internal.LexerStates.{lex}
use Rattle.smt_text.specs.declared.lexer.LexerStep.TheVariants.{Push}
use Rattle.smt_text.proofs.lexer.AtomState.run_length.Given as goal

abbrev pub invariant-loop-i : goal.invariant-loop-i
invariant-loop-i l = (k : ℕ) → k < l.i → lex l.self (get_or l.text k 0) ≡ Push l.self
