-- the word is sought among those that are left
use Rattle.std.proofs.Common.{◌≡◌, drop}
use Rattle.smt_text.specs.Internal.LexerStates.{find_word, word_named}
use Rattle.smt_text.proofs.reserved.word_of.Given as goal

abbrev pub invariant-loop-word : goal.invariant-loop-word
invariant-loop-word l = find_word l.bytes (drop l.word-index l.word-items) ≡ word_named l.bytes
