use Rattle.std.proofs.Common.{◌∙◌, sym, ap, length}
use Rattle.smt_text.specs.Internal.LexerStates.{find_word, words_like}
use Rattle.smt_text.proofs.ReservedLemmas.{find_word-end, find_word-like, find_word-more, first-got}
use Rattle.smt_text.proofs.ReservedLemmas.{word_named-none}
use Rattle.smt_text.proofs.reserved.word_of.Goals as goal

pub loop-word-init : goal.loop-word-init
loop-word-init c =
    let bytes = c.args.bytes.now in
    ap (find_word bytes) (c.words_like-word-items.ensures ∙ ap (words_like (length bytes))
    (first-got bytes c.in-Some.first.now c.in-Some.ensures.value)) ∙ find_word-like bytes

pub loop-word-preserved : goal.loop-word-preserved
loop-word-preserved c =
    find_word-more c.args.bytes.now c.words_like-word-items.result.now c.loop-word.word-index _
    c.spelling.result.now c.loop-word-test.true c.spelling.ensures
    (sym c.eq.ensures ∙ c.if-eq.false) ∙ c.loop-word.invariant

pub returns-clause-named : goal.returns-clause-named
returns-clause-named c = find_word-end c.args.bytes.now c.words_like-word-items.result.now
    c.loop-word.word-index c.loop-word-test.false ∙ c.loop-word.invariant

pub returns-clause-written : goal.returns-clause-written
returns-clause-written c =
    let bytes = c.args.bytes.now in
    word_named-none bytes (sym
    (find_word-end bytes c.words_like-word-items.result.now c.loop-word.word-index c.loop-word-test.false
    ∙ c.loop-word.invariant))
