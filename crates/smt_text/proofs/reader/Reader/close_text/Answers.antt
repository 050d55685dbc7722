use Rattle.smt_text.proofs.EndingLemmas.{flush_at, pushed_shown}
use Rattle.smt_text.specs.Internal.ReaderState.{state_of}
use Rattle.smt_text.specs.declared.lexer.AtomState.TheVariants.{Nothing}
use Rattle.smt_text.proofs.reader.Reader.close_text.Goals as goal

pub returns-clause-pushed : goal.returns-clause-pushed
returns-clause-pushed c =
    pushed_shown (record { left = 0; read = 0 }) (state_of c.args.self.now)
    c.args.self.now c.finish_token.new.self
    (flush_at Nothing (state_of c.args.self.now) c.finish_token.new.self c.in_ok-finish_token.ensures.finished)
    c.in_ok-finish_token.ensures.ready
