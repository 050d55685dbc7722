use Rattle.std.proofs.Common.{◌≡◌, ◌<◌, arith, sym, ap, ◌∙◌, refl}
use Rattle.smt_text.proofs.BuilderLemmas.{depth_of-flush}
use Rattle.smt_text.proofs.EndingLemmas.{end_pushed, flush_at}
use Rattle.smt_text.specs.Internal.LexerStates.{depth_of}
use Rattle.smt_text.specs.Internal.ReaderState.{levels_of, state_of}
use Rattle.smt_text.specs.declared.lexer.AtomState.TheVariants.{Nothing}
use Rattle.smt_text.proofs.reader.Reader.end_list.Goals as goal

pub returns-clause-pushed : goal.returns-clause-pushed
returns-clause-pushed c =
    let mid = c.finish_token.new.self in
    let same : depth_of (levels_of mid.builder) ≡ depth_of (levels_of c.args.self.now.builder) =
    ap depth_of (sym (flush_at Nothing (state_of c.args.self.now) mid c.in_ok-finish_token.ensures.finished))
    ∙ depth_of-flush (state_of c.args.self.now) in
    let deep : 0 < depth_of (levels_of mid.builder) = omega (arith, same, c.depth.ensures, c.if-depth-eq0.false) in
    end_pushed (record { left = c.args.left; read = 0 })
    (record { left = c.args.left; read = 1 }) c.args.self.now mid
    (record mid { builder = c.end_list.new.self }) c.in_ok-finish_token.ensures.finished refl
    c.in_ok-finish_token.ensures.beside.5 deep
    c.in_ok-finish_token.ensures.ready c.in_ok-end_list.ensures.ready
