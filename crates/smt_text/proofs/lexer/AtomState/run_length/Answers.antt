use Rattle.std.proofs.Common.{below_more}
use Rattle.smt_text.proofs.lexer.AtomState.run_length.Goals as goal

pub loop-i-preserved : goal.loop-i-preserved
loop-i-preserved c = below_more _ _ c.loop-i.invariant (c.keeps.ensures c.if-not-keeps.false)
