use Rattle.std.proofs.Common.{ℕ}
use Rattle.smtcheck.proofs.room.+takes_stack.Given as goal

-- each call has one block fewer to take
abbrev pub decreases-takes_stack : goal.decreases-takes_stack
decreases-takes_stack l = l.blocks
