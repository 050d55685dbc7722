use Rattle.std.proofs.Common.{refl}
use Rattle.smt_dialogue.proofs.TreeQueueLemmas.{front_new}
use Rattle.smt_dialogue.proofs.tree_queue.TreeQueue.new.Goals as goal

pub returns-clause-front : goal.returns-clause-front
returns-clause-front c = λ text read.
    front_new _ c.args.max_depth text refl c.new.ensures.stands c.new.ensures.finished c.new.ensures.limit read
