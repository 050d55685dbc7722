use Rattle.std.proofs.Common.{refl}
use Rattle.smt_dialogue.proofs.TreeQueueLemmas.{take_matches}
use Rattle.smt_dialogue.proofs.tree_queue.TreeQueue.take.Goals as goal

pub returns-clause-taken : goal.returns-clause-taken
returns-clause-taken c =
    take_matches c.args.self.now _ c.take.result refl c.take.ensures.value c.take.ensures.after
