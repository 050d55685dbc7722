use Rattle.smt_text.proofs.ReadingLemmas.{every_text}
use Rattle.smt_text.proofs.laws.every_text_reads.Goals as goal

pub returns : goal.returns
returns c =
    record { some = λ max_depth ended text. let r = every_text max_depth ended text in (r.trees, r.fault, r.reads) }
