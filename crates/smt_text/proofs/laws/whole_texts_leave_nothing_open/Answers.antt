use Rattle.smt_text.proofs.PlacesLemmas.{nothing_open}
use Rattle.smt_text.proofs.laws.whole_texts_leave_nothing_open.Goals as goal

pub returns : goal.returns
returns c = record { none = nothing_open }
