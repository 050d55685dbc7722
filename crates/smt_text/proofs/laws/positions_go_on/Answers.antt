use Rattle.smt_text.proofs.PositionLemmas as positions
use Rattle.smt_text.proofs.laws.positions_go_on.Goals as goal

pub returns : goal.returns
returns c = record { of_text = positions.position_join; of_bytes = positions.after_join }
