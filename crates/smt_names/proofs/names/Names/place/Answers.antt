use Rattle.smt_names.proofs.PlaceLemmas.{placed}
use Rattle.smt_names.proofs.names.Names.place.Goals as goal

pub returns-in-None-clause-place : goal.returns-in-None-clause-place
returns-in-None-clause-place c =
    placed c.add.result c.args.self.now c.add.new.self c.args.name.now c.in-None.ensures.place c.add.ensures.added
    c.add.ensures.place
