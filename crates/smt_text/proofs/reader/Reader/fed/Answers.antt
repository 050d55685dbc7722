use Rattle.std.proofs.Common.{rules}
use Rattle.smt_text.proofs.reader.Reader.fed.Goals as goal

pub returns-clause-count : goal.returns-clause-count
returns-clause-count c = search rules

pub returns-clause-stands : goal.returns-clause-stands
returns-clause-stands c = search rules
