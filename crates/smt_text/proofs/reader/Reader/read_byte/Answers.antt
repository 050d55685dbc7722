use Rattle.smt_text.proofs.MarkedLemmas.{marks_byte}
use Rattle.smt_text.proofs.reader.Reader.read_byte.Goals as goal

pub returns-clause-marks : goal.returns-clause-marks
returns-clause-marks c =
    marks_byte c.args.self.now c.args.text.now c.advance.new.self c.requires
    c.in_ok-advance.ensures.goes c.in_ok-advance.ensures.pushed
