use Rattle.smt_text.proofs.MarkedLemmas.{marks_again}
use Rattle.smt_text.proofs.reader.Reader.read_between.Goals as goal

pub returns-then-count-eq0-clause-marks : goal.returns-then-count-eq0-clause-marks
returns-then-count-eq0-clause-marks c =
    marks_again c.args.self.now c.read_tokens.new.self c.args.text.now c.in_ok-count.count
    c.read_byte.new.self c.read_byte.result c.if-count-eq0.true c.in_ok-count.ensures.beside.5
    c.in_ok-count.ensures.goes
    c.in_ok-count.ensures.marks c.read_byte.ensures.marks
