use Rattle.std.proofs.Common.{arith, refl}
use Rattle.std.proofs.lemmas.List.{length-take}
use Rattle.smt_text.proofs.BuilderLemmas.{if_ok}
use Rattle.smt_text.proofs.WindowLemmas.{marks_wider}
use Rattle.smt_text.proofs.reader.Reader.read_tokens.Goals as goal

pub returns-clause-marks : goal.returns-clause-marks
returns-clause-marks c =
    let old = c.args.self.now in
    let mid = c.read_window-result.new.self in
    let long = length-take c.min.result c.args.text.now in
    if_ok c.read_window-result.result
    (marks_wider old (record old { builder = record old.builder { limit = c.saturating_sub-self.result } }) mid
    (record mid { builder = record mid.builder { limit = old.builder.limit } }) c.args.text.now c.min.result
    (omega (arith, c.min.ensures)) (omega (arith, c.saturating_sub-self.ensures, long, c.min.ensures))
    refl refl refl refl)
    c.read_window-result.ensures.marks
