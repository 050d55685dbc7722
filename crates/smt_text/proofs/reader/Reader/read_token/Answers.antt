use Rattle.std.proofs.Common.{◌∙◌, sym, refl, arith}
use Rattle.smt_text.proofs.MarkedLemmas.{marks_close}
use Rattle.smt_text.proofs.MarkLemmas.{keyword_begins, name_begins, numeral_begins}
use Rattle.smt_text.specs.Internal.ReaderState.{levels_of}
use Rattle.smt_text.proofs.reader.Reader.read_token.Goals as goal

pub read_atom-requires-clause-begins : goal.read_atom-requires-clause-begins
read_atom-requires-clause-begins c =
    name_begins c.args.self.now.max_depth c.args.self.now.token c.args.self.now.bytes.items c.args.text.now
    (levels_of c.args.self.now.builder) c.requires.token c.requires.bytes
    (sym c.is_letter.ensures ∙ c.if-is_letter.true)

pub read_atom-requires-in_default-2-clause-begins : goal.read_atom-requires-in_default-2-clause-begins
read_atom-requires-in_default-2-clause-begins c =
    numeral_begins c.args.self.now.max_depth c.args.self.now.token c.args.self.now.bytes.items c.args.text.now
    (levels_of c.args.self.now.builder) c.requires.token c.requires.bytes
    (sym c.is_nonzero_digit.ensures ∙ c.if-is_nonzero_digit.true)

pub read_atom-requires-in-58-clause-begins : goal.read_atom-requires-in-58-clause-begins
read_atom-requires-in-58-clause-begins c =
    keyword_begins c.args.self.now.max_depth c.args.self.now.token c.args.self.now.bytes.items c.args.text.now
    (levels_of c.args.self.now.builder) c.requires.token c.requires.bytes c.requires.some c.in-58.is

pub returns-in_ok-end_list-in-41-clause-marks : goal.returns-in_ok-end_list-in-41-clause-marks
returns-in_ok-end_list-in-41-clause-marks c =
    marks_close c.args.self.now (record c.args.self.now { builder = c.end_list.new.self })
    c.args.text.now c.requires.some c.in-41.is c.requires.token c.requires.bytes refl refl (omega (arith, c.if-depth-gt0.true))
    c.in_ok-end_list-in-41.ensures.levels c.in_ok-end_list-in-41.ensures.ready
