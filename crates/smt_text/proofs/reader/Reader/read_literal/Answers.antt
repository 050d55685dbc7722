use Rattle.smt_text.proofs.MarkLemmas.{binary_begins, hexadecimal_begins}
use Rattle.smt_text.specs.Internal.ReaderState.{levels_of}
use Rattle.std.proofs.Common.{sym, ◌∙◌}
use Rattle.smt_text.proofs.reader.Reader.read_literal.Goals as goal

pub read_atom-requires-clause-begins : goal.read_atom-requires-clause-begins
read_atom-requires-clause-begins c =
    hexadecimal_begins c.args.self.now.max_depth c.args.self.now.token c.args.self.now.bytes.items c.args.text.now
    (levels_of c.args.self.now.builder) _ c.requires.token c.requires.bytes c.in-Some-eq120.ensures.lookup.0
    c.requires.first (sym c.in-Some-eq120.ensures.lookup.1 ∙ c.in-Some-eq120.field-0-test)

pub read_atom-requires-in-Some-eq98-clause-begins : goal.read_atom-requires-in-Some-eq98-clause-begins
read_atom-requires-in-Some-eq98-clause-begins c =
    binary_begins c.args.self.now.max_depth c.args.self.now.token c.args.self.now.bytes.items c.args.text.now
    (levels_of c.args.self.now.builder) _ c.requires.token c.requires.bytes c.in-Some-eq98.ensures.lookup.0
    c.requires.first (sym c.in-Some-eq98.ensures.lookup.1 ∙ c.in-Some-eq98.field-0-test)
