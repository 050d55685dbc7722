use Rattle.std.proofs.Common.{rules}
use Rattle.row_texts.proofs.PieceLemmas.{pieces_in-push}
use Rattle.row_texts.proofs.escapes.Reader.add.Goals as goal

pub returns : goal.returns
returns c = search (rules, pieces_in-push c.args.self.now.parts.items c.args.part)
