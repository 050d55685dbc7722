use Rattle.std.proofs.Common.{rules, []}
use Rattle.row_texts.proofs.PieceLemmas.{braces_onto-length}
use Rattle.row_texts.proofs.escapes.Reader.take_times.Goals as goal

pub returns-in-35 : goal.returns-in-35
returns-in-35 c = search (rules, braces_onto-length c.args.self.now.outer.items [])
