use Rattle.std.proofs.Common.{rules, []}
use Rattle.row_texts.proofs.PieceLemmas.{braces_onto-length}
use Rattle.row_texts.proofs.escapes.Reader.take_escaped.Goals as goal

pub returns-in_ok-add-in-35 : goal.returns-in_ok-add-in-35
returns-in_ok-add-in-35 c = search (rules, braces_onto-length c.args.self.now.outer.items [])

pub returns-in_ok-add-in-45 : goal.returns-in_ok-add-in-45
returns-in_ok-add-in-45 c = search (rules, braces_onto-length c.args.self.now.outer.items [])
