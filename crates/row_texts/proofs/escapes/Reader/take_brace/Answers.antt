use Rattle.std.proofs.Common.{rules, []}
use Rattle.row_texts.proofs.PieceLemmas.{braces_onto-push}
use Rattle.row_texts.proofs.escapes.Reader.take_brace.Goals as goal

pub returns-in_ok-push-in-123-default : goal.returns-in_ok-push-in-123-default
returns-in_ok-push-in-123-default c =
    search (rules, braces_onto-push c.args.self.now.outer.items (c.replace-before.result, c.args.times) [])
