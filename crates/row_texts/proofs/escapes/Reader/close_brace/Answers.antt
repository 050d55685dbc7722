use Rattle.std.proofs.Common.{rules, []}
use Rattle.row_texts.proofs.PieceLemmas.{braces_onto-push, piece_of-Repeat}
use Rattle.row_texts.proofs.escapes.Reader.close_brace.Goals as goal

pub returns-in-Some-clause-closed : goal.returns-in-Some-clause-closed
returns-in-Some-clause-closed c =
    let before = c.in-Some.before in
    let times = c.in-Some.times in
    search (
      rules,
      braces_onto-push c.pop.new.self.items (before, times) [],
      piece_of-Repeat times c.replace-parts.result,
    )
