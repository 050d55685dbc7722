use Rattle.std.proofs.Common.{rules, take, append_assoc}
use Rattle.row_texts.specs.Escapes.{bytes_of, bytes_of_all}
use Rattle.row_texts.specs.Internal.Parts.{piece_of, pieces_in}
use Rattle.row_texts.proofs.PieceLemmas.{bytes_of_all-take_more}
use Rattle.row_texts.proofs.escapes.write_parts.Goals as goal

pub loop-part-preserved : goal.loop-part-preserved
loop-part-preserved c =
    let parts = c.args.parts.now in
    let i = c.loop-part.part-index in
    let more = bytes_of_all-take_more parts i c.part-item.result 0 (search rules) (search rules) in
    let joined = append_assoc c.args.bytes.now.items
    (bytes_of_all (pieces_in (take i parts)) 0) (bytes_of (piece_of c.part-item.result) 0) in
    search (rules, more, joined)
