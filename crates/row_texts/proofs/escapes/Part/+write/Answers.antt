use Rattle.std.proofs.Common.{◌≡◌, ◌+◌, ◌-◌, rules, take, append_assoc}
use Rattle.row_texts.specs.Escapes.{bytes_of, bytes_of_all, count_of}
use Rattle.row_texts.specs.Internal.Parts.{piece_of, pieces_in}
use Rattle.row_texts.proofs.PieceLemmas.{bytes_of_all-take_more, bytes_of-Repeat, repeated-more}
use Rattle.row_texts.proofs.escapes.Part.+write.Goals as goal
use Rattle.row_texts.proofs.escapes.Part.+write.Goals.{in-Count, in-Outer}

pub loop-part-preserved : goal.loop-part-preserved
loop-part-preserved t c =
    let parts = c.deref-part-items.result.now in
    let i = c.loop-part.part-index in
    let n = c.loop-number.number in
    let more = bytes_of_all-take_more parts i c.part-item.result n (search rules) (search rules) in
    let joined = append_assoc c.loop-number.bytes.items
    (bytes_of_all (pieces_in (take i parts)) n) (bytes_of (piece_of c.part-item.result) n) in
    search (rules, more, joined)

pub loop-number-preserved : goal.loop-number-preserved
loop-number-preserved t c =
    let n = c.loop-number.number in (
      repeated-more c.in-Repeat.parts.items c.loop-part.part-index n (n + 1 - 1) c.args.bytes.now.items
          c.loop-number.bytes.items c.loop-part.bytes.items (search rules) (search rules) (search rules)
          (search rules) (search rules),
      search rules,
    )

pub returns-after-times : goal.returns-after-times
returns-after-times t c =
    let counted : c.match-times.count ≡ count_of c.in-Repeat.times c.args.number =
    elim c.match-times.branch [ in-Count w ↦ search rules | in-Outer w ↦ search rules ] in
    let reached : c.loop-number.number - 1 ≡ c.match-times.count = search rules in
    bytes_of-Repeat c.args.self.now c.in-Repeat.times c.in-Repeat.parts c.args.number c.match-times.count
    c.args.bytes.now.items c.loop-number.bytes.items c.in-Repeat.is counted (search (rules, reached))

pub returns-after-times-2 : goal.returns-after-times-2
returns-after-times-2 t c =
    let counted : c.match-times.count ≡ count_of c.in-Repeat.times c.args.number =
    elim c.match-times.branch [ in-Count w ↦ search rules | in-Outer w ↦ search rules ] in
    let reached : c.match-times.count ≡ c.loop-number.number = search rules in
    bytes_of-Repeat c.args.self.now c.in-Repeat.times c.in-Repeat.parts c.args.number c.match-times.count
    c.args.bytes.now.items c.loop-part.bytes.items c.in-Repeat.is counted
    (repeated-more c.in-Repeat.parts.items c.loop-part.part-index c.loop-number.number c.match-times.count
    c.args.bytes.now.items c.loop-number.bytes.items c.loop-part.bytes.items (search rules) (search rules)
    reached (search rules) (search rules))
