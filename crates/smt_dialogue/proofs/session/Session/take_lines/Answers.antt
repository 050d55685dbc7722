use Rattle.std.proofs.Common.{refl}
use Rattle.smt_dialogue.proofs.SessionLemmas.{limited_same, taken_going, taken_stands}
use Rattle.smt_dialogue.proofs.session.Session.take_lines.Goals as goal

pub returns-clause-stands : goal.returns-clause-stands
returns-clause-stands c = λ h k.
    taken_stands c.args.self.now _ h c.take_lines.result.items c.take_lines.ensures.lines c.take_lines.ensures.rest
    (record { failure = refl; summary = refl; script = refl; answers = refl })
    (record {
      start = c.take_lines.ensures.start;
      limits = limited_same _ _ c.take_lines.ensures.script c.take_lines.ensures.answers;
      way = c.take_lines.ensures.way;
    }) k

pub returns-clause-going_on : goal.returns-clause-going_on
returns-clause-going_on c = λ h on.
    taken_going c.args.self.now _ h c.take_lines.result.items
    (record { failure = refl; summary = refl; script = refl; answers = refl })
    (record {
      start = c.take_lines.ensures.start;
      limits = limited_same _ _ c.take_lines.ensures.script c.take_lines.ensures.answers;
      way = c.take_lines.ensures.way;
    }) on
