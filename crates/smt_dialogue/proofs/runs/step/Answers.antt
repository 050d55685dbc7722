use Rattle.smt_dialogue.proofs.RunLemmas.{map_both, map_err, sound_kept}
use Rattle.smt_dialogue.specs.Session.{is_answers_ended, is_script_ended}
use Rattle.smt_dialogue.specs.Internal.StreamsView.{devices_of, tap_of}
use Rattle.smt_dialogue.proofs.runs.step.Goals as goal

pub returns-in-Script-clause-stepped : goal.returns-in-Script-clause-stepped
returns-in-Script-clause-stepped g c = λ options before r.
    c.step_text.ensures.stepped options before
    (devices_of g.R1.Source g.R2.Source g.L.Outlet c.args.streams.now) r

pub returns-in-Script-clause-blamed : goal.returns-in-Script-clause-blamed
returns-in-Script-clause-blamed g c =
    map_err c.step_text.result c.step_text.ensures.blamed (λ fault blamed. blamed _)

pub returns-in-Script-clause-sound : goal.returns-in-Script-clause-sound
returns-in-Script-clause-sound g c =
    map_both c.step_text.result c.step_text.ensures.source c.step_text.ensures.lines_sound (λ source lines. record {
      script = source;
      answers = sound_kept (is_answers_ended c.args.session.now) (is_answers_ended c.step_text.new.session)
          (tap_of g.R2.Source c.args.streams.now.answers.now) (g.R2.Source.is_broken c.args.streams.now.answers.now)
          c.step_text.ensures.other c.requires.sound.answers;
      lines = lines;
    })

pub returns-in-Answers-clause-stepped : goal.returns-in-Answers-clause-stepped
returns-in-Answers-clause-stepped g c = λ options before r.
    c.step_text-in-Answers.ensures.stepped options before
    (devices_of g.R1.Source g.R2.Source g.L.Outlet c.args.streams.now) r

pub returns-in-Answers-clause-blamed : goal.returns-in-Answers-clause-blamed
returns-in-Answers-clause-blamed g c =
    map_err c.step_text-in-Answers.result c.step_text-in-Answers.ensures.blamed (λ fault blamed. blamed _)

pub returns-in-Answers-clause-sound : goal.returns-in-Answers-clause-sound
returns-in-Answers-clause-sound g c =
    map_both c.step_text-in-Answers.result c.step_text-in-Answers.ensures.source
    c.step_text-in-Answers.ensures.lines_sound (λ source lines. record {
      script = sound_kept (is_script_ended c.args.session.now) (is_script_ended c.step_text-in-Answers.new.session)
          (tap_of g.R1.Source c.args.streams.now.script.now) (g.R1.Source.is_broken c.args.streams.now.script.now)
          c.step_text-in-Answers.ensures.other c.requires.sound.script;
      answers = source;
      lines = lines;
    })
