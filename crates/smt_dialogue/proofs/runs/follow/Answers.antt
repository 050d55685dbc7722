use Rattle.std.proofs.Common.{◌∙◌, Option, refl, subst, sym}
use Rattle.smt_dialogue.proofs.RunLemmas.{running_new}
use Rattle.smt_dialogue.specs.Internal.SessionStep.{IsWanted}
use Rattle.smt_dialogue.specs.Internal.StreamsView.{devices_of}
use Rattle.smt_report.specs.declared.line.Side.{Side}
use Rattle.smt_dialogue.proofs.runs.follow.Goals as goal

pub loop-side-init : goal.loop-side-init
loop-side-init g c =
    let sound = c.requires.sound in
    record {
      rest = c.requires.rest;
      sound = sound;
      references = record { script = refl; answers = refl; lines = refl; visitor = refl };
      running = λ options k.
          running_new (g.V.LineVisitor.has_visited c.args.streams.now.visitor.now) options
          (devices_of g.R1.Source g.R2.Source g.L.Outlet c.args.streams.now) c.args.session.now
          (sym sound.script.ended ∙ k.script_ended) (sym sound.answers.ended ∙ k.answers_ended)
          c.requires.fresh k;
    }

pub step-requires-clause-stands : goal.step-requires-clause-stands
step-requires-clause-stands g c =
    let r = c.loop-side.invariant.running c.requires.stands.0 c.requires.stands.1 in (_, r.stands)

pub returns-in-Err-clause-followed : goal.returns-in-Err-clause-followed
returns-in-Err-clause-followed g c = λ options k.
    c.in-Err.ensures.stepped options _ (c.loop-side.invariant.running options k)

pub returns-clause-ends : goal.returns-clause-ends
returns-clause-ends g c =
    let s = c.loop-side.session in
    let i = c.loop-side.invariant.sound in
    let both = subst (λ (o : Option Side). IsWanted o s) c.in_default.is c.wanted.ensures in
    let script = sym i.script.ended ∙ both.0 in
    let answers = sym i.answers.ended ∙ both.1 in
    record { script = script; answers = answers; script_end = i.script.end script; answers_end = i.answers.end answers }
