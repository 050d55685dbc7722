use Rattle.std.proofs.Common.{◌∙◌}
use Rattle.smt_dialogue.proofs.RunLemmas.{more_fed}
use Rattle.smt_dialogue.specs.Run.{Devices}
use Rattle.smt_dialogue.proofs.outlet.PutOutlet.settle.Goals as goal

pub loop-self-preserved : goal.loop-self-preserved
loop-self-preserved g c =
    let i = c.loop-self.invariant in
    let p = c.put_some.ensures in
    record {
      fed = c.in-Ok-true.ensures.fed c.in-Ok-true.field-0-test;
      sound = c.in-Ok-true.ensures.sound;
      texts = record {
        script = p.texts.script ∙ i.texts.script;
        answers = p.texts.answers ∙ i.texts.answers;
        left = p.texts.left ∙ i.texts.left;
      };
      stays = λ failed is. p.stays failed (i.stays failed is);
      reference = i.reference;
      runs = λ options before now r.
          let after : Devices = record now { out = g.W.Sink.taken c.put_some.new.out } in
          more_fed (g.V.LineVisitor.has_visited c.put_some.new.visitor) options before after c.put_some.new.session
          c.in-Ok-true.field-0 c.in-Ok-true.field-0-test
          (c.in-Ok-true.ensures.put options before now (i.runs options before now r));
    }

pub returns-in-Err-clause-settled : goal.returns-in-Err-clause-settled
returns-in-Err-clause-settled g c = λ options before now r.
    c.in-Err.ensures.stopped options before now (c.loop-self.invariant.runs options before now r)
