use Rattle.std.proofs.Common.{true, refl, subst, sym}
use Rattle.smt_dialogue.proofs.FeedLemmas.{goes_on_with}
use Rattle.smt_dialogue.specs.Internal.PairingView.{GoesOnWith, Texts, bytes_at}
use Rattle.smt_dialogue.specs.declared.pairing.Pairing.{Pairing}
use Rattle.smt_report.specs.declared.line.Side.TheVariants.{Answers, Script}
use Rattle.smt_dialogue.proofs.pairing.Pairing.finish.Goals as goal

pub returns-in-Script-clause-way : goal.returns-in-Script-clause-way
returns-in-Script-clause-way c =
    let x = c.args.self.now in
    let y : Pairing = record x { script = c.finish.new.self } in
    subst (λ side. (texts : Texts) → GoesOnWith side x y texts true (bytes_at side texts)) (sym c.in-Script.is)
    (λ texts. goes_on_with Script x y texts true _ refl refl refl (c.finish.ensures.goes_on texts.script_bytes))

pub returns-in-Answers-clause-way : goal.returns-in-Answers-clause-way
returns-in-Answers-clause-way c =
    let x = c.args.self.now in
    let y : Pairing = record x { answers = c.finish-in-Answers.new.self } in
    subst (λ side. (texts : Texts) → GoesOnWith side x y texts true (bytes_at side texts)) (sym c.in-Answers.is)
    (λ texts. goes_on_with Answers x y texts true _ refl refl refl
    (c.finish-in-Answers.ensures.goes_on texts.answers_bytes))
