use Rattle.std.proofs.Common.{◌++◌, false, refl, subst, sym}
use Rattle.smt_dialogue.proofs.FeedLemmas.{goes_on_with}
use Rattle.smt_dialogue.specs.Internal.PairingView.{GoesOnWith, Texts, bytes_at}
use Rattle.smt_dialogue.specs.declared.pairing.Pairing.{Pairing}
use Rattle.smt_report.specs.declared.line.Side.TheVariants.{Answers, Script}
use Rattle.smt_dialogue.proofs.pairing.Pairing.feed.Goals as goal

pub returns-in-Script-clause-way : goal.returns-in-Script-clause-way
returns-in-Script-clause-way c =
    let x = c.args.self.now in
    let y : Pairing = record x { script = c.feed.new.self } in
    subst (λ side. (texts : Texts) → GoesOnWith side x y texts false (bytes_at side texts ++ c.args.piece.now))
    (sym c.in-Script.is)
    (λ texts. goes_on_with Script x y texts false _ refl refl refl (c.feed.ensures.goes_on texts.script_bytes))

pub returns-in-Answers-clause-way : goal.returns-in-Answers-clause-way
returns-in-Answers-clause-way c =
    let x = c.args.self.now in
    let y : Pairing = record x { answers = c.feed-in-Answers.new.self } in
    subst (λ side. (texts : Texts) → GoesOnWith side x y texts false (bytes_at side texts ++ c.args.piece.now))
    (sym c.in-Answers.is)
    (λ texts. goes_on_with Answers x y texts false _ refl refl refl
    (c.feed-in-Answers.ensures.goes_on texts.answers_bytes))
