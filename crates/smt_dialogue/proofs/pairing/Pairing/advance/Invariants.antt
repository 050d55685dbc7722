-- the turns so far went on, whatever both texts are
use Rattle.std.proofs.Common.{◌≡◌, ◌≤◌, ◌-◌, List}
use Rattle.smt_text.specs.Reader.{bytes_fed}
use Rattle.smt_trees.specs.Sexp.{Sexps}
use Rattle.smt_dialogue.specs.Pairs.{Pair}
use Rattle.smt_dialogue.specs.SoFar.{IsBeginning}
use Rattle.smt_dialogue.specs.Internal.AcceptedState.{options_of}
use Rattle.smt_dialogue.specs.Internal.PairingView.{AreLimitedAlike, IsUnderWay, Texts, waiting}
use Rattle.smt_dialogue.proofs.pairing.Pairing.advance.Given as goal

abbrev pub invariant-loop-closed : goal.invariant-loop-closed
invariant-loop-closed l = record {
  script_fed : bytes_fed l.self.script.reader ≡ bytes_fed l.fn.self.script.reader;
  answers_fed : bytes_fed l.self.answers.reader ≡ bytes_fed l.fn.self.answers.reader;
  limits : AreLimitedAlike l.fn.self l.self;
  start : options_of l.self.dialogue ≡ options_of l.fn.self.dialogue;
  commands : l.fn.self.dialogue.commands ≤ l.self.dialogue.commands;
  kept : IsBeginning (waiting l.fn.self) (waiting l.self);
  way : (texts : Texts) (pairs : List Pair) (later rest : Sexps) → IsUnderWay l.fn.self texts pairs later rest
      → (ps : List Pair) × (left : Sexps) × (after : Sexps) × IsUnderWay l.self texts ps left after;
}

abbrev pub decreases-loop-closed : goal.decreases-loop-closed
decreases-loop-closed l = bytes_fed l.fn.self.script.reader - l.self.dialogue.commands
