-- How a session goes on from what it was told.
use Rattle.std.specs.Prelude.{◌≡◌, ℕ, List, [], ◌++◌, true, Option, Some, None}
use Rattle.smt_trees.specs.Sexp.{Sexps}
use Rattle.smt_dialogue.specs.FirstFault.{Ends, TextSoFar}
use Rattle.smt_dialogue.specs.History.{History, Told}
use Rattle.smt_dialogue.specs.InForce.{start_by}
use Rattle.smt_dialogue.specs.Lines.{lines_in}
use Rattle.smt_dialogue.specs.Pairs.{Pair}
use Rattle.smt_dialogue.specs.Depth.{max_depth_of}
use Rattle.smt_dialogue.specs.Report.{IsRead, IsTurn, lines_at_end, lines_of_end}
use Rattle.smt_dialogue.specs.Internal.AcceptedState.{options_of}
use Rattle.smt_dialogue.specs.Internal.PairingView.{AreLimited, IsUnderWay, Texts, waiting}
use Rattle.smt_dialogue.specs.declared.pairing.Pairing.{Pairing}
use Rattle.smt_dialogue.specs.declared.session.Failed.{Failed}
use Rattle.smt_report.specs.Verdict.{summary_of}
use Rattle.smt_report.specs.declared.line.Line.{Line}
use Rattle.smt_report.specs.declared.summary.Summary.{Summary}

-- this is read of a text, in which lists may nest so deep
abbrev pub IsToldText : ℕ → Told → TextSoFar → Type 0
IsToldText max_depth told text = IsRead max_depth told.ended told.bytes text

-- this is read of both texts
pub record AreRead (h : History) (script answers : TextSoFar) : Type 0 where
  pub script_read : IsToldText (max_depth_of h.options.profile) h.script script
  pub answers_read : IsToldText (max_depth_of h.options.profile) h.answers answers

abbrev pub texts_of : History → (script answers : TextSoFar) → Texts
texts_of h script answers = record {
  script_bytes = h.script.bytes;
  script = script;
  answers_bytes = h.answers.bytes;
  answers = answers;
  taken = h.taken;
}

-- the dialogue is under way
pub record IsOpen (exchange : Pairing) (h : History) : Type 0 where
  pub script : TextSoFar
  pub answers : TextSoFar
  pub read : AreRead h script answers
  pub pairs : List Pair
  pub later : Sexps
  pub rest : Sexps
  pub way : IsUnderWay exchange (texts_of h script answers) pairs later rest
  pub start : options_of exchange.dialogue ≡ h.options
  pub limits : AreLimited (max_depth_of h.options.profile) exchange

-- it has ended with these lines and this summary
pub record HasEnded (summary : Summary) (h : History) (ls : List Line) : Type 0 where
  pub script : TextSoFar
  pub answers : TextSoFar
  pub read : AreRead h script answers
  pub pairs : List Pair
  pub fault : Option Line
  pub ends : IsTurn (start_by h.options) script answers pairs (Ends fault)
  pub lines_are : ls ≡ lines_at_end h.options.profile h.options.limit.steps pairs fault
  pub summary_is : summary
      ≡ summary_of (lines_in h.options.profile h.options.limit.steps true [] pairs [] ++ lines_of_end fault)

-- it has ended, or is under way; or a call has failed before, and it goes no further
abbrev pub GoesOn : Option Summary → Option Failed → Pairing → History → Type 0
GoesOn (Some summary) failure exchange h = HasEnded summary h (h.taken ++ waiting exchange)
GoesOn None None exchange h = IsOpen exchange h
GoesOn None (Some failed) exchange h = Unit {0}
