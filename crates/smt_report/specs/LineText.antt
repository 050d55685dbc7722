-- The text of the report, which is this project's own. A line's end, byte 10, is no part of it.
use Rattle.std.specs.Prelude.{ℕ, List, ◌++◌, codes}
use Rattle.std.specs.Fmt.{decimal}
use Rattle.smt_report.specs.declared.claim.Claim.{Claim}
use Rattle.smt_report.specs.declared.claim.Claim.TheVariants.{Assertion, Assumption}
use Rattle.smt_report.specs.declared.line.CheckAnswer.{CheckAnswer}
use Rattle.smt_report.specs.declared.line.CheckAnswer.TheVariants.{Unsat, Unknown, Unsupported, Error}
use Rattle.smt_report.specs.declared.line.Line.{Line}
use Rattle.smt_report.specs.declared.line.Line.TheVariants.{Unchecked, Confirmed, NoModel, ItemFault, Lacks}
use Rattle.smt_report.specs.declared.line.Line.TheVariants.{TooLong, Refuted, NotDecided, TextFault, CommandFault}
use Rattle.smt_report.specs.declared.line.Line.TheVariants.{MissingAnswer, UnexpectedAnswer, ExtraAnswer}
use Rattle.smt_report.specs.declared.line.Line.TheVariants.{Verdict as VerdictLine}
use Rattle.smt_report.specs.declared.line.Side.{Side}
use Rattle.smt_report.specs.declared.line.Side.TheVariants.{Script, Answers}
use Rattle.smt_report.specs.declared.verdict.Tally.{Tally}
use Rattle.smt_report.specs.declared.verdict.Verdict.{Verdict}
use Rattle.smt_report.specs.declared.verdict.Verdict.TheVariants as verdicts
use Rattle.smt_faults.specs.Faults.{place_of}
use Rattle.smt_faults.specs.FlawText.{text_of_command_flaw, text_of_flaw, text_of_term_flaw}

abbrev pub text_of_answer : CheckAnswer → List ℕ
text_of_answer Unsat = codes "unsat"
text_of_answer Unknown = codes "unknown"
text_of_answer Unsupported = codes "unsupported"
text_of_answer Error = codes "error"

abbrev pub text_of_claim : Claim → List ℕ
text_of_claim (Assertion command) = codes "assertion of command " ++ decimal command
text_of_claim (Assumption place) = codes "assumption " ++ decimal place

-- that it refutes a model
abbrev pub text_of_refuted : Claim → List ℕ
text_of_refuted (Assertion command) = codes "refuted by the " ++ text_of_claim (Assertion command)
text_of_refuted (Assumption place) = codes "refuted by " ++ text_of_claim (Assumption place)

abbrev pub text_of_side : Side → List ℕ
text_of_side Script = codes "script"
text_of_side Answers = codes "answers"

abbrev pub text_of_verdict : Verdict → List ℕ
text_of_verdict verdicts.Valid = codes "valid"
text_of_verdict verdicts.Invalid = codes "invalid"
text_of_verdict verdicts.NotDecided = codes "not decided"
text_of_verdict verdicts.Refused = codes "refused"

abbrev pub text_of_tally : Tally → List ℕ
text_of_tally t =
    codes "confirmed " ++ decimal t.confirmed ++ codes ", refuted " ++ decimal t.refuted
    ++ codes ", undecided " ++ decimal t.undecided ++ codes ", unchecked " ++ decimal t.unchecked

-- a line on a check, which goes on with the rest
abbrev pub check_line : ℕ → ℕ → List ℕ → List ℕ
check_line check command rest =
    codes "check " ++ (decimal check ++ (codes " at command " ++ (decimal command ++ rest)))

-- a line on the model printed for a command, which goes on with the rest
abbrev pub model_line : ℕ → ℕ → ℕ → List ℕ → List ℕ
model_line check command model rest =
    check_line check command (codes ": sat, model of command " ++ (decimal model ++ rest))

-- the text of a line
abbrev pub text_of : Line → List ℕ
text_of (Unchecked check command answer) = check_line check command (codes ": " ++ text_of_answer answer)
text_of (Confirmed check command) = check_line check command (codes ": sat, confirmed")
text_of (NoModel check command) = check_line check command (codes ": sat, no model")
text_of (ItemFault check command model item flaw) =
    model_line check command model
    (codes ": item " ++ (decimal item ++ (codes " " ++ text_of_term_flaw flaw)))
text_of (Lacks check command model declaration) =
    model_line check command model (codes ": lacks the symbol of command " ++ decimal declaration)
text_of (TooLong check command model) = model_line check command model (codes ": too long")
text_of (Refuted check command model claim) =
    model_line check command model (codes ": " ++ text_of_refuted claim)
text_of (NotDecided check command model claim) =
    model_line check command model (codes ": " ++ (text_of_claim claim ++ codes " not decided"))
text_of (TextFault side flaw) =
    codes "fault " ++ text_of_flaw flaw ++ codes " in the " ++ text_of_side side
    ++ codes " at byte " ++ decimal (place_of flaw)
text_of (CommandFault command flaw) =
    codes "fault " ++ text_of_command_flaw flaw ++ codes " at command " ++ decimal command
text_of (MissingAnswer command) = codes "fault P1 at command " ++ decimal command
text_of (UnexpectedAnswer command answer) =
    codes "fault P2 at command " ++ decimal command ++ codes ", answer " ++ decimal answer
text_of (ExtraAnswer answer) = codes "fault P3 at answer " ++ decimal answer
text_of (VerdictLine verdict tally) =
    codes "verdict: " ++ text_of_verdict verdict ++ codes ", " ++ text_of_tally tally
