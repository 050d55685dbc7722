-- The two parts in which the end of a line on a check is written.
use Rattle.std.specs.Prelude.{ℕ, List, [], ◌++◌, codes}
use Rattle.std.specs.Fmt.{decimal}
use Rattle.smt_report.specs.LineText.{text_of_answer, text_of_claim, text_of_refuted}
use Rattle.smt_report.specs.declared.line.Line.{Line}
use Rattle.smt_report.specs.declared.line.Line.TheVariants.{Unchecked, Confirmed, NoModel, ItemFault, Lacks}
use Rattle.smt_report.specs.declared.line.Line.TheVariants.{TooLong, Refuted, NotDecided}
use Rattle.smt_faults.specs.FlawText.{text_of_term_flaw}

-- what a line on a model says of it
abbrev pub text_of_finding : Line → List ℕ
text_of_finding (ItemFault check command model item flaw) =
    codes "item " ++ (decimal item ++ (codes " " ++ text_of_term_flaw flaw))
text_of_finding (Lacks check command model declaration) =
    codes "lacks the symbol of command " ++ decimal declaration
text_of_finding (TooLong check command model) = codes "too long"
text_of_finding (Refuted check command model claim) = text_of_refuted claim
text_of_finding (NotDecided check command model claim) = text_of_claim claim ++ codes " not decided"
text_of_finding _ = []

-- the model printed for a command, and then the rest
abbrev pub model_and : ℕ → List ℕ → List ℕ
model_and model rest = codes "sat, model of command " ++ (decimal model ++ (codes ": " ++ rest))

-- what a line on a check says of it
abbrev pub text_of_outcome : Line → List ℕ
text_of_outcome (Unchecked check command answer) = text_of_answer answer
text_of_outcome (Confirmed check command) = codes "sat, confirmed"
text_of_outcome (NoModel check command) = codes "sat, no model"
text_of_outcome (ItemFault check command model item flaw) =
    model_and model (text_of_finding (ItemFault check command model item flaw))
text_of_outcome (Lacks check command model declaration) =
    model_and model (text_of_finding (Lacks check command model declaration))
text_of_outcome (TooLong check command model) = model_and model (text_of_finding (TooLong check command model))
text_of_outcome (Refuted check command model claim) =
    model_and model (text_of_finding (Refuted check command model claim))
text_of_outcome (NotDecided check command model claim) =
    model_and model (text_of_finding (NotDecided check command model claim))
text_of_outcome _ = []
