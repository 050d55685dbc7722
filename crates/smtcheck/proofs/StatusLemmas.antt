-- The summary of a run is that of the report on what both readers had left.
use Rattle.std.proofs.Common.{◌≡◌, ◌++◌, ℕ, IfSome, List, None, Option, Some, ap, ◌∙◌, subst}
use Rattle.std.proofs.lemmas.List.{append-nil}
use Rattle.std.specs.Io.KnownBytes.{Consumes, IsAtEnd}
use Rattle.smt_dialogue.specs.Run.{Devices, HasRun}
use Rattle.smt_dialogue.specs.declared.options.Options.{Options}
use Rattle.smt_report.specs.declared.line.Line.{Line}
use Rattle.smt_report.specs.declared.summary.Summary.{Summary}
use Rattle.smtcheck_command_line.specs.declared.arguments.Settings.{Settings}
use Rattle.smtcheck.specs.ExitStatus.{AreOptionsOf, IsSummaryOn}

-- what was pulled of a reader to its end is all that it had left
all_of : (o p : Option (List ℕ)) (given : List ℕ) → IsAtEnd p → Consumes o p given → IfSome o (λ bytes. bytes ≡ given)
all_of None p given end took = tt
all_of (Some xs) None given end took = absurd took
all_of (Some xs) (Some left) given end took = took ∙ ap (λ l. given ++ l) end ∙ append-nil given

pub run_summary : (settings : Settings) (options : Options) (script answers : Option (List ℕ)) (before after : Devices)
    (visited : List Line → Type 0) (summary : Summary) → AreOptionsOf settings options
    → before.script.to_come ≡ script → before.answers.to_come ≡ answers
    → HasRun options before after visited summary → IsSummaryOn settings script answers summary
run_summary settings options script answers before after visited summary asked script_is answers_is r = record {
  options = options;
  options_are = asked;
  script_bytes = r.script;
  answers_bytes = r.answers;
  script_is = subst (λ o. IfSome o (λ bytes. bytes ≡ r.script)) script_is
      (all_of before.script.to_come after.script.to_come r.script r.script_end r.pulled.script_given);
  answers_is = subst (λ o. IfSome o (λ bytes. bytes ≡ r.answers)) answers_is
      (all_of before.answers.to_come after.answers.to_come r.answers r.answers_end r.pulled.answers_given);
  lines = r.lines;
  report = r.report;
  summary_is = r.summary_is;
}
