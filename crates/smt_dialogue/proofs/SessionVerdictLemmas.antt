-- What the verdict of a session means.
use Rattle.std.proofs.Common.{◌≡◌, ℕ, Bool, true, false, ◌||◌, List, [], ◌∷◌, ◌++◌, IfSome, Option, Some, None, refl}
use Rattle.std.proofs.Common.{ap, sym}
use Rattle.std.proofs.Common.{◌∙◌, subst}
use Rattle.std.proofs.lemmas.List.Folds.{list_any-append}
use Rattle.std.specs.List.{list_any}
use Rattle.smt_dialogue.proofs.CheckLineLemmas.{IsFaultTurn, IsToldTurn, fault_turn, told_turn}
use Rattle.smt_dialogue.proofs.ConfirmedLemmas.{Laws}
use Rattle.smt_dialogue.proofs.FirstFaultLemmas.{invalid_lines, valid_lines}
use Rattle.smt_dialogue.proofs.ReadSoFarLemmas.{so_far_is_report}
use Rattle.smt_dialogue.proofs.SessionGrowthLemmas.{ended_summary, summary_verdict}
use Rattle.smt_dialogue.proofs.ValidityLemmas.{OneForest, invalid_means, valid_means}
use Rattle.smt_dialogue.specs.FirstFault.{Ends}
use Rattle.smt_dialogue.specs.History.{History, whole}
use Rattle.smt_dialogue.specs.Lines.{lines_in}
use Rattle.smt_dialogue.specs.Depth.{max_depth_of}
use Rattle.smt_dialogue.specs.Report.{AreLinesOf, IsRead, IsReport, lines_of_end}
use Rattle.smt_dialogue.specs.Session.{AreLines, IsSummaryIn, IsVerdictIn, StandsFor, failure_of, lines_waiting}
use Rattle.smt_dialogue.specs.SoFar.{is_verdict_line}
use Rattle.smt_dialogue.specs.Validity.{IsInvalid, IsValid}
use Rattle.smt_dialogue.specs.Internal.LineQueueView.{IsFaultLine}
use Rattle.smt_dialogue.specs.Internal.SessionView.{GoesOn, HasEnded}
use Rattle.smt_dialogue.specs.declared.options.Options.{Options}
use Rattle.smt_dialogue.specs.declared.session.Session.{Session}
use Rattle.smt_report.specs.Verdict.{is_fault_line, tally_of, verdict_of}
use Rattle.smt_report.specs.declared.line.Line.{Line}
use Rattle.smt_report.specs.declared.line.Line.TheVariants as lines
use Rattle.smt_report.specs.declared.summary.Summary.{Summary}
use Rattle.smt_report.specs.declared.verdict.Verdict.TheVariants.{Invalid, Valid}
use Rattle.smt_dialogue.specs.InForce.{start_by}

-- a session that tells a summary has ended
pub has_ended : (s : Session) (h : History) (v : Summary) → s.summary ≡ Some v → StandsFor s h
    → HasEnded v h (h.taken ++ lines_waiting s)
has_ended s h v is k = subst (λ o. GoesOn o s.failure s.exchange h) is k.goes_on

ended_told : (summary : Summary) (h : History) (ls : List Line) → (e : HasEnded summary h ls) → e.fault ≡ None
    → (h.script.ended ≡ true) × (h.answers.ended ≡ true)
ended_told summary h ls e none =
    let turn = e.ends.turn_is ∙ ap Ends none in
    let told = subst (IsToldTurn e.script.told e.answers.told) turn
    (told_turn (start_by h.options) e.pairs (record e.answers { trees = e.ends.rest }) e.script.told e.script.fault
    e.ends.later) in
    (sym e.read.script_read.told_so ∙ told.0, sym e.read.answers_read.told_so ∙ told.1)

or_last : (b : Bool) → b || true ≡ true
or_last true = refl
or_last false = refl

no_fault : (fault : Option Line) (ls : List Line) → IsFaultLine fault
    → list_any is_fault_line (ls ++ lines_of_end fault) ≡ false → fault ≡ None
no_fault None ls is h = refl
no_fault (Some line) ls is h = absurd (
    let last = sym (list_any-append is_fault_line ls (line ∷ [])) ∙ h in
    let first : list_any is_fault_line ls || (is_fault_line line || false) ≡ true =
    ap (λ b. list_any is_fault_line ls || (b || false)) is ∙ or_last (list_any is_fault_line ls) in
    let e : true ≡ false = sym first ∙ last in cc)

faultless_end : (v : Summary) (h : History) (ls : List Line) → (e : HasEnded v h ls)
    → list_any is_fault_line (lines_in h.options.profile h.options.limit.steps true [] e.pairs []
    ++ lines_of_end e.fault) ≡ false
    → e.fault ≡ None
faultless_end v h ls e clean =
    no_fault e.fault (lines_in h.options.profile h.options.limit.steps true [] e.pairs [])
    (subst IsFaultTurn e.ends.turn_is
    (fault_turn (start_by h.options) e.pairs (record e.answers { trees = e.ends.rest }) e.script.told e.script.fault
    e.ends.later)) clean

lines_of : (v : Summary) (h : History) (ls : List Line) → (e : HasEnded v h ls)
    → AreLinesOf h.options e.script e.answers ls
lines_of v h ls e = record { pairs = e.pairs; fault = e.fault; ends = e.ends; lines_are = e.lines_are }

-- the lines come to the verdict of the summary
verdict_told : (v : Summary) (h : History) (ls : List Line) → (e : HasEnded v h ls)
    → verdict_of (lines_in h.options.profile h.options.limit.steps true [] e.pairs [] ++ lines_of_end e.fault)
    ≡ v.verdict
verdict_told v h ls e = sym (ap (λ (s : Summary). s.verdict) e.summary_is)

script_whole : (v : Summary) (h : History) (ls : List Line) → (e : HasEnded v h ls) → h.script.ended ≡ true
    → IsRead (max_depth_of h.options.profile) true h.script.bytes e.script
script_whole v h ls e told =
    subst (λ b. IsRead (max_depth_of h.options.profile) b h.script.bytes e.script) told e.read.script_read

answers_whole : (v : Summary) (h : History) (ls : List Line) → (e : HasEnded v h ls) → h.answers.ended ≡ true
    → IsRead (max_depth_of h.options.profile) true h.answers.bytes e.answers
answers_whole v h ls e told =
    subst (λ b. IsRead (max_depth_of h.options.profile) b h.answers.bytes e.answers) told e.read.answers_read

pub ended_valid : Laws → OneForest → (v : Summary) (h : History) (ls : List Line) → v.verdict ≡ Valid
    → HasEnded v h ls → IsValid h.options h.script.bytes h.answers.bytes
ended_valid laws one v h ls is e =
    let all = lines_in h.options.profile h.options.limit.steps true [] e.pairs [] ++ lines_of_end e.fault in
    let told = ended_told v h ls e (faultless_end v h ls e (valid_lines all (verdict_told v h ls e ∙ is)).0) in
    valid_means laws one h.options h.script.bytes h.answers.bytes e.script e.answers ls v.verdict
    (script_whole v h ls e told.0) (answers_whole v h ls e told.1) (lines_of v h ls e)
    (summary_verdict v ls (ended_summary v h ls e)) is

pub ended_invalid : Laws → (v : Summary) (h : History) (ls : List Line) → v.verdict ≡ Invalid
    → HasEnded v h ls → IsInvalid h.options h.script.bytes h.answers.bytes ls
ended_invalid laws v h ls is e =
    let all = lines_in h.options.profile h.options.limit.steps true [] e.pairs [] ++ lines_of_end e.fault in
    let told = ended_told v h ls e (faultless_end v h ls e (invalid_lines all (verdict_told v h ls e ∙ is)).0) in
    invalid_means laws h.options h.script.bytes h.answers.bytes e.script e.answers ls v.verdict
    (script_whole v h ls e told.0) (answers_whole v h ls e told.1) (lines_of v h ls e)
    (summary_verdict v ls (ended_summary v h ls e)) is

-- what holds of each value that an option may have
pub if_some : {A : Type 0} {P : A → Type 0} (o : Option A) → ((x : A) → o ≡ Some x → P x) → IfSome o P
if_some None holds = tt
if_some (Some x) holds = holds x refl

-- the verdict of a summary is told where the summary is
pub verdict_in : (v : Summary) (ls : List Line) → IsSummaryIn (Some v) ls → IsVerdictIn (Some v.verdict) ls
verdict_in v ls told = summary_verdict v ls told

-- ---- both texts were told to their ends

-- lines that are a report hold that of the verdict
pub reported : (options : Options) (script answers : List ℕ) (ls : List Line) → IsReport options script answers ls
    → list_any is_verdict_line ls ≡ false → ⊥
reported options script answers ls r h =
    let l = r.lines_are in
    let all = lines_in options.profile options.limit.steps true [] l.pairs [] ++ lines_of_end l.fault in
    let last = lines.Verdict (verdict_of all) (tally_of all) ∷ [] in
    let seen : list_any is_verdict_line ls ≡ true =
    ap (list_any is_verdict_line) l.lines_are ∙ list_any-append is_verdict_line all last
    ∙ or_last (list_any is_verdict_line all) in
    let e : true ≡ false = sym seen ∙ h in cc

pub whole_report : (s : Session) (options : Options) (script answers : List ℕ) → failure_of s ≡ None
    → StandsFor s (whole options script answers) → IsReport options script answers (lines_waiting s)
whole_report s options script answers none k =
    so_far_is_report options script answers (lines_waiting s)
    (subst (λ f. AreLines f (whole options script answers) (lines_waiting s)) none k.lines)
