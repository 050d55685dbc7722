-- Runs: what was pulled and put so far, and what a fault leaves.
use Rattle.std.proofs.Common.{◌≡◌, ◌≤◌, ℕ, ◌+◌, Bool, true, false, List, [], ◌∷◌, ◌++◌, length, drop, take, Option}
use Rattle.std.proofs.Common.{Some}
use Rattle.std.proofs.Common.{Result, Ok, Err, IfErr, OnOk, None, refl, ap, sym, ◌∙◌, subst, append_assoc, arith}
use Rattle.std.proofs.Common.{length-append}
use Rattle.std.proofs.Math.Seq.{take-append-add}
use Rattle.std.proofs.lemmas.List.{append-nil, length-take-le, take-append-drop}
use Rattle.std.specs.Io.KnownBytes.{Appends, Consumes, IsAtEnd}
use Rattle.std.specs.Prelude.{nat_eq}
use Rattle.smt_dialogue.proofs.ReadSoFarLemmas.{so_far_is_report}
use Rattle.smt_dialogue.proofs.SessionVerdictLemmas.{reported}
use Rattle.smt_dialogue.proofs.SessionGrowthLemmas.{any_first}
use Rattle.smt_dialogue.proofs.SessionTurnLemmas.{first_going, going_fed}
use Rattle.smt_dialogue.specs.History.{AreDecided, AreFirstDecided, History, IsLong, Told, begun, text_at, whole}
use Rattle.smt_dialogue.specs.History.{with_more, with_taken}
use Rattle.smt_dialogue.specs.Report.{IsReport}
use Rattle.smt_dialogue.specs.SoFar.{IsBeginning, IsSoFar}
use Rattle.smt_dialogue.specs.Run.{AreVisited, Devices, HasRun, HasStopped, IsBlamed, IsPulled, IsPut, Tap}
use Rattle.smt_dialogue.specs.Run.{text_of_lines}
use Rattle.smt_dialogue.specs.Session.{AreLines, IsSummaryIn, StandsFor, failure_of, lines_waiting}
use Rattle.smt_dialogue.specs.Validity.{IsInvalid, IsValid}
use Rattle.smt_dialogue.specs.Internal.RunStep.{AreAtEnd, HasSettled, HasStepped, IsAtRest, IsCutOff, IsFailure}
use Rattle.smt_dialogue.specs.Internal.RunStep.{IsFedRun}
use Rattle.smt_dialogue.specs.Internal.RunStep.{IsOutputFailure, IsPutFault, IsPutRun, IsRunning, IsRunningBy, IsSound}
use Rattle.smt_dialogue.specs.Internal.RunStep.{OfLines, fault_at, history, with_tap}
use Rattle.smt_dialogue.specs.Internal.SessionStep.{IsFed, IsGoingOn, IsLeftOpen}
use Rattle.smt_dialogue.specs.declared.runs.RunFault.{RunFault}
use Rattle.smt_dialogue.specs.declared.runs.RunFault.TheVariants as faults
use Rattle.smt_dialogue.specs.declared.options.Options.{Options}
use Rattle.smt_dialogue.specs.declared.session.Failed.{Failed}
use Rattle.smt_dialogue.specs.declared.session.Session.{Session}
use Rattle.smt_report.specs.LineText.{text_of}
use Rattle.smt_report.specs.declared.line.Line.{Line}
use Rattle.smt_report.specs.declared.line.Side.{Side}
use Rattle.smt_report.specs.declared.line.Side.TheVariants.{Answers, Script}
use Rattle.smt_report.specs.declared.summary.Summary.{Summary}
use Rattle.smt_report.specs.declared.verdict.Verdict.TheVariants.{Invalid, Valid}

-- ---- bytes behind bytes

pub consumes_none : (o : Option (List ℕ)) → Consumes o o []
consumes_none None = tt
consumes_none (Some xs) = refl

pub consumes_both : (a b c : Option (List ℕ)) (xs ys : List ℕ) → Consumes a b xs → Consumes b c ys
    → Consumes a c (xs ++ ys)
consumes_both None b c xs ys h g = tt
consumes_both (Some a) None c xs ys h g = absurd h
consumes_both (Some a) (Some b) None xs ys h g = absurd g
consumes_both (Some a) (Some b) (Some c) xs ys h g =
    h ∙ ap (λ l. xs ++ l) g ∙ sym (append_assoc xs ys c)

pub appends_none : (o : Option (List ℕ)) → Appends o o []
appends_none None = tt
appends_none (Some xs) = sym (append-nil xs)

pub appends_both : (a b c : Option (List ℕ)) (xs ys : List ℕ) → Appends a b xs → Appends b c ys
    → Appends a c (xs ++ ys)
appends_both None b c xs ys h g = tt
appends_both (Some a) None c xs ys h g = absurd h
appends_both (Some a) (Some b) None xs ys h g = absurd g
appends_both (Some a) (Some b) (Some c) xs ys h g =
    g ∙ ap (λ l. l ++ ys) h ∙ append_assoc a xs ys

pub text_append : (xs ys : List Line) → text_of_lines (xs ++ ys) ≡ text_of_lines xs ++ text_of_lines ys
text_append [] ys = refl
text_append (x ∷ xs) ys =
    ap (λ t. (text_of x ++ 10 ∷ []) ++ t) (text_append xs ys)
    ∙ sym (append_assoc (text_of x ++ 10 ∷ []) (text_of_lines xs) (text_of_lines ys))

pub text_push : (xs : List Line) (x : Line)
    → text_of_lines (xs ++ x ∷ []) ≡ text_of_lines xs ++ (text_of x ++ 10 ∷ [])
text_push xs x = text_append xs (x ∷ []) ∙ ap (λ t. text_of_lines xs ++ t) (append-nil (text_of x ++ 10 ∷ []))

taken_front : (xs ys : List ℕ) (n : ℕ) → take (length xs + n) (xs ++ ys) ≡ xs ++ take n ys
taken_front xs ys n = take-append-add xs ys n

-- ---- steps

-- nothing was pulled or put
pub running_new : (visited : OfLines) (options : Options) (now : Devices) (s : Session) → now.script.ended ≡ false
    → now.answers.ended ≡ false → visited [] → StandsFor s (begun options) → IsRunning visited options now now s
running_new visited options now s script answers none k = record {
  script = [];
  answers = [];
  taken = [];
  pulled = record {
    script_given = consumes_none now.script.to_come;
    answers_given = consumes_none now.answers.to_come;
  };
  written = appends_none now.out;
  visits = none;
  stands = subst (λ b. StandsFor s (record (begun options) {
    script = record { bytes = []; ended = b };
    answers = record { bytes = []; ended = now.answers.ended };
  })) (sym script)
      (subst (λ b. StandsFor s (record (begun options) { answers = record { bytes = []; ended = b } }))
      (sym answers) k);
}

-- this was pulled of a source
running_pulled : (P Q : History → Type 0) (side : Side) (visited : OfLines) (options : Options) (before all : Devices)
    (old new : Tap)
    (out : Option (List ℕ)) (given : List ℕ) → IsPulled old new given
    → ((h : History) → (text_at side h).ended ≡ old.ended → P h → Q (with_more side h given new.ended))
    → IsRunningBy visited P options before (with_tap side old out all)
    → IsRunningBy visited Q options before (with_tap side new out all)
running_pulled P Q Script visited options before all old new out given pulls told r = record {
  script = r.script ++ given;
  answers = r.answers;
  taken = r.taken;
  pulled = record {
    script_given =
        consumes_both before.script.to_come old.to_come new.to_come r.script given r.pulled.script_given pulls;
    answers_given = r.pulled.answers_given;
  };
  written = r.written;
  visits = r.visits;
  stands = told (history options (with_tap Script old out all) r.script r.answers r.taken) refl r.stands;
}
running_pulled P Q Answers visited options before all old new out given pulls told r = record {
  script = r.script;
  answers = r.answers ++ given;
  taken = r.taken;
  pulled = record {
    script_given = r.pulled.script_given;
    answers_given =
        consumes_both before.answers.to_come old.to_come new.to_come r.answers given r.pulled.answers_given pulls;
  };
  written = r.written;
  visits = r.visits;
  stands = told (history options (with_tap Answers old out all) r.script r.answers r.taken) refl r.stands;
}

-- and the session was told it
pub running_text : (side : Side) (visited : OfLines) (options : Options) (before all : Devices) (s t : Session)
    (old new : Tap)
    (out : Option (List ℕ)) (given : List ℕ) → IsPulled old new given
    → ((h : History) → StandsFor s h → IsFed t (with_more side h given new.ended))
    → IsRunning visited options before (with_tap side old out all) s
    → IsFedRun visited options before (with_tap side new out all) t
running_text side visited options before all s t old new out given pulls told r =
    running_pulled (StandsFor s) (IsFed t) side visited options before all old new out given pulls
    (λ h same k. told h k) r

nothing_told : (told : Told) (ended : Bool) → told.ended ≡ ended
    → told ≡ record { bytes = told.bytes ++ []; ended = ended }
nothing_told told ended same =
    subst (λ bs. told ≡ record { bytes = bs; ended = ended }) (sym (append-nil told.bytes))
    (subst (λ b. told ≡ record { bytes = told.bytes; ended = b }) same refl)

nothing_more : (side : Side) (h : History) (ended : Bool) → (text_at side h).ended ≡ ended
    → h ≡ with_more side h [] ended
nothing_more Script h ended same =
    ap (λ (told : Told). record h { script = told }) (nothing_told h.script ended same)
nothing_more Answers h ended same =
    ap (λ (told : Told). record h { answers = told }) (nothing_told h.answers ended same)

-- a source has failed, and gave nothing
cut_running : (side : Side) (visited : OfLines) (options : Options) (before all : Devices) (s : Session) (old new : Tap)
    (out : Option (List ℕ)) → IsPulled old new [] → old.ended ≡ new.ended
    → IsRunning visited options before (with_tap side old out all) s
    → IsRunning visited options before (with_tap side new out all) s
cut_running side visited options before all s old new out pulls same r =
    running_pulled (StandsFor s) (StandsFor s) side visited options before all old new out [] pulls
    (λ h ended k. subst (StandsFor s) (nothing_more side h new.ended (ended ∙ same)) k) r

pub cut_source : (done : Session → Type 0) (side : Side) (visited : OfLines) (options : Options) (before all : Devices)
    (s : Session)
    (old new : Tap) (out : Option (List ℕ)) → IsAtRest done s → IsPulled old new [] → old.ended ≡ new.ended
    → IsRunning visited options before (with_tap side old out all) s
    → IsCutOff visited done (fault_at side) options before (with_tap side new out all) s
cut_source done Script visited options before all s old new out rest pulls same r =
    (cut_running Script visited options before all s old new out pulls same r, rest)
cut_source done Answers visited options before all s old new out rest pulls same r =
    (cut_running Answers visited options before all s old new out pulls same r, rest)

-- an empty piece is the end
pub pulled_end : (told ended : Bool) (block : List ℕ) (count : ℕ) → count ≤ length block
    → told ≡ nat_eq (length (take count block)) 0 → ended ≡ nat_eq count 0 → told ≡ ended
pulled_end told ended block count fits told_is ended_is =
    told_is ∙ ap (λ n. nat_eq n 0) (length-take-le count block fits) ∙ sym ended_is

-- these lines were put, and then visited
running_put : (P Q : History → Type 0) (visited then : OfLines) (options : Options) (before now : Devices)
    (out : Option (List ℕ)) (ls : List Line) → ((h : History) → P h → Q (with_taken h ls))
    → Appends now.out out (text_of_lines ls) → ((first : List Line) → visited first → then (first ++ ls))
    → IsRunningBy visited P options before now → IsRunningBy then Q options before (record now { out = out })
running_put P Q visited then options before now out ls takes puts visits r = record {
  script = r.script;
  answers = r.answers;
  taken = r.taken ++ ls;
  pulled = record { script_given = r.pulled.script_given; answers_given = r.pulled.answers_given };
  written = subst (Appends before.out out) (sym (text_append r.taken ls))
      (appends_both before.out now.out out (text_of_lines r.taken) (text_of_lines ls) r.written puts);
  visits = visits r.taken r.visits;
  stands = takes _ r.stands;
}

running_so : (P Q : History → Type 0) (visited : OfLines) (options : Options) (before now : Devices)
    → ((h : History) → P h → Q h)
    → IsRunningBy visited P options before now → IsRunningBy visited Q options before now
running_so P Q visited options before now so r = record {
  script = r.script;
  answers = r.answers;
  taken = r.taken;
  pulled = record { script_given = r.pulled.script_given; answers_given = r.pulled.answers_given };
  written = r.written;
  visits = r.visits;
  stands = so _ r.stands;
}

-- ---- faults

all_lines : (visited : OfLines) (options : Options) (before now : Devices) (s : Session) → failure_of s ≡ None
    → (r : IsRunning visited options before now s)
    → AreDecided (history options now r.script r.answers r.taken) (r.taken ++ lines_waiting s)
all_lines visited options before now s none r =
    subst (λ f. AreLines f (history options now r.script r.answers r.taken) (r.taken ++ lines_waiting s)) none
    r.stands.lines

none_waiting : (s : Session) (taken : List Line) → lines_waiting s ≡ [] → taken ≡ taken ++ lines_waiting s
none_waiting s taken empty = sym (ap (λ ls. taken ++ ls) empty ∙ append-nil taken)

all_put : (visited : OfLines) (options : Options) (before now : Devices) (s : Session) → lines_waiting s ≡ []
    → (r : IsRunning visited options before now s)
    → Appends before.out now.out (text_of_lines (r.taken ++ lines_waiting s))
all_put visited options before now s empty r =
    subst (λ ls. Appends before.out now.out (text_of_lines ls)) (none_waiting s r.taken empty) r.written

all_visited : (visited : OfLines) (options : Options) (before now : Devices) (s : Session) → lines_waiting s ≡ []
    → (r : IsRunning visited options before now s) → visited (r.taken ++ lines_waiting s)
all_visited visited options before now s empty r = subst visited (none_waiting s r.taken empty) r.visits

-- a fault but want of bytes of a text stopped the run, and every line was put
rested_at : (fault : RunFault) (visited : OfLines) (options : Options) (before now : Devices) (s : Session)
    → ((text : List ℕ) → Appends before.out now.out text → IsPut fault before.out now.out text)
    → ((ls : List Line) → visited ls → AreVisited fault visited ls)
    → (fault ≡ faults.Long → ⊥) → failure_of s ≡ None → lines_waiting s ≡ [] → IsRunning visited options before now s
    → HasStopped options before now visited fault
rested_at fault visited options before now s put shown short none empty r = record {
  script = r.script;
  answers = r.answers;
  pulled = record { script_given = r.pulled.script_given; answers_given = r.pulled.answers_given };
  lines = r.taken ++ lines_waiting s;
  so_far = all_lines visited options before now s none r;
  written = put _ (all_put visited options before now s empty r);
  visits = shown _ (all_visited visited options before now s empty r);
  long = λ is. absurd (short is);
}

-- a run that puts lines is stopped
pub stopped_at : (done : Session → Type 0) (fault : RunFault) (visited : OfLines) (options : Options)
    (before now : Devices) (s : Session)
    → ((t : Session) → done t → lines_waiting t ≡ []) → IsCutOff visited done fault options before now s
    → HasStopped options before now visited fault
stopped_at done faults.Script visited options before now s puts h =
    rested_at faults.Script visited options before now s (λ text put. put) (λ ls all. all) (λ is. cc) h.1.failure
    (puts s h.1.done) h.0
stopped_at done faults.Answers visited options before now s puts h =
    rested_at faults.Answers visited options before now s (λ text put. put) (λ ls all. all) (λ is. cc) h.1.failure
    (puts s h.1.done) h.0
stopped_at done faults.Output visited options before now s puts h = h
stopped_at done faults.Memory visited options before now s puts h = h
stopped_at done faults.Long visited options before now s puts h = h

-- what begins bytes are the first of them
first_bytes : (before after : Option (List ℕ)) (xs ys all : List ℕ) → all ≡ xs ++ ys → Appends before after xs
    → (count : ℕ) × Appends before after (take count all)
first_bytes before after xs ys all is h = (
  length xs + 0,
  subst (Appends before after)
      (sym (ap (take (length xs + 0)) is ∙ taken_front xs ys 0 ∙ append-nil xs)) h,
)

-- lines were put, and the first bytes of others, with which the lines so far begin
pub part_put : (before now after : Option (List ℕ)) (taken ls all : List Line) (count : ℕ)
    → Appends before now (text_of_lines taken) → Appends now after (take count (text_of_lines ls))
    → IsBeginning (taken ++ ls) all → (n : ℕ) × Appends before after (take n (text_of_lines all))
part_put before now after taken ls all count h g begins =
    let put = take count (text_of_lines ls) in
    let left = drop count (text_of_lines ls) in
    first_bytes before after (text_of_lines taken ++ put) (left ++ text_of_lines begins.0) (text_of_lines all)
    (ap text_of_lines begins.1
    ∙ text_append (taken ++ ls) begins.0
    ∙ ap (λ t. t ++ text_of_lines begins.0)
    (text_append taken ls
    ∙ ap (λ t. text_of_lines taken ++ t) (sym (take-append-drop count (text_of_lines ls)))
    ∙ sym (append_assoc (text_of_lines taken) put left))
    ∙ append_assoc (text_of_lines taken ++ put) left (text_of_lines begins.0))
    (appends_both before now after (text_of_lines taken) put h g)

-- a fault that leaves a part of a text put
abbrev pub IsPartFault : RunFault → Type 0
IsPartFault faults.Script = ⊥
IsPartFault faults.Answers = ⊥
IsPartFault _ = Unit {0}

part_at : (fault : RunFault) → IsPartFault fault → (before after : Option (List ℕ)) (text : List ℕ)
    → (count : ℕ) × Appends before after (take count text) → IsPut fault before after text
part_at faults.Script h before after text part = absurd h
part_at faults.Answers h before after text part = absurd h
part_at faults.Output h before after text part = part
part_at faults.Memory h before after text part = part
part_at faults.Long h before after text part = part

part_visited : (fault : RunFault) → IsPartFault fault → (visited : OfLines) (taken ls all : List Line) → visited taken
    → IsBeginning (taken ++ ls) all → AreVisited fault visited all
part_visited faults.Script h visited taken ls all shown begins = absurd h
part_visited faults.Answers h visited taken ls all shown begins = absurd h
part_visited faults.Output h visited taken ls all shown begins =
    (taken, shown, (ls ++ begins.0, begins.1 ∙ append_assoc taken ls begins.0))
part_visited faults.Memory h visited taken ls all shown begins =
    (taken, shown, (ls ++ begins.0, begins.1 ∙ append_assoc taken ls begins.0))
part_visited faults.Long h visited taken ls all shown begins =
    (taken, shown, (ls ++ begins.0, begins.1 ∙ append_assoc taken ls begins.0))

-- it stops where the first bytes of some lines were put, with which those begin that wait
stopped_part : (P : History → Type 0) (visited : OfLines) (options : Options) (before now : Devices)
    (out : Option (List ℕ))
    (ls : List Line) (count : ℕ) (fault : RunFault) → IsPartFault fault
    → ((h : History) → P h → AreFirstDecided h (h.taken ++ ls))
    → ((h : History) → P h → fault ≡ faults.Long → IsLong h)
    → Appends now.out out (take count (text_of_lines ls)) → IsRunningBy visited P options before now
    → HasStopped options before (record now { out = out }) visited fault
stopped_part P visited options before now out ls count fault part first long puts r =
    let f = first _ r.stands in
    record {
      script = r.script;
      answers = r.answers;
      pulled = record { script_given = r.pulled.script_given; answers_given = r.pulled.answers_given };
      lines = f.0;
      so_far = f.1;
      written = part_at fault part before.out out (text_of_lines f.0)
          (part_put before.out now.out out r.taken ls f.0 count r.written puts f.2);
      visits = part_visited fault part visited r.taken ls f.0 r.visits f.2;
      long = long _ r.stands;
    }

-- the session has failed, and no line was put
failed_lines : (s : Session) (failed : Failed) → failure_of s ≡ Some failed → (h : History) → StandsFor s h
    → AreFirstDecided h (h.taken ++ lines_waiting s)
failed_lines s failed some h k = subst (λ f. AreLines f h (h.taken ++ lines_waiting s)) some k.lines

failed_long : (fault : RunFault) (s : Session) (failed : Failed) → IsFailure fault (Some failed)
    → failure_of s ≡ Some failed → (h : History) → StandsFor s h → fault ≡ faults.Long → IsLong h
failed_long faults.Script s failed is some h k same = absurd is
failed_long faults.Answers s failed is some h k same = absurd is
failed_long faults.Output s failed is some h k same = absurd is
failed_long faults.Memory s failed is some h k same = absurd (cc)
failed_long faults.Long s failed is some h k same = k.long (some ∙ is)

part_failure : (fault : RunFault) (failed : Failed) → IsFailure fault (Some failed) → IsPartFault fault
part_failure faults.Script failed is = absurd is
part_failure faults.Answers failed is = absurd is
part_failure faults.Output failed is = absurd is
part_failure faults.Memory failed is = tt
part_failure faults.Long failed is = tt

pub stopped_failed : (visited : OfLines) (options : Options) (before now : Devices) (s t : Session) (failed : Failed)
    (fault : RunFault)
    → IsFailure fault (Some failed) → failure_of t ≡ Some failed → ((h : History) → IsFed s h → StandsFor t h)
    → IsFedRun visited options before now s → HasStopped options before now visited fault
stopped_failed visited options before now s t failed fault is some stands r =
    stopped_part (StandsFor t) visited options before now now.out (lines_waiting t) 0 fault
    (part_failure fault failed is)
    (failed_lines t failed some) (failed_long fault t failed is some) (appends_none now.out)
    (running_so (IsFed s) (StandsFor t) visited options before now stands r)

-- the session has come to rest, and no line was put
pub stands_settled : (visited : OfLines) (options : Options) (before now : Devices) (s t : Session)
    → ((h : History) → IsFed s h → StandsFor t h) → IsFedRun visited options before now s
    → IsRunning visited options before now t
stands_settled visited options before now s t stands r =
    running_so (IsFed s) (StandsFor t) visited options before now stands r

-- lines were not put, or not all
open_lines : (more : Bool) (s : Session) → failure_of s ≡ None → (h : History) → IsLeftOpen more s h
    → AreFirstDecided h (h.taken ++ lines_waiting s)
open_lines true s none h on = first_going s h on
open_lines false s none h k =
    any_first (failure_of s) h (h.taken ++ lines_waiting s) k.lines

part_output : (fault : RunFault) (broken : Bool) → IsOutputFailure fault broken → IsPartFault fault
part_output faults.Script broken is = absurd is
part_output faults.Answers broken is = absurd is
part_output faults.Output broken is = tt
part_output faults.Memory broken is = tt
part_output faults.Long broken is = absurd is

not_long : (fault : RunFault) (broken : Bool) → IsOutputFailure fault broken → fault ≡ faults.Long → ⊥
not_long faults.Script broken is same = is
not_long faults.Answers broken is same = is
not_long faults.Output broken is same = absurd (cc)
not_long faults.Memory broken is same = absurd (cc)
not_long faults.Long broken is same = is

pub stopped_put : (visited : OfLines) (options : Options) (before now : Devices) (s t : Session) (out : Option (List ℕ))
    (more : Bool)
    (fault : RunFault) (broken : Bool) → IsOutputFailure fault broken → failure_of t ≡ None
    → ((h : History) → IsFed s h → IsLeftOpen more t h)
    → (count : ℕ) × Appends now.out out (take count (text_of_lines (lines_waiting t)))
    → IsFedRun visited options before now s → HasStopped options before (record now { out = out }) visited fault
stopped_put visited options before now s t out more fault broken is none turned part r =
    stopped_part (IsLeftOpen more t) visited options before now out (lines_waiting t) part.0 fault
    (part_output fault broken is)
    (open_lines more t none) (λ h k same. absurd (not_long fault broken is same)) part.1
    (running_so (IsFed s) (IsLeftOpen more t) visited options before now turned r)

-- ---- what was put

open_taken : (more : Bool) (s t : Session)
    → ((h : History) → StandsFor s h → StandsFor t (with_taken h (lines_waiting s)))
    → ((h : History) → IsGoingOn s h → IsGoingOn t (with_taken h (lines_waiting s)))
    → (h : History) → IsLeftOpen more s h → IsLeftOpen more t (with_taken h (lines_waiting s))
open_taken true s t stands going h on = going h on
open_taken false s t stands going h k = stands h k

pub put_run : (visited then : OfLines) (options : Options) (before now : Devices) (s m t : Session)
    (out : Option (List ℕ)) (more : Bool)
    → ((h : History) → IsFed s h → IsLeftOpen more m h)
    → ((h : History) → StandsFor m h → StandsFor t (with_taken h (lines_waiting m)))
    → ((h : History) → IsGoingOn m h → IsGoingOn t (with_taken h (lines_waiting m)))
    → Appends now.out out (text_of_lines (lines_waiting m))
    → ((first : List Line) → visited first → then (first ++ lines_waiting m))
    → IsFedRun visited options before now s
    → IsPutRun then more options before (record now { out = out }) t
put_run visited then options before now s m t out more turned stands going puts visits r =
    running_put (IsLeftOpen more m) (IsLeftOpen more t) visited then options before now out (lines_waiting m)
    (open_taken more m t stands going) puts visits
    (running_so (IsFed s) (IsLeftOpen more m) visited options before now turned r)

pub put_fed : (s m t : Session) (more : Bool) → more ≡ true → ((h : History) → IsFed s h → IsLeftOpen more m h)
    → ((h : History) → IsGoingOn m h → IsGoingOn t (with_taken h (lines_waiting m)))
    → (h : History) × IsFed s h → (h : History) × IsFed t h
put_fed s m t more is turned going k =
    let on : IsGoingOn m k.0 = subst (λ b. IsLeftOpen b m k.0) is (turned k.0 k.1) in
    (_, going_fed t _ (going k.0 on))

pub more_fed : (visited : OfLines) (options : Options) (before now : Devices) (s : Session) (more : Bool) → more ≡ true
    → IsPutRun visited more options before now s → IsFedRun visited options before now s
more_fed visited options before now s more is r =
    running_so (IsGoingOn s) (IsFed s) visited options before now (going_fed s)
    (subst (λ b. IsPutRun visited b options before now s) is r)

pub none_left : (visited : OfLines) (options : Options) (before now : Devices) (s : Session) (more : Bool)
    → more ≡ false
    → IsPutRun visited more options before now s → IsRunning visited options before now s
none_left visited options before now s more is r = subst (λ b. IsPutRun visited b options before now s) is r

pub put_blamed : (fault : RunFault) (script answers out : Bool) → IsPutFault fault out
    → IsBlamed fault script answers out
put_blamed faults.Script script answers out h = absurd h
put_blamed faults.Answers script answers out h = absurd h
put_blamed faults.Output script answers out h = h
put_blamed faults.Memory script answers out h = tt
put_blamed faults.Long script answers out h = tt

-- ---- what a call answered

pub map_ok : {T E P Q : Type 0} (r : Result T E) → OnOk r P → (P → Q) → OnOk r Q
map_ok (Ok x) p f = f p
map_ok (Err e) p f = tt

pub map_err : {T E : Type 0} {P Q : E → Type 0} (r : Result T E) → IfErr r P → ((e : E) → P e → Q e) → IfErr r Q
map_err (Ok x) p f = tt
map_err (Err e) p f = f e p

pub map_both : {T E P Q S : Type 0} (r : Result T E) → OnOk r P → OnOk r Q → (P → Q → S) → OnOk r S
map_both (Ok x) p q f = f p q
map_both (Err e) p q f = tt

-- turns were taken, or a fault stopped that
pub settled : (r : Result Unit RunFault) (visited : OfLines) (options : Options) (before now : Devices) (s : Session)
    → OnOk r (IsRunning visited options before now s) → IfErr r (λ fault. HasStopped options before now visited fault)
    → HasSettled visited r options before now s
settled (Ok unit) visited options before now s on stopped = on
settled (Err fault) visited options before now s on stopped = stopped

cut_settling : (done : Session → Type 0) (fault : RunFault) (broken : Bool) (visited : OfLines) (options : Options)
    (before now : Devices)
    (s : Session) → IsPutFault fault broken → HasStopped options before now visited fault
    → IsCutOff visited done fault options before now s
cut_settling done faults.Script broken visited options before now s is h = absurd is
cut_settling done faults.Answers broken visited options before now s is h = absurd is
cut_settling done faults.Output broken visited options before now s is h = h
cut_settling done faults.Memory broken visited options before now s is h = h
cut_settling done faults.Long broken visited options before now s is h = h

pub settled_step : (done : Session → Type 0) (r : Result Unit RunFault) (broken : Bool) (visited : OfLines)
    (options : Options)
    (before now : Devices) (s : Session) → IfErr r (λ fault. IsPutFault fault broken)
    → HasSettled visited r options before now s → HasStepped visited done r options before now s
settled_step done (Ok unit) broken visited options before now s blamed h = h
settled_step done (Err fault) broken visited options before now s blamed h =
    cut_settling done fault broken visited options before now s blamed h

pub sound_kept : (told now_told : Bool) (now : Tap) (broken : Bool) → now_told ≡ told → IsSound told now broken
    → IsSound now_told now broken
sound_kept told now_told now broken same h =
    record { ended = same ∙ h.ended; sound = h.sound; end = h.end }

pub none_before : (o new : Option Failed) → ((failed : Failed) → o ≡ Some failed → new ≡ Some failed) → new ≡ None
    → o ≡ None
none_before None new stays none = refl
none_before (Some failed) new stays none =
    absurd (let e : Some failed ≡ None = sym (stays failed refl) ∙ none in cc)

-- ---- the end

report_at : (visited : OfLines) (options : Options) (before now : Devices) (s : Session) → failure_of s ≡ None
    → now.script.ended ≡ true → now.answers.ended ≡ true → (r : IsRunning visited options before now s)
    → IsReport options r.script r.answers (r.taken ++ lines_waiting s)
report_at visited options before now s none script answers r =
    so_far_is_report options r.script r.answers (r.taken ++ lines_waiting s)
    (subst (λ b. IsSoFar options b r.script true r.answers (r.taken ++ lines_waiting s)) script
    (subst (λ b. IsSoFar options now.script.ended r.script b r.answers (r.taken ++ lines_waiting s)) answers
    (all_lines visited options before now s none r)))

-- the session has a summary where both ends were told
pub told_summary : (visited : OfLines) (options : Options) (before now : Devices) (s : Session) → failure_of s ≡ None
    → AreAtEnd now
    → (r : IsRunning visited options before now s) → IsSummaryIn None (r.taken ++ lines_waiting s) → ⊥
told_summary visited options before now s none ends r silent =
    reported options r.script r.answers (r.taken ++ lines_waiting s)
    (report_at visited options before now s none ends.script ends.answers r) silent

pub has_run : (visited : OfLines) (options : Options) (before now : Devices) (s : Session) (v : Summary)
    → failure_of s ≡ None
    → lines_waiting s ≡ [] → AreAtEnd now → (r : IsRunning visited options before now s)
    → ((h : History) → StandsFor s h → IsSummaryIn (Some v) (h.taken ++ lines_waiting s))
    → ((h : History) → StandsFor s h → v.verdict ≡ Valid → IsValid h.options h.script.bytes h.answers.bytes)
    → ((h : History) → StandsFor s h → v.verdict ≡ Invalid
    → IsInvalid h.options h.script.bytes h.answers.bytes (h.taken ++ lines_waiting s))
    → HasRun options before now visited v
has_run visited options before now s v none empty ends r told valid invalid = record {
  script = r.script;
  answers = r.answers;
  pulled = r.pulled;
  script_ended = ends.script;
  answers_ended = ends.answers;
  script_end = ends.script_end;
  answers_end = ends.answers_end;
  lines = r.taken ++ lines_waiting s;
  report = report_at visited options before now s none ends.script ends.answers r;
  summary_is = told _ r.stands;
  valid = valid _ r.stands;
  invalid = invalid _ r.stands;
  written = all_put visited options before now s empty r;
  visits = all_visited visited options before now s empty r;
}

-- ---- texts in memory, of which all is pulled and nothing is put

all_given : (o p : Option (List ℕ)) (all given : List ℕ) → o ≡ Some all → IsAtEnd p → Consumes o p given → given ≡ all
all_given None p all given is end took = absurd (cc)
all_given (Some xs) None all given is end took = absurd took
all_given (Some xs) (Some left) all given is end took =
    let same : xs ≡ all = cc in sym (append-nil given) ∙ ap (λ l. given ++ l) (sym end) ∙ sym took ∙ same

some_text : (xs : List Line) → [] ≡ text_of_lines xs → xs ≡ []
some_text [] is = refl
some_text (x ∷ xs) is =
    absurd (omega (
      arith,
      ap length is,
      length-append (text_of x ++ 10 ∷ []) (text_of_lines xs),
      length-append (text_of x) (10 ∷ []),
    ))

none_put : (o p : Option (List ℕ)) (ls : List Line) → o ≡ Some [] → p ≡ Some [] → Appends o p (text_of_lines ls)
    → ls ≡ []
none_put None p ls is put_is put = absurd (cc)
none_put (Some xs) None ls is put_is put = absurd put
none_put (Some xs) (Some ys) ls is put_is put =
    let none : xs ≡ [] = cc in
    let none_then : ys ≡ [] = cc in
    some_text ls (sym none_then ∙ put ∙ ap (λ l. l ++ text_of_lines ls) none)

-- the devices are two texts in memory, and nothing is put
pub record AreTexts (before now : Devices) (script answers : List ℕ) : Type 0 where
  pub script_is : before.script.to_come ≡ Some script
  pub answers_is : before.answers.to_come ≡ Some answers
  pub nothing : before.out ≡ Some []
  pub nothing_then : now.out ≡ Some []

told_whole : (visited : OfLines) (options : Options) (before now : Devices) (s : Session) (script answers : List ℕ)
    → AreTexts before now script answers → AreAtEnd now → IsRunning visited options before now s
    → StandsFor s (whole options script answers)
told_whole visited options before now s script answers texts ends r =
    let all = all_given before.script.to_come now.script.to_come script r.script texts.script_is ends.script_end
    r.pulled.script_given in
    let all_answers = all_given before.answers.to_come now.answers.to_come answers r.answers texts.answers_is
    ends.answers_end r.pulled.answers_given in
    let none = none_put before.out now.out r.taken texts.nothing texts.nothing_then r.written in
    subst (λ bs. StandsFor s (whole options bs answers)) all
    (subst (λ bs. StandsFor s (whole options r.script bs)) all_answers
    (subst (λ ls. StandsFor s (record (whole options r.script r.answers) { taken = ls })) none
    (subst (λ b. StandsFor s (record (whole options r.script r.answers) {
      answers = record { bytes = r.answers; ended = b };
      taken = r.taken;
    })) ends.answers
    (subst (λ b. StandsFor s (record (history options now r.script r.answers r.taken) {
      script = record { bytes = r.script; ended = b };
    })) ends.script r.stands))))

pub whole_told : (visited : OfLines) (done : Session → Type 0) (r : Result Unit RunFault) (before now : Devices)
    (s t : Session)
    (script answers : List ℕ) → AreTexts before now script answers → OnOk r (AreAtEnd now)
    → ((options : Options) → StandsFor s (begun options) → HasStepped visited done r options before now t)
    → OnOk r ((options : Options) → StandsFor s (begun options) → StandsFor t (whole options script answers))
whole_told visited done (Err fault) before now s t script answers texts ends followed = tt
whole_told visited done (Ok unit) before now s t script answers texts ends followed = λ options k.
    told_whole visited options before now t script answers texts ends (followed options k)
