-- Sessions: turns come to rest, or may be left to take.
use Rattle.std.proofs.Common.{◌≡◌, ◌<◌, ◌^◌, ◌-◌, ℕ, true, false, List, [], ◌++◌, Option, Some, None, is_some, refl}
use Rattle.std.proofs.Common.{OnErr, Result, ap, sym, ◌∙◌, subst, arith}
use Rattle.std.specs.List.{list_any}
use Rattle.smt_dialogue.specs.InForce.{start_by}
use Rattle.smt_dialogue.proofs.AdvanceLemmas.{cut_at}
use Rattle.smt_dialogue.proofs.CheckLineLemmas.{no_verdicts}
use Rattle.smt_dialogue.proofs.FirstFaultLemmas.{none_of}
use Rattle.smt_dialogue.proofs.SessionGrowthLemmas.{AreTold, ended_lines, ended_summary}
use Rattle.smt_dialogue.specs.FirstFault.{TextSoFar, Waits, turn_at}
use Rattle.smt_dialogue.specs.History.{AreDecided, AreFirstDecided, History, Told}
use Rattle.smt_dialogue.specs.Depth.{max_depth_of}
use Rattle.smt_dialogue.specs.Report.{ArePaired}
use Rattle.smt_dialogue.specs.Session.{AreCounted, AreLines, IsCounted, IsSummaryIn, StandsFor}
use Rattle.smt_dialogue.specs.Session.{is_verdict_waiting, lines_waiting}
use Rattle.smt_dialogue.specs.SoFar.{IsBeginning, is_verdict_line}
use Rattle.smt_dialogue.specs.Internal.PairingView.{AreLimited, AreLimitedAlike, HasAdvanced, HasRested}
use Rattle.smt_dialogue.specs.Internal.PairingView.{IsAdvance, IsCut, waiting}
use Rattle.smt_dialogue.specs.Internal.SessionStep.{IsFed, IsFedBy, IsGoingOn}
use Rattle.smt_dialogue.specs.Internal.SessionView.{AreRead, GoesOn, HasEnded, texts_of}
use Rattle.smt_dialogue.specs.declared.pairing.Advance.{Advance}
use Rattle.smt_dialogue.specs.declared.pairing.Advance.TheVariants.{Pauses, Rests}
use Rattle.smt_dialogue.specs.declared.pairing.Pairing.{Pairing}
use Rattle.smt_dialogue.specs.declared.options.Options.{Options}
use Rattle.smt_dialogue.specs.declared.session.Failed.{Failed}
use Rattle.smt_dialogue.specs.declared.session.Fed.{Fed}
use Rattle.smt_dialogue.specs.declared.session.Failed.TheVariants.{Long, Memory}
use Rattle.smt_dialogue.specs.declared.session.Session.{Session}
use Rattle.smt_report.specs.declared.line.Line.{Line}
use Rattle.smt_report.specs.declared.summary.Summary.{Summary}

-- lists may nest as deep as before
pub limited_on : (x y : Pairing) (max_depth : ℕ) → AreLimitedAlike x y → AreLimited max_depth x
    → AreLimited max_depth y
limited_on x y max_depth alike limited = record {
  script = alike.script ∙ limited.script;
  answers = alike.answers ∙ limited.answers;
}

-- ---- the turns come to rest

rested_lines : (h : History) (script answers : TextSoFar) (x : Pairing) (ls : List Line) → AreRead h script answers
    → HasRested None h.options x (texts_of h script answers) → ls ≡ h.taken ++ waiting x
    → AreDecided h ls × (list_any is_verdict_line ls ≡ false)
rested_lines h script answers x ls r o is = (
  record {
    script_text = script;
    script_read = r.script_read;
    answers_text = answers;
    answers_read = r.answers_read;
    lines_are = record {
      pairs = o.1;
      turn = Waits o.0;
      rests = tt;
      turn_is = record {
        later = o.2;
        rest = o.3;
        paired = subst (λ (p : Options). ArePaired (start_by p) script answers o.1 o.2 o.3) o.5 o.4.paired;
        turn_is = subst (λ (p : Options). turn_at (start_by p) o.1 (record answers { trees = o.3 })
            script.told script.fault o.2 ≡ Waits o.0) o.5 o.6;
      };
      lines_are = is ∙ o.7;
    };
  },
  ap (list_any is_verdict_line) (is ∙ o.7) ∙ no_verdicts h.options.profile h.options.limit.steps o.0 [] o.1 [],
)

pub waits_stands : (s t : Session) (h : History) → (on : IsGoingOn s h) → t.failure ≡ None → t.summary ≡ None
    → AreTold t h → AreCounted t h → AreLimited (max_depth_of h.options.profile) t.exchange
    → HasRested None h.options t.exchange (texts_of h on.open'.script on.open'.answers)
    → StandsFor t h
waits_stands s t h on none unset told counted limits o =
    let r = rested_lines h on.open'.script on.open'.answers t.exchange (h.taken ++ lines_waiting t) on.open'.read o refl
    in
    record {
      lines = subst (λ f. AreLines f h (h.taken ++ lines_waiting t)) (sym none) r.0;
      summary = subst (λ v. IsSummaryIn v (h.taken ++ lines_waiting t)) (sym unset) r.1;
      script_ended = told.script;
      answers_ended = told.answers;
      counted = λ unset'. counted;
      long = λ is. absurd (let e : None ≡ Some Long = sym none ∙ is in cc);
      goes_on = subst (λ v. GoesOn v t.failure t.exchange h) (sym unset)
          (subst (λ f. GoesOn None f t.exchange h) (sym none) (record {
            script = on.open'.script;
            answers = on.open'.answers;
            read = on.open'.read;
            pairs = o.1;
            later = o.2;
            rest = o.3;
            way = o.4;
            start = o.5;
            limits = limits;
          }));
    }

pub ends_stands : (s t : Session) (h : History) (v : Summary) → (on : IsGoingOn s h) → t.failure ≡ None
    → t.summary ≡ Some v → AreTold t h → AreCounted t h
    → HasRested (Some v) h.options t.exchange (texts_of h on.open'.script on.open'.answers)
    → StandsFor t h
ends_stands s t h v on none some told counted o =
    let e : HasEnded v h (h.taken ++ lines_waiting t) = record {
      script = on.open'.script;
      answers = on.open'.answers;
      read = on.open'.read;
      pairs = o.1;
      fault = o.0;
      ends = o.2;
      lines_are = o.3;
      summary_is = o.4;
    } in
    record {
      lines = subst (λ f. AreLines f h (h.taken ++ lines_waiting t)) (sym none)
          (ended_lines v h (h.taken ++ lines_waiting t) e);
      summary = subst (λ o'. IsSummaryIn o' (h.taken ++ lines_waiting t)) (sym some)
          (ended_summary v h (h.taken ++ lines_waiting t) e);
      script_ended = told.script;
      answers_ended = told.answers;
      counted = λ unset'. counted;
      long = λ is. absurd (let e' : None ≡ Some Long = sym none ∙ is in cc);
      goes_on = subst (λ o'. GoesOn o' t.failure t.exchange h) (sym some) e;
    }

pub same_counted : (f g : Fed) (told : Told) → g ≡ f → IsCounted f told → IsCounted g told
same_counted f g told same counted = subst (λ (f' : Fed). IsCounted f' told) (sym same) counted

counted_on : (s t : Session) (h : History) → t.script ≡ s.script → t.answers ≡ s.answers → AreCounted s h
    → AreCounted t h
counted_on s t h script answers counted = record {
  script = same_counted s.script t.script h.script script counted.script;
  answers = same_counted s.answers t.answers h.answers answers counted.answers;
}

pub rests_stands : (s t : Session) (h : History) (summary : Option Summary) → (on : IsGoingOn s h) → t.failure ≡ None
    → t.summary ≡ summary → AreTold t h → t.script ≡ s.script → t.answers ≡ s.answers
    → AreLimited (max_depth_of h.options.profile) t.exchange
    → HasRested summary h.options t.exchange (texts_of h on.open'.script on.open'.answers)
    → StandsFor t h
rests_stands s t h None on none is told script answers limits o =
    waits_stands s t h on none is told (counted_on s t h script answers on.counted) limits o
rests_stands s t h (Some v) on none is told script answers limits o =
    ends_stands s t h v on none is told (counted_on s t h script answers on.counted) o

-- memory was refused: the lines are the first
pub cut_stands : (s t : Session) (h : History) → (on : IsGoingOn s h) → t.failure ≡ Some Memory → t.summary ≡ None
    → AreTold t h
    → IsCut h.options (lines_waiting t) (texts_of h on.open'.script on.open'.answers) → StandsFor t h
cut_stands s t h on some unset told o = record {
  lines = subst (λ f. AreLines f h (h.taken ++ lines_waiting t)) (sym some) (
    o.0,
    record {
      script_text = on.open'.script;
      script_read = on.open'.read.script_read;
      answers_text = on.open'.answers;
      answers_read = on.open'.read.answers_read;
      lines_are = o.1;
    },
    o.2,
  );
  summary = subst (λ v. IsSummaryIn v (h.taken ++ lines_waiting t)) (sym unset) o.3;
  script_ended = told.script;
  answers_ended = told.answers;
  counted = λ none. absurd (let e : None ≡ Some Memory = sym none ∙ some in cc);
  long = λ is. absurd (let e : Some Memory ≡ Some Long = sym some ∙ is in cc);
  goes_on = subst (λ v. GoesOn v t.failure t.exchange h) (sym unset)
      (subst (λ f. GoesOn None f t.exchange h) (sym some) tt);
}

-- ---- turns that may be left

pub none_by : {A : Type 0} (o : Option A) → false ≡ is_some o → o ≡ None
none_by None h = refl
none_by (Some v) h = absurd (cc)

pub some_by : {A : Type 0} (o : Option A) → true ≡ is_some o → (v : A) × (o ≡ Some v)
some_by None h = absurd (cc)
some_by (Some v) h = (v, refl)

failed_by : (v : Option Summary) (failed : Failed) (s : Session) (h : History) → StandsFor s h
    → IsFedBy v (Some failed) s h
failed_by None failed s h k = k
failed_by (Some v) failed s h k = k

pub fed_failed : (s : Session) (h : History) (failed : Failed) → s.failure ≡ Some failed → StandsFor s h → IsFed s h
fed_failed s h failed is k = subst (λ f. IsFedBy s.summary f s h) (sym is) (failed_by s.summary failed s h k)

pub fed_ended : (s : Session) (h : History) (v : Summary) → s.summary ≡ Some v → StandsFor s h → IsFed s h
fed_ended s h v is k = subst (λ o. IsFedBy o s.failure s h) (sym is) k

pub going_fed : (s : Session) (h : History) → IsGoingOn s h → IsFed s h
going_fed s h on =
    subst (λ v. IsFedBy v s.failure s h) (sym on.summary) (subst (λ f. IsFedBy None f s h) (sym on.failure) on)

by_failed : (v : Option Summary) (failed : Failed) (s : Session) (h : History) → IsFedBy v (Some failed) s h
    → StandsFor s h
by_failed None failed s h k = k
by_failed (Some v) failed s h k = k

pub failed_fed : (s : Session) (h : History) (failed : Failed) → s.failure ≡ Some failed → IsFed s h → StandsFor s h
failed_fed s h failed is k = by_failed s.summary failed s h (subst (λ f. IsFedBy s.summary f s h) is k)

pub ended_fed : (s : Session) (h : History) → true ≡ is_some s.summary → IsFed s h → StandsFor s h
ended_fed s h some k = subst (λ o. IsFedBy o s.failure s h) (some_by s.summary some).1 k

pub open_fed : (s : Session) (h : History) → s.failure ≡ None → false ≡ is_some s.summary → IsFed s h → IsGoingOn s h
open_fed s h none unset k =
    subst (λ f. IsFedBy None f s h) none (subst (λ o. IsFedBy o s.failure s h) (none_by s.summary unset) k)

-- the lines that wait are the first of those that are decided
pub first_going : (s : Session) (h : History) → IsGoingOn s h → AreFirstDecided h (h.taken ++ lines_waiting s)
first_going s h on =
    let o = on.open' in
    let cut = cut_at s.exchange (texts_of h o.script o.answers) o.pairs o.later o.rest (lines_waiting s) h.options
    o.start refl o.way in (
      cut.0,
      record {
        script_text = o.script;
        script_read = o.read.script_read;
        answers_text = o.answers;
        answers_read = o.read.answers_read;
        lines_are = cut.1;
      },
      cut.2,
    )

-- turns were taken, and more are left
pub paused_going : (s t : Session) (h : History) → (on : IsGoingOn s h) → t.failure ≡ None → t.summary ≡ None
    → AreTold t h → t.script ≡ s.script → t.answers ≡ s.answers
    → AreLimited (max_depth_of h.options.profile) t.exchange
    → HasAdvanced Pauses h.options t.exchange (texts_of h on.open'.script on.open'.answers) → IsGoingOn t h
paused_going s t h on none unset told script answers limits p = record {
  failure = none;
  summary = unset;
  script_ended = told.script;
  answers_ended = told.answers;
  counted = counted_on s t h script answers on.counted;
  open' = record {
    script = on.open'.script;
    answers = on.open'.answers;
    read = on.open'.read;
    pairs = p.0;
    later = p.1;
    rest = p.2;
    way = p.3;
    start = p.4;
    limits = limits;
  };
}

pub pause_less : (a : Advance) (enough : Option ℕ) (before after : ℕ) → a ≡ Pauses
    → IsAdvance a enough before after → (is_some enough ≡ true) × (2 ^ 64 - after < 2 ^ 64 - before)
pause_less Pauses enough before after is h = (h.0, omega (arith, h.1, h.2))
pause_less (Rests summary) enough before after is h = absurd (cc)

-- ---- lines are added, and no line of a verdict is among all

pub none_added : (taken before after : List Line) → IsBeginning before after
    → list_any is_verdict_line (taken ++ after) ≡ false
    → list_any is_verdict_line after ≡ list_any is_verdict_line before
none_added taken before after begins silent =
    let none = (none_of is_verdict_line taken after silent).1 in
    none
    ∙ sym (none_of is_verdict_line before begins.0 (ap (list_any is_verdict_line) (sym begins.1) ∙ none)).0

-- a step that adds no line, and then one that adds no verdict line, add no verdict line
pub none_before : {T E : Type 0} (r : Result T E) (old mid new : Session) → lines_waiting mid ≡ lines_waiting old
    → OnErr r (is_verdict_waiting new ≡ is_verdict_waiting mid)
    → OnErr r (is_verdict_waiting new ≡ is_verdict_waiting old)
none_before r old mid new same none =
    subst (λ (ls : List Line). OnErr r (is_verdict_waiting new ≡ list_any is_verdict_line ls)) same none
