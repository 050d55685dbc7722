-- Sessions: more was told behind a failure, or behind the end.
use Rattle.std.proofs.Common.{◌≡◌, ℕ, Bool, true, false, List, [], ◌∷◌, ◌++◌, length, Option, Some, None, refl, ap}
use Rattle.std.proofs.Common.{sym, ◌∙◌, subst, arith, inl, inr, length-append}
use Rattle.std.proofs.lemmas.List.{append-nil}
use Rattle.smt_dialogue.proofs.AcceptedLemmas.{begins_trans}
use Rattle.smt_dialogue.proofs.ReadSoFarLemmas.{grown_text, some_so_far}
use Rattle.smt_dialogue.proofs.SoFarLemmas.{ends_stay, lines_stay}
use Rattle.smt_dialogue.specs.FirstFault.{Ends, TextSoFar}
use Rattle.smt_dialogue.specs.History.{AreDecided, AreFirstDecided, HasGrown, History, IsLong}
use Rattle.smt_dialogue.specs.Lines.{lines_in}
use Rattle.smt_dialogue.specs.Depth.{max_depth_of}
use Rattle.smt_dialogue.specs.Report.{IsRead, IsTurn, lines_at_end, lines_of_end}
use Rattle.smt_dialogue.specs.Session.{AreCounted, AreLines, IsSummaryIn, StandsFor, is_answers_ended}
use Rattle.smt_dialogue.specs.Session.{is_script_ended, lines_waiting}
use Rattle.smt_dialogue.specs.SoFar.{AreGrown, AreLinesSoFar, IsBeginning, IsGrown}
use Rattle.smt_dialogue.specs.Internal.PairingView.{waiting}
use Rattle.smt_dialogue.specs.Internal.SessionStep.{TextLaws}
use Rattle.smt_dialogue.specs.Internal.SessionView.{AreRead, GoesOn, HasEnded}
use Rattle.smt_dialogue.specs.declared.pairing.Pairing.{Pairing}
use Rattle.smt_dialogue.specs.declared.options.Options.{Options}
use Rattle.smt_dialogue.specs.declared.session.Failed.{Failed}
use Rattle.smt_dialogue.specs.declared.session.Failed.TheVariants.{Long}
use Rattle.smt_dialogue.specs.declared.session.Session.{Session}
use Rattle.smt_report.specs.Verdict.{IsSummaryOf, IsVerdictOf, summary_of}
use Rattle.smt_report.specs.declared.line.Line.{Line}
use Rattle.smt_report.specs.declared.line.Line.TheVariants as lines
use Rattle.smt_report.specs.declared.summary.Summary.{Summary}
use Rattle.smt_dialogue.specs.InForce.{start_by}

-- ---- more was told

pub as_before : (told : Bool) (bytes : List ℕ) → AreGrown told bytes told bytes
as_before told bytes = record {
  more = [];
  bytes_are = sym (append-nil bytes);
  none_behind = λ t. (refl, t);
}

pub piece_more : (told : Bool) (bytes piece : List ℕ) → told ≡ false → AreGrown told bytes told (bytes ++ piece)
piece_more told bytes piece open' = record {
  more = piece;
  bytes_are = refl;
  none_behind = λ t. absurd (let e : false ≡ true = sym open' ∙ t in cc);
}

pub end_told : (told : Bool) (bytes : List ℕ) → told ≡ false → AreGrown told bytes true bytes
end_told told bytes open' = record {
  more = [];
  bytes_are = sym (append-nil bytes);
  none_behind = λ t. (refl, refl);
}

grown_lines : TextLaws → (h g : History) → HasGrown h g → (ls ms : List Line) → AreDecided h ls → AreDecided g ms
    → IsBeginning ls ms
grown_lines laws h g s ls ms x y =
    let grown = grown_text laws.one laws.trees_stay laws.faults_stay (max_depth_of h.options.profile) in
    lines_stay h.options x.script_text x.answers_text y.script_text y.answers_text ls ms
    (grown h.script.ended h.script.bytes g.script.ended g.script.bytes x.script_text y.script_text s.script
    x.script_read
    (subst (λ (o : Options). IsRead (max_depth_of o.profile) g.script.ended g.script.bytes y.script_text) s.options
    y.script_read))
    (grown h.answers.ended h.answers.bytes g.answers.ended g.answers.bytes x.answers_text y.answers_text s.answers
    x.answers_read
    (subst (λ (o : Options). IsRead (max_depth_of o.profile) g.answers.ended g.answers.bytes y.answers_text) s.options
    y.answers_read))
    x.lines_are
    (subst (λ (o : Options). AreLinesSoFar o y.script_text y.answers_text ms) s.options y.lines_are)

first_grown : TextLaws → (h g : History) → HasGrown h g → (ls : List Line) → AreFirstDecided h ls
    → AreFirstDecided g ls
first_grown laws h g s ls f =
    let ms = some_so_far laws.every g.options g.script.ended g.answers.ended g.script.bytes g.answers.bytes in
    (ms.0, ms.1, begins_trans ls f.0 ms.0 f.2 (grown_lines laws h g s f.0 ms.0 f.1 ms.1))

exact_first : (h : History) (ls : List Line) → AreDecided h ls → AreFirstDecided h ls
exact_first h ls x = (ls, x, ([], sym (append-nil ls)))

pub any_first : (failure : Option Failed) (h : History) (ls : List Line) → AreLines failure h ls → AreFirstDecided h ls
any_first None h ls x = exact_first h ls x
any_first (Some failed) h ls x = x

long_grown : (h g : History) → HasGrown h g → IsLong h → IsLong g
long_grown h g s (inl long) =
    inl (omega (arith, long, ap length s.script.bytes_are, length-append h.script.bytes s.script.more))
long_grown h g s (inr long) =
    inr (omega (arith, long, ap length s.answers.bytes_are, length-append h.answers.bytes s.answers.more))

-- ---- a dialogue that has ended

read_again : TextLaws → (h g : History) (script answers : TextSoFar) → HasGrown h g → AreRead h script answers
    → (st : TextSoFar) × (at' : TextSoFar) × AreRead g st at' × IsGrown script st × IsGrown answers at'
read_again laws h g script answers s r =
    let depth = max_depth_of h.options.profile in
    let a = laws.every depth g.script.ended g.script.bytes in
    let b = laws.every depth g.answers.ended g.answers.bytes in
    let st : TextSoFar = record { told = g.script.ended; trees = a.0; fault = a.1 } in
    let at' : TextSoFar = record { told = g.answers.ended; trees = b.0; fault = b.1 } in
    let rs : IsRead depth g.script.ended g.script.bytes st = record { told_so = refl; reads = a.2 } in
    let ra : IsRead depth g.answers.ended g.answers.bytes at' = record { told_so = refl; reads = b.2 } in
    let grown = grown_text laws.one laws.trees_stay laws.faults_stay depth in (
      st,
      at',
      record {
        script_read = subst (λ (o : Options). IsRead (max_depth_of o.profile) g.script.ended g.script.bytes st)
            (sym s.options) rs;
        answers_read = subst (λ (o : Options). IsRead (max_depth_of o.profile) g.answers.ended g.answers.bytes at')
            (sym s.options) ra;
      },
      grown h.script.ended h.script.bytes g.script.ended g.script.bytes script st s.script r.script_read rs,
      grown h.answers.ended h.answers.bytes g.answers.ended g.answers.bytes answers at' s.answers r.answers_read ra,
    )

ended_grown : TextLaws → (summary : Summary) (h g : History) (ls : List Line) → HasGrown h g → HasEnded summary h ls
    → HasEnded summary g ls
ended_grown laws summary h g ls s e =
    let r = read_again laws h g e.script e.answers s e.read in
    record {
      script = r.0;
      answers = r.1;
      read = r.2;
      pairs = e.pairs;
      fault = e.fault;
      ends = subst (λ (o : Options). IsTurn (start_by o) r.0 r.1 e.pairs (Ends e.fault)) (sym s.options)
          (ends_stay (start_by h.options) e.script e.answers r.0 r.1 e.pairs e.fault r.3 r.4 e.ends);
      lines_are = subst (λ (o : Options). ls ≡ lines_at_end o.profile o.limit.steps e.pairs e.fault)
          (sym s.options) e.lines_are;
      summary_is = subst (λ (o : Options). summary
          ≡ summary_of (lines_in o.profile o.limit.steps true [] e.pairs [] ++ lines_of_end e.fault))
          (sym s.options) e.summary_is;
    }

pub ended_lines : (summary : Summary) (h : History) (ls : List Line) → HasEnded summary h ls → AreDecided h ls
ended_lines summary h ls e = record {
  script_text = e.script;
  script_read = e.read.script_read;
  answers_text = e.answers;
  answers_read = e.read.answers_read;
  lines_are = record { pairs = e.pairs; turn = Ends e.fault; rests = tt; turn_is = e.ends; lines_are = e.lines_are };
}

pub ended_summary : (summary : Summary) (h : History) (ls : List Line) → HasEnded summary h ls → IsSummaryOf summary ls
ended_summary summary h ls e = (
  lines_in h.options.profile h.options.limit.steps true [] e.pairs [] ++ lines_of_end e.fault,
  e.lines_are,
  e.summary_is,
)

pub summary_verdict : (summary : Summary) (ls : List Line) → IsSummaryOf summary ls → IsVerdictOf summary.verdict ls
summary_verdict summary ls h = (
  h.0,
  summary.tally,
  h.1 ∙ ap (λ (s : Summary). h.0 ++ lines.Verdict s.verdict s.tally ∷ []) (sym h.2),
)

-- ---- a call behind a failure, or behind the end

goes_behind : TextLaws → (summary : Option Summary) (failure : Option Failed) (failed : Failed) (x : Pairing)
    (h g : History) → HasGrown h g → g.taken ≡ h.taken → GoesOn summary failure x h → GoesOn summary (Some failed) x g
goes_behind laws None failure failed x h g s taken on = tt
goes_behind laws (Some v) failure failed x h g s taken on =
    subst (λ t. HasEnded v g (t ++ waiting x)) (sym taken) (ended_grown laws v h g (h.taken ++ waiting x) s on)

-- the ends that were told are those of the history
pub record AreTold (t : Session) (g : History) : Type 0 where
  pub script : is_script_ended t ≡ g.script.ended
  pub answers : is_answers_ended t ≡ g.answers.ended

same_lines : (s t : Session) (h g : History) → t.exchange ≡ s.exchange → g.taken ≡ h.taken
    → g.taken ++ lines_waiting t ≡ h.taken ++ lines_waiting s
same_lines s t h g exchange taken =
    ap (λ ls. ls ++ lines_waiting t) taken ∙ ap (λ (x : Pairing). h.taken ++ waiting x) exchange

same_summary : (s t : Session) (h g : History) → t.summary ≡ s.summary → t.exchange ≡ s.exchange → g.taken ≡ h.taken
    → StandsFor s h → IsSummaryIn t.summary (g.taken ++ lines_waiting t)
same_summary s t h g summary exchange taken k =
    subst (IsSummaryIn t.summary) (sym (same_lines s t h g exchange taken))
    (subst (λ v. IsSummaryIn v (h.taken ++ lines_waiting s)) (sym summary) k.summary)

-- t is s, and has failed, with other texts told
pub stopped_stands : TextLaws → (s t : Session) (h g : History) (failed : Failed) → t.failure ≡ Some failed
    → t.summary ≡ s.summary → t.exchange ≡ s.exchange → AreTold t g → HasGrown h g → g.taken ≡ h.taken
    → (failed ≡ Long → IsLong g) → StandsFor s h → StandsFor t g
stopped_stands laws s t h g failed some summary exchange told more taken long k = record {
  lines = subst (λ o. AreLines o g (g.taken ++ lines_waiting t)) (sym some)
      (subst (AreFirstDecided g) (sym (same_lines s t h g exchange taken))
      (first_grown laws h g more (h.taken ++ lines_waiting s)
      (any_first s.failure h (h.taken ++ lines_waiting s) k.lines)));
  summary = same_summary s t h g summary exchange taken k;
  script_ended = told.script;
  answers_ended = told.answers;
  counted = λ none. absurd (let e : None ≡ Some failed = sym none ∙ some in cc);
  long = λ is. long (let e : Some failed ≡ Some Long = sym some ∙ is in cc);
  goes_on = subst (λ x. GoesOn t.summary t.failure x g) (sym exchange)
      (subst (λ f. GoesOn t.summary f s.exchange g) (sym some)
      (subst (λ v. GoesOn v (Some failed) s.exchange g) (sym summary)
      (goes_behind laws s.summary s.failure failed s.exchange h g more taken k.goes_on)));
}

-- t is s, which has failed, with other texts told
pub failed_stands : TextLaws → (s t : Session) (h g : History) (failed : Failed) → s.failure ≡ Some failed
    → t.failure ≡ s.failure → t.summary ≡ s.summary → t.exchange ≡ s.exchange → AreTold t g → HasGrown h g
    → g.taken ≡ h.taken → StandsFor s h → StandsFor t g
failed_stands laws s t h g failed is failure summary exchange told more taken k =
    stopped_stands laws s t h g failed (failure ∙ is) summary exchange told more taken
    (λ long. long_grown h g more (k.long (is ∙ ap Some long))) k

-- t is s, whose dialogue has ended, with other texts told
pub ended_stands : TextLaws → (s t : Session) (h g : History) (v : Summary) → s.summary ≡ Some v → s.failure ≡ None
    → t.failure ≡ None → t.summary ≡ s.summary → t.exchange ≡ s.exchange → AreTold t g → HasGrown h g
    → g.taken ≡ h.taken → AreCounted t g → StandsFor s h → StandsFor t g
ended_stands laws s t h g v is none unset summary exchange told more taken counted k =
    let before : HasEnded v h (h.taken ++ waiting s.exchange) =
    subst (λ o. GoesOn o s.failure s.exchange h) is k.goes_on in
    let now : HasEnded v g (g.taken ++ lines_waiting t) =
    subst (HasEnded v g) (sym (same_lines s t h g exchange taken))
    (ended_grown laws v h g (h.taken ++ waiting s.exchange) more before) in
    record {
      lines = subst (λ o. AreLines o g (g.taken ++ lines_waiting t)) (sym unset)
          (ended_lines v g (g.taken ++ lines_waiting t) now);
      summary = same_summary s t h g summary exchange taken k;
      script_ended = told.script;
      answers_ended = told.answers;
      counted = λ unset'. counted;
      long = λ is'. absurd (let e : None ≡ Some Long = sym unset ∙ is' in cc);
      goes_on = subst (λ o. GoesOn o t.failure t.exchange g) (sym (summary ∙ is)) now;
    }
