-- Sessions: the beginning, and lines that are taken.
use Rattle.std.proofs.Common.{◌≡◌, ℕ, false, List, [], ◌∷◌, ◌++◌, Option, Some, None, refl, ap, sym, ◌∙◌, subst, inl}
use Rattle.std.proofs.Common.{lit<}
use Rattle.std.proofs.lemmas.List.{append-nil}
use Rattle.std.specs.List.{list_any}
use Rattle.smt_text.specs.Grammar.{Forest}
use Rattle.smt_text.specs.Reader.{depth_limit}
use Rattle.smt_text.specs.Reading.{Reads}
use Rattle.smt_trees.specs.Sexp.{Sexps, Nil, Cons, append}
use Rattle.smt_dialogue.proofs.ValidityLemmas.{OneForest}
use Rattle.smt_dialogue.proofs.SessionTurnLemmas.{limited_on, same_counted}
use Rattle.smt_dialogue.specs.FirstFault.{TextSoFar, Waits}
use Rattle.smt_dialogue.specs.History.{History, begun, with_taken}
use Rattle.smt_dialogue.specs.Pairs.{Pair}
use Rattle.smt_dialogue.specs.Depth.{max_depth_of}
use Rattle.smt_dialogue.specs.Report.{IsRead}
use Rattle.smt_dialogue.specs.Session.{AreCounted, AreLines, IsSummaryIn, StandsFor, is_answers_ended}
use Rattle.smt_dialogue.specs.Session.{is_script_ended, lines_waiting}
use Rattle.smt_dialogue.specs.SoFar.{is_verdict_line}
use Rattle.smt_dialogue.specs.Internal.AcceptedState.{options_of}
use Rattle.smt_dialogue.specs.Internal.PairingView.{AreLimited, AreLimitedAlike, IsUnderWay, Texts, waiting}
use Rattle.smt_dialogue.specs.Internal.SessionStep.{IsGoingOn}
use Rattle.smt_dialogue.specs.Internal.SessionView.{GoesOn, HasEnded, IsOpen, texts_of}
use Rattle.smt_dialogue.specs.declared.pairing.Pairing.{Pairing}
use Rattle.smt_dialogue.specs.declared.options.Options.{Options}
use Rattle.smt_dialogue.specs.declared.session.Failed.{Failed}
use Rattle.smt_dialogue.specs.declared.session.Fed.{Fed}
use Rattle.smt_dialogue.specs.declared.session.Failed.TheVariants.{Long}
use Rattle.smt_dialogue.specs.declared.session.Session.{Session}
use Rattle.smt_dialogue.specs.declared.tree_queue.TreeQueue.{TreeQueue}
use Rattle.smt_report.specs.declared.line.Line.{Line}
use Rattle.smt_report.specs.declared.summary.Summary.{Summary}

-- ---- the beginning

empty_front : (xs ys : List ℕ) → [] ≡ xs ++ ys → xs ≡ []
empty_front [] ys h = refl
empty_front (x ∷ xs) ys h = absurd (cc)

no_more : (xs : Sexps) → append xs Nil ≡ xs
no_more Nil = refl
no_more (Cons x xs) = ap (Cons x) (no_more xs)

-- of a text of which nothing has come nothing is read
nothing_read : OneForest → (max_depth : ℕ) → Forest max_depth [] Nil → Reads max_depth false [] Nil None
nothing_read one max_depth none = (
  ([], Nil, none),
  record {
    settled = record { beginning = []; rest = []; parts = refl; forest = none; settled = inl refl };
    most = λ others o. (
      Nil,
      one max_depth max_depth [] Nil others none
          (subst (λ b. Forest max_depth b others) (empty_front o.beginning o.rest o.parts)
          o.forest)
          ∙ sym (no_more others),
    );
  },
)

pub new_stands : OneForest → (s : Session) (options : Options)
    → Forest (max_depth_of options.profile) [] Nil → s.summary ≡ None → s.failure ≡ None
    → is_script_ended s ≡ false → is_answers_ended s ≡ false
    → s.script.bytes ≡ 0 → s.answers.bytes ≡ 0 → lines_waiting s ≡ []
    → options_of s.exchange.dialogue ≡ options
    → AreLimited (max_depth_of options.profile) s.exchange
    → ((script answers : TextSoFar) → IsRead (max_depth_of options.profile) false [] script
    → IsRead (max_depth_of options.profile) false [] answers
    → IsUnderWay s.exchange (texts_of (begun options) script answers) [] script.trees answers.trees)
    → StandsFor s (begun options)
new_stands one s options none no_verdict no_failure open' answers_open zero answers_zero empty start limits way =
    let text : TextSoFar = record { told = false; trees = Nil; fault = None } in
    let depth = max_depth_of options.profile in
    let read : IsRead depth false [] text = record { told_so = refl; reads = nothing_read one depth none } in
    record {
      lines = subst (λ f. AreLines f (begun options) (lines_waiting s)) (sym no_failure) (record {
        script_text = text;
        script_read = read;
        answers_text = text;
        answers_read = read;
        lines_are = record {
          pairs = [];
          turn = Waits false;
          rests = tt;
          turn_is = record {
            later = Nil;
            rest = Nil;
            paired = record {
              pairing = record { commands = refl; answered = refl; taken_so = tt };
              faultless = tt;
            };
            turn_is = refl;
          };
          lines_are = empty;
        };
      });
      summary = subst (λ v. IsSummaryIn v (lines_waiting s)) (sym no_verdict) (ap (list_any is_verdict_line) empty);
      script_ended = open';
      answers_ended = answers_open;
      counted = λ is. record {
        script = record { bytes = zero; fits = lit< tt };
        answers = record { bytes = answers_zero; fits = lit< tt };
      };
      long = λ is. absurd (let e : None ≡ Some Long = sym no_failure ∙ is in cc);
      goes_on = subst (λ v. GoesOn v s.failure s.exchange (begun options)) (sym no_verdict)
          (subst (λ f. GoesOn None f s.exchange (begun options)) (sym no_failure) (record {
            script = text;
            answers = text;
            read = record { script_read = read; answers_read = read };
            pairs = [];
            later = Nil;
            rest = Nil;
            way = way text text read read;
            start = start;
            limits = limits;
          }));
    }

-- ---- lines are taken

-- the texts are the same, and so is how deep lists may nest in them
pub limited_same : (x y : Pairing) → y.script ≡ x.script → y.answers ≡ x.answers → AreLimitedAlike x y
limited_same x y script answers = record {
  script = ap (λ (q : TreeQueue). depth_limit q.reader) script;
  answers = ap (λ (q : TreeQueue). depth_limit q.reader) answers;
}

-- these lines were taken of x, which is y then
pub record IsTakenOf (x y : Pairing) (ls : List Line) : Type 0 where
  pub start : options_of y.dialogue ≡ options_of x.dialogue
  pub limits : AreLimitedAlike x y
  pub way : (texts : Texts) (pairs : List Pair) (later rest : Sexps) → IsUnderWay x texts pairs later rest
      → IsUnderWay y (record texts { taken = texts.taken ++ ls }) pairs later rest

taken_on : (x y : Pairing) (h : History) (ls : List Line) → IsTakenOf x y ls → IsOpen x h → IsOpen y (with_taken h ls)
taken_on x y h ls takes o = record {
  script = o.script;
  answers = o.answers;
  read = record { script_read = o.read.script_read; answers_read = o.read.answers_read };
  pairs = o.pairs;
  later = o.later;
  rest = o.rest;
  way = takes.way (texts_of h o.script o.answers) o.pairs o.later o.rest o.way;
  start = takes.start ∙ o.start;
  limits = limited_on x y (max_depth_of h.options.profile) takes.limits o.limits;
}

ended_taken : (v : Summary) (h : History) (ls ms ns : List Line) → ms ≡ ns → HasEnded v h ms
    → HasEnded v (with_taken h ls) ns
ended_taken v h ls ms ns same e = record {
  script = e.script;
  answers = e.answers;
  read = record { script_read = e.read.script_read; answers_read = e.read.answers_read };
  pairs = e.pairs;
  fault = e.fault;
  ends = e.ends;
  lines_are = sym same ∙ e.lines_are;
  summary_is = e.summary_is;
}

goes_taken : (v : Option Summary) (f : Option Failed) (x y : Pairing) (h : History) (ls : List Line)
    → (h.taken ++ waiting x) ≡ ((h.taken ++ ls) ++ waiting y) → IsTakenOf x y ls
    → GoesOn v f x h → GoesOn v f y (with_taken h ls)
goes_taken (Some v) f x y h ls same takes on =
    ended_taken v h ls (h.taken ++ waiting x) ((h.taken ++ ls) ++ waiting y) same on
goes_taken None None x y h ls same takes on = taken_on x y h ls takes on
goes_taken None (Some failed) x y h ls same takes on = tt

lines_taken : (f : Option Failed) (h : History) (ls ms : List Line) → AreLines f h ms
    → AreLines f (with_taken h ls) ms
lines_taken None h ls ms x = x
lines_taken (Some failed) h ls ms x = x

-- t is s but for its lines
pub record SameButLines (s t : Session) : Type 0 where
  pub failure : t.failure ≡ s.failure
  pub summary : t.summary ≡ s.summary
  pub script : t.script ≡ s.script
  pub answers : t.answers ≡ s.answers

counted_taken : (s t : Session) (h : History) (ls : List Line) → SameButLines s t → AreCounted s h
    → AreCounted t (with_taken h ls)
counted_taken s t h ls same counted = record {
  script = same_counted s.script t.script h.script same.script counted.script;
  answers = same_counted s.answers t.answers h.answers same.answers counted.answers;
}

pub taken_stands : (s t : Session) (h : History) (ls : List Line) → ls ≡ lines_waiting s → lines_waiting t ≡ []
    → SameButLines s t → IsTakenOf s.exchange t.exchange ls → StandsFor s h → StandsFor t (with_taken h ls)
taken_stands s t h ls out none now takes k =
    let same : h.taken ++ lines_waiting s ≡ (h.taken ++ ls) ++ lines_waiting t =
    ap (λ xs. h.taken ++ xs) (sym out) ∙ sym (append-nil (h.taken ++ ls)) ∙ ap (λ xs. (h.taken ++ ls) ++ xs) (sym none)
    in
    record {
      lines = subst (AreLines t.failure (with_taken h ls)) same
          (subst (λ f. AreLines f (with_taken h ls) (h.taken ++ lines_waiting s)) (sym now.failure)
          (lines_taken s.failure h ls (h.taken ++ lines_waiting s) k.lines));
      summary = subst (IsSummaryIn t.summary) same
          (subst (λ v. IsSummaryIn v (h.taken ++ lines_waiting s)) (sym now.summary) k.summary);
      script_ended = ap (λ (f : Fed). f.ended) now.script ∙ k.script_ended;
      answers_ended = ap (λ (f : Fed). f.ended) now.answers ∙ k.answers_ended;
      counted = λ unset. counted_taken s t h ls now (k.counted (sym now.failure ∙ unset));
      long = λ is. k.long (sym now.failure ∙ is);
      goes_on = subst (λ f. GoesOn t.summary f t.exchange (with_taken h ls)) (sym now.failure)
          (subst (λ v. GoesOn v s.failure t.exchange (with_taken h ls)) (sym now.summary)
          (goes_taken s.summary s.failure s.exchange t.exchange h ls same takes k.goes_on));
    }

pub taken_going : (s t : Session) (h : History) (ls : List Line) → SameButLines s t
    → IsTakenOf s.exchange t.exchange ls → IsGoingOn s h → IsGoingOn t (with_taken h ls)
taken_going s t h ls now takes on = record {
  failure = now.failure ∙ on.failure;
  summary = now.summary ∙ on.summary;
  script_ended = ap (λ (f : Fed). f.ended) now.script ∙ on.script_ended;
  answers_ended = ap (λ (f : Fed). f.ended) now.answers ∙ on.answers_ended;
  counted = counted_taken s t h ls now on.counted;
  open' = taken_on s.exchange t.exchange h ls takes on.open';
}
