-- The lines so far of bytes: one answer, the report where both ends were told, and the first of those of more.
use Rattle.std.proofs.Common.{◌≡◌, ℕ, Bool, true, false, ◌||◌, List, ◌++◌, Option, None, Some, is_some, refl, ap}
use Rattle.std.proofs.Common.{sym, ◌∙◌, subst}
use Rattle.std.proofs.lemmas.List.{append-nil}
use Rattle.smt_text.specs.Reading.{Reads}
use Rattle.smt_trees.specs.Sexp.{Sexps, Nil, Cons, append}
use Rattle.smt_faults.specs.declared.text_flaw.TextFlaw.{TextFlaw}
use Rattle.smt_dialogue.proofs.ReportExists.{EveryTextReads, rests_ended, some_rest, text}
use Rattle.smt_dialogue.proofs.ReportUnique.{OneReading, one_turn, same_text}
use Rattle.smt_dialogue.specs.FirstFault.{Ends, TextSoFar}
use Rattle.smt_dialogue.specs.Depth.{max_depth_of}
use Rattle.smt_dialogue.specs.Report.{IsRead, IsReport, IsTurn}
use Rattle.smt_dialogue.specs.SoFar.{AreGrown, AreLinesSoFar, IsGrown, IsSoFar, lines_at}
use Rattle.smt_dialogue.specs.declared.options.Options.{Options}
use Rattle.smt_report.specs.declared.line.Line.{Line}
use Rattle.smt_dialogue.specs.InForce.{start_by}

-- ---- one answer

pub some_so_far : EveryTextReads → (options : Options) (script_told answers_told : Bool)
    (script answers : List ℕ)
    → (ls : List Line) × IsSoFar options script_told script answers_told answers ls
some_so_far every options script_told answers_told script answers =
    let read = every (max_depth_of options.profile) script_told script in
    let printed = every (max_depth_of options.profile) answers_told answers in
    let first = text script_told read.0 read.1 in
    let second = text answers_told printed.0 printed.1 in
    let way = some_rest (start_by options) first second in (
      lines_at options.profile options.limit.steps way.0 way.1,
      record {
        script_text = first;
        script_read = record { told_so = refl; reads = read.2 };
        answers_text = second;
        answers_read = record { told_so = refl; reads = printed.2 };
        lines_are = record {
          pairs = way.0;
          turn = way.1;
          rests = way.2;
          turn_is = way.3;
          lines_are = refl;
        };
      },
    )

one_lines : (options : Options) (script answers : TextSoFar) (ls ms : List Line)
    → AreLinesSoFar options script answers ls → AreLinesSoFar options script answers ms → ls ≡ ms
one_lines options script answers ls ms x y =
    let steps = options.limit.steps in
    let way = one_turn (start_by options) script answers x.pairs y.pairs x.turn y.turn x.rests y.rests x.turn_is
    y.turn_is in
    x.lines_are ∙ ap (λ ps. lines_at options.profile steps ps x.turn) way.0
    ∙ ap (lines_at options.profile steps y.pairs) way.1 ∙ sym y.lines_are

pub one_so_far : OneReading → (options : Options) (script_told answers_told : Bool) (script answers : List ℕ)
    (ls ms : List Line) → IsSoFar options script_told script answers_told answers ls
    → IsSoFar options script_told script answers_told answers ms → ls ≡ ms
one_so_far one options script_told answers_told script answers ls ms x y =
    let start = start_by options in
    let scripts = same_text one
    (max_depth_of options.profile) script_told script y.script_text x.script_text y.script_read x.script_read in
    let printed = same_text one (max_depth_of options.profile) answers_told answers y.answers_text x.answers_text
    y.answers_read x.answers_read in
    one_lines options x.script_text x.answers_text ls ms x.lines_are
    (subst (λ t. AreLinesSoFar options x.script_text t ms) printed
    (subst (λ t. AreLinesSoFar options t y.answers_text ms) scripts y.lines_are))

-- ---- both ends told

pub so_far_is_report : (options : Options) (script answers : List ℕ) (ls : List Line)
    → IsSoFar options true script true answers ls → IsReport options script answers ls
so_far_is_report options script answers ls x =
    let start = start_by options in
    let l = x.lines_are in
    let end' = rests_ended start x.script_text x.answers_text l.pairs l.turn x.script_read.told_so
    x.answers_read.told_so l.rests l.turn_is in
    record {
      script_text = x.script_text;
      script_read = x.script_read;
      answers_text = x.answers_text;
      answers_read = x.answers_read;
      lines_are = record {
        pairs = l.pairs;
        fault = end'.0;
        ends = subst (IsTurn start x.script_text x.answers_text l.pairs) end'.1 l.turn_is;
        lines_are = l.lines_are ∙ ap (lines_at options.profile options.limit.steps l.pairs) end'.1;
      };
    }

pub report_is_so_far : (options : Options) (script answers : List ℕ) (ls : List Line)
    → IsReport options script answers ls → IsSoFar options true script true answers ls
report_is_so_far options script answers ls x = record {
  script_text = x.script_text;
  script_read = x.script_read;
  answers_text = x.answers_text;
  answers_read = x.answers_read;
  lines_are = record {
    pairs = x.lines_are.pairs;
    turn = Ends x.lines_are.fault;
    rests = tt;
    turn_is = x.lines_are.ends;
    lines_are = x.lines_are.lines_are;
  };
}

-- ---- more bytes

abbrev pub TreesStay : Type 0
TreesStay = (bound : ℕ) (ended : Bool) (bytes more : List ℕ) (xs ys : Sexps) (f g : Option TextFlaw)
    → Reads bound false bytes xs f → Reads bound ended (bytes ++ more) ys g
    → (later : Sexps) × (ys ≡ append xs later)

abbrev pub FaultsStay : Type 0
FaultsStay = (bound : ℕ) (ended : Bool) (bytes more : List ℕ) (xs ys : Sexps) (f : TextFlaw)
    (g : Option TextFlaw) → Reads bound false bytes xs (Some f) → Reads bound ended (bytes ++ more) ys g
    → (ys ≡ xs) × (g ≡ Some f)

sexps-nil : (xs : Sexps) → append xs Nil ≡ xs
sexps-nil Nil = refl
sexps-nil (Cons x xs) = ap (Cons x) (sexps-nil xs)

-- behind the end of a text nothing comes
grown_whole : OneReading → (max_depth : ℕ) (bytes : List ℕ) (grown_told : Bool) (grown : List ℕ) (x y : TextSoFar)
    → AreGrown true bytes grown_told grown → IsRead max_depth true bytes x → IsRead max_depth grown_told grown y
    → IsGrown x y
grown_whole one max_depth bytes grown_told grown x y g f h =
    let none = g.none_behind refl in
    let same : grown ≡ bytes = g.bytes_are ∙ ap (λ more. bytes ++ more) none.0 ∙ append-nil bytes in
    let there : IsRead max_depth true bytes y =
    subst (λ b. IsRead max_depth b bytes y) none.1 (subst (λ bs. IsRead max_depth grown_told bs y) same h) in
    let text_is = same_text one max_depth true bytes x y f there in
    record {
      later = Nil;
      trees = ap (λ (t : TextSoFar). t.trees) (sym text_is) ∙ sym (sexps-nil x.trees);
      over = λ over. (refl, ap (λ (t : TextSoFar). t.fault) (sym text_is));
      told = λ told. there.told_so;
    }

never : (told : Bool) → told ≡ false → told || false ≡ true → ⊥
never true h g = cc
never false h g = cc

not_told : (told : Bool) → told ≡ false → told ≡ true → ⊥
not_told true h g = cc
not_told false h g = cc

-- a text whose end was not told
grown_open : TreesStay → FaultsStay
    → (max_depth : ℕ) (bytes : List ℕ) (grown_told : Bool) (grown : List ℕ) (x y : TextSoFar)
    (f : Option TextFlaw) → x.fault ≡ f → AreGrown false bytes grown_told grown
    → IsRead max_depth false bytes x → IsRead max_depth grown_told grown y → IsGrown x y
grown_open trees_stay faults_stay max_depth bytes grown_told grown x y (Some fault) is g a b =
    let here = subst (λ o. Reads max_depth false bytes x.trees o) is a.reads in
    let there = subst (λ bs. Reads max_depth grown_told bs y.trees y.fault) g.bytes_are b.reads in
    let same = faults_stay max_depth grown_told bytes g.more x.trees y.trees fault y.fault here there in
    record {
      later = Nil;
      trees = same.0 ∙ sym (sexps-nil x.trees);
      over = λ over. (refl, same.1 ∙ sym is);
      told = λ told. absurd (not_told x.told a.told_so told);
    }
grown_open trees_stay faults_stay max_depth bytes grown_told grown x y None is g a b =
    let there = subst (λ bs. Reads max_depth grown_told bs y.trees y.fault) g.bytes_are b.reads in
    let more = trees_stay max_depth grown_told bytes g.more x.trees y.trees x.fault y.fault a.reads there in
    record {
      later = more.0;
      trees = more.1;
      over = λ over. absurd (never x.told a.told_so (ap (λ o. x.told || is_some o) (sym is) ∙ over));
      told = λ told. absurd (not_told x.told a.told_so told);
    }

pub grown_text : OneReading → TreesStay → FaultsStay → (max_depth : ℕ) (told : Bool) (bytes : List ℕ)
    (grown_told : Bool) (grown : List ℕ) (x y : TextSoFar) → AreGrown told bytes grown_told grown
    → IsRead max_depth told bytes x → IsRead max_depth grown_told grown y → IsGrown x y
grown_text one trees_stay faults_stay max_depth true bytes grown_told grown x y g a b =
    grown_whole one max_depth bytes grown_told grown x y g a b
grown_text one trees_stay faults_stay max_depth false bytes grown_told grown x y g a b =
    grown_open trees_stay faults_stay max_depth bytes grown_told grown x y x.fault refl g a b
