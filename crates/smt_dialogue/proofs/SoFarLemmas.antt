-- Lines so far are one answer, there always are some, and they stay as both texts grow.
use Rattle.std.proofs.Common.{◌≡◌, ℕ, Bool, true, List, [], ◌∷◌, ◌++◌, Option, ap}
use Rattle.std.proofs.Common.{sym, ◌∙◌, subst, append_assoc}
use Rattle.std.proofs.lemmas.List.{append-nil}
use Rattle.smt_trees.specs.Sexp.{Sexps, Nil, Cons, append}
use Rattle.smt_dialogue.proofs.GrowthLemmas.{Growth, answers_more, commands_more, end_of, taken_more, turn_stays}
use Rattle.smt_dialogue.proofs.LinesStayLemmas.{begins_so}
use Rattle.smt_dialogue.proofs.PairLemmas.{answers_then-append}
use Rattle.smt_dialogue.proofs.ReportExists.{Way, way_through}
use Rattle.smt_dialogue.proofs.ReportUnique.{one_turn}
use Rattle.smt_dialogue.proofs.WaitLemmas.{ClosesNext, next_closes}
use Rattle.smt_dialogue.specs.Answers.{taken}
use Rattle.smt_dialogue.specs.FirstFault.{Ends, GoesOn, IsRest, TextSoFar, Turn, Waits, is_over}
use Rattle.smt_dialogue.specs.InForce.{AreFaultless, need_after, start_by}
use Rattle.smt_dialogue.specs.Lines.{lines_in}
use Rattle.smt_dialogue.specs.Pairing.{AllTake, AreCommands}
use Rattle.smt_dialogue.specs.Pairs.{Pair, answers_then, next_of}
use Rattle.smt_dialogue.specs.Report.{ArePaired, IsTurn}
use Rattle.smt_dialogue.specs.SoFar.{AreLinesSoFar, IsBeginning, IsGrown, lines_at}
use Rattle.smt_dialogue.specs.declared.options.Options.{Options}
use Rattle.smt_report.specs.declared.line.Line.{Line}
use Rattle.smt_script.specs.declared.stack.Start.{Start}
use Rattle.smt_theory.specs.declared.profile.Profile.{Profile}

-- ---- pairs behind pairs

commands_on : (profile : Profile) (xs ys : List Pair) (trees middle later : Sexps) → AreCommands profile xs trees middle
    → AreCommands profile ys middle later → AreCommands profile (xs ++ ys) trees later
commands_on profile [] ys trees middle later h g = subst (λ ts. AreCommands profile ys ts later) (sym h) g
commands_on profile (x ∷ xs) ys Nil middle later h g = absurd h
commands_on profile (x ∷ xs) ys (Cons t ts) middle later h g = (h.0, commands_on profile xs ys ts middle later h.1 g)

taken_on : (told : Bool) (start : Start) (before xs ys : List Pair) (rest : Sexps)
    → AllTake told start before xs (answers_then ys rest) → AllTake told start (before ++ xs) ys rest
    → AllTake told start before (xs ++ ys) rest
taken_on told start before [] ys rest h g = subst (λ bs. AllTake told start bs ys rest) (append-nil before) g
taken_on told start before (x ∷ xs) ys rest h g = (
  ap (λ r. taken told (need_after start before x.command) (next_of r)) (answers_then-append (x ∷ xs) ys rest)
      ∙ h.0,
  taken_on told start (before ++ x ∷ []) xs ys rest h.1
      (subst (λ bs. AllTake told start bs ys rest) (sym (append_assoc before (x ∷ []) xs)) g),
)

faultless_on : (profile : Profile) (before xs ys : List Pair) → AreFaultless profile before xs
    → AreFaultless profile (before ++ xs) ys
    → AreFaultless profile before (xs ++ ys)
faultless_on profile before [] ys h g = subst (λ bs. AreFaultless profile bs ys) (append-nil before) g
faultless_on profile before (x ∷ xs) ys h g = (
  h.0,
  h.1,
  faultless_on profile (before ++ x ∷ []) xs ys h.2
      (subst (λ bs. AreFaultless profile bs ys) (sym (append_assoc before (x ∷ []) xs)) g),
)

-- ---- a dialogue of two texts with more of both

growth_of : (x y : TextSoFar) (g : IsGrown x y) → Growth x.told x.fault y.told y.fault g.later
growth_of x y g = record { over = g.over; told_stays = g.told }

-- the pairs stay
pub paired_more : (start : Start) (script answers grown_script grown_answers : TextSoFar) (pairs : List Pair)
    (later rest : Sexps) (s : IsGrown script grown_script) (g : IsGrown answers grown_answers)
    → ArePaired start script answers pairs later rest
    → ArePaired start grown_script grown_answers pairs (append later s.later) (append rest g.later)
paired_more start script answers grown_script grown_answers pairs later rest s g h = record {
  pairing = record {
    commands = subst (λ ts. AreCommands start.profile pairs ts (append later s.later)) (sym s.trees)
        (commands_more start.profile pairs script.trees later s.later h.pairing.commands);
    answered = g.trees ∙ ap (λ r. append r g.later) h.pairing.answered ∙ answers_more pairs rest g.later;
    taken_so = taken_more (is_over answers) (is_over grown_answers) start [] pairs rest g.later
        (end_of answers.told grown_answers.told answers.fault grown_answers.fault g.later
        (growth_of answers grown_answers g))
        h.pairing.taken_so;
  };
  faultless = h.faultless;
}

-- and so do those behind them
pub way_more : (start : Start) (script answers : TextSoFar) (pairs : List Pair) (later rest : Sexps)
    → ArePaired start script answers pairs later rest
    → (w : Way start pairs script.told later script.fault answers.told rest answers.fault)
    → IsTurn start script answers (pairs ++ w.pairs) w.turn
way_more start script answers pairs later rest h w = record {
  later = w.later;
  rest = w.rest;
  paired = record {
    pairing = record {
      commands = commands_on start.profile pairs w.pairs script.trees later w.later h.pairing.commands w.commands;
      answered = h.pairing.answered ∙ ap (answers_then pairs) w.answered
          ∙ sym (answers_then-append pairs w.pairs w.rest);
      taken_so = taken_on (is_over answers) start [] pairs w.pairs w.rest
          (subst (λ r. AllTake (is_over answers) start [] pairs r) w.answered h.pairing.taken_so) w.taken_so;
    };
    faultless = faultless_on start.profile [] pairs w.pairs h.faultless w.faultless;
  };
  turn_is = w.turn_is;
}

all_of : (ls ms : List Line) → ls ≡ ms → IsBeginning ls ms
all_of ls ms h = ([], sym h ∙ sym (append-nil ls))

-- the lines of one turn, and of the one that is the same
same_lines : (profile : Profile) (steps : ℕ) (xs ys : List Pair) (f g : Turn) → (xs ≡ ys) × (f ≡ g)
    → lines_at profile steps xs f ≡ lines_at profile steps ys g
same_lines profile steps xs ys f g h = ap (λ ps. lines_at profile steps ps f) h.0 ∙ ap (lines_at profile steps ys) h.1

-- a dialogue that has ended has ended so still
pub ends_stay : (start : Start) (script answers grown_script grown_answers : TextSoFar) (pairs : List Pair)
    (fault : Option Line) → IsGrown script grown_script → IsGrown answers grown_answers
    → IsTurn start script answers pairs (Ends fault) → IsTurn start grown_script grown_answers pairs (Ends fault)
ends_stay start script answers grown_script grown_answers pairs fault s g t = record {
  later = append t.later s.later;
  rest = append t.rest g.later;
  paired = paired_more start script answers grown_script grown_answers pairs t.later t.rest s g t.paired;
  turn_is = turn_stays start pairs script.told grown_script.told t.later s.later script.fault
      grown_script.fault answers.told grown_answers.told t.rest g.later answers.fault
      grown_answers.fault fault (growth_of script grown_script s) (growth_of answers grown_answers g)
      t.turn_is;
}

pub lines_stay : (options : Options) (script answers grown_script grown_answers : TextSoFar) (ls ms : List Line)
    → IsGrown script grown_script → IsGrown answers grown_answers
    → AreLinesSoFar options script answers ls → AreLinesSoFar options grown_script grown_answers ms
    → IsBeginning ls ms
lines_stay options script answers grown_script grown_answers ls ms s g x y =
    subst (λ xs. IsBeginning xs ms) (sym x.lines_are)
    (subst (IsBeginning (lines_at options.profile options.limit.steps x.pairs x.turn)) (sym y.lines_are)
    (by x.turn x.rests x.turn_is))
  where
    start : Start
    start = start_by options

    steps : ℕ
    steps = options.limit.steps

    by : (turn : Turn) → IsRest turn → IsTurn start script answers x.pairs turn
        → IsBeginning (lines_at options.profile steps x.pairs turn) (lines_at options.profile steps y.pairs y.turn)
    by GoesOn rests t = absurd rests
    by (Ends fault) rests t =
        let later = ends_stay start script answers grown_script grown_answers x.pairs fault s g t in
        all_of (lines_at options.profile steps x.pairs (Ends fault)) (lines_at options.profile steps y.pairs y.turn)
        (same_lines options.profile steps x.pairs y.pairs (Ends fault) y.turn
        (one_turn start grown_script grown_answers x.pairs y.pairs (Ends fault) y.turn tt y.rests later y.turn_is))
    by (Waits closed) rests t =
        let trees = append t.later s.later in
        let rest = append t.rest g.later in
        let w = way_through start trees x.pairs grown_script.told grown_script.fault grown_answers.told rest
        grown_answers.fault in
        let turn = way_more start grown_script grown_answers x.pairs trees rest
        (paired_more start script answers grown_script grown_answers x.pairs t.later t.rest s g t.paired) w in
        let next : closed ≡ true → ClosesNext w.pairs w.turn = λ e.
        next_closes start x.pairs w.pairs script.told grown_script.told t.later s.later w.later script.fault
        grown_script.fault answers.told grown_answers.told t.rest w.rest answers.fault grown_answers.fault
        w.turn (growth_of script grown_script s) (t.turn_is ∙ ap Waits e) w.commands w.turn_is w.rests in
        subst (IsBeginning (lines_in options.profile steps closed [] x.pairs []))
        (same_lines options.profile steps (x.pairs ++ w.pairs) y.pairs w.turn y.turn
        (one_turn start grown_script grown_answers (x.pairs ++ w.pairs) y.pairs w.turn y.turn w.rests y.rests
        turn y.turn_is))
        (begins_so options.profile steps x.pairs w.pairs w.turn closed w.rests next)
