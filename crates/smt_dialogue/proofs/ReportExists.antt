-- There is a way through every script and every answers, to where the dialogue waits or ends, so a dialogue
-- has a report.
use Rattle.std.proofs.Common.{◌≡◌, ℕ, ◌+◌, Bool, true, false, cond, ◌||◌, List, [], ◌∷◌, ◌++◌, length, Option}
use Rattle.std.proofs.Common.{Some, None, is_some, Result, Ok, Err, refl, ap, sym, ◌∙◌, append_assoc}
use Rattle.std.proofs.lemmas.List.{append-nil}
use Rattle.smt_text.specs.Reading.{Reads}
use Rattle.smt_trees.specs.Sexp.{Sexp, Sexps, Nil, Cons}
use Rattle.smt_faults.specs.declared.text_flaw.TextFlaw.{TextFlaw}
use Rattle.smt_script.specs.Command.{Command, command_of}
use Rattle.smt_faults.specs.declared.command_flaw.CommandFlaw.TheVariants.{AfterExit}
use Rattle.smt_dialogue.proofs.PairingUnique.{takes_same}
use Rattle.smt_dialogue.proofs.StepLemmas.{turn_by}
use Rattle.smt_dialogue.specs.Answers as answering
use Rattle.smt_dialogue.specs.Answers.{Missing, Taken, Takes, Unexpected, has_form, taken}
use Rattle.smt_dialogue.specs.FirstFault.{Ends, GoesOn, IsRest, TextSoFar, Turn, Waits, turn_after}
use Rattle.smt_dialogue.specs.FirstFault.{turn_of_command, turn_of_end, turn_of_flaw, turn_of_rest}
use Rattle.smt_dialogue.specs.FirstFault.{turn_of_taken, want_of_answer, whole_text}
use Rattle.smt_dialogue.specs.InForce.{AreFaultless, flaw_of_pair, has_exited_after, need_after, start_by}
use Rattle.smt_dialogue.specs.Pairing.{AllTake, AreCommands}
use Rattle.smt_dialogue.specs.Pairs.{Pair, answers_taken, answers_then, next_of, pair_of, with_answer}
use Rattle.smt_dialogue.specs.declared.need.Need.{Need}
use Rattle.smt_dialogue.specs.declared.need.Need.TheVariants.{Nothing, Optional, Needed}
use Rattle.smt_dialogue.specs.Depth.{max_depth_of}
use Rattle.smt_dialogue.specs.Report.{IsReport, IsTurn, lines_at_end}
use Rattle.smt_script.specs.Command.{is_check}
use Rattle.smt_dialogue.specs.declared.options.Options.{Options}
use Rattle.smt_report.specs.declared.line.Line.{Line}
use Rattle.smt_report.specs.declared.line.Line.TheVariants as lines
use Rattle.smt_report.specs.declared.line.Side.TheVariants.{Script}
use Rattle.smt_faults.specs.declared.command_flaw.CommandFlaw.{CommandFlaw}
use Rattle.smt_script.specs.declared.stack.Start.{Start}
use Rattle.smt_theory.specs.declared.profile.Profile.{Profile}

-- a text so far
abbrev pub text : Bool → Sexps → Option TextFlaw → TextSoFar
text told trees fault = record { told = told; trees = trees; fault = fault }

-- the pairs from some on, to where the dialogue waits or ends
pub record Way (start : Start) (before : List Pair) (st : Bool) (trees : Sexps) (sf : Option TextFlaw)
    (at' : Bool) (answers : Sexps) (af : Option TextFlaw) : Type 0 where
  pub pairs : List Pair
  pub later : Sexps
  pub rest : Sexps
  pub commands : AreCommands start.profile pairs trees later
  pub answered : answers ≡ answers_then pairs rest
  pub taken_so : AllTake (at' || is_some af) start before pairs rest
  pub faultless : AreFaultless start.profile before pairs
  pub turn : Turn
  pub rests : IsRest turn
  pub turn_is : turn_after start (before ++ pairs) (text st later sf) (text at' rest af) ≡ turn

-- the dialogue is at rest here
stop_here : (start : Start) (before : List Pair) (st : Bool) (trees : Sexps) (sf : Option TextFlaw)
    (at' : Bool) (answers : Sexps) (af : Option TextFlaw) (turn : Turn) → IsRest turn
    → turn_after start before (text st trees sf) (text at' answers af) ≡ turn
    → Way start before st trees sf at' answers af
stop_here start before st trees sf at' answers af turn rests h = record {
  pairs = [];
  later = trees;
  rest = answers;
  commands = refl;
  answered = refl;
  taken_so = tt;
  faultless = tt;
  turn = turn;
  rests = rests;
  turn_is = ap (λ (bs : List Pair). turn_after start bs (text st trees sf) (text at' answers af))
      (append-nil before) ∙ h;
}

-- a command with what it takes: its fault ends the dialogue, or there is a way on
by_effect : (start : Start) (before : List Pair) (t : Sexp) (ts : Sexps) (c : Command) (o : Option Sexp)
    (st : Bool) (sf : Option TextFlaw) (at' : Bool) (answers left : Sexps) (af : Option TextFlaw)
    (f : Option CommandFlaw) → has_exited_after before ≡ false → command_of start.profile t ≡ Ok c
    → answers ≡ with_answer o left
    → taken (at' || is_some af) (need_after start before c) (next_of answers) ≡ Takes o
    → flaw_of_pair start.profile before (pair_of c o) ≡ f
    → ((b : List Pair) (as' : Sexps) → Way start b st ts sf at' as' af)
    → Way start before st (Cons t ts) sf at' answers af
by_effect start before t ts c o st sf at' answers left af (Some fault) goes_on read next takes h on =
    stop_here start before st (Cons t ts) sf at' answers af
    (Ends (Some (lines.CommandFault (length before + 1) fault))) tt
    (rw goes_on (turn_by start before t (text at' answers af) c (Takes o) read takes ∙ rw h refl))
by_effect start before t ts c o st sf at' answers left af None goes_on read next takes h on =
    let p = pair_of c o in
    let way = on (before ++ p ∷ []) left in
    let all : answers ≡ answers_then (p ∷ way.pairs) way.rest = next ∙ ap (with_answer o) way.answered in
    record {
      pairs = p ∷ way.pairs;
      later = way.later;
      rest = way.rest;
      commands = (read, way.commands);
      answered = all;
      taken_so = (
        ap (λ (r : Sexps). taken (at' || is_some af) (need_after start before c) (next_of r))
            (sym all) ∙ takes,
        way.taken_so,
      );
      faultless = (goes_on, h, way.faultless);
      turn = way.turn;
      rests = way.rests;
      turn_is = ap (λ (bs : List Pair). turn_after start bs (text st way.later sf) (text at' way.rest af))
          (sym (append_assoc before (p ∷ []) way.pairs)) ∙ way.turn_is;
    }

-- what is taken is the next answer, or none
pub left_by : (told : Bool) (need : Need) (answers : Sexps) (o : Option Sexp)
    → taken told need (next_of answers) ≡ Takes o → (left : Sexps) × (answers ≡ with_answer o left)
left_by told Nothing answers o h = (answers, ap (λ (a : Option Sexp). with_answer a answers) (takes_same h))
left_by true (Optional form) Nil o h = (Nil, ap (λ (a : Option Sexp). with_answer a Nil) (takes_same h))
left_by false (Optional form) Nil o h = absurd (cc)
left_by told (Optional form) (Cons a more) o h = by (has_form form a) h
  where
    by : (b : Bool) → cond b (Takes (Some a)) (Takes None) ≡ Takes o
        → (left : Sexps) × (Cons a more ≡ with_answer o left)
    by true e = (more, ap (λ (x : Option Sexp). with_answer x more) (takes_same e))
    by false e = (Cons a more, ap (λ (x : Option Sexp). with_answer x (Cons a more)) (takes_same e))
left_by true (Needed form) Nil o h = absurd (cc)
left_by false (Needed form) Nil o h = absurd (cc)
left_by told (Needed form) (Cons a more) o h = by (has_form form a) h
  where
    by : (b : Bool) → cond b (Takes (Some a)) Unexpected ≡ Takes o
        → (left : Sexps) × (Cons a more ≡ with_answer o left)
    by true e = (more, ap (λ (x : Option Sexp). with_answer x more) (takes_same e))
    by false e = absurd (cc)

by_taken : (start : Start) (before : List Pair) (t : Sexp) (ts : Sexps) (c : Command) (st : Bool)
    (sf : Option TextFlaw) (at' : Bool) (answers : Sexps) (af : Option TextFlaw) (k : Taken)
    → has_exited_after before ≡ false → command_of start.profile t ≡ Ok c
    → taken (at' || is_some af) (need_after start before c) (next_of answers) ≡ k
    → ((b : List Pair) (as' : Sexps) → Way start b st ts sf at' as' af)
    → Way start before st (Cons t ts) sf at' answers af
by_taken start before t ts c st sf at' answers af answering.Waits goes_on read h on =
    stop_here start before st (Cons t ts) sf at' answers af (Waits (is_check c)) tt
    (rw goes_on (turn_by start before t (text at' answers af) c answering.Waits read h))
by_taken start before t ts c st sf at' answers af Missing goes_on read h on =
    stop_here start before st (Cons t ts) sf at' answers af
    (Ends (Some (want_of_answer (length before + 1) af))) tt
    (rw goes_on (turn_by start before t (text at' answers af) c Missing read h))
by_taken start before t ts c st sf at' answers af Unexpected goes_on read h on =
    stop_here start before st (Cons t ts) sf at' answers af
    (Ends (Some (lines.UnexpectedAnswer (length before + 1) (answers_taken before + 1)))) tt
    (rw goes_on (turn_by start before t (text at' answers af) c Unexpected read h))
by_taken start before t ts c st sf at' answers af (Takes o) goes_on read h on =
    let left = left_by (at' || is_some af) (need_after start before c) answers o h in
    by_effect start before t ts c o st sf at' answers left.0 af (flaw_of_pair start.profile before (pair_of c o))
    goes_on read left.1 h refl on

by_tree : (start : Start) (before : List Pair) (t : Sexp) (ts : Sexps) (st : Bool) (sf : Option TextFlaw)
    (at' : Bool) (answers : Sexps) (af : Option TextFlaw) (e : Bool) (r : Result Command CommandFlaw)
    → has_exited_after before ≡ e → command_of start.profile t ≡ r
    → ((b : List Pair) (as' : Sexps) → Way start b st ts sf at' as' af)
    → Way start before st (Cons t ts) sf at' answers af
by_tree start before t ts st sf at' answers af true r exited h on =
    stop_here start before st (Cons t ts) sf at' answers af
    (Ends (Some (lines.CommandFault (length before + 1) AfterExit))) tt (rw exited refl)
by_tree start before t ts st sf at' answers af false (Err fault) goes_on h on =
    stop_here start before st (Cons t ts) sf at' answers af
    (Ends (Some (lines.CommandFault (length before + 1) fault))) tt
    (rw goes_on (ap (λ (r : Result Command CommandFlaw). turn_of_command start before r
    (text at' answers af)) h))
by_tree start before t ts st sf at' answers af false (Ok c) goes_on h on =
    by_taken start before t ts c st sf at' answers af
    (taken (at' || is_some af) (need_after start before c) (next_of answers)) goes_on h refl on

-- behind the last command the dialogue is at rest
end_rests : (told : Bool) (af : Option TextFlaw) → IsRest (turn_of_end told af)
end_rests told (Some fault) = tt
end_rests true None = tt
end_rests false None = tt

rest_rests : (pairs : List Pair) (told : Bool) (af : Option TextFlaw) (answers : Sexps)
    → IsRest (turn_of_rest pairs told af answers)
rest_rests pairs told af (Cons a rest) = tt
rest_rests pairs told af Nil = end_rests told af

pub way_through : (start : Start) (trees : Sexps) (before : List Pair) (st : Bool) (sf : Option TextFlaw)
    (at' : Bool) (answers : Sexps) (af : Option TextFlaw) → Way start before st trees sf at' answers af
way_through start Nil before true None at' answers af =
    stop_here start before true Nil None at' answers af (turn_of_rest before at' af answers)
    (rest_rests before at' af answers) refl
way_through start Nil before false None at' answers af =
    stop_here start before false Nil None at' answers af (Waits false) tt refl
way_through start Nil before st (Some fault) at' answers af =
    stop_here start before st Nil (Some fault) at' answers af (Ends (Some (lines.TextFault Script fault)))
    tt refl
way_through start (Cons t ts) before st sf at' answers af =
    by_tree start before t ts st sf at' answers af (has_exited_after before) (command_of start.profile t) refl refl
    (λ b as'. way_through start ts b st sf at' as' af)

-- ## Where both ends were told, the dialogue does not wait

took : {P : Type 0} (n : ℕ) (f : Option CommandFlaw) (closed : Bool) → turn_of_flaw n f ≡ Waits closed → P
took n None closed h = absurd (cc)
took n (Some fault) closed h = absurd (cc)

took_what : (profile : Profile) → {P : Type 0} (pairs : List Pair) (c : Command) (af : Option TextFlaw) (need : Need)
    (next : Option Sexp) (closed : Bool) → turn_of_taken profile pairs c af (taken true need next) ≡ Waits closed → P
took_what profile pairs c af Nothing next closed h =
    took (length pairs + 1) (flaw_of_pair profile pairs (pair_of c None)) closed h
took_what profile pairs c af (Optional form) None closed h =
    took (length pairs + 1) (flaw_of_pair profile pairs (pair_of c None)) closed h
took_what profile {P} pairs c af (Optional form) (Some a) closed h = by (has_form form a) h
  where
    by : (b : Bool) → turn_of_taken profile pairs c af (cond b (Takes (Some a)) (Takes None)) ≡ Waits closed → P
    by true e = took (length pairs + 1) (flaw_of_pair profile pairs (pair_of c (Some a))) closed e
    by false e = took (length pairs + 1) (flaw_of_pair profile pairs (pair_of c None)) closed e
took_what profile pairs c af (Needed form) None closed h = absurd (cc)
took_what profile {P} pairs c af (Needed form) (Some a) closed h = by (has_form form a) h
  where
    by : (b : Bool) → turn_of_taken profile pairs c af (cond b (Takes (Some a)) Unexpected) ≡ Waits closed → P
    by true e = took (length pairs + 1) (flaw_of_pair profile pairs (pair_of c (Some a))) closed e
    by false e = absurd (cc)

command_waits : {P : Type 0} (start : Start) (b : Bool) (pairs : List Pair) (r : Result Command CommandFlaw)
    (answers : Sexps) (af : Option TextFlaw) (closed : Bool)
    → cond b (Ends (Some (lines.CommandFault (length pairs + 1) AfterExit)))
    (turn_of_command start pairs r (text true answers af)) ≡ Waits closed → P
command_waits start true pairs r answers af closed h = absurd (cc)
command_waits start false pairs (Err fault) answers af closed h = absurd (cc)
command_waits start false pairs (Ok c) answers af closed h =
    took_what start.profile pairs c af (need_after start pairs c) (next_of answers) closed h

no_wait : {P : Type 0} (start : Start) (pairs : List Pair) (trees : Sexps) (sf : Option TextFlaw)
    (answers : Sexps) (af : Option TextFlaw) (closed : Bool)
    → turn_after start pairs (text true trees sf) (text true answers af) ≡ Waits closed → P
no_wait start pairs (Cons t ts) sf answers af closed h =
    command_waits start (has_exited_after pairs) pairs (command_of start.profile t) answers af closed h
no_wait start pairs Nil (Some fault) answers af closed h = absurd (cc)
no_wait start pairs Nil None (Cons a rest) af closed h = absurd (cc)
no_wait start pairs Nil None Nil (Some fault) closed h = absurd (cc)
no_wait start pairs Nil None Nil None closed h = absurd (cc)

-- so it ends
ends_there : (start : Start) (pairs : List Pair) (trees : Sexps) (sf : Option TextFlaw) (answers : Sexps)
    (af : Option TextFlaw) (turn : Turn) → IsRest turn
    → turn_after start pairs (text true trees sf) (text true answers af) ≡ turn
    → (fault : Option Line) ×
    (turn_after start pairs (text true trees sf) (text true answers af) ≡ Ends fault)
ends_there start pairs trees sf answers af GoesOn rests h = absurd rests
ends_there start pairs trees sf answers af (Waits closed) rests h =
    no_wait start pairs trees sf answers af closed h
ends_there start pairs trees sf answers af (Ends fault) rests h = (fault, h)

-- a dialogue so far is at rest behind some pairs
pub some_rest : (start : Start) (script answers : TextSoFar)
    → (pairs : List Pair) × (turn : Turn) × IsRest turn × IsTurn start script answers pairs turn
some_rest start script answers =
    let way = way_through start script.trees
    [] script.told script.fault answers.told answers.trees answers.fault in (
      way.pairs,
      way.turn,
      way.rests,
      record {
        later = way.later;
        rest = way.rest;
        paired = record {
          pairing = record { commands = way.commands; answered = way.answered; taken_so = way.taken_so };
          faultless = way.faultless;
        };
        turn_is = way.turn_is;
      },
    )

-- where both ends were told it has ended
pub rests_ended : (start : Start) (script answers : TextSoFar) (pairs : List Pair) (turn : Turn)
    → script.told ≡ true → answers.told ≡ true → IsRest turn → IsTurn start script answers pairs turn
    → (fault : Option Line) × (turn ≡ Ends fault)
rests_ended start script answers pairs turn told answers_told rests t =
    let first : turn_after start pairs (text true t.later script.fault)
    (text answers.told t.rest answers.fault) ≡ turn =
    ap (λ (b : Bool). turn_after start pairs (text b t.later script.fault)
    (text answers.told t.rest answers.fault)) (sym told) ∙ t.turn_is in
    let both : turn_after start pairs (text true t.later script.fault) (text true t.rest answers.fault)
    ≡ turn = ap (λ (b : Bool). turn_after start pairs (text true t.later script.fault)
    (text b t.rest answers.fault)) (sym answers_told) ∙ first in
    let ends = ends_there start pairs t.later script.fault t.rest answers.fault turn rests both in
    (ends.0, sym both ∙ ends.1)

-- of every text something is read: a law of the reader's crate
abbrev pub EveryTextReads : Type 0
EveryTextReads = (bound : ℕ) (ended : Bool) (text : List ℕ)
    → (trees : Sexps) × (fault : Option TextFlaw) × Reads bound ended text trees fault

pub some_report : EveryTextReads → (options : Options) (script answers : List ℕ)
    → (ls : List Line) × IsReport options script answers ls
some_report every options script answers =
    let start = start_by options in
    let read = every (max_depth_of options.profile) true script in
    let printed = every (max_depth_of options.profile) true answers in
    let way = way_through start read.0 [] true read.1 true printed.0 printed.1 in
    let ends = ends_there start way.pairs way.later read.1 way.rest printed.1 way.turn way.rests way.turn_is
    in (
      lines_at_end options.profile options.limit.steps way.pairs ends.0,
      record {
        script_text = whole_text read.0 read.1;
        script_read = record { told_so = refl; reads = read.2 };
        answers_text = whole_text printed.0 printed.1;
        answers_read = record { told_so = refl; reads = printed.2 };
        lines_are = record {
          pairs = way.pairs;
          fault = ends.0;
          ends = record {
            later = way.later;
            rest = way.rest;
            paired = record {
              pairing = record { commands = way.commands; answered = way.answered; taken_so = way.taken_so };
              faultless = way.faultless;
            };
            turn_is = ends.1;
          };
          lines_are = refl;
        };
      },
    )
