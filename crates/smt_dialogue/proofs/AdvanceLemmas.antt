-- The turns of an exchange, one after another: no count passes that of the bytes, they come to rest, and where
-- memory is refused, the lines are the first of those that are decided.
use Rattle.std.proofs.Common.{◌≡◌, ◌≤◌, ℕ, ◌+◌, Bool, true, false, List, [], ◌∷◌, ◌++◌, length, Option, Some, None}
use Rattle.std.proofs.Common.{arith, refl, ap, sym, ◌∙◌, subst, length-append}
use Rattle.std.proofs.lemmas.List.{append-nil}
use Rattle.std.specs.List.{list_any}
use Rattle.smt_script.specs.StackView.{profile_of}
use Rattle.smt_text.specs.Reader.{bytes_fed, depth_limit}
use Rattle.smt_text.specs.Reading.{Reads}
use Rattle.smt_trees.specs.Sexp.{Sexp, Sexps, Nil, Cons, count}
use Rattle.smt_faults.specs.declared.text_flaw.TextFlaw.{TextFlaw}
use Rattle.smt_trees.specs.Owned.{sexp_of}
use Rattle.smt_trees.specs.declared.owned.OwnedTree.{OwnedTree}
use Rattle.smt_dialogue.proofs.AcceptedLemmas.{begins_trans, decided_first, lines_silent}
use Rattle.smt_dialogue.proofs.PairingLemmas.{early_closed}
use Rattle.smt_dialogue.proofs.LinesStayLemmas.{begins_so}
use Rattle.smt_dialogue.proofs.PairLemmas.{answers_taken-le, checks_in-le}
use Rattle.smt_dialogue.proofs.ReadSoFarLemmas.{TreesStay}
use Rattle.smt_dialogue.proofs.ReportExists.{EveryTextReads, Way, way_through}
use Rattle.smt_dialogue.proofs.SoFarLemmas.{way_more}
use Rattle.smt_dialogue.proofs.TreesLemmas.{count-append}
use Rattle.smt_dialogue.proofs.WaitLemmas.{ClosesNext, at_end, at_tree}
use Rattle.smt_dialogue.specs.FirstFault as first_fault
use Rattle.smt_dialogue.specs.FirstFault.{turn_at}
use Rattle.smt_dialogue.specs.Lines.{lines_in}
use Rattle.smt_dialogue.specs.Pairing.{AreCommands}
use Rattle.smt_dialogue.specs.Pairs.{Pair, answer_count, answers_taken, answers_then, with_answer}
use Rattle.smt_dialogue.specs.Report.{ArePaired, IsTurn, lines_at_end}
use Rattle.smt_dialogue.specs.SoFar.{IsBeginning, is_verdict_line, lines_at}
use Rattle.smt_dialogue.specs.Internal.AcceptedState.{Fits, options_of, state_behind}
use Rattle.smt_dialogue.specs.Internal.PairingView.{HasRested, IsClosing, IsCut, IsInTurn, IsTurned, IsUnderWay}
use Rattle.smt_dialogue.specs.Internal.PairingView.{Texts, TreesAreFew, turn_of, waiting}
use Rattle.smt_dialogue.specs.Internal.TreeQueueView.{HasQueue}
use Rattle.smt_dialogue.specs.declared.pairing.Pairing.{Pairing}
use Rattle.smt_dialogue.specs.declared.options.Options.{Options}
use Rattle.smt_dialogue.specs.declared.turn.Turn.{Turn}
use Rattle.smt_dialogue.specs.declared.turn.Turn.TheVariants as turns
use Rattle.smt_report.specs.declared.line.Line.{Line}
use Rattle.smt_script.specs.declared.stack.Start.{Start}
use Rattle.smt_dialogue.specs.InForce.{start_by}
use Rattle.smt_theory.specs.declared.profile.Profile.{Profile}

-- what `trees_are_no_more_than_bytes` says
abbrev pub FewTrees : Type 0
FewTrees = (bound : ℕ) (text : List ℕ) (trees : Sexps) (f : Option TextFlaw) → Reads bound true text trees f
    → count trees ≤ length text

-- ---- counts

pub commands_count : (profile : Profile) (pairs : List Pair) (trees later : Sexps) → AreCommands profile pairs trees later
    → count trees ≡ length pairs + count later
commands_count profile [] trees later h = ap count h ∙ omega arith
commands_count profile (p ∷ ps) Nil later h = absurd h
commands_count profile (p ∷ ps) (Cons t ts) later h = omega (arith, commands_count profile ps ts later h.1)

pub few_told : EveryTextReads → TreesStay → FewTrees → TreesAreFew
few_told every stay few max_depth true bytes trees f h = few max_depth bytes trees f h
few_told every stay few max_depth false bytes trees f h =
    let all = every max_depth true bytes in
    let more = stay max_depth true bytes [] trees all.0 f all.1 h
    (subst (λ bs. Reads max_depth true bs all.0 all.1) (sym (append-nil bytes)) all.2) in
    omega (arith, few max_depth bytes all.0 all.1 all.2, ap count more.1, count-append trees more.0)

pub bounded : TreesAreFew → (x : Pairing) (texts : Texts) (pairs : List Pair)
    (later rest : Sexps) → IsUnderWay x texts pairs later rest
    → length pairs + count later ≤ bytes_fed x.script.reader
bounded few x texts pairs later rest h =
    omega (
      arith,
      commands_count (profile_of x.dialogue.stack) pairs texts.script.trees later h.paired.pairing.commands,
      few (depth_limit x.script.reader) texts.script.told texts.script_bytes texts.script.trees texts.script.fault
          h.script_front.reads,
      h.script_front.stands.0,
    )

pub commands_at_most : TreesAreFew → (x : Pairing) (texts : Texts) (pairs : List Pair)
    (later rest : Sexps) → IsUnderWay x texts pairs later rest → x.dialogue.commands ≤ bytes_fed x.script.reader
commands_at_most few x texts pairs later rest h =
    omega (arith, bounded few x texts pairs later rest h, h.stands.commands)

-- a tree that is left is one command more
pub room_for_one : TreesAreFew → (x : Pairing) (texts : Texts) (pairs : List Pair) (t : Sexp) (left later rest : Sexps)
    → later ≡ Cons t left → IsUnderWay x texts pairs later rest
    → x.dialogue.commands + 1 ≤ bytes_fed x.script.reader
room_for_one few x texts pairs t left later rest is h =
    omega (arith, bounded few x texts pairs later rest h, h.stands.commands, ap count is)

taken_count : (o : Option Sexp) (rest : Sexps) → count (with_answer o rest) ≡ answer_count o + count rest
taken_count None rest = omega arith
taken_count (Some a) rest = omega arith

answers_counted : (pairs : List Pair) (rest : Sexps)
    → count (answers_then pairs rest) ≡ answers_taken pairs + count rest
answers_counted [] rest = omega arith
answers_counted (p ∷ ps) rest =
    omega (arith, taken_count p.answer (answers_then ps rest), answers_counted ps rest)

-- and so is an answer that is left
pub room_for_answer : TreesAreFew → (x : Pairing) (texts : Texts) (pairs : List Pair) (t : Sexp)
    (left later rest : Sexps) → rest ≡ Cons t left → IsUnderWay x texts pairs later rest
    → x.dialogue.answers + 1 ≤ bytes_fed x.answers.reader
room_for_answer few x texts pairs t left later rest is h =
    omega (
      arith,
      ap count h.paired.pairing.answered,
      answers_counted pairs rest,
      few (depth_limit x.answers.reader) texts.answers.told texts.answers_bytes texts.answers.trees
          texts.answers.fault h.answers_front.reads,
      h.answers_front.stands.0,
      h.stands.answers,
      ap count is,
    )

pub answers_at_most : (x : Pairing) (texts : Texts) (pairs : List Pair) (later rest : Sexps)
    → IsUnderWay x texts pairs later rest → x.dialogue.answers ≤ x.dialogue.commands
answers_at_most x texts pairs later rest h =
    omega (arith, h.stands.answers, h.stands.commands, answers_taken-le pairs)

pub checks_at_most : (x : Pairing) (texts : Texts) (pairs : List Pair) (later rest : Sexps)
    → IsUnderWay x texts pairs later rest → x.dialogue.checks.count ≤ x.dialogue.commands
checks_at_most x texts pairs later rest h =
    omega (arith, h.stands.checks, h.stands.commands, checks_in-le pairs)

-- one more pair, and so one more command
pub one_more : (x y : Pairing) (texts : Texts) (pairs : List Pair) (p : Pair) (later rest left after : Sexps)
    → IsUnderWay x texts pairs later rest → IsUnderWay y texts (pairs ++ p ∷ []) left after
    → y.dialogue.commands ≡ x.dialogue.commands + 1
one_more x y texts pairs p later rest left after h g =
    omega (arith, h.stands.commands, g.stands.commands, length-append pairs (p ∷ []))

-- ---- what goes on

pub turned_on : (turn : Turn) (old new : Pairing) (texts : Texts) (pairs : List Pair) (later rest : Sexps)
    → turn ≡ turns.GoesOn → IsTurned turn old new texts pairs later rest
    → (p : Pair) × (left : Sexps) × (after : Sexps) × IsUnderWay new texts (pairs ++ p ∷ []) left after
turned_on turn old new texts pairs later rest is h =
    let g = subst (λ t. IsTurned t old new texts pairs later rest) is h in (g.0, g.1, g.2, g.3)

-- ---- rest

turn_kept : (x y : Pairing) (texts : Texts) (pairs : List Pair) (later rest : Sexps)
    → options_of y.dialogue ≡ options_of x.dialogue
    → turn_of y texts pairs later rest ≡ turn_of x texts pairs later rest
turn_kept x y texts pairs later rest same =
    ap (λ (o : Options). turn_at (start_by o) pairs (record texts.answers { trees = rest }) texts.script.told
    texts.script.fault later) same

-- y is x with what it keeps of the dialogue settled
pub settled : (x y : Pairing) (texts : Texts) (pairs : List Pair) (later rest : Sexps) (closed : Bool)
    → y.script ≡ x.script → y.answers ≡ x.answers → y.command ≡ x.command
    → options_of y.dialogue ≡ options_of x.dialogue
    → Fits closed (state_behind texts.taken y.dialogue) pairs
    → (closed ≡ true → IsClosing (profile_of x.dialogue.stack) x.command texts later)
    → IsUnderWay x texts pairs later rest → IsUnderWay y texts pairs later rest
settled x y texts pairs later rest closed script answers command start stands closing h = record {
  left = h.left;
  in_turn = subst (λ (o : Options). IsInTurn o.profile y.command pairs later h.left) (sym start)
      (subst (λ o. IsInTurn (profile_of x.dialogue.stack) o pairs later h.left) (sym command) h.in_turn);
  script_front = subst (λ f. HasQueue f texts.script_bytes texts.script h.left) (sym script) h.script_front;
  answers_front = subst (λ f. HasQueue f texts.answers_bytes texts.answers rest) (sym answers) h.answers_front;
  early = closed;
  stands = stands;
  closing = λ e. subst (λ (o : Options). IsClosing o.profile y.command texts later) (sym start)
      (subst (λ o. IsClosing (profile_of x.dialogue.stack) o texts later) (sym command) (closing e));
  paired = subst (λ (o : Options). ArePaired (start_by o) texts.script texts.answers pairs later rest)
      (sym start) h.paired;
}

-- the dialogue waits, with the lines that are decided
pub waits_at : (old x y : Pairing) (texts : Texts) (pairs : List Pair) (later rest : Sexps) (options : Options)
    (closed : Bool) → options_of old.dialogue ≡ options → options_of x.dialogue ≡ options_of old.dialogue
    → y.script ≡ x.script → y.answers ≡ x.answers → y.command ≡ x.command
    → options_of y.dialogue ≡ options_of x.dialogue
    → ((early : Bool) → Fits early (state_behind texts.taken x.dialogue) pairs → (early ≡ true → closed ≡ true)
    → Fits closed (state_behind texts.taken y.dialogue) pairs
    × (texts.taken ++ waiting y
    ≡ lines_in (profile_of y.dialogue.stack) y.dialogue.checks.limit.steps closed [] pairs []))
    → IsTurned (turns.Waits closed) old x texts pairs later rest
    → HasRested None options y texts
waits_at old x y texts pairs later rest options closed begun kept script answers command same settle t =
    let h = t.0 in
    let turn = turn_kept old x texts pairs later rest kept ∙ t.1 in
    let done = settle h.early h.stands (early_closed x texts pairs later rest closed h turn) in (
      closed,
      pairs,
      later,
      rest,
      settled x y texts pairs later rest closed script answers command same done.0 t.2 h,
      same ∙ kept ∙ begun,
      turn_kept x y texts pairs later rest same ∙ turn,
      done.1 ∙ ap (λ (o : Options). lines_in o.profile o.limit.steps closed [] pairs []) (same ∙ kept ∙ begun),
    )

-- the dialogue has ended behind the pairs
pub ends_at : (old new : Pairing) (texts : Texts) (pairs : List Pair) (later rest : Sexps) (options : Options)
    (fault : Option Line) → options_of old.dialogue ≡ options
    → IsUnderWay old texts pairs later rest → IsTurned (turns.Ends fault) old new texts pairs later rest
    → IsTurn (start_by options) texts.script texts.answers pairs (first_fault.Ends fault)
ends_at old new texts pairs later rest options fault begun h t = record {
  later = later;
  rest = rest;
  paired = subst (λ (o : Options). ArePaired (start_by o) texts.script texts.answers pairs later rest) begun
      h.paired;
  turn_is = sym (ap (λ (o : Options). turn_at (start_by o) pairs
      (record texts.answers { trees = rest }) texts.script.told
      texts.script.fault later) begun) ∙ t.2;
}

-- ---- where memory was refused

next_pair : (start : Start) (texts : Texts) (o : Option OwnedTree) (pairs : List Pair) (later left rest : Sexps)
    → IsInTurn start.profile o pairs later left → IsClosing start.profile o texts later
    → (w : Way start pairs texts.script.told later texts.script.fault texts.answers.told rest texts.answers.fault)
    → ClosesNext w.pairs w.turn
next_pair start texts None pairs later left rest turn h w =
    at_end start pairs w.pairs texts.script.told later w.later texts.script.fault texts.answers.told w.rest
    texts.answers.fault w.turn h.0 h.1 h.2 w.commands w.turn_is
next_pair start texts (Some t) pairs later left rest turn h w =
    at_tree start pairs w.pairs (sexp_of t) left w.later turn.0 texts.answers.told w.rest texts.answers.fault
    w.turn turn.3 turn.2 (h turn.0 turn.2)
    (subst (λ ts. AreCommands start.profile w.pairs ts w.later) turn.1 w.commands)
    texts.script.told texts.script.fault w.turn_is w.rests

-- what is decided begins the lines so far
pub cut_at : (x : Pairing) (texts : Texts) (pairs : List Pair) (later rest : Sexps) (ls : List Line)
    (options : Options)
    → options_of x.dialogue ≡ options → ls ≡ waiting x → IsUnderWay x texts pairs later rest
    → IsCut options ls texts
cut_at x texts pairs later rest ls options begun is h =
    let start = start_by options in
    let steps = options.limit.steps in
    let state = state_behind texts.taken x.dialogue in
    let w = way_through start later pairs texts.script.told texts.script.fault texts.answers.told rest
    texts.answers.fault in
    let paired = subst (λ (o : Options). ArePaired (start_by o) texts.script texts.answers pairs later rest)
    begun h.paired in
    let turn = way_more start texts.script texts.answers pairs later rest paired w in
    let first = decided_first h.early state pairs h.stands in
    let mine : lines_in options.profile steps h.early [] pairs [] ≡ (texts.taken ++ ls) ++ first.0 =
    sym (ap (λ (o : Options). lines_in o.profile o.limit.steps h.early [] pairs []) begun) ∙ first.1
    ∙ ap (λ xs. (texts.taken ++ xs) ++ first.0) (sym is) in
    let all = begins_so options.profile steps pairs w.pairs w.turn h.early w.rests
    (λ e. next_pair start texts x.command pairs later h.left rest
    (subst (λ (o : Options). IsInTurn o.profile x.command pairs later h.left) begun h.in_turn)
    (subst (λ (o : Options). IsClosing o.profile x.command texts later) begun (h.closing e)) w) in (
      lines_at options.profile steps (pairs ++ w.pairs) w.turn,
      record { pairs = pairs ++ w.pairs; turn = w.turn; rests = w.rests; turn_is = turn; lines_are = refl },
      begins_trans (texts.taken ++ ls) (lines_in options.profile steps h.early [] pairs [])
          (lines_at options.profile steps (pairs ++ w.pairs) w.turn)
          (first.0, mine) all,
      ap (λ xs. list_any is_verdict_line (texts.taken ++ xs)) is ∙ lines_silent h.early state pairs h.stands,
    )

-- where the dialogue ends, the first of its lines
pub cut_ended : (texts : Texts) (pairs : List Pair) (fault : Option Line) (ls : List Line) (options : Options)
    → IsTurn (start_by options) texts.script texts.answers pairs (first_fault.Ends fault)
    → IsBeginning (texts.taken ++ ls) (lines_at_end options.profile options.limit.steps pairs fault)
    × (list_any is_verdict_line (texts.taken ++ ls) ≡ false) → IsCut options ls texts
cut_ended texts pairs fault ls options turn first = (
  lines_at_end options.profile options.limit.steps pairs fault,
  record { pairs = pairs; turn = first_fault.Ends fault; rests = tt; turn_is = turn; lines_are = refl },
  first.0,
  first.1,
)
