-- What is decided of two texts so far stays as more of them comes: pairs, and the turn that ends a dialogue.
use Rattle.std.proofs.Common.{◌≡◌, ◌+◌, Bool, true, false, cond, ◌||◌, List, [], ◌∷◌, ◌++◌, length, Option}
use Rattle.std.proofs.Common.{Some, None, is_some, Result, Ok, Err, refl, ap, sym, ◌∙◌, subst}
use Rattle.smt_trees.specs.Sexp.{Sexp, Sexps, Nil, Cons, append}
use Rattle.smt_faults.specs.declared.text_flaw.TextFlaw.{TextFlaw}
use Rattle.smt_faults.specs.declared.command_flaw.CommandFlaw.{CommandFlaw}
use Rattle.smt_faults.specs.declared.command_flaw.CommandFlaw.TheVariants.{AfterExit}
use Rattle.smt_script.specs.Command.{Command, command_of}
use Rattle.smt_dialogue.proofs.ReportExists.{text}
use Rattle.smt_dialogue.specs.Answers as answering
use Rattle.smt_dialogue.specs.Answers.{Missing, Taken, Takes, Unexpected, has_form, taken}
use Rattle.smt_dialogue.specs.FirstFault.{Ends, turn_after}
use Rattle.smt_dialogue.specs.FirstFault.{turn_of_command, turn_of_end, turn_of_rest}
use Rattle.smt_dialogue.specs.FirstFault.{turn_of_taken, want_of_answer}
use Rattle.smt_dialogue.specs.InForce.{has_exited_after, need_after}
use Rattle.smt_dialogue.specs.Pairing.{AllTake, AreCommands}
use Rattle.smt_dialogue.specs.Pairs.{Pair, answers_then, next_of, with_answer}
use Rattle.smt_dialogue.specs.declared.need.Need.{Need}
use Rattle.smt_dialogue.specs.declared.need.Need.TheVariants.{Nothing, Optional, Needed}
use Rattle.smt_report.specs.declared.line.Line.{Line}
use Rattle.smt_report.specs.declared.line.Line.TheVariants as lines
use Rattle.smt_script.specs.declared.stack.Start.{Start}
use Rattle.smt_theory.specs.declared.profile.Profile.{Profile}

-- ---- what a command takes

-- nothing comes behind answers that are over
abbrev pub IsEnd : (over over' : Bool) → (more : Sexps) → Type 0
IsEnd over over' more = over ≡ true → (more ≡ Nil) × (over' ≡ true)

abbrev pub IsDecided : Taken → Type 0
IsDecided answering.Waits = ⊥
IsDecided _ = Unit {0}

none_next : (over over' : Bool) (need : Need) (more : Sexps) (k : Taken) → IsEnd over over' more → IsDecided k
    → taken over need None ≡ k → taken over' need (next_of more) ≡ k
none_next over over' Nothing more k end decided h = h
none_next true over' (Optional form) more k end decided h =
    let e = end refl in
    ap (λ m. taken over' (Optional form) (next_of m)) e.0 ∙ ap (λ b. taken b (Optional form) None) e.1 ∙ h
none_next false over' (Optional form) more k end decided h = absurd (subst IsDecided (sym h) decided)
none_next true over' (Needed form) more k end decided h =
    let e = end refl in
    ap (λ m. taken over' (Needed form) (next_of m)) e.0 ∙ ap (λ b. taken b (Needed form) None) e.1 ∙ h
none_next false over' (Needed form) more k end decided h = absurd (subst IsDecided (sym h) decided)

some_next : (over over' : Bool) (need : Need) (a : Sexp) (k : Taken) → taken over need (Some a) ≡ k
    → taken over' need (Some a) ≡ k
some_next over over' Nothing a k h = h
some_next over over' (Optional form) a k h = h
some_next over over' (Needed form) a k h = h

pub taken_stays : (over over' : Bool) (need : Need) (rest more : Sexps) (k : Taken) → IsEnd over over' more
    → IsDecided k → taken over need (next_of rest) ≡ k → taken over' need (next_of (append rest more)) ≡ k
taken_stays over over' need Nil more k end decided h = none_next over over' need more k end decided h
taken_stays over over' need (Cons a rest) more k end decided h = some_next over over' need a k h

-- ---- pairs

with_more : (o : Option Sexp) (rest more : Sexps)
    → append (with_answer o rest) more ≡ with_answer o (append rest more)
with_more None rest more = refl
with_more (Some a) rest more = refl

pub answers_more : (xs : List Pair) (rest more : Sexps)
    → append (answers_then xs rest) more ≡ answers_then xs (append rest more)
answers_more [] rest more = refl
answers_more (x ∷ xs) rest more =
    with_more x.answer (answers_then xs rest) more ∙ ap (with_answer x.answer) (answers_more xs rest more)

pub commands_more : (profile : Profile) (xs : List Pair) (trees later more : Sexps) → AreCommands profile xs trees later
    → AreCommands profile xs (append trees more) (append later more)
commands_more profile [] trees later more h = ap (λ ts. append ts more) h
commands_more profile (x ∷ xs) Nil later more h = absurd h
commands_more profile (x ∷ xs) (Cons t ts) later more h = (h.0, commands_more profile xs ts later more h.1)

pub taken_more : (over over' : Bool) (start : Start) (before xs : List Pair) (rest more : Sexps) → IsEnd over over' more
    → AllTake over start before xs rest → AllTake over' start before xs (append rest more)
taken_more over over' start before [] rest more end h = tt
taken_more over over' start before (x ∷ xs) rest more end h = (
  ap (λ r. taken over' (need_after start before x.command) (next_of r)) (sym (answers_more (x ∷ xs) rest more))
      ∙ taken_stays over over' (need_after start before x.command) (answers_then (x ∷ xs) rest) more
      (Takes x.answer) end tt h.0,
  taken_more over over' start (before ++ x ∷ []) xs rest more end h.1,
)

-- ---- the turn that ends a dialogue

-- a text so far with more of it, in parts
pub record Growth (told : Bool) (fault : Option TextFlaw) (told' : Bool) (fault' : Option TextFlaw)
    (more : Sexps) : Type 0 where
  pub over : told || is_some fault ≡ true → (more ≡ Nil) × (fault' ≡ fault)
  pub told_stays : told ≡ true → told' ≡ true

told_over : (told : Bool) (fault : Option TextFlaw) → told ≡ true → told || is_some fault ≡ true
told_over true fault h = refl
told_over false fault h = absurd (cc)

fault_over : (told : Bool) (f : TextFlaw) → told || is_some (Some f) ≡ true
fault_over true f = refl
fault_over false f = refl

over_stays : (told told' : Bool) (fault fault' : Option TextFlaw) → told || is_some fault ≡ true
    → (told ≡ true → told' ≡ true) → fault' ≡ fault → told' || is_some fault' ≡ true
over_stays true told' fault fault' over stays same = told_over told' fault' (stays refl)
over_stays false told' (Some f) fault' over stays same =
    ap (λ o. told' || is_some o) same ∙ fault_over told' f
over_stays false told' None fault' over stays same = absurd (cc)

pub end_of : (told told' : Bool) (fault fault' : Option TextFlaw) (more : Sexps)
    → Growth told fault told' fault' more → IsEnd (told || is_some fault) (told' || is_some fault') more
end_of told told' fault fault' more g over =
    ((g.over over).0, over_stays told told' fault fault' over g.told_stays (g.over over).1)

-- an answer is missing only behind answers that are over
missing_over : (over : Bool) (need : Need) (next : Option Sexp) → taken over need next ≡ Missing → over ≡ true
missing_over over Nothing next h = absurd (cc)
missing_over true need next h = refl
missing_over false (Optional form) None h = absurd (cc)
missing_over over (Optional form) (Some a) h = by (has_form form a) h
  where
    by : (b : Bool) → cond b (Takes (Some a)) (Takes None) ≡ Missing → over ≡ true
    by true e = absurd (cc)
    by false e = absurd (cc)
missing_over false (Needed form) None h = absurd (cc)
missing_over over (Needed form) (Some a) h = by (has_form form a) h
  where
    by : (b : Bool) → cond b (Takes (Some a)) Unexpected ≡ Missing → over ≡ true
    by true e = absurd (cc)
    by false e = absurd (cc)

command_stays : (start : Start) (pairs : List Pair) (c : Command) (at' at'' : Bool) (rest more : Sexps)
    (af af' : Option TextFlaw) (f : Option Line) (k : Taken) → Growth at' af at'' af' more
    → taken (at' || is_some af) (need_after start pairs c) (next_of rest) ≡ k
    → turn_of_taken start.profile pairs c af k ≡ Ends f
    → turn_of_taken start.profile pairs c af' (taken (at'' || is_some af') (need_after start pairs c)
    (next_of (append rest more))) ≡ Ends f
command_stays start pairs c at' at'' rest more af af' f (Takes o) g is h =
    ap (turn_of_taken start.profile pairs c af') (taken_stays (at' || is_some af) (at'' || is_some af')
    (need_after start pairs c) rest more (Takes o) (end_of at' at'' af af' more g) tt is) ∙ h
command_stays start pairs c at' at'' rest more af af' f answering.Waits g is h = absurd (cc)
command_stays start pairs c at' at'' rest more af af' f Missing g is h =
    let over = missing_over (at' || is_some af) (need_after start pairs c) (next_of rest) is in
    ap (turn_of_taken start.profile pairs c af') (taken_stays (at' || is_some af) (at'' || is_some af')
    (need_after start pairs c) rest more Missing (end_of at' at'' af af' more g) tt is)
    ∙ ap (λ o. Ends (Some (want_of_answer (length pairs + 1) o))) (g.over over).1 ∙ h
command_stays start pairs c at' at'' rest more af af' f Unexpected g is h =
    ap (turn_of_taken start.profile pairs c af') (taken_stays (at' || is_some af) (at'' || is_some af')
    (need_after start pairs c) rest more Unexpected (end_of at' at'' af af' more g) tt is) ∙ h

tree_stays : (start : Start) (b : Bool) (pairs : List Pair) (r : Result Command CommandFlaw) (at' at'' : Bool)
    (rest more : Sexps) (af af' : Option TextFlaw) (f : Option Line) → Growth at' af at'' af' more
    → cond b (Ends (Some (lines.CommandFault (length pairs + 1) AfterExit)))
    (turn_of_command start pairs r (text at' rest af)) ≡ Ends f
    → cond b (Ends (Some (lines.CommandFault (length pairs + 1) AfterExit)))
    (turn_of_command start pairs r (text at'' (append rest more) af')) ≡ Ends f
tree_stays start true pairs r at' at'' rest more af af' f g h = h
tree_stays start false pairs (Err fault) at' at'' rest more af af' f g h = h
tree_stays start false pairs (Ok c) at' at'' rest more af af' f g h =
    command_stays start pairs c at' at'' rest more af af' f
    (taken (at' || is_some af) (need_after start pairs c) (next_of rest)) g refl h

rest_stays : (pairs : List Pair) (at' at'' : Bool) (rest more : Sexps) (af af' : Option TextFlaw)
    (f : Option Line) → Growth at' af at'' af' more
    → turn_of_rest pairs at' af rest ≡ Ends f → turn_of_rest pairs at'' af' (append rest more) ≡ Ends f
rest_stays pairs at' at'' (Cons a rest) more af af' f g h = h
rest_stays pairs at' at'' Nil more (Some fault) af' f g h =
    let e = g.over (fault_over at' fault) in
    ap (turn_of_rest pairs at'' af') e.0 ∙ ap (turn_of_end at'') e.1 ∙ h
rest_stays pairs true at'' Nil more None af' f g h =
    let e = g.over refl in
    ap (turn_of_rest pairs at'' af') e.0 ∙ ap (turn_of_end at'') e.1
    ∙ ap (λ b. turn_of_end b None) (g.told_stays refl) ∙ h
rest_stays pairs false at'' Nil more None af' f g h = absurd (cc)

pub turn_stays : (start : Start) (pairs : List Pair) (st st' : Bool) (later more : Sexps)
    (sf sf' : Option TextFlaw) (at' at'' : Bool) (rest further : Sexps) (af af' : Option TextFlaw)
    (f : Option Line) → Growth st sf st' sf' more → Growth at' af at'' af' further
    → turn_after start pairs (text st later sf) (text at' rest af) ≡ Ends f
    → turn_after start pairs (text st' (append later more) sf') (text at'' (append rest further) af') ≡ Ends f
turn_stays start pairs st st' (Cons t ts) more sf sf' at' at'' rest further af af' f s g h =
    tree_stays start (has_exited_after pairs) pairs (command_of start.profile t) at' at'' rest further af af' f g h
turn_stays start pairs st st' Nil more (Some fault) sf' at' at'' rest further af af' f s g h =
    let e = s.over (fault_over st fault) in
    let answers = text at'' (append rest further) af' in
    ap (λ ts. turn_after start pairs (text st' ts sf') answers) e.0
    ∙ ap (λ o. turn_after start pairs (text st' Nil o) answers) e.1 ∙ h
turn_stays start pairs true st' Nil more None sf' at' at'' rest further af af' f s g h =
    let e = s.over refl in
    let answers = text at'' (append rest further) af' in
    ap (λ ts. turn_after start pairs (text st' ts sf') answers) e.0
    ∙ ap (λ o. turn_after start pairs (text st' Nil o) answers) e.1
    ∙ ap (λ b. turn_after start pairs (text b Nil None) answers) (s.told_stays refl)
    ∙ rest_stays pairs at' at'' rest further af af' f g h
turn_stays start pairs false st' Nil more None sf' at' at'' rest further af af' f s g h = absurd (cc)
