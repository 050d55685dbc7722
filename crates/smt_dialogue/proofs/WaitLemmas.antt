-- What comes behind the pairs where a dialogue waits with every window closed.
use Rattle.std.proofs.Common.{◌≡◌, ℕ, ◌+◌, Bool, true, false, cond, ◌||◌, List, [], ◌∷◌, ◌++◌, length, Option}
use Rattle.std.proofs.Common.{◌&&◌, Some, None, is_some, Result, Ok, Err, refl, ap, sym, ◌∙◌, subst}
use Rattle.std.proofs.lemmas.List.{append-nil}
use Rattle.smt_trees.specs.Sexp.{Sexp, Sexps, Nil, Cons, append}
use Rattle.smt_faults.specs.declared.text_flaw.TextFlaw.{TextFlaw}
use Rattle.smt_faults.specs.declared.command_flaw.CommandFlaw.{CommandFlaw}
use Rattle.smt_faults.specs.declared.command_flaw.CommandFlaw.TheVariants.{AfterExit}
use Rattle.smt_script.specs.Command.{Command, command_of, is_check}
use Rattle.smt_dialogue.proofs.GrowthLemmas.{Growth}
use Rattle.smt_dialogue.proofs.PairingUnique.{ok_same}
use Rattle.smt_dialogue.proofs.ReportExists.{text}
use Rattle.smt_dialogue.specs.Answers as answering
use Rattle.smt_dialogue.specs.Answers.{Missing, Taken, Takes, Unexpected, taken}
use Rattle.smt_dialogue.specs.FirstFault.{Ends, GoesOn, IsRest, Turn, Waits, turn_after, turn_at}
use Rattle.smt_dialogue.specs.FirstFault.{turn_of_command, turn_of_flaw, turn_of_rest}
use Rattle.smt_dialogue.specs.FirstFault.{turn_of_taken}
use Rattle.smt_dialogue.specs.InForce.{flaw_of_pair, has_exited_after, need_after}
use Rattle.smt_dialogue.specs.Pairing.{AreCommands}
use Rattle.smt_dialogue.specs.Pairs.{Pair, is_effective, next_of, pair_of}
use Rattle.smt_dialogue.specs.Window.{closes}
use Rattle.smt_report.specs.declared.line.Line.TheVariants as lines
use Rattle.smt_script.specs.Command.{closes_window}
use Rattle.smt_script.specs.declared.stack.Start.{Start}
use Rattle.smt_theory.specs.declared.profile.Profile.{Profile}

-- the next of these pairs closes every window; where there is none, the turn does
abbrev pub ClosesNext : List Pair → Turn → Type 0
ClosesNext [] GoesOn = ⊥
ClosesNext [] (Waits closed) = closed ≡ true
ClosesNext [] (Ends fault) = Unit {0}
ClosesNext (p ∷ ps) turn = closes p ≡ true

pub flaw_waits : {P : Type 0} (n : ℕ) (f : Option CommandFlaw) (closed : Bool) → turn_of_flaw n f ≡ Waits closed → P
flaw_waits n None closed h = absurd (cc)
flaw_waits n (Some fault) closed h = absurd (cc)

pub waits_same : {a b : Bool} → Waits a ≡ Waits b → a ≡ b
waits_same h = cc

-- a command that waits, and closes every window, is a check
pub waits_check : (profile : Profile) (pairs : List Pair) (c : Command) (af : Option TextFlaw) (k : Taken)
    → turn_of_taken profile pairs c af k ≡ Waits true → is_check c ≡ true
waits_check profile pairs c af (Takes o) h =
    flaw_waits (length pairs + 1) (flaw_of_pair profile pairs (pair_of c o)) true h
waits_check profile pairs c af answering.Waits h = waits_same h
waits_check profile pairs c af Missing h = absurd (cc)
waits_check profile pairs c af Unexpected h = absurd (cc)

flaw_closes : (n : ℕ) (f : Option CommandFlaw) (turn : Turn) → turn_of_flaw n f ≡ turn → IsRest turn
    → ClosesNext [] turn
flaw_closes n None turn h rests = absurd (subst IsRest (sym h) rests)
flaw_closes n (Some fault) turn h rests =
    let here : ClosesNext [] (turn_of_flaw n (Some fault)) = tt in subst (ClosesNext []) h here

-- a check in turn closes every window where it waits
check_closes : (profile : Profile) (pairs : List Pair) (c : Command) (af : Option TextFlaw) (k : Taken) (turn : Turn)
    → is_check c ≡ true → turn_of_taken profile pairs c af k ≡ turn → IsRest turn → ClosesNext [] turn
check_closes profile pairs c af (Takes o) turn check h rests =
    flaw_closes (length pairs + 1) (flaw_of_pair profile pairs (pair_of c o)) turn h rests
check_closes profile pairs c af answering.Waits turn check h rests =
    let here : ClosesNext [] (Waits (is_check c)) = check in subst (ClosesNext []) h here
check_closes profile pairs c af Missing turn check h rests =
    let here : ClosesNext [] (turn_of_taken profile pairs c af Missing) = tt in subst (ClosesNext []) h here
check_closes profile pairs c af Unexpected turn check h rests =
    let here : ClosesNext [] (turn_of_taken profile pairs c af Unexpected) = tt in subst (ClosesNext []) h here

-- behind the last command every window is closed
rest_closes : (pairs : List Pair) (told : Bool) (af : Option TextFlaw) (answers : Sexps)
    → ClosesNext [] (turn_of_rest pairs told af answers)
rest_closes pairs told af (Cons a rest) = tt
rest_closes pairs told (Some fault) Nil = tt
rest_closes pairs true None Nil = tt
rest_closes pairs false None Nil = refl

check_is_closing : (p : Pair) (c : Command) → p.command ≡ c → is_check c ≡ true → closes p ≡ true
check_is_closing p c same check =
    ap (λ b. b || (closes_window p.command && is_effective p)) (ap is_check same ∙ check)

-- a check in turn, that has not exited before
pub at_tree : (start : Start) (pairs ws : List Pair) (t : Sexp) (ts later' : Sexps) (c : Command)
    (at' : Bool) (rest' : Sexps) (af : Option TextFlaw) (turn : Turn)
    → has_exited_after pairs ≡ false → command_of start.profile t ≡ Ok c → is_check c ≡ true
    → AreCommands start.profile ws (Cons t ts) later'
    → ((st : Bool) (sf : Option TextFlaw)
    → turn_at start (pairs ++ ws) (text at' rest' af) st sf later' ≡ turn → IsRest turn → ClosesNext ws turn)
at_tree start pairs (w ∷ ws) t ts later' c at' rest' af turn goes_on read check commands = λ st sf h rests.
    check_is_closing w c (ok_same (sym commands.0 ∙ read)) check
at_tree start pairs [] t ts later' c at' rest' af turn goes_on read check commands = λ st sf h rests.
    let answers = text at' rest' af in
    let here : turn_at start pairs answers st sf (Cons t ts) ≡ turn =
    ap (turn_at start pairs answers st sf) commands
    ∙ ap (λ bs. turn_at start bs answers st sf later') (sym (append-nil pairs)) ∙ h in
    let command : turn_of_command start pairs (command_of start.profile t) answers ≡ turn =
    sym (ap (λ b. cond b (Ends (Some (lines.CommandFault (length pairs + 1) AfterExit)))
    (turn_of_command start pairs (command_of start.profile t) answers)) goes_on) ∙ here in
    check_closes start.profile pairs c af
    (taken (at' || is_some af) (need_after start pairs c) (next_of rest')) turn check
    (sym (ap (λ r. turn_of_command start pairs r answers) read) ∙ command) rests

tree_next : (start : Start) (b : Bool) (pairs ws : List Pair) (t : Sexp) (ts later' : Sexps)
    (r : Result Command CommandFlaw) (at' at'' : Bool) (rest rest' : Sexps) (af af' : Option TextFlaw)
    (turn : Turn) → has_exited_after pairs ≡ b → command_of start.profile t ≡ r
    → cond b (Ends (Some (lines.CommandFault (length pairs + 1) AfterExit)))
    (turn_of_command start pairs r (text at' rest af)) ≡ Waits true
    → AreCommands start.profile ws (Cons t ts) later'
    → ((st : Bool) (sf : Option TextFlaw)
    → turn_at start (pairs ++ ws) (text at'' rest' af') st sf later' ≡ turn → IsRest turn → ClosesNext ws turn)
tree_next start true pairs ws t ts later' r at' at'' rest rest' af af' turn exited read h commands = absurd (cc)
tree_next start false pairs ws t ts later' (Err f) at' at'' rest rest' af af' turn exited read h commands =
    absurd (cc)
tree_next start false pairs ws t ts later' (Ok c) at' at'' rest rest' af af' turn exited read h commands =
    at_tree start pairs ws t ts later' c at'' rest' af' turn exited read
    (waits_check start.profile pairs c af
    (taken (at' || is_some af) (need_after start pairs c) (next_of rest)) h) commands

-- behind the end of the script no command comes
pub at_end : (start : Start) (pairs ws : List Pair) (st' : Bool) (more later' : Sexps) (sf' : Option TextFlaw)
    (at'' : Bool) (rest' : Sexps) (af' : Option TextFlaw) (turn : Turn) → more ≡ Nil → sf' ≡ None → st' ≡ true
    → AreCommands start.profile ws more later'
    → turn_at start (pairs ++ ws) (text at'' rest' af') st' sf' later' ≡ turn → ClosesNext ws turn
at_end start pairs (w ∷ ws) st' more later' sf' at'' rest' af' turn none fault told commands h =
    absurd (subst (λ ts. AreCommands start.profile (w ∷ ws) ts later') none commands)
at_end start pairs [] st' more later' sf' at'' rest' af' turn none fault told commands h =
    let answers = text at'' rest' af' in
    let bs = pairs ++ [] in
    let here : turn_of_rest bs at'' af' rest' ≡ turn =
    sym (ap (turn_at start bs answers st' sf') (sym commands ∙ none)
    ∙ ap (λ o. turn_at start bs answers st' o Nil) fault
    ∙ ap (λ b. turn_at start bs answers b None Nil) told) ∙ h in
    subst (ClosesNext []) here (rest_closes bs at'' af' rest')

pub next_closes : (start : Start) (pairs ws : List Pair) (st st' : Bool) (later more later' : Sexps)
    (sf sf' : Option TextFlaw) (at' at'' : Bool) (rest rest' : Sexps) (af af' : Option TextFlaw) (turn : Turn)
    → Growth st sf st' sf' more
    → turn_after start pairs (text st later sf) (text at' rest af) ≡ Waits true
    → AreCommands start.profile ws (append later more) later'
    → turn_after start (pairs ++ ws) (text st' later' sf') (text at'' rest' af') ≡ turn → IsRest turn
    → ClosesNext ws turn
next_closes start pairs ws st st' (Cons t ts) more later' sf sf' at' at'' rest rest' af af' turn g h commands
    is rests =
    tree_next start (has_exited_after pairs) pairs ws t (append ts more) later'
    (command_of start.profile t) at' at'' rest
    rest' af af' turn refl refl h commands st' sf' is rests
next_closes start pairs ws st st' Nil more later' (Some f) sf' at' at'' rest rest' af af' turn g h commands
    is rests = absurd (cc)
next_closes start pairs ws false st' Nil more later' None sf' at' at'' rest rest' af af' turn g h commands
    is rests = absurd (cc)
next_closes start pairs ws true st' Nil more later' None sf' at' at'' rest rest' af af' turn g h commands
    is rests =
    let e = g.over refl in
    at_end start pairs ws st' more later' sf' at'' rest' af' turn e.0 e.1 (g.told_stays refl) commands is
