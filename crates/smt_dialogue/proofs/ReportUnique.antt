-- A dialogue has one report.
use Rattle.std.proofs.Common.{◌≡◌, ℕ, Bool, true, false, ◌||◌, List, [], ◌∷◌, ◌++◌, Option, None, is_some, Ok}
use Rattle.std.proofs.Common.{refl, ap, sym, ◌∙◌, subst, append_assoc}
use Rattle.std.proofs.lemmas.List.{append-nil}
use Rattle.smt_text.specs.Reading.{Reads}
use Rattle.smt_trees.specs.Sexp.{Sexp, Sexps, Nil, Cons}
use Rattle.smt_faults.specs.declared.text_flaw.TextFlaw.{TextFlaw}
use Rattle.smt_dialogue.proofs.PairingUnique.{alike, ok_same}
use Rattle.smt_script.specs.Command.{command_of}
use Rattle.smt_dialogue.proofs.ReportExists.{text}
use Rattle.smt_dialogue.proofs.StepLemmas.{turn_by}
use Rattle.smt_dialogue.specs.Answers.{Takes, taken}
use Rattle.smt_dialogue.specs.FirstFault.{Ends, GoesOn, IsRest, TextSoFar, Turn, is_over, turn_at}
use Rattle.smt_dialogue.specs.InForce.{AreFaultless, flaw_of_pair, has_exited_after, need_after, start_by}
use Rattle.smt_dialogue.specs.Pairing.{AllTake, AreCommands}
use Rattle.smt_dialogue.specs.Pairs.{Pair, answers_then, next_of}
use Rattle.smt_dialogue.specs.Depth.{max_depth_of}
use Rattle.smt_dialogue.specs.Report.{IsRead, IsReport, IsTurn, lines_at_end}
use Rattle.smt_dialogue.specs.declared.options.Options.{Options}
use Rattle.smt_report.specs.declared.line.Line.{Line}
use Rattle.smt_script.specs.declared.stack.Start.{Start}

ends_same : {f g : Option Line} → Ends f ≡ Ends g → f ≡ g
ends_same h = cc

-- where a command takes what it has without a fault, the dialogue goes on
goes_on_at : (start : Start) (before : List Pair) (t : Sexp) (ts : Sexps) (p : Pair) (st : Bool)
    (sf : Option TextFlaw) (answers : TextSoFar) → command_of start.profile t ≡ Ok p.command
    → taken (is_over answers) (need_after start before p.command) (next_of answers.trees) ≡ Takes p.answer
    → has_exited_after before ≡ false → flaw_of_pair start.profile before p ≡ None
    → turn_at start before answers st sf (Cons t ts) ≡ GoesOn
goes_on_at start before t ts p st sf answers read takes goes_on fault =
    rw goes_on (turn_by start before t answers p.command (Takes p.answer) read takes ∙ rw fault refl)

-- so it is not at rest there
no_rest : {P : Type 0} (start : Start) (before : List Pair) (y : Pair) (ys : List Pair)
    (trees later later' : Sexps) (st : Bool) (sf : Option TextFlaw) (at' : Bool) (answers rest rest' : Sexps)
    (af : Option TextFlaw) (turn : Turn) → IsRest turn → trees ≡ later → AreCommands start.profile (y ∷ ys) trees later'
    → answers ≡ rest → answers ≡ answers_then (y ∷ ys) rest'
    → AllTake (at' || is_some af) start before (y ∷ ys) rest' → AreFaultless start.profile before (y ∷ ys)
    → turn_at start before (text at' rest af) st sf later ≡ turn → P
no_rest start before y ys Nil later later' st sf at' answers rest rest' af turn rests c d a b g n e = absurd d
no_rest start before y ys (Cons t ts) later later' st sf at' answers rest rest' af turn rests c d a b g n e =
    let next : rest ≡ answers_then (y ∷ ys) rest' = sym a ∙ b in
    let takes : taken (at' || is_some af) (need_after start before y.command) (next_of rest)
    ≡ Takes y.answer = ap (λ (r : Sexps). taken (at' || is_some af) (need_after start before y.command)
    (next_of r)) next ∙ g.0 in
    let goes : turn_at start before (text at' rest af) st sf later ≡ GoesOn =
    ap (turn_at start before (text at' rest af) st sf) (sym c)
    ∙ goes_on_at start before t ts y st sf (text at' rest af) d.0 takes n.0 n.1 in
    absurd (subst IsRest (sym e ∙ goes) rests)

-- two ways through the same texts are one
pub one_way : (start : Start) (before xs ys : List Pair) (trees later later' : Sexps) (st : Bool)
    (sf : Option TextFlaw) (at' : Bool) (answers rest rest' : Sexps) (af : Option TextFlaw) (f g : Turn)
    → IsRest f → IsRest g → AreCommands start.profile xs trees later → AreCommands start.profile ys trees later'
    → answers ≡ answers_then xs rest → answers ≡ answers_then ys rest'
    → AllTake (at' || is_some af) start before xs rest → AllTake (at' || is_some af) start before ys rest'
    → AreFaultless start.profile before xs → AreFaultless start.profile before ys
    → turn_at start (before ++ xs) (text at' rest af) st sf later ≡ f
    → turn_at start (before ++ ys) (text at' rest' af) st sf later' ≡ g → (xs ≡ ys) × (f ≡ g)
one_way start before [] [] trees later later' st sf at' answers rest rest' af f g u v c d a b m n p q e h =
    let same_trees : later' ≡ later = sym d ∙ c in
    let same_rest : rest' ≡ rest = sym b ∙ a in (
      refl,
      sym e ∙ sym (ap (turn_at start (before ++ []) (text at' rest' af) st sf) same_trees
          ∙ ap (λ (r : Sexps). turn_at start (before ++ []) (text at' r af) st sf later) same_rest) ∙ h,
    )
one_way start before [] (y ∷ ys)
    trees later later' st sf at' answers rest rest' af f g u v c d a b m n p q e h =
    no_rest start before y ys trees later later' st sf at' answers rest rest' af f u c d a b n q
    (ap (λ (bs : List Pair). turn_at start bs (text at' rest af) st sf later) (sym (append-nil before))
    ∙ e)
one_way start before (x ∷ xs)
    [] trees later later' st sf at' answers rest rest' af f g u v c d a b m n p q e h =
    no_rest start before x xs trees later' later st sf at' answers rest' rest af g v d c b a m p
    (ap (λ (bs : List Pair). turn_at start bs (text at' rest' af) st sf later') (sym (append-nil before))
    ∙ h)
one_way start before (x ∷ xs) (y ∷ ys)
    Nil later later' st sf at' answers rest rest' af f g u v c d a b m n p q e h = absurd c
one_way start before (x ∷ xs) (y ∷ ys) (Cons t ts)
    later later' st sf at' answers rest rest' af f g u v c d a b m n p q e h =
    let over = at' || is_some af in
    let head = alike over start before x y xs ys answers rest rest' (ok_same (sym c.0 ∙ d.0)) a b m.0 n.0 in
    let others : AllTake over start (before ++ x ∷ []) ys rest' =
    subst (λ (z : Pair). AllTake over start (before ++ z ∷ []) ys rest') (sym head.same) n.1 in
    let faultless : AreFaultless start.profile (before ++ x ∷ []) ys =
    subst (λ (z : Pair). AreFaultless start.profile (before ++ z ∷ []) ys) (sym head.same) q.2 in
    let first : turn_at start ((before ++ x ∷ []) ++ xs) (text at' rest af) st sf later ≡ f =
    ap (λ (bs : List Pair). turn_at start bs (text at' rest af) st sf later)
    (append_assoc before (x ∷ []) xs) ∙ e in
    let second : turn_at start ((before ++ x ∷ []) ++ ys) (text at' rest' af) st sf later' ≡ g =
    ap (λ (bs : List Pair). turn_at start bs (text at' rest' af) st sf later')
    (append_assoc before (x ∷ []) ys ∙ ap (λ (z : Pair). before ++ z ∷ ys) head.same) ∙ h in
    let tail = one_way start (before ++ x ∷ []) xs ys ts later later' st sf at' (answers_then xs rest)
    rest rest' af f g u v c.1 d.1 refl head.left m.1 others p.2 faultless first second in
    (ap (λ (z : Pair). z ∷ xs) head.same ∙ ap (λ (zs : List Pair). y ∷ zs) tail.0, tail.1)

-- what is read of a text is one answer: a law of the reader's crate
abbrev pub OneReading : Type 0
OneReading = (bound : ℕ) (ended : Bool) (text : List ℕ) (xs ys : Sexps) (f g : Option TextFlaw)
    → Reads bound ended text xs f → Reads bound ended text ys g → (xs ≡ ys) × (f ≡ g)

-- so a text is read as one
pub same_text : OneReading → (max_depth : ℕ) (told : Bool) (bytes : List ℕ) (x y : TextSoFar)
    → IsRead max_depth told bytes x → IsRead max_depth told bytes y → x ≡ y
same_text one max_depth told bytes x y f g =
    let both = one max_depth told bytes x.trees y.trees x.fault y.fault f.reads g.reads in
    let first : x ≡ record { told = y.told; trees = x.trees; fault = x.fault } =
    ap (λ (b : Bool). record { told = b; trees = x.trees; fault = x.fault }) (f.told_so ∙ sym g.told_so)
    in
    let second : record { told = y.told; trees = x.trees; fault = x.fault }
    ≡ record { told = y.told; trees = y.trees; fault = x.fault } =
    ap (λ (t : Sexps). record { told = y.told; trees = t; fault = x.fault }) both.0 in
    first ∙ second ∙ ap (λ (o : Option TextFlaw). record { told = y.told; trees = y.trees; fault = o }) both.1

-- the turns of two ways are one, and so are their pairs
pub one_turn : (start : Start) (script answers : TextSoFar) (xs ys : List Pair) (f g : Turn) → IsRest f
    → IsRest g → IsTurn start script answers xs f → IsTurn start script answers ys g → (xs ≡ ys) × (f ≡ g)
one_turn start script answers xs ys f g u v x y =
    one_way start [] xs ys script.trees x.later y.later script.told script.fault answers.told answers.trees
    x.rest y.rest answers.fault f g u v
    x.paired.pairing.commands y.paired.pairing.commands x.paired.pairing.answered y.paired.pairing.answered
    x.paired.pairing.taken_so y.paired.pairing.taken_so x.paired.faultless y.paired.faultless x.turn_is
    y.turn_is

-- a dialogue has at most one report
pub one_report : OneReading → (options : Options) (script answers : List ℕ) (ls ms : List Line)
    → IsReport options script answers ls → IsReport options script answers ms → ls ≡ ms
one_report one options script answers ls ms x y =
    let depth = max_depth_of options.profile in
    let scripts = same_text one depth true script y.script_text x.script_text y.script_read x.script_read in
    let both = same_text one depth true answers y.answers_text x.answers_text y.answers_read x.answers_read in
    let start = start_by options in
    let first : IsTurn start x.script_text y.answers_text y.lines_are.pairs (Ends y.lines_are.fault) =
    subst (λ (t : TextSoFar). IsTurn start t y.answers_text y.lines_are.pairs (Ends y.lines_are.fault))
    scripts y.lines_are.ends in
    let other : IsTurn start x.script_text x.answers_text y.lines_are.pairs (Ends y.lines_are.fault) =
    subst (λ (t : TextSoFar). IsTurn start x.script_text t y.lines_are.pairs (Ends y.lines_are.fault))
    both first in
    let way = one_turn start x.script_text x.answers_text x.lines_are.pairs y.lines_are.pairs
    (Ends x.lines_are.fault) (Ends y.lines_are.fault) tt tt x.lines_are.ends other in
    x.lines_are.lines_are ∙ ap (λ (ps : List Pair).
    lines_at_end options.profile options.limit.steps ps x.lines_are.fault) way.0
    ∙ ap (lines_at_end options.profile options.limit.steps y.lines_are.pairs) (ends_same way.1)
    ∙ sym y.lines_are.lines_are
