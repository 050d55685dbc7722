-- There is one pairing.
use Rattle.std.proofs.Common.{◌≡◌, suc, Bool, List, [], ◌∷◌, ◌++◌, length, Option, Some, None, Result, Ok}
use Rattle.std.proofs.Common.{refl, ap, sym, ◌∙◌, subst, arith}
use Rattle.smt_trees.specs.Sexp.{Sexp, Sexps, Nil, Cons, count}
use Rattle.smt_script.specs.Command.{Command}
use Rattle.smt_faults.specs.declared.command_flaw.CommandFlaw.{CommandFlaw}
use Rattle.smt_dialogue.specs.Answers.{Takes, taken}
use Rattle.smt_dialogue.specs.InForce.{need_after}
use Rattle.smt_dialogue.specs.Pairing.{AllTake, AreCommands}
use Rattle.smt_dialogue.specs.Pairs.{Pair, answers_then, next_of, with_answer}
use Rattle.smt_script.specs.declared.stack.Start.{Start}
use Rattle.smt_theory.specs.declared.profile.Profile.{Profile}

pub pair_same : (x y : Pair) → x.command ≡ y.command → x.answer ≡ y.answer → x ≡ y
pair_same x y e f =
    let through : Pair = record { command = y.command; answer = x.answer } in
    let first : x ≡ through = ap (λ (c : Command). record { command = c; answer = x.answer }) e in
    let second : through ≡ y = ap (λ (a : Option Sexp). record { command = y.command; answer = a }) f in
    first ∙ second

pub takes_same : {a b : Option Sexp} → Takes a ≡ Takes b → a ≡ b
takes_same h = cc

pub ok_same : {a b : Command} → ◌≡◌ {A = Result Command CommandFlaw} (Ok a) (Ok b) → a ≡ b
ok_same h = cc

pub left_same : (o : Option Sexp) (xs ys : Sexps) → with_answer o xs ≡ with_answer o ys → xs ≡ ys
left_same None xs ys h = h
left_same (Some a) xs ys h = cc

-- the first of two pairings of the same trees and answers are the same, and leave the same
pub record AreAlike (x y : Pair) (xs ys : List Pair) (rest rest' : Sexps) : Type 0 where
  pub same : x ≡ y
  pub left : answers_then xs rest ≡ answers_then ys rest'

pub alike : (told : Bool) (start : Start) (before : List Pair) (x y : Pair) (xs ys : List Pair)
    (answers rest rest' : Sexps) → x.command ≡ y.command → answers ≡ answers_then (x ∷ xs) rest
    → answers ≡ answers_then (y ∷ ys) rest'
    → taken told (need_after start before x.command) (next_of (answers_then (x ∷ xs) rest)) ≡ Takes x.answer
    → taken told (need_after start before y.command) (next_of (answers_then (y ∷ ys) rest'))
    ≡ Takes y.answer → AreAlike x y xs ys rest rest'
alike told start before x y xs ys answers rest rest' command a b f g =
    let both : answers_then (x ∷ xs) rest ≡ answers_then (y ∷ ys) rest' = sym a ∙ b in
    let answer : x.answer ≡ y.answer =
    takes_same (sym f ∙ ap (λ (c : Command). taken told (need_after start before c)
    (next_of (answers_then (x ∷ xs) rest))) command
    ∙ ap (λ (r : Sexps). taken told (need_after start before y.command) (next_of r)) both ∙ g) in
    record {
      same = pair_same x y command answer;
      left = left_same y.answer (answers_then xs rest) (answers_then ys rest')
          (ap (λ (o : Option Sexp). with_answer o (answers_then xs rest)) (sym answer) ∙ both);
    }

-- pairs of as many commands, with the same trees and answers, are the same, and leave the same
pub one_pairing : (told : Bool) (start : Start) (before xs ys : List Pair)
    (trees later later' answers rest rest' : Sexps) → length xs ≡ length ys → AreCommands start.profile xs trees later
    → AreCommands start.profile ys trees later' → answers ≡ answers_then xs rest → answers ≡ answers_then ys rest'
    → AllTake told start before xs rest → AllTake told start before ys rest'
    → (xs ≡ ys) × (later ≡ later') × (rest ≡ rest')
one_pairing told start before [] [] trees later later' answers rest rest' len c d a b f g =
    (refl, sym c ∙ d, sym a ∙ b)
one_pairing told start before [] (y ∷ ys) trees later later' answers rest rest' len c d a b f g =
    absurd (omega arith)
one_pairing told start before (x ∷ xs) [] trees later later' answers rest rest' len c d a b f g =
    absurd (omega arith)
one_pairing told start before (x ∷ xs) (y ∷ ys) Nil later later' answers rest rest' len c d a b f g = absurd c
one_pairing told start before (x ∷ xs) (y ∷ ys) (Cons t ts) later later' answers rest rest' len c d a b f g =
    let head = alike told start before x y xs ys answers rest rest' (ok_same (sym c.0 ∙ d.0)) a b f.0 g.0 in
    let others : AllTake told start (before ++ x ∷ []) ys rest' =
    subst (λ (z : Pair). AllTake told start (before ++ z ∷ []) ys rest') (sym head.same) g.1 in
    let tail = one_pairing told start (before ++ x ∷ []) xs ys ts later later' (answers_then xs rest)
    rest rest' (omega arith) c.1 d.1 refl head.left f.1 others in
    (ap (λ (z : Pair). z ∷ xs) head.same ∙ ap (λ (zs : List Pair). y ∷ zs) tail.0, tail.1, tail.2)

-- pairs of all the commands are as many as the trees
pub all_commands : (profile : Profile) (xs : List Pair) (trees : Sexps) → AreCommands profile xs trees Nil
    → length xs ≡ count trees
all_commands profile [] trees h = rw h refl
all_commands profile (x ∷ xs) Nil h = absurd h
all_commands profile (x ∷ xs) (Cons t ts) h = ap suc (all_commands profile xs ts h.1)
