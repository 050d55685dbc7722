-- How a reader's value goes on with the text.
use Rattle.std.proofs.Common.{◌≡◌, ◌≢◌, ◌⊎◌, ◌<◌, ◌+◌, ℕ, List, [], ◌∷◌, ◌++◌, length, drop, take}
use Rattle.std.proofs.Common.{get_or, Option, Some, None, Result, Ok, Err, is_some, Bool, true, false, cond}
use Rattle.std.proofs.Common.{ltb, refl, sym, ap, ◌∙◌, inl, inr, arith, subst}
use Rattle.std.specs.Result.{result_err}
use Rattle.std.proofs.lemmas.List.{append_assoc, length-append, length-take-le, take-append-drop, drop_more}
use Rattle.smt_text.proofs.SexpLemmas.{append_nil, append_assoc as sexps_assoc}
use Rattle.smt_text.proofs.ReadingLemmas.{stuck_reads, leaves_reads, ends_outside, ends_inside}
use Rattle.smt_text.proofs.BuilderLemmas.{depth_of-flush}
use Rattle.smt_text.proofs.ReaderCompleteness.{run-append}
use Rattle.smt_text.specs.Grammar.{OpenParenthesis, CloseParenthesis}
use Rattle.smt_text.specs.Reader.{is_finished, bytes_fed, flaw_of, trees_ready, Keeps, StandsFor, Answers}
use Rattle.smt_text.specs.Internal.LexerStates.{Levels, On, State, At, start, add, atom_of, add_if, flush, act}
use Rattle.smt_text.specs.Internal.LexerStates.{settle, lex, move, may_end, token_in, step, go_on, run, depth_of}
use Rattle.smt_text.specs.Internal.LexerStates.{depth_in, top_of, complete_of, IsStuck, Leaves, blame}
use Rattle.smt_text.specs.Reading.{Reads}
use Rattle.smt_text.specs.Internal.ReaderState.{GoesOnFrom, state_of, trees_in, under, after_taken}
use Rattle.smt_text.specs.declared.builder.Ready.{Ready}
use Rattle.smt_text.specs.Internal.ReaderState.{GoesThrough, Ends, flaw_found}
use Rattle.smt_trees.specs.Sexp.{Sexp, Sexps, Items, Nil, Cons, append}
use Rattle.smt_trees.specs.Owned.{sexp_of, sexps_of}
use Rattle.smt_faults.specs.Faults.{text_failure}
use Rattle.smt_faults.specs.declared.failure.Failure.{Failure}
use Rattle.smt_faults.specs.declared.failure.Failure.TheVariants as failures
use Rattle.smt_faults.specs.declared.failure.Failure.TheVariants.{Memory}
use Rattle.smt_faults.specs.declared.text_flaw.TextFlaw.{TextFlaw}
use Rattle.smt_faults.specs.declared.text_flaw.TextFlaw.TheVariants.{Byte, Deep, End}
use Rattle.smt_text.specs.declared.lexer.AtomState.TheVariants.{Nothing}
use Rattle.smt_text.specs.declared.lexer.LexerStep.{LexerStep}
use Rattle.smt_text.specs.declared.lexer.LexerStep.TheVariants.{Push, Skip, Finish, Open, Close, Stuck}
use Rattle.smt_text.specs.declared.reader.Next.TheVariants.{Fault}
use Rattle.smt_text.specs.declared.reader.Reader.{Reader}
use Rattle.smt_trees.specs.TapeView.{lists_of}

pub none_if : (o : Option (Failure TextFlaw)) → is_some o ≡ false → o ≡ None
none_if None e = refl
none_if (Some fault) e = absurd (cc)

-- trees that were handed out change no step
abbrev under_if : Sexps → Option Levels → Option Levels
under_if taken None = None
under_if taken (Some levels) = Some (under taken levels)

abbrev pub after_if : Sexps → Option State → Option State
after_if taken None = None
after_if taken (Some s) = Some (after_taken taken s)

add_under : (taken : Sexps) (x : Sexp) (levels : Levels)
    → add x (under taken levels) ≡ under taken (add x levels)
add_under taken x (On [] top) = ap (λ z. On [] z) (sexps_assoc taken top (Cons x Nil))
add_under taken x (On (parts ∷ lists) top) = refl

add_if_under : (taken : Sexps) (o : Option Sexp) (levels : Levels)
    → add_if o (under taken levels) ≡ under taken (add_if o levels)
add_if_under taken None levels = refl
add_if_under taken (Some x) levels = add_under taken x levels

pub flush_after : (taken : Sexps) (s : State) → flush (after_taken taken s) ≡ under taken (flush s)
flush_after taken (At token bytes levels) = add_if_under taken (atom_of token bytes) levels

open_under : (max_depth : ℕ) (taken : Sexps) (levels : Levels)
    → settle (act max_depth OpenParenthesis (under taken levels))
    ≡ after_if taken (settle (act max_depth OpenParenthesis levels))
open_under max_depth taken (On lists top) = by (ltb (length lists) max_depth)
  where
    by : (t : Bool) → settle (cond t (Some (On (Nil ∷ lists) (append taken top))) None)
        ≡ after_if taken (settle (cond t (Some (On (Nil ∷ lists) top)) None))
    by true = refl
    by false = refl

close_under : (max_depth : ℕ) (taken : Sexps) (levels : Levels)
    → settle (act max_depth CloseParenthesis (under taken levels))
    ≡ after_if taken (settle (act max_depth CloseParenthesis levels))
close_under max_depth taken (On [] top) = refl
close_under max_depth taken (On (parts ∷ lists) top) =
    ap (λ x. Some (At Nothing [] x)) (add_under taken (Items parts) (On lists top))

move_after : (max_depth : ℕ) (taken : Sexps) (what : LexerStep) (s : State) (b : ℕ)
    → move max_depth what (after_taken taken s) b ≡ after_if taken (move max_depth what s b)
move_after max_depth taken (Push next) (At token bytes levels) b = refl
move_after max_depth taken (Skip next) (At token bytes levels) b = refl
move_after max_depth taken (Finish next) s b = ap (λ x. Some (At next [] x)) (flush_after taken s)
move_after max_depth taken Open s b =
    ap (λ x. settle (act max_depth OpenParenthesis x)) (flush_after taken s) ∙ open_under max_depth taken (flush s)
move_after max_depth taken Close s b =
    ap (λ x. settle (act max_depth CloseParenthesis x)) (flush_after taken s) ∙ close_under max_depth taken (flush s)
move_after max_depth taken Stuck s b = refl

pub token_after : (taken : Sexps) (s : State) → token_in (after_taken taken s) ≡ token_in s
token_after taken (At token bytes levels) = refl

pub step_after : (max_depth : ℕ) (taken : Sexps) (s : State) (b : ℕ)
    → step max_depth (after_taken taken s) b ≡ after_if taken (step max_depth s b)
step_after max_depth taken s b =
    ap (λ x. move max_depth (lex x b) (after_taken taken s) b) (token_after taken s) ∙ move_after max_depth taken
    (lex (token_in s) b) s b

-- what is known while there is no fault
unfinished : (reader : Reader) (fed : List ℕ) (taken : Sexps) → StandsFor reader fed taken
    → is_finished reader ≡ false
    → (reader.failure ≡ Some Memory)
    ⊎ Leaves reader.max_depth fed (after_taken taken (state_of reader)) (flaw_of reader)
unfinished reader fed taken h e = by h.1
  where
    by : (reader.failure ≡ Some Memory) ⊎ Keeps (is_finished reader) reader fed taken
        → (reader.failure ≡ Some Memory)
        ⊎ Leaves reader.max_depth fed (after_taken taken (state_of reader)) (flaw_of reader)
    by (inl m) = inl m
    by (inr k) = inr (subst (λ b. Keeps b reader fed taken) e k).1

pub runs_on : (reader : Reader) (fed : List ℕ) (taken : Sexps) → StandsFor reader fed taken
    → is_finished reader ≡ false → reader.failure ≡ None
    → run reader.max_depth start fed ≡ Some (after_taken taken (state_of reader))
runs_on reader fed taken h e n = by (unfinished reader fed taken h e)
  where
    by : (reader.failure ≡ Some Memory)
        ⊎ Leaves reader.max_depth fed (after_taken taken (state_of reader)) (flaw_of reader)
        → run reader.max_depth start fed ≡ Some (after_taken taken (state_of reader))
    by (inl m) = absurd (cc)
    by (inr k) =
        subst (λ f. Leaves reader.max_depth fed (after_taken taken (state_of reader)) f) (ap flaw_found n) k

stands_if : (reader : Reader) (max_depth : ℕ) (fed : List ℕ) (taken : Sexps) (fault : Option TextFlaw)
    → reader.max_depth ≡ max_depth → bytes_fed reader ≡ length fed → is_finished reader ≡ false
    → flaw_of reader ≡ fault → Leaves max_depth fed (after_taken taken (state_of reader)) fault
    → StandsFor reader fed taken
stands_if reader max_depth fed taken fault limit count e f k =
    let all : Leaves reader.max_depth fed (after_taken taken (state_of reader)) (flaw_of reader) = subst
    (λ x. Leaves reader.max_depth fed (after_taken taken (state_of reader)) x) (sym f)
    (subst (λ m. Leaves m fed (after_taken taken (state_of reader)) fault) (sym limit) k) in
    let kept : Keeps false reader fed taken =
    (leaves_reads reader.max_depth fed (after_taken taken (state_of reader)) (flaw_of reader) all, all) in
    (count, inr (subst (λ b. Keeps b reader fed taken) (sym e) kept))

-- before any byte
pub stands_new : (reader : Reader) → bytes_fed reader ≡ 0 → is_finished reader ≡ false
    → reader.failure ≡ None → state_of reader ≡ start → StandsFor reader [] Nil
stands_new reader count e f s =
    stands_if reader reader.max_depth [] Nil None refl count e (ap flaw_found f) (ap Some (sym (ap (after_taken Nil) s)))

pub run_after : (max_depth : ℕ) (taken : Sexps) (s : State) (text : List ℕ)
    → run max_depth (after_taken taken s) text ≡ after_if taken (run max_depth s text)
run_after max_depth taken s [] = refl
run_after max_depth taken s (b ∷ text) = by (step max_depth s b) refl (λ next. run_after max_depth taken next text)
  where
    by : (o : Option State) → step max_depth s b ≡ o
        → ((next : State) → run max_depth (after_taken taken next) text ≡ after_if taken (run max_depth next text))
        → run max_depth (after_taken taken s) (b ∷ text) ≡ after_if taken (run max_depth s (b ∷ text))
    by None e later =
        ap (λ o. go_on o (λ x. run max_depth x text)) (step_after max_depth taken s b ∙ ap (after_if taken) e) ∙ ap
        (λ o. after_if taken (go_on o (λ x. run max_depth x text))) (sym e)
    by (Some next) e later =
        ap (λ o. go_on o (λ x. run max_depth x text)) (step_after max_depth taken s b ∙ ap (after_if taken) e) ∙ later
        next ∙ ap (λ o. after_if taken (go_on o (λ x. run max_depth x text))) (sym e)

-- one more piece
counted : (old new : Reader) (fed piece : List ℕ) → bytes_fed old ≡ length fed
    → bytes_fed new ≡ bytes_fed old + length piece → bytes_fed new ≡ length (fed ++ piece)
counted old new fed piece h e = omega (arith, h, e, length-append fed piece)

pub stands_read : (old new : Reader) (piece : List ℕ) (result : Result (Unit {0}) (Failure TextFlaw))
    (fed : List ℕ)
    (taken : Sexps) → is_finished old ≡ false → is_finished new ≡ false → new.max_depth ≡ old.max_depth
    → old.failure ≡ None → bytes_fed new ≡ bytes_fed old + length piece → new.failure ≡ result_err result
    → GoesThrough old.max_depth (state_of old) (bytes_fed old) piece result (state_of new) → StandsFor old fed taken
    → StandsFor new (fed ++ piece) taken
stands_read old new piece (Ok done) fed taken e e' m n count f goes h =
    let before = runs_on old fed taken h e n in
    stands_if new old.max_depth (fed ++ piece) taken None m (counted old new fed piece h.0 count) e' (ap flaw_found f)
    (run-append old.max_depth start (after_taken taken (state_of old)) fed piece before ∙ run_after old.max_depth
    taken (state_of old) piece ∙ ap (after_if taken) goes)
stands_read old new piece (Err Memory) fed taken e e' m n count f g h =
    (counted old new fed piece h.0 count, inl f)
stands_read old new piece (Err (failures.Fault flaw)) fed taken e e' m n count f g h =
    let before = runs_on old fed taken h e n in
    let place = g.0 in
    let byte = get_or piece place 0 in
    let s = after_taken taken (state_of new) in
    let runs : run old.max_depth start (fed ++ take place piece) ≡ Some s = run-append old.max_depth start
    (after_taken taken (state_of old)) fed (take place piece) before ∙ run_after old.max_depth taken
    (state_of old) (take place piece) ∙ ap (after_if taken) g.2 in
    let stops : step old.max_depth s byte ≡ None = step_after old.max_depth taken (state_of new) byte ∙ ap
    (after_if taken) g.3 in
    let split : piece ≡ take place piece ++ byte ∷ drop (place + 1) piece = sym
    (take-append-drop place piece) ∙ ap (λ x. take place piece ++ x) (drop_more piece place 0 g.1) in
    let at : bytes_fed old + place ≡ length (fed ++ take place piece) = omega
    (arith, h.0, length-append fed (take place piece), length-take-le place piece (omega (arith, g.1))) in
    stands_if new old.max_depth (fed ++ piece) taken (Some flaw) m (counted old new fed piece h.0 count) e' (ap flaw_found f)
    record {
      prefix = fed ++ take place piece;
      byte = byte;
      rest = drop (place + 1) piece;
      parts = ap (λ x. fed ++ x) split ∙ sym
          (append_assoc fed (take place piece) (byte ∷ drop (place + 1) piece));
      runs = runs;
      stops = stops;
      is = g.4 ∙ ap (λ p. blame p (lex (token_in (state_of new)) byte)) at ∙ ap
          (λ t. blame (length (fed ++ take place piece)) (lex t byte))
          (sym (token_after taken (state_of new)));
    }

-- more bytes after a fault
stuck_more : (max_depth : ℕ) (text more : List ℕ) (s : State) (fault : TextFlaw) → IsStuck max_depth text s fault
    → IsStuck max_depth (text ++ more) s fault
stuck_more max_depth text more s fault h = record {
  prefix = h.prefix;
  byte = h.byte;
  rest = h.rest ++ more;
  parts = ap (λ x. x ++ more) h.parts ∙ append_assoc h.prefix (h.byte ∷ h.rest) more;
  runs = h.runs;
  stops = h.stops;
  is = h.is;
}

skipped : (old new : Reader) (piece fed : List ℕ) (taken : Sexps) (o : Option (Failure TextFlaw))
    → is_some o ≡ true → new.max_depth ≡ old.max_depth
    → old.failure ≡ o → is_finished new ≡ false → bytes_fed new ≡ length (fed ++ piece)
    → new.failure ≡ old.failure → state_of new ≡ state_of old
    → (old.failure ≡ Some Memory) ⊎ Leaves old.max_depth fed (after_taken taken (state_of old)) (flaw_of old)
    → StandsFor new (fed ++ piece) taken
skipped old new piece fed taken None some m is e count f same h = absurd (cc)
skipped old new piece fed taken (Some Memory) some m is e count f same h = (count, inl (f ∙ is))
skipped old new piece fed taken (Some (failures.Fault flaw)) some m is e count f same (inl memory) =
    (count, inl (f ∙ memory))
skipped old new piece fed taken (Some (failures.Fault flaw)) some m is e count f same (inr k) =
    let stuck : IsStuck old.max_depth fed (after_taken taken (state_of old)) flaw = subst
    (λ x. Leaves old.max_depth fed (after_taken taken (state_of old)) x) (ap flaw_found is) k in
    stands_if new old.max_depth (fed ++ piece) taken (Some flaw) m count e (ap flaw_found (f ∙ is))
    (subst (λ s. IsStuck old.max_depth (fed ++ piece) (after_taken taken s) flaw) (sym same)
    (stuck_more old.max_depth fed piece (after_taken taken (state_of old)) flaw stuck))

pub stands_skip : (old new : Reader) (piece fed : List ℕ) (taken : Sexps) → is_finished old ≡ false
    → is_finished new ≡ false → new.max_depth ≡ old.max_depth → is_some old.failure ≡ true
    → bytes_fed new ≡ bytes_fed old + length piece → new.failure ≡ old.failure → state_of new ≡ state_of old → StandsFor old fed taken
    → StandsFor new (fed ++ piece) taken
stands_skip old new piece fed taken e e' m some count f same h =
    skipped old new piece fed taken old.failure some m refl e' (counted old new fed piece h.0 count) f same
    (unfinished old fed taken h e)

depth_under : (taken : Sexps) (levels : Levels) → depth_of (under taken levels) ≡ depth_of levels
depth_under taken (On lists top) = refl

-- the end of the text
at_top : (levels : Levels) → depth_of levels ≡ 0 → levels ≡ On [] (top_of levels)
at_top (On [] top) e = refl
at_top (On (parts ∷ lists) top) e = absurd (omega arith)

not_whole : (taken : Sexps) (s : State) → (0 < depth_in s) ⊎ (may_end (token_in s) ≡ false) → (trees : Sexps)
    → flush (after_taken taken s) ≡ On [] trees → may_end (token_in (after_taken taken s)) ≡ true → ⊥
not_whole taken s (inl d) trees f w =
    let same : depth_of (under taken (flush s)) ≡ 0 = ap depth_of (sym (flush_after taken s) ∙ f) in
    omega (arith, depth_under taken (flush s), depth_of-flush s, same, d)
not_whole taken s (inr e) trees f w = let both = ap may_end (token_after taken s) in cc

stands_ended : (reader : Reader) (max_depth : ℕ) (fed : List ℕ) (taken : Sexps) (fault : Option TextFlaw)
    → reader.max_depth ≡ max_depth → bytes_fed reader ≡ length fed → is_finished reader ≡ true
    → flaw_of reader ≡ fault → Reads max_depth true fed (append taken (trees_ready reader)) fault
    → StandsFor reader fed taken
stands_ended reader max_depth fed taken fault limit count e f k =
    let reads = subst (λ m. Reads m true fed (append taken (trees_ready reader)) fault) (sym limit) k in
    let kept : Keeps true reader fed taken =
    (subst (λ x. Reads reader.max_depth true fed (append taken (trees_ready reader)) x) (sym f) reads, tt) in
    (count, inr (subst (λ b. Keeps b reader fed taken) (sym e) kept))

pub stands_finish : (old new : Reader) (result : Result (Unit {0}) (Failure TextFlaw)) (fed : List ℕ)
    (taken : Sexps)
    → is_finished old ≡ false → is_finished new ≡ true → new.max_depth ≡ old.max_depth → old.failure ≡ None
    → bytes_fed new ≡ bytes_fed old
    → new.failure ≡ result_err result → Ends (state_of old) (bytes_fed old) result (state_of new)
    → StandsFor old fed taken → StandsFor new fed taken
stands_finish old new (Ok done) fed taken e e' m n count f ends h =
    let before = runs_on old fed taken h e n in
    let flat = at_top (flush (state_of old)) (depth_of-flush (state_of old) ∙ ends.0) in
    let closed : flush (after_taken taken (state_of old))
    ≡ On [] (append taken (top_of (flush (state_of old)))) =
    flush_after taken (state_of old) ∙ ap (under taken) flat in
    let ready : top_of (flush (state_of old)) ≡ trees_ready new = ap complete_of ends.2 in
    let whole : may_end (token_in (after_taken taken (state_of old))) ≡ true = ap may_end
    (token_after taken (state_of old)) ∙ ends.1 in
    stands_ended new old.max_depth fed taken None m (count ∙ h.0) e' (ap flaw_found f)
    (ends_outside old.max_depth fed (after_taken taken (state_of old)) (append taken (trees_ready new)) before
    (closed ∙ ap (λ x. On [] (append taken x)) ready) whole)
stands_finish old new (Err Memory) fed taken e e' m n count f ends h = (count ∙ h.0, inl f)
stands_finish old new (Err (failures.Fault flaw)) fed taken e e' m n count f stuck h =
    let before = runs_on old fed taken h e n in
    let read = ends_inside old.max_depth fed (after_taken taken (state_of old)) before
    (not_whole taken (state_of old) stuck.0) in
    let trees : complete_of (after_taken taken (state_of old)) ≡ append taken (trees_ready new) = ap
    (λ s. complete_of (after_taken taken s)) (sym stuck.2) in
    stands_ended new old.max_depth fed taken (Some (End (length fed))) m (count ∙ h.0) e'
    (ap flaw_found f ∙ ap Some (stuck.1 ∙ ap End h.0))
    (subst (λ x. Reads old.max_depth true fed x (Some (End (length fed)))) trees read)

stopped : (old new : Reader) (fed : List ℕ) (taken : Sexps) (o : Option (Failure TextFlaw)) → is_some o ≡ true
    → new.max_depth ≡ old.max_depth → old.failure ≡ o → is_finished new ≡ true → bytes_fed new ≡ length fed
    → new.failure ≡ old.failure
    → state_of new ≡ state_of old
    → (old.failure ≡ Some Memory) ⊎ Leaves old.max_depth fed (after_taken taken (state_of old)) (flaw_of old)
    → StandsFor new fed taken
stopped old new fed taken None some m is e count f same h = absurd (cc)
stopped old new fed taken (Some Memory) some m is e count f same h = (count, inl (f ∙ is))
stopped old new fed taken (Some (failures.Fault flaw)) some m is e count f same (inl memory) =
    (count, inl (f ∙ memory))
stopped old new fed taken (Some (failures.Fault flaw)) some m is e count f same (inr k) =
    let stuck : IsStuck old.max_depth fed (after_taken taken (state_of old)) flaw = subst
    (λ x. Leaves old.max_depth fed (after_taken taken (state_of old)) x) (ap flaw_found is) k in
    let read = stuck_reads old.max_depth true fed (after_taken taken (state_of old)) flaw stuck in
    let ready : trees_ready old ≡ trees_ready new = ap complete_of (sym same) in
    stands_ended new old.max_depth fed taken (Some flaw) m count e (ap flaw_found (f ∙ is))
    (subst (λ x. Reads old.max_depth true fed (append taken x) (Some flaw)) ready read)

pub stands_stop : (old new : Reader) (fed : List ℕ) (taken : Sexps) → is_finished old ≡ false
    → is_finished new ≡ true → new.max_depth ≡ old.max_depth → is_some old.failure ≡ true
    → bytes_fed new ≡ bytes_fed old → new.failure ≡ old.failure → state_of new ≡ state_of old → StandsFor old fed taken
    → StandsFor new fed taken
stands_stop old new fed taken e e' m some count f same h =
    stopped old new fed taken old.failure some m refl e' (count ∙ h.0) f same (unfinished old fed taken h e)

-- what is read, with the trees that are ready
pub stands_reads : (reader : Reader) (fed : List ℕ) (taken : Sexps) → StandsFor reader fed taken
    → (reader.failure ≡ Some Memory)
    ⊎ Reads reader.max_depth (is_finished reader) fed (append taken (trees_ready reader)) (flaw_of reader)
stands_reads reader fed taken h = by h.1
  where
    by : (reader.failure ≡ Some Memory) ⊎ Keeps (is_finished reader) reader fed taken
        → (reader.failure ≡ Some Memory)
        ⊎ Reads reader.max_depth (is_finished reader) fed (append taken (trees_ready reader)) (flaw_of reader)
    by (inl m) = inl m
    by (inr k) = inr k.0

-- where no tree is ready
pub none_ready : (reader : Reader) (fed : List ℕ) (taken : Sexps) (failure : Option (Failure TextFlaw))
    → reader.builder.ready.items ≡ [] → reader.failure ≡ failure → StandsFor reader fed taken
    → (failure ≡ Some Memory) ⊎ Reads reader.max_depth (is_finished reader) fed taken (flaw_found failure)
none_ready reader fed taken failure empty f h = by (stands_reads reader fed taken h)
  where
    by : (reader.failure ≡ Some Memory)
        ⊎ Reads reader.max_depth (is_finished reader) fed (append taken (trees_ready reader)) (flaw_of reader)
        → (failure ≡ Some Memory) ⊎ Reads reader.max_depth (is_finished reader) fed taken (flaw_found failure)
    by (inl m) = inl (sym f ∙ m)
    by (inr r) =
        let all : append taken (trees_ready reader) ≡ taken = ap
        (λ x. append taken (sexps_of (trees_in x))) empty ∙ append_nil taken in
        inr (subst (λ x. Reads reader.max_depth (is_finished reader) fed taken x) (ap flaw_found f)
        (subst (λ x. Reads reader.max_depth (is_finished reader) fed x (flaw_of reader)) all r))

pub answers_none : (reader : Reader) (fed : List ℕ) (taken : Sexps) → reader.builder.ready.items ≡ []
    → reader.failure ≡ None → StandsFor reader fed taken
    → Reads reader.max_depth (is_finished reader) fed taken None
answers_none reader fed taken empty f h = by None refl (none_ready reader fed taken None empty f h)
  where
    by : (o : Option (Failure TextFlaw)) → o ≡ None
        → (o ≡ Some Memory) ⊎ Reads reader.max_depth (is_finished reader) fed taken None
        → Reads reader.max_depth (is_finished reader) fed taken None
    by o n (inl m) = absurd (cc)
    by o n (inr r) = r

told : (max_depth : ℕ) (ended : Bool) (fed : List ℕ) (taken : Sexps) (failure : Failure TextFlaw)
    → (Some failure ≡ Some Memory) ⊎ Reads max_depth ended fed taken (flaw_found (Some failure))
    → Answers max_depth ended fed taken (Fault (text_failure failure))
told max_depth ended fed taken (failures.Fault flaw) (inl m) = absurd (cc)
told max_depth ended fed taken (failures.Fault (Byte place)) (inr r) =
    λ flaw e. subst (Reads max_depth ended fed taken) e r
told max_depth ended fed taken (failures.Fault (Deep place)) (inr r) =
    λ flaw e. subst (Reads max_depth ended fed taken) e r
told max_depth ended fed taken (failures.Fault (End place)) (inr r) =
    λ flaw e. subst (Reads max_depth ended fed taken) e r
told max_depth ended fed taken Memory h = λ flaw e. absurd (cc)

pub answers_fault : (reader : Reader) (fed : List ℕ) (taken : Sexps) (failure : Failure TextFlaw)
    → reader.builder.ready.items ≡ [] → reader.failure ≡ Some failure → StandsFor reader fed taken
    → Answers reader.max_depth (is_finished reader) fed taken (Fault (text_failure failure))
answers_fault reader fed taken failure empty f h =
    told reader.max_depth (is_finished reader) fed taken failure (none_ready reader fed taken (Some failure) empty f h)

-- where one is
pub answers_tree : (reader : Reader) (fed : List ℕ) (taken : Sexps) (first : Ready) (rest : List Ready)
    → reader.failure ≢ Some Memory → reader.builder.ready.items ≡ first ∷ rest → StandsFor reader fed taken
    → (later : Sexps) × (flaw : Option TextFlaw)
    × Reads reader.max_depth (is_finished reader) fed (append taken (Cons (sexp_of first.tree) later)) flaw
answers_tree reader fed taken first rest fine is h = by (stands_reads reader fed taken h)
  where
    by : (reader.failure ≡ Some Memory)
        ⊎ Reads reader.max_depth (is_finished reader) fed (append taken (trees_ready reader)) (flaw_of reader)
        → (later : Sexps) × (flaw : Option TextFlaw)
        × Reads reader.max_depth (is_finished reader) fed (append taken (Cons (sexp_of first.tree) later)) flaw
    by (inl m) = absurd (fine m)
    by (inr r) = (
      sexps_of (trees_in rest),
      flaw_of reader,
      subst
          (λ x. Reads reader.max_depth (is_finished reader) fed (append taken (sexps_of (trees_in x))) (flaw_of reader)) is
          r,
    )

-- a tree was handed out
handed : (ended : Bool) (old new : Reader) (fed : List ℕ) (taken longer : Sexps)
    → new.max_depth ≡ old.max_depth → new.failure ≡ old.failure
    → after_taken longer (state_of new) ≡ after_taken taken (state_of old)
    → append longer (trees_ready new) ≡ append taken (trees_ready old) → Keeps ended old fed taken
    → Keeps ended new fed longer
handed ended old new fed taken longer m f same all k = (
  subst (λ n. Reads n ended fed (append longer (trees_ready new)) (flaw_of new)) (sym m)
      (subst (λ x. Reads old.max_depth ended fed (append longer (trees_ready new)) x) (sym (ap flaw_found f))
      (subst (λ xs. Reads old.max_depth ended fed xs (flaw_of old)) (sym all) k.0)),
  on ended k.1,
)
  where
    on : (b : Bool) → GoesOnFrom b old fed taken → GoesOnFrom b new fed longer
    on false l =
        subst (λ n. Leaves n fed (after_taken longer (state_of new)) (flaw_of new)) (sym m)
        (subst (λ x. Leaves old.max_depth fed (after_taken longer (state_of new)) x) (sym (ap flaw_found f))
        (subst (λ s. Leaves old.max_depth fed s (flaw_of old)) (sym same) l))
    on true l = tt

pub stands_handed : (old new : Reader) (fed : List ℕ) (taken : Sexps) (first : Ready)
    → bytes_fed new ≡ bytes_fed old → is_finished new ≡ is_finished old → new.max_depth ≡ old.max_depth
    → new.failure ≡ old.failure → new.token ≡ old.token → new.bytes.items ≡ old.bytes.items
    → new.builder.list ≡ old.builder.list
    → old.builder.ready.items ≡ first ∷ new.builder.ready.items → StandsFor old fed taken
    → StandsFor new fed (append taken (Cons (sexp_of first.tree) Nil))
stands_handed old new fed taken first count e m f same_token same_bytes same_list is h =
    (count ∙ h.0, by h.1)
  where
    all : append (append taken (Cons (sexp_of first.tree) Nil)) (trees_ready new) ≡ append taken (trees_ready old)
    all = sexps_assoc taken (Cons (sexp_of first.tree) Nil) (trees_ready new) ∙ ap
        (λ x. append taken (sexps_of (trees_in x))) (sym is)

    same : after_taken (append taken (Cons (sexp_of first.tree) Nil)) (state_of new)
        ≡ after_taken taken (state_of old)
    same =
        let inner : lists_of new.builder.list ≡ lists_of old.builder.list = ap lists_of same_list in
        let outer : append (append taken (Cons (sexp_of first.tree) Nil)) (sexps_of (trees_in new.builder.ready.items))
        ≡ append taken (sexps_of (trees_in old.builder.ready.items)) = all in
        cc

    by : (old.failure ≡ Some Memory) ⊎ Keeps (is_finished old) old fed taken
        → (new.failure ≡ Some Memory)
        ⊎ Keeps (is_finished new) new fed (append taken (Cons (sexp_of first.tree) Nil))
    by (inl memory) = inl (f ∙ memory)
    by (inr k) = inr (subst (λ b. Keeps b new fed (append taken (Cons (sexp_of first.tree) Nil))) (sym e)
        (handed (is_finished old) old new fed taken (append taken (Cons (sexp_of first.tree) Nil)) m f same
        all k))
