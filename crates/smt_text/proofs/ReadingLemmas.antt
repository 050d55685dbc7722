-- What is read of a text, by its run: there is always one answer.
use Rattle.std.proofs.Common.{◌≡◌, ◌⊎◌, ◌<◌, ◌≤◌, ◌+◌, ℕ, suc, List, [], ◌∷◌, ◌++◌, length, Option, Some}
use Rattle.std.proofs.Common.{None, Bool, true, false, ltb, cond, refl, sym, ap, ◌∙◌, inl, inr, arith, subst}
use Rattle.std.proofs.lemmas.Bool.{cases_lt, ltb-true, lt-ltb}
use Rattle.std.proofs.lemmas.List.{append-nil, append_assoc, length-append}
use Rattle.smt_text.proofs.SexpLemmas.{append_nil, count-append, nil_if_none}
use Rattle.smt_text.proofs.PrefixLemmas.{prefix_past, runs_if_begins, begins_if_runs, stuck_prefix}
use Rattle.smt_text.proofs.PrefixLemmas.{complete_prefix}
use Rattle.smt_text.proofs.ReaderSoundness.{forest-read}
use Rattle.smt_text.proofs.WholeTreeLemmas.{complete_run, settled_more}
use Rattle.smt_text.proofs.ReaderCompleteness.{step-at, run-cons, run-append, reads-forest}
use Rattle.smt_text.specs.Grammar.{OpenParenthesis, CloseParenthesis, Forest}
use Rattle.smt_text.specs.Internal.LexerStates.{Levels, On, State, At, start, flush, act, settle, lex, move}
use Rattle.smt_text.specs.Internal.LexerStates.{may_end, token_in, step, go_on, run, complete_of, IsStuck, Leaves}
use Rattle.smt_text.specs.Internal.LexerStates.{blame}
use Rattle.smt_text.specs.Reading.{Begins, IsForest, LongestPrefix, AreComplete, HasFault, IsTold, Reads}
use Rattle.smt_trees.specs.Sexp.{Sexps, Nil, append, count}
use Rattle.smt_faults.specs.declared.text_flaw.TextFlaw.{TextFlaw}
use Rattle.smt_faults.specs.declared.text_flaw.TextFlaw.TheVariants.{Byte, Deep, End}
use Rattle.smt_text.specs.declared.lexer.AtomState.TheVariants.{Nothing}
use Rattle.smt_text.specs.declared.lexer.LexerStep.{LexerStep}
use Rattle.smt_text.specs.declared.lexer.LexerStep.TheVariants.{Push, Skip, Finish, Open, Close, Stuck}

-- where lists may nest deeper, nothing that runs goes otherwise
wide_act : (max_depth wide : ℕ) (t u : Bool) (lists : List Sexps) (top : Sexps) (next : State) → max_depth ≤ wide
    → ltb (length lists) max_depth ≡ t → ltb (length lists) wide ≡ u
    → settle (cond t (Some (On (Nil ∷ lists) top)) None) ≡ Some next
    → settle (cond u (Some (On (Nil ∷ lists) top)) None) ≡ Some next
wide_act max_depth wide true true lists top next le e f n = n
wide_act max_depth wide true false lists top next le e f n =
    let below = ltb-true (length lists) max_depth e in
    let also = lt-ltb (length lists) wide (omega arith) in
    absurd (cc)
wide_act max_depth wide false u lists top next le e f n = absurd (cc)

wide_open : (max_depth wide : ℕ) (levels : Levels) (next : State) → max_depth ≤ wide
    → settle (act max_depth OpenParenthesis levels) ≡ Some next
    → settle (act wide OpenParenthesis levels) ≡ Some next
wide_open max_depth wide (On lists top) next le n =
    wide_act max_depth wide (ltb (length lists) max_depth) (ltb (length lists) wide) lists top next le refl refl n

-- the max_depth only matters where a list begins
same_close : (max_depth wide : ℕ) (levels : Levels)
    → settle (act max_depth CloseParenthesis levels) ≡ settle (act wide CloseParenthesis levels)
same_close max_depth wide (On [] top) = refl
same_close max_depth wide (On (parts ∷ lists) top) = refl

same_move : (max_depth wide : ℕ) (what : LexerStep) (s : State) (b : ℕ) → (what ≡ Open → ⊥)
    → move max_depth what s b ≡ move wide what s b
same_move max_depth wide (Push token) (At old bytes levels) b h = refl
same_move max_depth wide (Skip token) (At old bytes levels) b h = refl
same_move max_depth wide (Finish token) s b h = refl
same_move max_depth wide Open s b h = absurd (h refl)
same_move max_depth wide Close s b h = same_close max_depth wide (flush s)
same_move max_depth wide Stuck s b h = refl

wide_move : (max_depth wide : ℕ) (what : LexerStep) (s : State) (b : ℕ) (next : State) → max_depth ≤ wide
    → move max_depth what s b ≡ Some next → move wide what s b ≡ Some next
wide_move max_depth wide (Push token) (At old bytes levels) b next le n = n
wide_move max_depth wide (Skip token) (At old bytes levels) b next le n = n
wide_move max_depth wide (Finish token) s b next le n = n
wide_move max_depth wide Open s b next le n = wide_open max_depth wide (flush s) next le n
wide_move max_depth wide Close s b next le n = sym (same_close max_depth wide (flush s)) ∙ n
wide_move max_depth wide Stuck s b next le n = absurd (cc)

wide_run : (max_depth wide : ℕ) (s : State) (text : List ℕ) (end : State) → max_depth ≤ wide
    → run max_depth s text ≡ Some end → run wide s text ≡ Some end
wide_run max_depth wide s [] end le e = e
wide_run max_depth wide s (b ∷ text) end le e =
    by_step (step max_depth s b) refl e (λ next. wide_run max_depth wide next text end le)
  where
    by_step : (o : Option State) → step max_depth s b ≡ o → go_on o (λ x. run max_depth x text) ≡ Some end
        → ((next : State) → run max_depth next text ≡ Some end → run wide next text ≡ Some end)
        → run wide s (b ∷ text) ≡ Some end
    by_step None h k later = absurd (cc)
    by_step (Some next) h k later =
        run-cons wide s next b text (wide_move max_depth wide (lex (token_in s) b) s b next le h) ∙ later next k

-- a list may begin where lists may nest deep enough
pub record Opens (max_depth : ℕ) (s : State) (b : ℕ) : Type 0 where
  pub wide : ℕ
  pub wider : max_depth ≤ wide
  pub next : State
  pub goes : step wide s b ≡ Some next

opens_deeper : (max_depth : ℕ) (s : State) (b : ℕ) (levels : Levels) → lex (token_in s) b ≡ Open
    → flush s ≡ levels → Opens max_depth s b
opens_deeper max_depth s b (On lists top) k e = record {
  wide = max_depth + suc (length lists);
  wider = omega arith;
  next = At Nothing [] (On (Nil ∷ lists) top);
  goes = step-at (max_depth + suc (length lists)) s b Open k ∙ ap
      (λ x. settle (act (max_depth + suc (length lists)) OpenParenthesis x)) e
      ∙ ap (λ t. settle (cond t (Some (On (Nil ∷ lists) top)) None))
      (lt-ltb (length lists) (max_depth + suc (length lists)) (omega arith));
}

-- only a list that nests too deep is told apart by the max_depth
deeper_begins : (max_depth : ℕ) (prefix : List ℕ) (s : State) (b : ℕ) → run max_depth start prefix ≡ Some s
    → lex (token_in s) b ≡ Open → (depth : ℕ) × Begins depth (prefix ++ b ∷ [])
deeper_begins max_depth prefix s b e k =
    let o = opens_deeper max_depth s b (flush s) k refl in (
      o.wide,
      begins_if_runs o.wide (prefix ++ b ∷ []) o.next
          (run-append o.wide start s prefix (b ∷ [])
          (wide_run max_depth o.wide start prefix s o.wider e) ∙ run-cons o.wide s o.next b [] o.goes),
    )

never_begins : (max_depth : ℕ) (prefix : List ℕ) (s : State) (b : ℕ) → run max_depth start prefix ≡ Some s
    → step max_depth s b ≡ None → (lex (token_in s) b ≡ Open → ⊥)
    → ((depth : ℕ) × Begins depth (prefix ++ b ∷ [])) → ⊥
never_begins max_depth prefix s b e stops other h =
    let wide = max_depth + h.0 in
    let r = runs_if_begins h.0 (prefix ++ b ∷ []) h.1 in
    let some : run wide start (prefix ++ b ∷ []) ≡ Some r.end = wide_run h.0 wide start
    (prefix ++ b ∷ []) r.end (omega arith) r.runs in
    let to_b : run wide start prefix ≡ Some s = wide_run max_depth wide start prefix s (omega arith) e in
    let stuck : step wide s b ≡ None = sym (same_move max_depth wide (lex (token_in s) b) s b other) ∙ stops in
    let none : run wide start (prefix ++ b ∷ []) ≡ None = run-append wide start s prefix (b ∷ []) to_b ∙ ap
    (λ o. go_on o (λ x. run wide x [])) stuck in
    cc

-- the fault of a byte that no text goes on with
pub stuck_reads : (max_depth : ℕ) (ended : Bool) (text : List ℕ) (s : State) (fault : TextFlaw)
    → IsStuck max_depth text s fault → Reads max_depth ended text (complete_of s) (Some fault)
stuck_reads max_depth ended text s fault h = subst (λ f. Reads max_depth ended text (complete_of s) (Some f))
    (sym h.is) (by_step (lex (token_in s) h.byte) refl)
  where
    good : LongestPrefix max_depth text h.prefix (h.byte ∷ h.rest)
    good = subst (λ t. LongestPrefix max_depth t h.prefix (h.byte ∷ h.rest)) (sym h.parts)
        (stuck_prefix max_depth h.prefix s h.byte h.rest h.runs h.stops)

    prefix_and_trees : (prefix rest : List ℕ) × LongestPrefix max_depth text prefix rest
        × AreComplete max_depth prefix (complete_of s)
    prefix_and_trees = (h.prefix, h.byte ∷ h.rest, good, complete_run max_depth h.prefix s h.runs)

    byte : (lex (token_in s) h.byte ≡ Open → ⊥) → HasFault max_depth text (Byte (length h.prefix))
    byte other =
        (h.prefix, h.byte, h.rest, refl, good, never_begins max_depth h.prefix s h.byte h.runs h.stops other)

    by_step : (what : LexerStep) → lex (token_in s) h.byte ≡ what
        → Reads max_depth ended text (complete_of s) (Some (blame (length h.prefix) what))
    by_step Open e = (
      (h.prefix, h.byte, h.rest, refl, good, deeper_begins max_depth h.prefix s h.byte h.runs e),
      tt,
      prefix_and_trees,
    )
    by_step (Push token) e = (byte (λ f. absurd (cc)), tt, prefix_and_trees)
    by_step (Skip token) e = (byte (λ f. absurd (cc)), tt, prefix_and_trees)
    by_step (Finish token) e = (byte (λ f. absurd (cc)), tt, prefix_and_trees)
    by_step Close e = (byte (λ f. absurd (cc)), tt, prefix_and_trees)
    by_step Stuck e = (byte (λ f. absurd (cc)), tt, prefix_and_trees)

-- what is read while more may come
pub leaves_reads : (max_depth : ℕ) (text : List ℕ) (s : State) (fault : Option TextFlaw)
    → Leaves max_depth text s fault → Reads max_depth false text (complete_of s) fault
leaves_reads max_depth text s None h = (begins_if_runs max_depth text s h, complete_run max_depth text s h)
leaves_reads max_depth text s (Some fault) h = stuck_reads max_depth false text s fault h

-- what is read of a text that has ended outside lists and tokens
pub ends_outside : (max_depth : ℕ) (text : List ℕ) (s : State) (trees : Sexps) → run max_depth start text ≡ Some s
    → flush s ≡ On [] trees → may_end (token_in s) ≡ true → Reads max_depth true text trees None
ends_outside max_depth text s trees e f w = forest-read max_depth text s trees e f w

-- and inside
pub ends_inside : (max_depth : ℕ) (text : List ℕ) (s : State) → run max_depth start text ≡ Some s
    → ((trees : Sexps) → flush s ≡ On [] trees → may_end (token_in s) ≡ true → ⊥)
    → Reads max_depth true text (complete_of s) (Some (End (length text)))
ends_inside max_depth text s e inner =
    let b = begins_if_runs max_depth text s e in
    ((refl, b, no_forest), refl, (text, [], complete_prefix max_depth text b, complete_run max_depth text s e))
  where
    no_forest : IsForest max_depth text → ⊥
    no_forest h =
        let r = reads-forest max_depth text h.0 h.1 in
        let both : Some s ≡ Some r.next = sym e ∙ r.runs in
        let same : s ≡ r.next = cc in
        inner h.0 (ap flush same ∙ r.trees) (ap (λ x. may_end (token_in x)) same ∙ r.whole)

pub inside_list : (s : State) (parts : Sexps) (lists : List Sexps) (top : Sexps)
    → flush s ≡ On (parts ∷ lists) top → (trees : Sexps) → flush s ≡ On [] trees → may_end (token_in s) ≡ true
    → ⊥
inside_list s parts lists top e trees f w = let clash : On (parts ∷ lists) top ≡ On [] trees = sym e ∙ f in cc

pub inside_token : (s : State) → may_end (token_in s) ≡ false → (trees : Sexps) → flush s ≡ On [] trees
    → may_end (token_in s) ≡ true → ⊥
inside_token s e trees f w = cc

-- every text leaves a state and perhaps a fault
pub record Left (max_depth : ℕ) (text : List ℕ) : Type 0 where
  pub end : State
  pub fault : Option TextFlaw
  pub leaves : Leaves max_depth text end fault

pub leaves_on : (max_depth : ℕ) (prefix text : List ℕ) (s : State) → run max_depth start prefix ≡ Some s
    → Left max_depth (prefix ++ text)
leaves_on max_depth prefix [] s e =
    record { end = s; fault = None; leaves = ap (run max_depth start) (append-nil prefix) ∙ e }
leaves_on max_depth prefix (b ∷ text) s e =
    by_step (step max_depth s b) refl (λ next. leaves_on max_depth (prefix ++ b ∷ []) text next)
  where
    by_step : (o : Option State) → step max_depth s b ≡ o
        → ((next : State) → run max_depth start (prefix ++ b ∷ []) ≡ Some next
        → Left max_depth ((prefix ++ b ∷ []) ++ text)) → Left max_depth (prefix ++ b ∷ text)
    by_step None h later = record {
      end = s;
      fault = Some (blame (length prefix) (lex (token_in s) b));
      leaves =
          record { prefix = prefix; byte = b; rest = text; parts = refl; runs = e; stops = h; is = refl };
    }
    by_step (Some next) h later = subst (Left max_depth) (append_assoc prefix (b ∷ []) text)
        (later next (run-append max_depth start s prefix (b ∷ []) e ∙ run-cons max_depth s next b [] h))

-- there are always trees and perhaps a fault
pub record IsRead (max_depth : ℕ) (ended : Bool) (text : List ℕ) : Type 0 where
  pub trees : Sexps
  pub fault : Option TextFlaw
  pub reads : Reads max_depth ended text trees fault

read_ended : (max_depth : ℕ) (text : List ℕ) (s : State) (levels : Levels) (t : Bool)
    → run max_depth start text ≡ Some s → flush s ≡ levels → may_end (token_in s) ≡ t → IsRead max_depth true text
read_ended max_depth text s (On [] top) true e f w =
    record { trees = top; fault = None; reads = ends_outside max_depth text s top e f w }
read_ended max_depth text s (On [] top) false e f w = record {
  trees = complete_of s;
  fault = Some (End (length text));
  reads = ends_inside max_depth text s e (inside_token s w);
}
read_ended max_depth text s (On (parts ∷ lists) top) t e f w = record {
  trees = complete_of s;
  fault = Some (End (length text));
  reads = ends_inside max_depth text s e (inside_list s parts lists top f);
}

is_read : (max_depth : ℕ) (ended : Bool) (text : List ℕ) (s : State) (fault : Option TextFlaw)
    → Leaves max_depth text s fault → IsRead max_depth ended text
is_read max_depth true text s None h = read_ended max_depth text s (flush s) (may_end (token_in s)) h refl refl
is_read max_depth false text s fault h =
    record { trees = complete_of s; fault = fault; reads = leaves_reads max_depth text s fault h }
is_read max_depth true text s (Some fault) h =
    record { trees = complete_of s; fault = Some fault; reads = stuck_reads max_depth true text s fault h }

pub every_text : (max_depth : ℕ) (ended : Bool) (text : List ℕ) → IsRead max_depth ended text
every_text max_depth ended text =
    let l = leaves_on max_depth [] text start refl in is_read max_depth ended text l.end l.fault l.leaves

-- a text has one forest
pub one_forest : (max_depth other : ℕ) (text : List ℕ) (xs ys : Sexps) → Forest max_depth text xs
    → Forest other text ys → xs ≡ ys
one_forest max_depth other text xs ys a b =
    let r = reads-forest max_depth text xs a in
    let q = reads-forest other text ys b in
    let wide = max_depth + other in
    let first : run wide start text ≡ Some r.next = wide_run max_depth wide start text r.next (omega arith) r.runs
    in
    let second : run wide start text ≡ Some q.next = wide_run other wide start text q.next
    (omega arith) q.runs in
    let same : r.next ≡ q.next = cc in
    let levels : On [] xs ≡ On [] ys = sym r.trees ∙ ap flush same ∙ q.trees in
    cc

-- prefixes of one text that are as long are the same
same_prefix : (prefix longer rest other : List ℕ) → prefix ++ rest ≡ longer ++ other
    → length prefix ≡ length longer → (prefix ≡ longer) × (rest ≡ other)
same_prefix [] [] rest other e h = (refl, e)
same_prefix [] (c ∷ longer) rest other e h = absurd (omega arith)
same_prefix (a ∷ prefix) [] rest other e h = absurd (omega arith)
same_prefix (a ∷ prefix) (c ∷ longer) rest other e h =
    let heads : a ≡ c = cc in
    let tails : prefix ++ rest ≡ longer ++ other = cc in
    let r = same_prefix prefix longer rest other tails (omega arith) in
    (ap (λ x. a ∷ x) r.0 ∙ ap (λ x. x ∷ longer) heads, r.1)

one_prefix : (max_depth : ℕ) (text prefix rest longer other : List ℕ) → LongestPrefix max_depth text prefix rest
    → LongestPrefix max_depth text longer other → (prefix ≡ longer) × (rest ≡ other)
one_prefix max_depth text prefix rest longer other a b =
    let le = b.longest prefix rest a.parts a.begins in
    let ge = a.longest longer other b.parts b.begins in
    same_prefix prefix longer rest other (sym a.parts ∙ b.parts) (omega arith)

-- what begins a text has no longer prefix than itself
no_stop : (max_depth : ℕ) (text prefix : List ℕ) (b : ℕ) (rest : List ℕ) → Begins max_depth text
    → LongestPrefix max_depth text prefix (b ∷ rest) → ⊥
no_stop max_depth text prefix b rest h g =
    let le = g.longest text [] (sym (append-nil text)) h in
    omega (arith, ap length g.parts, length-append prefix (b ∷ rest))

both_most : (xs ys : Sexps) (a b : Sexps) → ys ≡ append xs a → xs ≡ append ys b → xs ≡ ys
both_most xs ys a b e f =
    let none : a ≡ Nil = nil_if_none a
    (omega (arith, ap count e, ap count f, count-append xs a, count-append ys b)) in
    sym (e ∙ ap (append xs) none ∙ append_nil xs)

pub one_complete : (max_depth : ℕ) (prefix : List ℕ) (xs ys : Sexps) → AreComplete max_depth prefix xs
    → AreComplete max_depth prefix ys → xs ≡ ys
one_complete max_depth prefix xs ys a b =
    let f = a.most ys b.settled in
    let g = b.most xs a.settled in
    both_most xs ys g.0 f.0 g.1 f.1

not_both : (max_depth : ℕ) (text prefix : List ℕ) (b : ℕ) (rest longer : List ℕ) (c : ℕ) (other : List ℕ)
    → LongestPrefix max_depth text prefix (b ∷ rest) → LongestPrefix max_depth text longer (c ∷ other)
    → (((depth : ℕ) × Begins depth (prefix ++ b ∷ [])) → ⊥) → ((depth : ℕ) × Begins depth (longer ++ c ∷ []))
    → ⊥
not_both max_depth text prefix b rest longer c other g h never deeper =
    let same = one_prefix max_depth text prefix (b ∷ rest) longer (c ∷ other) g h in
    let tails = same.1 in
    let bytes : c ≡ b = cc in
    let texts : longer ++ c ∷ [] ≡ prefix ++ b ∷ [] = ap (λ x. x ++ c ∷ []) (sym same.0) ∙ ap
    (λ x. prefix ++ x ∷ []) bytes in
    never (deeper.0, subst (Begins deeper.0) texts deeper.1)

-- a text has one fault
same_fault : (max_depth : ℕ) (text : List ℕ) (f g : TextFlaw) → HasFault max_depth text f → HasFault max_depth text g
    → f ≡ g
same_fault max_depth text (End m) (End n) a b = ap End (a.0 ∙ sym b.0)
same_fault max_depth text (End m) (Byte n) a b = absurd (no_stop max_depth text b.0 b.1 b.2 a.1 b.4)
same_fault max_depth text (End m) (Deep n) a b = absurd (no_stop max_depth text b.0 b.1 b.2 a.1 b.4)
same_fault max_depth text (Byte m) (End n) a b = absurd (no_stop max_depth text a.0 a.1 a.2 b.1 a.4)
same_fault max_depth text (Deep m) (End n) a b = absurd (no_stop max_depth text a.0 a.1 a.2 b.1 a.4)
same_fault max_depth text (Byte m) (Byte n) a b =
    let same = one_prefix max_depth text a.0 (a.1 ∷ a.2) b.0 (b.1 ∷ b.2) a.4 b.4 in
    ap Byte (a.3 ∙ ap length same.0 ∙ sym b.3)
same_fault max_depth text (Deep m) (Deep n) a b =
    let same = one_prefix max_depth text a.0 (a.1 ∷ a.2) b.0 (b.1 ∷ b.2) a.4 b.4 in
    ap Deep (a.3 ∙ ap length same.0 ∙ sym b.3)
same_fault max_depth text (Byte m) (Deep n) a b =
    absurd (not_both max_depth text a.0 a.1 a.2 b.0 b.1 b.2 a.4 b.4 a.5 b.5)
same_fault max_depth text (Deep m) (Byte n) a b =
    absurd (not_both max_depth text b.0 b.1 b.2 a.0 a.1 a.2 b.4 a.4 b.5 a.5)

-- a text has trees alone or a fault
no_fault_begun : (max_depth : ℕ) (text : List ℕ) (f : TextFlaw) → Begins max_depth text
    → (IsForest max_depth text ⊎ (IsTold false f)) → HasFault max_depth text f → ⊥
no_fault_begun max_depth text (End m) b (inl forest) h = h.2 forest
no_fault_begun max_depth text (End m) b (inr told) h = cc
no_fault_begun max_depth text (Byte m) b t h = no_stop max_depth text h.0 h.1 h.2 b h.4
no_fault_begun max_depth text (Deep m) b t h = no_stop max_depth text h.0 h.1 h.2 b h.4

forest_begins : (max_depth : ℕ) (text : List ℕ) (xs : Sexps) → Forest max_depth text xs → Begins max_depth text
forest_begins max_depth text xs h = ([], xs, subst (λ t. Forest max_depth t xs) (sym (append-nil text)) h)

none_some : (max_depth : ℕ) (ended : Bool) (text : List ℕ) (xs ys : Sexps) (f : TextFlaw)
    → Reads max_depth ended text xs None → Reads max_depth ended text ys (Some f) → ⊥
none_some max_depth true text xs ys f a b =
    no_fault_begun max_depth text f (forest_begins max_depth text xs a) (inl (xs, a)) b.0
none_some max_depth false text xs ys f a b = no_fault_begun max_depth text f a.0 (inr b.1) b.0

-- what is read of a text is one answer
pub one_reading : (max_depth : ℕ) (ended : Bool) (text : List ℕ) (xs ys : Sexps) (f g : Option TextFlaw)
    → Reads max_depth ended text xs f → Reads max_depth ended text ys g → (xs ≡ ys) × (f ≡ g)
one_reading max_depth true text xs ys None None a b = (one_forest max_depth max_depth text xs ys a b, refl)
one_reading max_depth false text xs ys None None a b = (one_complete max_depth text xs ys a.1 b.1, refl)
one_reading max_depth ended text xs ys None (Some g) a b = absurd (none_some max_depth ended text xs ys g a b)
one_reading max_depth ended text xs ys (Some f) None a b = absurd (none_some max_depth ended text ys xs f b a)
one_reading max_depth ended text xs ys (Some f) (Some g) a b =
    let same = one_prefix max_depth text a.2.0 a.2.1 b.2.0 b.2.1 a.2.2 b.2.2 in (
      one_complete max_depth b.2.0 xs ys (subst (λ t. AreComplete max_depth t xs) same.0 a.2.3) b.2.3,
      ap Some
          (same_fault max_depth text f g a.0 b.0),
    )

-- complete trees stay, whatever comes
pub complete_trees_stay : (max_depth : ℕ) (prefix more : List ℕ) (xs ys : Sexps) → AreComplete max_depth prefix xs
    → AreComplete max_depth (prefix ++ more) ys → (later : Sexps) × (ys ≡ append xs later)
complete_trees_stay max_depth prefix more xs ys a b = b.most xs (settled_more max_depth prefix more xs a.settled)

-- ## Faults stay

-- what begins a text of trees does so at each beginning of it
begins_shorter : (max_depth : ℕ) (prefix more : List ℕ) → Begins max_depth (prefix ++ more) → Begins max_depth prefix
begins_shorter max_depth prefix more h =
    (more ++ h.0, h.1, subst (λ t. Forest max_depth t h.1) (append_assoc prefix more h.0) h.2)

-- the longest prefix stays the longest where the text goes on behind a byte that ended it
longest_stays : (max_depth : ℕ) (text more prefix : List ℕ) (b : ℕ) (rest : List ℕ)
    → LongestPrefix max_depth text prefix (b ∷ rest)
    → LongestPrefix max_depth (text ++ more) prefix (b ∷ (rest ++ more))
longest_stays max_depth text more prefix b rest g = record {
  parts = ap (λ t. t ++ more) g.parts ∙ append_assoc prefix (b ∷ rest) more;
  begins = g.begins;
  longest = λ longer other e h. by longer h (cases_lt (length prefix) (length longer))
      (λ lt. prefix_past prefix longer b (rest ++ more) other
      (sym (append_assoc prefix (b ∷ rest) more) ∙ ap (λ t. t ++ more) (sym g.parts) ∙ e) lt);
}
  where
    no_more : (x : List ℕ) → Begins max_depth (prefix ++ b ∷ x) → ⊥
    no_more x h =
        let one = begins_shorter max_depth (prefix ++ b ∷ []) x
        (subst (Begins max_depth) (sym (append_assoc prefix (b ∷ []) x)) h) in
        let le = g.longest (prefix ++ b ∷ []) rest (g.parts ∙ sym (append_assoc prefix (b ∷ []) rest)) one in
        omega (arith, le, length-append prefix (b ∷ []))

    by : (longer : List ℕ) → Begins max_depth longer
        → (length prefix < length longer) ⊎ (length longer ≤ length prefix)
        → ((length prefix < length longer) → (x : List ℕ) × (longer ≡ prefix ++ b ∷ x))
        → length longer ≤ length prefix
    by longer h (inr le) past = le
    by longer h (inl lt) past = let x = past lt in absurd (no_more x.0 (subst (Begins max_depth) x.1 h))

-- a fault that was told before the end is one of every longer text
fault_stays : (max_depth : ℕ) (text more : List ℕ) (f : TextFlaw) → IsTold false f → HasFault max_depth text f
    → HasFault max_depth (text ++ more) f
fault_stays max_depth text more (End m) told h = absurd (cc)
fault_stays max_depth text more (Byte m) told h =
    (h.0, h.1, h.2 ++ more, h.3, longest_stays max_depth text more h.0 h.1 h.2 h.4, h.5)
fault_stays max_depth text more (Deep m) told h =
    (h.0, h.1, h.2 ++ more, h.3, longest_stays max_depth text more h.0 h.1 h.2 h.4, h.5)

-- the byte that ended it
ends_at : (max_depth : ℕ) (text : List ℕ) (f : TextFlaw) → IsTold false f → HasFault max_depth text f
    → (prefix : List ℕ) × (b : ℕ) × (rest : List ℕ) × LongestPrefix max_depth text prefix (b ∷ rest)
ends_at max_depth text (End m) told h = absurd (cc)
ends_at max_depth text (Byte m) told h = (h.0, h.1, h.2, h.4)
ends_at max_depth text (Deep m) told h = (h.0, h.1, h.2, h.4)

-- and it is told whether the end is or not
always_told : (ended : Bool) (f : TextFlaw) → IsTold false f → IsTold ended f
always_told ended (End m) told = absurd (cc)
always_told ended (Byte m) told = tt
always_told ended (Deep m) told = tt

fault_is_read : (max_depth : ℕ) (ended : Bool) (text more : List ℕ) (xs : Sexps) (f : TextFlaw)
    → Reads max_depth false text xs (Some f) → Reads max_depth ended (text ++ more) xs (Some f)
fault_is_read max_depth ended text more xs f a =
    let at = ends_at max_depth text f a.1 a.0 in
    let same = one_prefix max_depth text a.2.0 a.2.1 at.0 (at.1 ∷ at.2) a.2.2 at.3 in
    let longest = longest_stays max_depth text more at.0 at.1 at.2 at.3 in (
      fault_stays max_depth text more f a.1 a.0,
      always_told ended f a.1,
      (at.0, at.1 ∷ (at.2 ++ more), longest, subst (λ t. AreComplete max_depth t xs) same.0 a.2.3),
    )

pub read_faults_stay : (max_depth : ℕ) (ended : Bool) (text more : List ℕ) (xs ys : Sexps) (f : TextFlaw)
    (g : Option TextFlaw) → Reads max_depth false text xs (Some f) → Reads max_depth ended (text ++ more) ys g
    → (ys ≡ xs) × (g ≡ Some f)
read_faults_stay max_depth ended text more xs ys f g a b =
    one_reading max_depth ended (text ++ more) ys xs g (Some f) b (fault_is_read max_depth ended text more xs f a)
