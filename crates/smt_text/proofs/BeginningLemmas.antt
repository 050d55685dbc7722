-- What is read of the beginning of a text, and how many trees there are.
use Rattle.std.proofs.Common.{◌≡◌, ◌≤◌, ◌+◌, ℕ, List, [], ◌∷◌, ◌++◌, length, Option, Some, None, Bool, true}
use Rattle.std.proofs.Common.{false, ltb, cond, refl, sym, ap, ◌∙◌, arith, subst}
use Rattle.std.proofs.lemmas.List.{length-append}
use Rattle.smt_text.proofs.PrefixLemmas.{runs_if_begins}
use Rattle.smt_text.proofs.ReaderCompleteness.{reads-forest}
use Rattle.smt_text.proofs.ReadingLemmas.{complete_trees_stay, one_complete, read_faults_stay}
use Rattle.smt_text.proofs.SexpLemmas.{append_nil, count-append}
use Rattle.smt_text.proofs.SexpLemmas as sexps
use Rattle.smt_text.proofs.WholeTreeLemmas.{complete_run, settled_more}
use Rattle.smt_text.specs.Grammar.{OpenParenthesis, CloseParenthesis}
use Rattle.smt_text.specs.Internal.LexerStates.{Levels, On, State, At, start, flush, act, add, add_if, atom_of}
use Rattle.smt_text.specs.Internal.LexerStates.{settle, lex, move, token_in, step, go_on, run, complete_of}
use Rattle.smt_text.specs.Internal.LexerStates.{top_of}
use Rattle.smt_text.specs.Reading.{Begins, AreComplete, AreSettled, Reads}
use Rattle.smt_trees.specs.Sexp.{Sexp, Sexps, Nil, Cons, Items, append, count}
use Rattle.smt_faults.specs.declared.text_flaw.TextFlaw.{TextFlaw}
use Rattle.smt_text.specs.declared.lexer.AtomState.{AtomState}
use Rattle.smt_text.specs.declared.lexer.AtomState.TheVariants.{Nothing}
use Rattle.smt_text.specs.declared.lexer.LexerStep.{LexerStep}
use Rattle.smt_text.specs.declared.lexer.LexerStep.TheVariants.{Push, Skip, Finish, Open, Close, Stuck}

-- so much of a text that is no longer than a prefix of it is a beginning of the prefix
beginning_of_prefix : (text more prefix rest : List ℕ) → text ++ more ≡ prefix ++ rest
    → length text ≤ length prefix → (m : List ℕ) × (prefix ≡ text ++ m)
beginning_of_prefix [] more prefix rest e h = (prefix, refl)
beginning_of_prefix (a ∷ text) more [] rest e h = absurd (omega arith)
beginning_of_prefix (a ∷ text) more (c ∷ prefix) rest e h =
    let heads : c ≡ a = cc in
    let tails : text ++ more ≡ prefix ++ rest = cc in
    let r = beginning_of_prefix text more prefix rest tails (omega arith) in
    (r.0, ap (λ x. c ∷ x) r.1 ∙ ap (λ x. x ∷ text ++ r.0) heads)

-- the end of a text adds at most the atom that has begun
added : (o : Option Sexp) (levels : Levels) (ys : Sexps) → add_if o levels ≡ On [] ys
    → (later : Sexps) × (ys ≡ append (top_of levels) later)
added None (On [] top) ys e = let same : ys ≡ top = cc in (Nil, same ∙ sym (append_nil top))
added None (On (parts ∷ lists) top) ys e = absurd (cc)
added (Some x) (On [] top) ys e = let same : ys ≡ append top (Cons x Nil) = cc in (Cons x Nil, same)
added (Some x) (On (parts ∷ lists) top) ys e = absurd (cc)

at_end : (s : State) (ys : Sexps) → flush s ≡ On [] ys → (later : Sexps) × (ys ≡ append (complete_of s) later)
at_end (At token bytes levels) ys e = added (atom_of token bytes) levels ys e

-- complete trees of a beginning are the first of those of the whole, and of those of every longer beginning
first_complete : (max_depth : ℕ) (ended : Bool) (text more : List ℕ) (xs ys : Sexps) (g : Option TextFlaw)
    → Begins max_depth text → AreComplete max_depth text xs → Reads max_depth ended (text ++ more) ys g
    → (later : Sexps) × (ys ≡ append xs later)
first_complete max_depth ended text more xs ys (Some g) begun a b =
    let p = beginning_of_prefix text more b.2.0 b.2.1 b.2.2.parts (b.2.2.longest text more refl begun) in
    b.2.3.most xs (subst (λ t. AreSettled max_depth t xs) (sym p.1) (settled_more max_depth text p.0 xs a.settled))
first_complete max_depth true text more xs ys None begun a b =
    let r = reads-forest max_depth (text ++ more) ys b in
    let complete = (complete_run max_depth (text ++ more) r.next r.runs).most xs
    (settled_more max_depth text more xs a.settled) in
    let last = at_end r.next ys r.trees in (
      append complete.0 last.0,
      last.1 ∙ ap
          (λ x. append x last.0) complete.1 ∙ sexps.append_assoc xs complete.0 last.0,
    )
first_complete max_depth false text more xs ys None begun a b = complete_trees_stay max_depth text more xs ys a b.1

pub read_trees_stay : (max_depth : ℕ) (ended : Bool) (text more : List ℕ) (xs ys : Sexps) (f g : Option TextFlaw)
    → Reads max_depth false text xs f → Reads max_depth ended (text ++ more) ys g
    → (later : Sexps) × (ys ≡ append xs later)
read_trees_stay max_depth ended text more xs ys None g a b =
    first_complete max_depth ended text more xs ys g a.0 a.1 b
read_trees_stay max_depth ended text more xs ys (Some f) g a b =
    (Nil, (read_faults_stay max_depth ended text more xs ys f g a b).0 ∙ sym (append_nil xs))

-- trees at the top
abbrev width_of : Levels → ℕ
width_of levels = count (top_of levels)

width_add : (x : Sexp) (levels : Levels) → width_of (add x levels) ≤ width_of levels + 1
width_add x (On [] top) = omega (arith, count-append top (Cons x Nil))
width_add x (On (parts ∷ lists) top) = omega arith

width_add_if : (o : Option Sexp) (levels : Levels) → width_of (add_if o levels) ≤ width_of levels + 1
width_add_if None levels = omega arith
width_add_if (Some x) levels = width_add x levels

width_kept : (o : Option Sexp) (levels : Levels) → width_of levels ≤ width_of (add_if o levels)
width_kept None levels = omega arith
width_kept (Some x) (On [] top) = omega (arith, count-append top (Cons x Nil))
width_kept (Some x) (On (parts ∷ lists) top) = omega arith

-- and the one that has begun
abbrev width_in : State → ℕ
width_in s = width_of (flush s)

width_at : (token : AtomState) (bytes : List ℕ) (levels : Levels)
    → width_in (At token bytes levels) ≤ width_of levels + 1
width_at token bytes levels = width_add_if (atom_of token bytes) levels

width_settled : (levels : Levels) (next : State) → settle (Some levels) ≡ Some next
    → width_in next ≡ width_of levels
width_settled levels next e = let same : next ≡ At Nothing [] levels = cc in ap width_in same

width_opened : (t : Bool) (lists : List Sexps) (top : Sexps) (next : State)
    → settle (cond t (Some (On (Nil ∷ lists) top)) None) ≡ Some next → width_in next ≤ count top
width_opened true lists top next e = omega (arith, width_settled (On (Nil ∷ lists) top) next e)
width_opened false lists top next e = absurd (cc)

width_open : (max_depth : ℕ) (levels : Levels) (next : State)
    → settle (act max_depth OpenParenthesis levels) ≡ Some next → width_in next ≤ width_of levels
width_open max_depth (On lists top) next e = width_opened (ltb (length lists) max_depth) lists top next e

width_close : (max_depth : ℕ) (levels : Levels) (next : State)
    → settle (act max_depth CloseParenthesis levels) ≡ Some next → width_in next ≤ width_of levels + 1
width_close max_depth (On [] top) next e = absurd (cc)
width_close max_depth (On (parts ∷ lists) top) next e =
    omega (
      arith,
      width_settled (add (Items parts) (On lists top)) next e,
      width_add (Items parts)
          (On lists top),
    )

-- a byte brings a tree at most
width_move : (max_depth : ℕ) (what : LexerStep) (s : State) (b : ℕ) (next : State)
    → move max_depth what s b ≡ Some next → width_in next ≤ width_in s + 1
width_move max_depth (Push token) (At old bytes levels) b next e =
    let same : next ≡ At token (bytes ++ b ∷ []) levels = cc in
    omega (
      arith,
      ap width_in same,
      width_at token (bytes ++ b ∷ []) levels,
      width_kept
          (atom_of old bytes) levels,
    )
width_move max_depth (Skip token) (At old bytes levels) b next e =
    let same : next ≡ At token bytes levels = cc in
    omega (arith, ap width_in same, width_at token bytes levels, width_kept (atom_of old bytes) levels)
width_move max_depth (Finish token) s b next e =
    let same : next ≡ At token [] (flush s) = cc in
    omega (arith, ap width_in same, width_at token [] (flush s))
width_move max_depth Open s b next e = omega (arith, width_open max_depth (flush s) next e)
width_move max_depth Close s b next e = width_close max_depth (flush s) next e
width_move max_depth Stuck s b next e = absurd (cc)

width_run : (max_depth : ℕ) (s : State) (text : List ℕ) (end : State) → run max_depth s text ≡ Some end
    → width_in end ≤ width_in s + length text
width_run max_depth s [] end e = let same : end ≡ s = cc in omega (arith, ap width_in same)
width_run max_depth s (b ∷ text) end e = by (step max_depth s b) refl e (λ next. width_run max_depth next text end)
  where
    by : (o : Option State) → step max_depth s b ≡ o → go_on o (λ x. run max_depth x text) ≡ Some end
        → ((next : State) → run max_depth next text ≡ Some end → width_in end ≤ width_in next + length text)
        → width_in end ≤ width_in s + length (b ∷ text)
    by None h k later = absurd (cc)
    by (Some next) h k later = omega (arith, later next k, width_move max_depth (lex (token_in s) b) s b next h)

width_complete : (s : State) → count (complete_of s) ≤ width_in s
width_complete (At token bytes levels) = width_kept (atom_of token bytes) levels

pub few_trees : (max_depth : ℕ) (text : List ℕ) (trees : Sexps) (f : Option TextFlaw)
    → Reads max_depth true text trees f → count trees ≤ length text
few_trees max_depth text trees None h =
    let r = reads-forest max_depth text trees h in
    omega (arith, width_run max_depth start text r.next r.runs, ap width_of r.trees)
few_trees max_depth text trees (Some f) h =
    let r = runs_if_begins max_depth h.2.0 h.2.2.begins in
    let same = one_complete max_depth h.2.0 trees (complete_of r.end) h.2.3
    (complete_run max_depth h.2.0 r.end r.runs) in
    omega (
      arith,
      ap count same,
      width_complete r.end,
      width_run max_depth start h.2.0 r.end r.runs,
      ap length
          h.2.2.parts,
      length-append h.2.0 h.2.1,
    )
