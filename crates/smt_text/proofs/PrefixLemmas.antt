-- Which prefixes of texts run, and which trees of them are complete.
use Rattle.std.proofs.Common.{◌≡◌, ◌⊎◌, ◌<◌, ◌≤◌, ℕ, suc, zero, List, [], ◌∷◌, ◌++◌, length, Option, Some}
use Rattle.std.proofs.Common.{None, Bool, true, false, ltb, cond, refl, sym, ap, ◌∙◌, inl, inr, arith, subst}
use Rattle.std.proofs.lemmas.Bool.{cases_lt}
use Rattle.std.proofs.lemmas.List.{append-nil, length-append}
use Rattle.smt_text.proofs.SexpLemmas.{append_nil, append_assoc as sexps_assoc}
use Rattle.smt_text.proofs.ReaderSoundness.{forest-read}
use Rattle.smt_text.proofs.ReaderCompleteness.{step-at, run-cons, run-append, reads-forest, depth_of-add}
use Rattle.smt_text.proofs.ReaderCompleteness.{may_be_ended_ends}
use Rattle.smt_text.proofs.ByteLemmas.{MayBeEnded, lex_ended}
use Rattle.smt_text.specs.Grammar.{OpenParenthesis, CloseParenthesis}
use Rattle.smt_text.specs.Internal.LexerStates.{Levels, On, State, At, start, add, atom_of, add_if, flush, act}
use Rattle.smt_text.specs.Internal.LexerStates.{settle, lex, move, may_end, token_in, step, go_on, run, depth_of}
use Rattle.smt_text.specs.Internal.LexerStates.{top_of, complete_of}
use Rattle.smt_text.specs.Reading.{Begins, LongestPrefix}
use Rattle.smt_trees.specs.Sexp.{Sexp, Sexps, Items, Nil, Cons, append}
use Rattle.smt_text.specs.declared.lexer.AtomState.{AtomState}
use Rattle.smt_text.specs.declared.lexer.AtomState.TheVariants.{Nothing, Zero, Digits, Point, Fraction, Hash}
use Rattle.smt_text.specs.declared.lexer.AtomState.TheVariants.{HexMark, HexDigits, BinMark, BinDigits, Name}
use Rattle.smt_text.specs.declared.lexer.AtomState.TheVariants.{Colon, KeywordName, InText, TextQuote, InBars}
use Rattle.smt_text.specs.declared.lexer.AtomState.TheVariants.{AfterBar, InComment}
use Rattle.smt_text.specs.declared.lexer.LexerStep.{LexerStep}
use Rattle.smt_text.specs.declared.lexer.LexerStep.TheVariants.{Push, Skip, Finish, Open, Close, Stuck}

-- a run goes over the prefix of a text first
pub record Splits (max_depth : ℕ) (s : State) (xs ys : List ℕ) (end : State) : Type 0 where
  pub mid : State
  pub first : run max_depth s xs ≡ Some mid
  pub then : run max_depth mid ys ≡ Some end

run-prefix : (max_depth : ℕ) (s : State) (xs ys : List ℕ) (end : State) → run max_depth s (xs ++ ys) ≡ Some end
    → Splits max_depth s xs ys end
run-prefix max_depth s [] ys end e = record { mid = s; first = refl; then = e }
run-prefix max_depth s (b ∷ bs) ys end e =
    by_step (step max_depth s b) refl e (λ next. run-prefix max_depth next bs ys end)
  where
    by_step : (o : Option State) → step max_depth s b ≡ o → go_on o (λ x. run max_depth x (bs ++ ys)) ≡ Some end
        → ((next : State) → run max_depth next (bs ++ ys) ≡ Some end → Splits max_depth next bs ys end)
        → Splits max_depth s (b ∷ bs) ys end
    by_step None h k later = absurd (cc)
    by_step (Some next) h k later =
        let r = later next k in
        record { mid = r.mid; first = run-cons max_depth s next b bs h ∙ r.first; then = r.then }

-- the beginnings of texts of trees run
pub record Runs (max_depth : ℕ) (text : List ℕ) : Type 0 where
  pub end : State
  pub runs : run max_depth start text ≡ Some end

pub runs_if_begins : (max_depth : ℕ) (prefix : List ℕ) → Begins max_depth prefix → Runs max_depth prefix
runs_if_begins max_depth prefix h =
    let all = reads-forest max_depth (prefix ++ h.0) h.1 h.2 in
    let r = run-prefix max_depth start prefix h.0 all.next all.runs in
    record { end = r.mid; runs = r.first }

-- a token that has begun can be completed
record Completes (max_depth : ℕ) (s : State) : Type 0 where
  more : List ℕ
  next : State
  runs : run max_depth s more ≡ Some next
  ended : MayBeEnded (token_in next)

completes : (max_depth : ℕ) (token : AtomState) (bytes : List ℕ) (levels : Levels)
    → Completes max_depth (At token bytes levels)
completes max_depth Nothing bytes levels =
    record { more = []; next = At Nothing bytes levels; runs = refl; ended = tt }
completes max_depth Zero bytes levels = record { more = []; next = At Zero bytes levels; runs = refl; ended = tt }
completes max_depth Digits bytes levels =
    record { more = []; next = At Digits bytes levels; runs = refl; ended = tt }
completes max_depth Fraction bytes levels =
    record { more = []; next = At Fraction bytes levels; runs = refl; ended = tt }
completes max_depth HexDigits bytes levels =
    record { more = []; next = At HexDigits bytes levels; runs = refl; ended = tt }
completes max_depth BinDigits bytes levels =
    record { more = []; next = At BinDigits bytes levels; runs = refl; ended = tt }
completes max_depth Name bytes levels = record { more = []; next = At Name bytes levels; runs = refl; ended = tt }
completes max_depth KeywordName bytes levels =
    record { more = []; next = At KeywordName bytes levels; runs = refl; ended = tt }
completes max_depth TextQuote bytes levels =
    record { more = []; next = At TextQuote bytes levels; runs = refl; ended = tt }
completes max_depth AfterBar bytes levels =
    record { more = []; next = At AfterBar bytes levels; runs = refl; ended = tt }
completes max_depth Point bytes levels =
    record { more = 48 ∷ []; next = At Fraction (bytes ++ 48 ∷ []) levels; runs = refl; ended = tt }
completes max_depth Hash bytes levels =
    record { more = 98 ∷ 48 ∷ []; next = At BinDigits (bytes ++ 48 ∷ []) levels; runs = refl; ended = tt }
completes max_depth HexMark bytes levels =
    record { more = 48 ∷ []; next = At HexDigits (bytes ++ 48 ∷ []) levels; runs = refl; ended = tt }
completes max_depth BinMark bytes levels =
    record { more = 48 ∷ []; next = At BinDigits (bytes ++ 48 ∷ []) levels; runs = refl; ended = tt }
completes max_depth Colon bytes levels =
    record { more = 97 ∷ []; next = At KeywordName (bytes ++ 97 ∷ []) levels; runs = refl; ended = tt }
completes max_depth InText bytes levels =
    record { more = 34 ∷ []; next = At TextQuote bytes levels; runs = refl; ended = tt }
completes max_depth InBars bytes levels = record
    { more = 124 ∷ []; next = At AfterBar [] (flush (At InBars bytes levels)); runs = refl; ended = tt }
completes max_depth InComment bytes levels =
    record { more = 10 ∷ []; next = At Nothing [] levels; runs = refl; ended = tt }

-- the lists that are not closed can be
pub record Closes (max_depth : ℕ) (s : State) : Type 0 where
  pub more : List ℕ
  pub end : State
  pub trees : Sexps
  pub runs : run max_depth s more ≡ Some end
  pub closed : flush end ≡ On [] trees
  pub whole : may_end (token_in end) ≡ true

can_close : (n : ℕ) (max_depth : ℕ) (levels : Levels) (s : State) → depth_of levels ≡ n → MayBeEnded (token_in s)
    → flush s ≡ levels → Closes max_depth s
can_close zero max_depth (On [] top) s d m e = record
    { more = []; end = s; trees = top; runs = refl; closed = e; whole = may_be_ended_ends (token_in s) m }
can_close zero max_depth (On (parts ∷ lists) top) s d m e = absurd (omega arith)
can_close (suc n) max_depth (On [] top) s d m e = absurd (omega arith)
can_close (suc n) max_depth (On (parts ∷ lists) top) s d m e =
    let levels = add (Items parts) (On lists top) in
    let r = can_close n max_depth levels (At Nothing [] levels)
    (depth_of-add (Items parts) (On lists top) ∙ omega arith) tt refl in
    record {
      more = 41 ∷ r.more;
      end = r.end;
      trees = r.trees;
      runs = run-cons max_depth s (At Nothing [] levels) 41 r.more
          (step-at max_depth s 41 Close (lex_ended (token_in s) 41 m refl) ∙ ap
          (λ x. settle (act max_depth CloseParenthesis x)) e) ∙ r.runs;
      closed = r.closed;
      whole = r.whole;
    }

-- and what runs begins some text of trees
pub begins_if_runs : (max_depth : ℕ) (prefix : List ℕ) (s : State) → run max_depth start prefix ≡ Some s
    → Begins max_depth prefix
begins_if_runs max_depth prefix (At token bytes levels) e =
    let c = completes max_depth token bytes levels in
    let r = can_close (depth_of (flush c.next)) max_depth (flush c.next) c.next refl c.ended refl in
    let all : run max_depth (At token bytes levels) (c.more ++ r.more) ≡ Some r.end = run-append max_depth
    (At token bytes levels) c.next c.more r.more c.runs ∙ r.runs in (
      c.more ++ r.more,
      r.trees,
      forest-read max_depth (prefix ++ (c.more ++ r.more)) r.end r.trees
          (run-append max_depth start (At token bytes levels) prefix (c.more ++ r.more) e ∙ all) r.closed r.whole,
    )

-- what goes on past a place begins with the byte there
pub prefix_past : (prefix longer : List ℕ) (b : ℕ) (rest other : List ℕ)
    → prefix ++ b ∷ rest ≡ longer ++ other → length prefix < length longer
    → (x : List ℕ) × (longer ≡ prefix ++ b ∷ x)
prefix_past [] [] b rest other e h = absurd (omega arith)
prefix_past [] (c ∷ longer) b rest other e h = let same : c ≡ b = cc in (longer, ap (λ x. x ∷ longer) same)
prefix_past (a ∷ prefix) [] b rest other e h = absurd (omega arith)
prefix_past (a ∷ prefix) (c ∷ longer) b rest other e h =
    let same : c ≡ a = cc in
    let tails : prefix ++ b ∷ rest ≡ longer ++ other = cc in
    let r = prefix_past prefix longer b rest other tails (omega arith) in
    (r.0, ap (λ x. x ∷ longer) same ∙ ap (λ x. a ∷ x) r.1)

pub stuck_prefix : (max_depth : ℕ) (prefix : List ℕ) (s : State) (b : ℕ) (rest : List ℕ)
    → run max_depth start prefix ≡ Some s → step max_depth s b ≡ None
    → LongestPrefix max_depth (prefix ++ b ∷ rest) prefix (b ∷ rest)
stuck_prefix max_depth prefix s b rest e stops =
    record { parts = refl; begins = begins_if_runs max_depth prefix s e; longest = no_longer }
  where
    past : (longer x : List ℕ) → longer ≡ prefix ++ b ∷ x → Begins max_depth longer
        → length longer ≤ length prefix
    past longer x is h =
        let r = runs_if_begins max_depth longer h in
        let none : run max_depth start (prefix ++ b ∷ x) ≡ None = run-append max_depth start s prefix (b ∷ x) e ∙ ap
        (λ o. go_on o (λ next. run max_depth next x)) stops in
        let some : run max_depth start (prefix ++ b ∷ x) ≡ Some r.end = ap (run max_depth start) (sym is) ∙ r.runs in
        absurd (cc)

    by_length : (longer other : List ℕ) → prefix ++ b ∷ rest ≡ longer ++ other → Begins max_depth longer
        → (length prefix < length longer) ⊎ (length longer ≤ length prefix) → length longer ≤ length prefix
    by_length longer other is h (inr le) = le
    by_length longer other is h (inl lt) =
        let x = prefix_past prefix longer b rest other is lt in past longer x.0 x.1 h

    no_longer : (longer other : List ℕ) → prefix ++ b ∷ rest ≡ longer ++ other → Begins max_depth longer
        → length longer ≤ length prefix
    no_longer longer other is h = by_length longer other is h (cases_lt (length prefix) (length longer))

pub complete_prefix : (max_depth : ℕ) (text : List ℕ) → Begins max_depth text → LongestPrefix max_depth text text []
complete_prefix max_depth text h = record {
  parts = sym (append-nil text);
  begins = h;
  longest = λ longer other e b. omega (arith, ap length e, length-append longer other);
}

-- trees at the top are only added to
abbrev pub Grows : Sexps → Sexps → Type 0
Grows xs ys = (later : Sexps) × (ys ≡ append xs later)

pub grows_trans : (xs ys zs : Sexps) → Grows xs ys → Grows ys zs → Grows xs zs
grows_trans xs ys zs a b = (append a.0 b.0, b.1 ∙ ap (λ x. append x b.0) a.1 ∙ sexps_assoc xs a.0 b.0)

pub grows_same : (xs ys : Sexps) → xs ≡ ys → Grows xs ys
grows_same xs ys e = (Nil, sym e ∙ sym (append_nil xs))

grows-add : (x : Sexp) (levels : Levels) → Grows (top_of levels) (top_of (add x levels))
grows-add x (On [] top) = (Cons x Nil, refl)
grows-add x (On (parts ∷ lists) top) = grows_same top top refl

grows-add_if : (o : Option Sexp) (levels : Levels) → Grows (top_of levels) (top_of (add_if o levels))
grows-add_if None levels = grows_same (top_of levels) (top_of levels) refl
grows-add_if (Some x) levels = grows-add x levels

grows-is : (xs : Sexps) (levels next : Levels) → Some levels ≡ Some next → Grows xs (top_of levels)
    → Grows xs (top_of next)
grows-is xs levels next e h = let same : levels ≡ next = cc in subst (λ x. Grows xs (top_of x)) same h

grows-flush : (s : State) → Grows (complete_of s) (top_of (flush s))
grows-flush (At shape bytes levels) = grows-add_if (atom_of shape bytes) levels

grows-open : (t : Bool) (lists : List Sexps) (top : Sexps) (next : Levels)
    → cond t (Some (On (Nil ∷ lists) top)) None ≡ Some next → Grows top (top_of next)
grows-open true lists top next e = grows-is top (On (Nil ∷ lists) top) next e (grows_same top top refl)
grows-open false lists top next e = absurd (cc)

grows-close : (max_depth : ℕ) (levels next : Levels) → act max_depth CloseParenthesis levels ≡ Some next
    → Grows (top_of levels) (top_of next)
grows-close max_depth (On [] top) next e = absurd (cc)
grows-close max_depth (On (parts ∷ lists) top) next e =
    grows-is top (add (Items parts) (On lists top)) next e (grows-add (Items parts) (On lists top))

grows-opens : (max_depth : ℕ) (levels next : Levels) → act max_depth OpenParenthesis levels ≡ Some next
    → Grows (top_of levels) (top_of next)
grows-opens max_depth (On lists top) next e = grows-open (ltb (length lists) max_depth) lists top next e

-- what a settled state has at its top
pub settled-is : (o : Option Levels) (next : State) → settle o ≡ Some next
    → (levels : Levels) × (o ≡ Some levels) × (next ≡ At Nothing [] levels)
settled-is None next e = absurd (cc)
settled-is (Some levels) next e = (levels, refl, let same : next ≡ At Nothing [] levels = cc in same)

pub grows-move : (max_depth : ℕ) (what : LexerStep) (s : State) (b : ℕ) (next : State)
    → move max_depth what s b ≡ Some next → Grows (complete_of s) (complete_of next)
grows-move max_depth (Push token) (At old bytes levels) b next e = let same : At token (bytes ++ b ∷ []) levels
    ≡ next = cc in grows_same (top_of levels) (complete_of next) (ap complete_of same)
grows-move max_depth (Skip token) (At old bytes levels) b next e = let same : At token bytes levels ≡ next = cc
    in grows_same (top_of levels) (complete_of next) (ap complete_of same)
grows-move max_depth (Finish token) s b next e = let same : At token [] (flush s) ≡ next = cc
    in subst (λ x. Grows (complete_of s) (complete_of x)) same (grows-flush s)
grows-move max_depth Open s b next e =
    let o = settled-is (act max_depth OpenParenthesis (flush s)) next e in
    subst (λ x. Grows (complete_of s) (complete_of x)) (sym o.2)
    (grows_trans (complete_of s) (top_of (flush s)) (top_of o.0) (grows-flush s)
    (grows-opens max_depth (flush s) o.0 o.1))
grows-move max_depth Close s b next e =
    let o = settled-is (act max_depth CloseParenthesis (flush s)) next e in
    subst (λ x. Grows (complete_of s) (complete_of x)) (sym o.2)
    (grows_trans (complete_of s) (top_of (flush s)) (top_of o.0) (grows-flush s)
    (grows-close max_depth (flush s) o.0 o.1))
grows-move max_depth Stuck s b next e = absurd (cc)

pub grows-run : (max_depth : ℕ) (s : State) (text : List ℕ) (end : State) → run max_depth s text ≡ Some end
    → Grows (complete_of s) (complete_of end)
grows-run max_depth s [] end e =
    let same : s ≡ end = cc in grows_same (complete_of s) (complete_of end) (ap complete_of same)
grows-run max_depth s (b ∷ text) end e = by_step (step max_depth s b) refl e (λ next. grows-run max_depth next text end)
  where
    by_step : (o : Option State) → step max_depth s b ≡ o → go_on o (λ x. run max_depth x text) ≡ Some end
        → ((next : State) → run max_depth next text ≡ Some end → Grows (complete_of next) (complete_of end))
        → Grows (complete_of s) (complete_of end)
    by_step None h k later = absurd (cc)
    by_step (Some next) h k later = grows_trans (complete_of s) (complete_of next) (complete_of end)
        (grows-move max_depth (lex (token_in s) b) s b next h) (later next k)
