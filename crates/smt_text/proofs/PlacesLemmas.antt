-- A text at each of its places, where the reader goes over it.
use Rattle.std.proofs.Common.{◌≡◌, ◌≤◌, ◌+◌, ◌-◌, ℕ, zero, suc, List, [], ◌∷◌, ◌++◌, length, take, get_or}
use Rattle.std.proofs.Common.{Option, Some, None, Bool, true, false, cond, ltb, refl, sym, ap, ◌∙◌, arith}
use Rattle.std.proofs.Math.Seq.{take-suc}
use Rattle.std.proofs.lemmas.Bool.{false≢true}
use Rattle.std.proofs.lemmas.List.{take_all}
use Rattle.smt_text.proofs.BuilderLemmas.{depth_of-add_if, depth_of-flush}
use Rattle.smt_text.proofs.ReaderCompleteness.{reads-forest, run-append}
use Rattle.smt_text.specs.Grammar.{OpenParenthesis, CloseParenthesis}
use Rattle.smt_text.specs.Internal.LexerStates.{Levels, On, State, At, act, add_if, depth_in, depth_of, flush, go_on, lex}
use Rattle.smt_text.specs.Internal.LexerStates.{may_end, move, run, settle, start, step, token_behind, token_in}
use Rattle.smt_text.specs.OpenPlaces.{is_quoted, AreOpenIn, IsFirst, IsLast, IsOpenList, IsOpenToken}
use Rattle.smt_text.specs.Places.{depth_at, depth_behind, token_at}
use Rattle.smt_text.specs.Reading.{Reads}
use Rattle.smt_text.specs.declared.lexer.AtomState.{AtomState}
use Rattle.smt_text.specs.declared.lexer.AtomState.TheVariants.{Nothing, Zero, Digits, Point, Fraction, Hash}
use Rattle.smt_text.specs.declared.lexer.AtomState.TheVariants.{HexMark, HexDigits, BinMark, BinDigits, Name}
use Rattle.smt_text.specs.declared.lexer.AtomState.TheVariants.{Colon, KeywordName, InText, TextQuote, InBars}
use Rattle.smt_text.specs.declared.lexer.AtomState.TheVariants.{AfterBar, InComment}
use Rattle.smt_text.specs.declared.lexer.LexerStep.{LexerStep}
use Rattle.smt_text.specs.declared.lexer.LexerStep.TheVariants.{Push, Skip, Finish, Open, Close, Stuck}
use Rattle.smt_text.specs.declared.unfinished.OpenPlaces.{OpenPlaces}
use Rattle.smt_trees.specs.Sexp.{Sexps, Items, Nil}

-- ## One step of the reader

-- what the reader's state is after a step
abbrev pub Stepped : LexerStep → State → State → Type 0
Stepped what old new = (token_in new ≡ token_behind what) × (depth_in new ≡ depth_behind what (depth_in old))

list_begins : (max_depth depth : ℕ) (levels : Levels) (new : State) → depth_of levels ≡ depth
    → settle (act max_depth OpenParenthesis levels) ≡ Some new → (token_in new ≡ Nothing) × (depth_in new ≡ depth + 1)
list_begins max_depth depth (On lists top) new d e = by (ltb (length lists) max_depth) e
  where
    by : (t : Bool) → settle (cond t (Some (On (Nil ∷ lists) top)) None) ≡ Some new
        → (token_in new ≡ Nothing) × (depth_in new ≡ depth + 1)
    by true e =
        let same : At Nothing [] (On (Nil ∷ lists) top) ≡ new = cc in
        (sym (ap token_in same), sym (ap depth_in same) ∙ omega (arith, d))
    by false e = absurd (cc)

list_ends : (max_depth depth : ℕ) (levels : Levels) (new : State) → depth_of levels ≡ depth
    → settle (act max_depth CloseParenthesis levels) ≡ Some new → (token_in new ≡ Nothing) × (depth_in new ≡ depth - 1)
list_ends max_depth depth (On [] top) new d e = absurd (cc)
list_ends max_depth depth (On (parts ∷ lists) top) new d e =
    let levels = add_if (Some (Items parts)) (On lists top) in
    let same : At Nothing [] levels ≡ new = cc in
    let fewer : depth_of levels ≡ length lists = depth_of-add_if (Some (Items parts)) (On lists top) in
    (sym (ap token_in same), sym (ap depth_in same) ∙ fewer ∙ omega (arith, d))

moved : (max_depth : ℕ) (what : LexerStep) (old new : State) (b : ℕ) → move max_depth what old b ≡ Some new
    → Stepped what old new
moved max_depth (Push next) (At token bytes levels) new b e =
    let same : At next (bytes ++ b ∷ []) levels ≡ new = cc in (sym (ap token_in same), sym (ap depth_in same))
moved max_depth (Skip next) (At token bytes levels) new b e =
    let same : At next bytes levels ≡ new = cc in (sym (ap token_in same), sym (ap depth_in same))
moved max_depth (Finish next) old new b e =
    let same : At next [] (flush old) ≡ new = cc in
    (sym (ap token_in same), sym (ap depth_in same) ∙ depth_of-flush old)
moved max_depth Open old new b e = list_begins max_depth (depth_in old) (flush old) new (depth_of-flush old) e
moved max_depth Close old new b e = list_ends max_depth (depth_in old) (flush old) new (depth_of-flush old) e
moved max_depth Stuck old new b e = absurd (cc)

-- ## Up to a place

run_none : (max_depth : ℕ) (s : State) (xs ys : List ℕ) → run max_depth s xs ≡ None → run max_depth s (xs ++ ys) ≡ None
run_none max_depth s [] ys e = absurd (cc)
run_none max_depth s (b ∷ xs) ys e = by (step max_depth s b) e (λ next. run_none max_depth next xs ys)
  where
    by : (o : Option State) → go_on o (λ next. run max_depth next xs) ≡ None
        → ((next : State) → run max_depth next xs ≡ None → run max_depth next (xs ++ ys) ≡ None)
        → go_on o (λ next. run max_depth next (xs ++ ys)) ≡ None
    by None h later = refl
    by (Some next) h later = later next h

last_step : (max_depth : ℕ) (s new : State) (b : ℕ) → run max_depth s (b ∷ []) ≡ Some new
    → step max_depth s b ≡ Some new
last_step max_depth s new b e = by (step max_depth s b) e
  where
    by : (o : Option State) → go_on o (λ next. run max_depth next []) ≡ Some new → o ≡ Some new
    by None h = absurd (cc)
    by (Some next) h = h

-- the reader's state is the text's at the place
pub follows : (max_depth : ℕ) (text : List ℕ) (place : ℕ) (s : State) → place ≤ length text
    → run max_depth start (take place text) ≡ Some s
    → (token_in s ≡ token_at text place) × (depth_in s ≡ depth_at text place)
follows max_depth text zero s le e =
    let same : start ≡ s = cc in (sym (ap token_in same), sym (ap depth_in same))
follows max_depth text (suc place) s le e =
    by (run max_depth start (take place text)) refl (λ mid. follows max_depth text place mid (omega arith))
  where
    b : ℕ
    b = get_or text place 0

    all : run max_depth start (take place text ++ b ∷ []) ≡ Some s
    all = ap (run max_depth start) (sym (take-suc text place 0 (omega arith))) ∙ e

    by : (o : Option State) → run max_depth start (take place text) ≡ o
        → ((mid : State) → run max_depth start (take place text) ≡ Some mid
        → (token_in mid ≡ token_at text place) × (depth_in mid ≡ depth_at text place))
        → (token_in s ≡ token_at text (suc place)) × (depth_in s ≡ depth_at text (suc place))
    by None h before =
        let clash : None ≡ Some s = sym (run_none max_depth start (take place text) (b ∷ []) h) ∙ all in
        absurd (cc)
    by (Some mid) h before =
        let one = last_step max_depth mid s b
        (sym (run-append max_depth start mid (take place text) (b ∷ []) h) ∙ all) in
        let known = before mid h in
        let same : lex (token_in mid) b ≡ lex (token_at text place) b = ap (λ t. lex t b) known.0 in
        let made = moved max_depth (lex (token_in mid) b) mid s b one in (
          made.0 ∙ ap token_behind same,
          made.1 ∙ ap (λ w. depth_behind w (depth_in mid)) same
              ∙ ap (depth_behind (lex (token_at text place) b)) known.1,
        )

-- ## Whole texts

not_quoted : (token : AtomState) → may_end token ≡ true → is_quoted token ≡ false
not_quoted Nothing e = refl
not_quoted Zero e = refl
not_quoted Digits e = refl
not_quoted Point e = refl
not_quoted Fraction e = refl
not_quoted Hash e = refl
not_quoted HexMark e = refl
not_quoted HexDigits e = refl
not_quoted BinMark e = refl
not_quoted BinDigits e = refl
not_quoted Name e = refl
not_quoted Colon e = refl
not_quoted KeywordName e = refl
not_quoted InText e = absurd (false≢true e)
not_quoted TextQuote e = refl
not_quoted InBars e = absurd (false≢true e)
not_quoted AfterBar e = refl
not_quoted InComment e = refl

no_first : (text : List ℕ) (o : Option ℕ) → depth_at text (length text) ≡ 0
    → IsFirst (IsOpenList text (length text)) o → o ≡ None
no_first text None d h = refl
no_first text (Some list) d h =
    absurd (omega (arith, d, h.0.stays (length text) h.0.within (omega arith)))

no_last : (text : List ℕ) (o : Option ℕ) → depth_at text (length text) ≡ 0
    → IsLast (IsOpenList text (length text)) o → o ≡ None
no_last text None d h = refl
no_last text (Some list) d h =
    absurd (omega (arith, d, h.0.stays (length text) h.0.within (omega arith)))

no_token : (text : List ℕ) (o : Option ℕ) → is_quoted (token_at text (length text)) ≡ false → IsOpenToken text o
    → o ≡ None
no_token text None q h = refl
no_token text (Some place) q h = absurd (false≢true (sym q ∙ h.0))

pub nothing_open : (max_depth : ℕ) (text : List ℕ) (trees : Sexps) (places : OpenPlaces)
    → Reads max_depth true text trees None → AreOpenIn text places
    → (places.outermost ≡ None) × (places.innermost ≡ None) × (places.token ≡ None)
nothing_open max_depth text trees places h open_there =
    let whole = reads-forest max_depth text trees h in
    let at = follows max_depth text (length text) whole.next (omega arith)
    (ap (run max_depth start) (take_all (length text) text (omega arith)) ∙ whole.runs) in
    let none : depth_at text (length text) ≡ 0 = sym at.1 ∙ sym (depth_of-flush whole.next) ∙ ap depth_of whole.trees in
    let outside : is_quoted (token_at text (length text)) ≡ false = ap is_quoted (sym at.0)
    ∙ not_quoted (token_in whole.next) whole.whole in (
      no_first text places.outermost none open_there.outermost,
      no_last text places.innermost none open_there.innermost,
      no_token text places.token outside open_there.token,
    )
