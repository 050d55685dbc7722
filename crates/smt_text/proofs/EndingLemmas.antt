-- The tree that a byte ends.
use Rattle.std.proofs.Common.{◌≡◌, ◌⊎◌, ◌<◌, ℕ, List, [], ◌∷◌, ◌++◌, length, refl, sym, ap, ◌∙◌, inl, inr}
use Rattle.std.proofs.Common.{Bool, true, false, Option, Some, None, Result, Ok, Err, arith, subst}
use Rattle.std.specs.Prelude.{◌==◌, if◌then◌else◌}
use Rattle.smt_text.specs.Grammar.{CloseParenthesis}
use Rattle.smt_text.specs.Internal.LexerStates.{Levels, State, On, At, act, depth_of, finished, flush, lex}
use Rattle.smt_text.specs.Internal.LexerStates.{may_end, own_end, settle}
use Rattle.smt_text.specs.Internal.ReaderState.{levels_of, place_of, state_of, trees_in, EndsTree, Goes, IfRead}
use Rattle.smt_text.specs.Internal.ReaderState.{Pushed, PushedBy}
use Rattle.smt_faults.specs.declared.failure.Failure.{Failure}
use Rattle.smt_faults.specs.declared.failure.Failure.TheVariants.{Fault, Memory}
use Rattle.smt_text.specs.declared.refusal.Refusal.{Refusal}
use Rattle.smt_text.specs.declared.refusal.Refusal.TheVariants.{Unfit}
use Rattle.smt_text.specs.Lexical.{is_binary_digit, is_digit, is_hexadecimal_digit, is_quoted_byte, is_symbol_byte}
use Rattle.smt_text.specs.Lexical.{is_text_byte}
use Rattle.smt_text.specs.declared.builder.Builder.{Builder}
use Rattle.smt_text.specs.declared.builder.Ready.{Ready}
use Rattle.smt_text.specs.declared.lexer.AtomState.{AtomState}
use Rattle.smt_text.specs.declared.lexer.AtomState.TheVariants.{Nothing, Zero, Digits, Point, Fraction, Hash}
use Rattle.smt_text.specs.declared.lexer.AtomState.TheVariants.{HexMark, HexDigits, BinMark, BinDigits, Name}
use Rattle.smt_text.specs.declared.lexer.AtomState.TheVariants.{Colon, KeywordName, InText, TextQuote, InBars}
use Rattle.smt_text.specs.declared.lexer.AtomState.TheVariants.{AfterBar, InComment}
use Rattle.smt_text.specs.declared.lexer.LexerStep.{LexerStep}
use Rattle.smt_text.specs.declared.lexer.LexerStep.TheVariants.{Push, Skip, Finish, Open, Close, Stuck}
use Rattle.smt_text.specs.declared.mark.Mark.{Mark}
use Rattle.smt_text.specs.declared.reader.Reader.{Reader}
use Rattle.smt_trees.specs.Owned.{sexps_of}
use Rattle.smt_trees.specs.TapeView.{lists_of}
use Rattle.smt_trees.specs.declared.owned.OwnedTree.{OwnedTree}

-- ## Where a token has ended, the text might have ended

abbrev pub ends : LexerStep → Bool
ends (Push next) = false
ends (Skip next) = false
ends (Finish next) = true
ends Open = true
ends Close = true
ends Stuck = false

pub needed : (t : Bool) (made : AtomState) → ends (if t then Push made else Stuck) ≡ true → ⊥
needed true made e = cc
needed false made e = cc

pub in_hash : (s t : Bool) → ends (if s then Skip HexMark else if t then Skip BinMark else Stuck) ≡ true → ⊥
in_hash true t e = cc
in_hash false true e = cc
in_hash false false e = cc

pub in_text : (s t : Bool) → ends (if s then Skip TextQuote else if t then Push InText else Stuck) ≡ true → ⊥
in_text true t e = cc
in_text false true e = cc
in_text false false e = cc

in_bars : (s t : Bool) → ends (if s then Push InBars else if t then Finish AfterBar else Stuck) ≡ true
    → (if s then Push InBars else if t then Finish AfterBar else Stuck) ≡ Finish AfterBar
in_bars true t e = absurd (cc)
in_bars false true e = refl
in_bars false false e = absurd (cc)

pub shows_end : (token : AtomState) (b : ℕ) → ends (lex token b) ≡ true
    → (lex token b ≡ Finish AfterBar) ⊎ (may_end token ≡ true)
shows_end Nothing b e = inr refl
shows_end Zero b e = inr refl
shows_end Digits b e = inr refl
shows_end Point b e = absurd (needed (is_digit b) Fraction e)
shows_end Fraction b e = inr refl
shows_end Hash b e = absurd (in_hash (b == 120) (b == 98) e)
shows_end HexMark b e = absurd (needed (is_hexadecimal_digit b) HexDigits e)
shows_end HexDigits b e = inr refl
shows_end BinMark b e = absurd (needed (is_binary_digit b) BinDigits e)
shows_end BinDigits b e = inr refl
shows_end Name b e = inr refl
shows_end Colon b e = absurd (needed (is_symbol_byte b) KeywordName e)
shows_end KeywordName b e = inr refl
shows_end InText b e = absurd (in_text (b == 34) (is_text_byte b) e)
shows_end TextQuote b e = inr refl
shows_end InBars b e = inl (in_bars (is_quoted_byte b) (b == 124) e)
shows_end AfterBar b e = inr refl
shows_end InComment b e = inr refl

pub own_none : (next : AtomState) → (next ≡ AfterBar) ⊎ (own_end next ≡ 0)
own_none Nothing = inr refl
own_none Zero = inr refl
own_none Digits = inr refl
own_none Point = inr refl
own_none Fraction = inr refl
own_none Hash = inr refl
own_none HexMark = inr refl
own_none HexDigits = inr refl
own_none BinMark = inr refl
own_none BinDigits = inr refl
own_none Name = inr refl
own_none Colon = inr refl
own_none KeywordName = inr refl
own_none InText = inr refl
own_none TextQuote = inr refl
own_none InBars = inr refl
own_none AfterBar = inl refl
own_none InComment = inr refl

-- ## What became ready

pub pushed_shown : (end : Mark) (shown : State) (old new : Reader) → flush shown ≡ levels_of new.builder
    → EndsTree end old.builder new.builder → Pushed end shown old new
pushed_shown end shown old new e (inl same) = inl same
pushed_shown end shown old new e (inr (tree, pushed, none)) =
    inr (tree, pushed, e ∙ ap (λ ls. On ls (sexps_of (trees_in new.builder.ready.items))) none)

-- a state in which no token has begun shows its trees
pub flush_at : (next : AtomState) (s : State) (reader : Reader) → finished next s ≡ state_of reader
    → flush s ≡ levels_of reader.builder
flush_at next s reader e = let levels : flush s ≡ levels_of reader.builder = cc in levels

token_at : (next : AtomState) (s : State) (reader : Reader) → finished next s ≡ state_of reader
    → next ≡ reader.token
token_at next s reader e = let token : next ≡ reader.token = cc in token

pub flush_none : (reader : Reader) → Nothing ≡ reader.token → flush (state_of reader) ≡ levels_of reader.builder
flush_none reader e =
    subst (λ t. flush (At t reader.bytes.items (levels_of reader.builder)) ≡ levels_of reader.builder) e refl

flush_bar : (reader : Reader) → AfterBar ≡ reader.token → flush (state_of reader) ≡ levels_of reader.builder
flush_bar reader e =
    subst (λ t. flush (At t reader.bytes.items (levels_of reader.builder)) ≡ levels_of reader.builder) e refl

-- a list begins, and ends the token before it
pub begin_pushed : (end : Mark) (old mid new : Reader) → new.builder.ready ≡ mid.builder.ready
    → finished Nothing (state_of old) ≡ state_of mid → EndsTree end old.builder mid.builder
    → Pushed end (state_of old) old new
begin_pushed end old mid new same e h =
    by (pushed_shown end (state_of old) old mid (flush_at Nothing (state_of old) mid e) h)
  where
    by : Pushed end (state_of old) old mid → Pushed end (state_of old) old new
    by (inl none) = inl (ap (λ r. r.items) same ∙ none)
    by (inr (tree, pushed, all)) = inr (
      tree,
      ap (λ r. r.items) same ∙ pushed,
      all ∙ ap (λ r. On [] (sexps_of (trees_in r.items))) (sym same),
    )

-- within a list nothing becomes ready
pub none_inside : (end : Mark) (old new : Builder) → 0 < depth_of (levels_of new) → EndsTree end old new
    → new.ready.items ≡ old.ready.items
none_inside end old new deep (inl same) = same
none_inside end old new deep (inr (tree, pushed, none)) = absurd (omega (arith, deep, ap length none))

pub ends_inside : (before end : Mark) (old mid new : Builder) → 0 < depth_of (levels_of mid)
    → mid.limit ≡ old.limit → EndsTree before old mid → EndsTree end mid new → EndsTree end old new
ends_inside before end old mid new deep same h k =
    subst (λ (ready : List Ready). (new.ready.items ≡ ready) ⊎ ((tree : OwnedTree)
    × (new.ready.items ≡ ready ++ record { tree = tree; end = place_of old.limit end } ∷ [])
    × (lists_of new.list ≡ []))) (none_inside before old mid deep h)
    (subst (λ n. (new.ready.items ≡ mid.ready.items) ⊎ ((tree : OwnedTree)
    × (new.ready.items ≡ mid.ready.items ++ record { tree = tree; end = place_of n end } ∷ [])
    × (lists_of new.list ≡ []))) same k)

-- a list ends, behind the token before it
pub end_pushed : (before end : Mark) (old mid new : Reader) → finished Nothing (state_of old) ≡ state_of mid
    → new.token ≡ mid.token → mid.builder.limit ≡ old.builder.limit → 0 < depth_of (levels_of mid.builder)
    → EndsTree before old.builder mid.builder
    → EndsTree end mid.builder new.builder → Pushed end (state_of new) old new
end_pushed before end old mid new e token same deep h k =
    pushed_shown end (state_of new) old new (flush_none new (token_at Nothing (state_of old) mid e ∙ sym token))
    (ends_inside before end old.builder mid.builder new.builder deep same h k)

-- the byte that ended the token
pub finish_pushed : (left : ℕ) (old new : Reader) (next : AtomState) (b read : ℕ)
    → lex old.token b ≡ Finish next → read ≡ own_end next → finished next (state_of old) ≡ state_of new
    → EndsTree (record { left = left; read = read }) old.builder new.builder
    → PushedBy left old new
finish_pushed left old new next b read e is f h = by (own_none next)
  where
    with : (n : ℕ) → read ≡ n
        → EndsTree (record { left = left; read = n }) old.builder new.builder
    with n same =
        subst (λ x. EndsTree (record { left = left; read = x }) old.builder new.builder) same h

    before : read ≡ 0 → (lex old.token b ≡ Finish AfterBar) ⊎ (may_end old.token ≡ true)
        → PushedBy left old new
    before none (inl bar) =
        let same : next ≡ AfterBar = cc in
        absurd (omega (arith, none, is, ap own_end same))
    before none (inr whole) = inr (inl (
      pushed_shown (record { left = left; read = 0 }) (state_of old) old new
          (flush_at next (state_of old) new f) (with 0 none),
      whole,
    ))

    by : (next ≡ AfterBar) ⊎ (own_end next ≡ 0) → PushedBy left old new
    by (inl bar) =
        let token : AfterBar ≡ new.token = sym bar ∙ token_at next (state_of old) new f in
        inr (inr (
          pushed_shown (record { left = left; read = 1 }) (state_of new) old new
              (flush_bar new token) (with 1 (is ∙ ap own_end bar)),
          ap may_end (sym token),
        ))
    by (inr none) = before (is ∙ none) (shows_end old.token b (ap ends e))

open_pushed : (left : ℕ) (old new : Reader) (b : ℕ) → lex old.token b ≡ Open
    → Pushed (record { left = left; read = 0 }) (state_of old) old new → PushedBy left old new
open_pushed left old new b e h = by (shows_end old.token b (ap ends e))
  where
    by : (lex old.token b ≡ Finish AfterBar) ⊎ (may_end old.token ≡ true) → PushedBy left old new
    by (inl bar) = absurd (cc)
    by (inr whole) = inr (inl (h, whole))

pub open_read : (left : ℕ) (old new : Reader) (b : ℕ) (result : Result (Unit {0}) (Failure Refusal))
    → lex old.token b ≡ Open
    → IfRead result old new
    (Pushed (record { left = left; read = 0 }) (state_of old) old new)
    → IfRead result old new (PushedBy left old new)
open_read left old new b (Ok done) e h = open_pushed left old new b e h
open_read left old new b (Err (Fault refusal)) e h = h
open_read left old new b (Err Memory) e h = tt

settled_token : (o : Option Levels) (new : Reader) → settle o ≡ Some (state_of new) → Nothing ≡ new.token
settled_token None new e = absurd (cc)
settled_token (Some levels) new e = let token : Nothing ≡ new.token = cc in token

pub close_read : (left max_depth : ℕ) (old new : Reader) (result : Result (Unit {0}) (Failure Refusal))
    → Goes (settle (act max_depth CloseParenthesis (flush (state_of old)))) Unfit (state_of old) result (state_of new)
    → IfRead result old new
    (Pushed (record { left = left; read = 1 }) (state_of new) old new)
    → IfRead result old new (PushedBy left old new)
close_read left max_depth old new (Ok done) e h = inr (inr (
  h,
  ap may_end (sym (settled_token (act max_depth CloseParenthesis (flush (state_of old))) new e)),
))
close_read left max_depth old new (Err (Fault refusal)) e h = h
close_read left max_depth old new (Err Memory) e h = tt
