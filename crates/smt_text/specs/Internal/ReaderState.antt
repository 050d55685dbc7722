-- The state that a reader's value is.
use Rattle.std.specs.Prelude.{◌≡◌, ◌<◌, ◌≤◌, ◌+◌, ◌-◌, ◌⊎◌, ℕ, length, take, get_or, map, List, [], ◌∷◌, ◌++◌}
use Rattle.std.specs.Prelude.{Bool, true, false, Option, Some, None, Result, Ok, Err}
use Rattle.smt_faults.specs.declared.failure.Failure.{Failure}
use Rattle.smt_faults.specs.declared.failure.Failure.TheVariants.{Fault, Memory}
use Rattle.smt_faults.specs.declared.text_flaw.TextFlaw.{TextFlaw}
use Rattle.smt_faults.specs.declared.text_flaw.TextFlaw.TheVariants.{End}
use Rattle.smt_text.specs.declared.refusal.Refusal.{Refusal}
use Rattle.smt_text.specs.Internal.LexerStates.{Leaves, Levels, On, State, At, blame, depth_in, finished}
use Rattle.smt_text.specs.Internal.LexerStates.{flush, levels_in, lex, may_end, refusal_of, run, separated, start}
use Rattle.smt_text.specs.Internal.LexerStates.{step, token_in}
use Rattle.smt_text.specs.Lexical.{ends_token}
use Rattle.smt_text.specs.declared.lexer.AtomState.{AtomState}
use Rattle.smt_text.specs.declared.lexer.LexerStep.TheVariants.{Push}
use Rattle.smt_trees.specs.Sexp.{Sexps, Nil, Cons, append}
use Rattle.smt_trees.specs.Owned.{sexp_of, sexps_of}
use Rattle.smt_trees.specs.TapeView.{lists_of, text_of}
use Rattle.smt_text.specs.declared.lexer.AtomState.TheVariants.{Nothing}
use Rattle.smt_text.specs.declared.builder.Builder.{Builder}
use Rattle.smt_text.specs.declared.builder.Ready.{Ready}
use Rattle.smt_text.specs.declared.mark.Mark.{Mark}
use Rattle.smt_trees.specs.declared.owned.OwnedTree.{OwnedTree}
use Rattle.smt_text.specs.declared.reader.Reader.{Reader}

-- the trees of those that are ready
abbrev pub trees_in : List Ready → List OwnedTree
trees_in ready = map (λ r. r.tree) ready

abbrev pub levels_of : Builder → Levels
levels_of builder = On (lists_of builder.list) (sexps_of (trees_in builder.ready.items))

abbrev pub state_of : Reader → State
state_of reader = At reader.token reader.bytes.items (levels_of reader.builder)

-- how many bytes of the whole text are before the mark, where the piece ends at the limit
abbrev pub place_of : ℕ → Mark → ℕ
place_of limit mark = limit - (mark.left - mark.read)

-- what became of the trees at the top: nothing, or one more is ready, which ends at the mark, and no list is
-- open
abbrev pub EndsTree : Mark → Builder → Builder → Type 0
EndsTree end old new =
    (new.ready.items ≡ old.ready.items)
    ⊎ ((tree : OwnedTree)
    × (new.ready.items ≡ old.ready.items ++ record { tree = tree; end = place_of old.limit end } ∷ [])
    × (lists_of new.list ≡ []))

-- the bytes that were offered are there, or a list at the top took them with it
abbrev pub KeepsText : Builder → Builder → Type 0
KeepsText old new = (text_of new.list ≡ text_of old.list) ⊎ (text_of new.list ≡ [])

-- trees that were handed out before those at the top
abbrev pub under : Sexps → Levels → Levels
under taken (On lists top) = On lists (append taken top)

abbrev pub after_taken : Sexps → State → State
after_taken taken (At token bytes levels) = At token bytes (under taken levels)

-- the flaw of the text among what has failed: want of memory is none
abbrev pub flaw_found : Option (Failure TextFlaw) → Option TextFlaw
flaw_found None = None
flaw_found (Some (Fault flaw)) = Some flaw
flaw_found (Some Memory) = None

-- while more may come, the reader is in the state that these bytes leave, before which these trees were
-- handed out
abbrev pub GoesOnFrom : Bool → Reader → List ℕ → Sexps → Type 0
GoesOnFrom false reader fed taken =
    Leaves reader.max_depth fed (after_taken taken (state_of reader)) (flaw_found reader.failure)
GoesOnFrom true reader fed taken = Unit {0}

-- up to this many bytes the text, read from a state, is whole trees, if it ends there
pub record IsWholeAt (max_depth : ℕ) (s : State) (text : List ℕ) (count : ℕ) (trees : Sexps) : Type 0 where
  pub within : count ≤ length text
  pub end : State
  pub runs : run max_depth s (take count text) ≡ Some end
  pub all : flush end ≡ On [] trees
  pub whole : may_end (token_in end) ≡ true

-- the trees, after those before, have their ends in the text, which ends at the limit
abbrev pub AreMarked : ℕ → State → List ℕ → ℕ → Sexps → List Ready → Type 0
AreMarked max_depth s text limit before [] = Unit {0}
AreMarked max_depth s text limit before (r ∷ rs) =
    ((count : ℕ) × (r.end ≡ limit - (length text - count))
    × IsWholeAt max_depth s text count (append before (Cons (sexp_of r.tree) Nil)))
    × AreMarked max_depth s text limit (append before (Cons (sexp_of r.tree) Nil)) rs

-- the trees that became ready have their ends in the text, with which the piece ends
pub record Marks (old : Reader) (text : List ℕ) (new : Reader) : Type 0 where
  pub more : List Ready
  pub ready : new.builder.ready.items ≡ old.builder.ready.items ++ more
  pub marked : AreMarked old.max_depth (state_of old) text old.builder.limit
      (sexps_of (trees_in old.builder.ready.items)) more

-- at the end of each of these trees, the bytes fed are read to the trees up to there
abbrev pub AreWhole : ℕ → List ℕ → Sexps → List Ready → Type 0
AreWhole max_depth fed taken [] = Unit {0}
AreWhole max_depth fed taken (r ∷ rs) =
    IsWholeAt max_depth start fed r.end (append taken (Cons (sexp_of r.tree) Nil))
    × AreWhole max_depth fed (append taken (Cons (sexp_of r.tree) Nil)) rs

-- no tree became ready, or one that ends at the mark, where the text is whole trees if it ends in this state
abbrev pub Pushed : Mark → State → Reader → Reader → Type 0
Pushed end shown old new =
    (new.builder.ready.items ≡ old.builder.ready.items)
    ⊎ ((tree : OwnedTree)
    × (new.builder.ready.items
    ≡ old.builder.ready.items ++ record { tree = tree; end = place_of old.builder.limit end } ∷ [])
    × (flush shown ≡ On [] (sexps_of (trees_in new.builder.ready.items))))

-- the same of one byte, the first of those left of a piece: the tree ends before it or with it
abbrev pub PushedBy : ℕ → Reader → Reader → Type 0
PushedBy left old new =
    (new.builder.ready.items ≡ old.builder.ready.items)
    ⊎ ((Pushed (record { left = left; read = 0 }) (state_of old) old new
    × (may_end old.token ≡ true))
    ⊎ (Pushed (record { left = left; read = 1 }) (state_of new) old new
    × (may_end new.token ≡ true)))

-- so it is where the byte was read, and no tree became ready where it was refused
abbrev pub IfRead : {E : Type 0} → Result (Unit {0}) (Failure E) → Reader → Reader → Type 0 → Type 0
IfRead (Ok done) old new P = P
IfRead (Err (Fault e)) old new P = new.builder.ready.items ≡ old.builder.ready.items
IfRead (Err Memory) old new P = Unit {0}

-- so it is, unless memory was refused
abbrev pub UnlessRefused : {T E : Type 0} → Result T (Failure E) → Type 0 → Type 0
UnlessRefused (Ok x) P = P
UnlessRefused (Err (Fault e)) P = P
UnlessRefused (Err Memory) P = Unit {0}

-- nothing but the state has changed
abbrev pub IsBeside : Reader → Reader → Type 0
IsBeside old new =
    (new.fed ≡ old.fed) × (new.finished ≡ old.finished) × (new.failure ≡ old.failure)
    × (new.max_depth ≡ old.max_depth) × (new.tree_end ≡ old.tree_end)
    × (new.builder.limit ≡ old.builder.limit)

-- what a step of the reader did: it went to the state that it should, found that there is none and changed
-- nothing, or had no memory
abbrev pub Goes : Option State → Refusal → State → Result (Unit {0}) (Failure Refusal) → State → Type 0
Goes target refusal old (Ok done) new = target ≡ Some new
Goes target refusal old (Err (Fault e)) new = (target ≡ None) × (e ≡ refusal) × (new ≡ old)
Goes target refusal old (Err Memory) new = Unit {0}

-- what one read of the reader did: it went over some bytes of the text, or was refused the first, or had no
-- memory
abbrev pub GoesOver : ℕ → State → List ℕ → Result ℕ (Failure Refusal) → State → Type 0
GoesOver max_depth old text (Ok count) new =
    (0 < count) × (count ≤ length text) × (run max_depth old (take count text) ≡ Some new)
GoesOver max_depth old text (Err (Fault e)) new =
    (step max_depth old (get_or text 0 0) ≡ None)
    × (e ≡ refusal_of (lex (token_in old) (get_or text 0 0))) × (new ≡ old)
GoesOver max_depth old text (Err Memory) new = Unit {0}

-- the reader went over so many bytes of the text, up to where no token has begun
pub record GoesOn (old : Reader) (text : List ℕ) (count : ℕ) (new : Reader) : Type 0 where
  pub within : count ≤ length text
  pub runs : run old.max_depth (state_of old) (take count text) ≡ Some (state_of new)
  pub limit : new.max_depth ≡ old.max_depth
  pub token : new.token ≡ old.token
  pub bytes : new.bytes ≡ old.bytes

-- behind a mark of so many bytes, of which no token keeps one, a token begins with a byte that it keeps
pub record BeginsAtom (max_depth : ℕ) (s : State) (text : List ℕ) (mark : ℕ) (token : AtomState) : Type 0 where
  pub start : AtomState
  pub marked : run max_depth s (take mark text) ≡ Some (At start [] (levels_in s))
  pub first : lex token (get_or text mark 0) ≡ Push token → lex start (get_or text mark 0) ≡ Push token
  pub ended : (b : ℕ) → ends_token b ≡ true → lex token b ≡ separated b
  pub whole : may_end token ≡ true

-- what reading a piece did: it went over it, or up to a byte with which no text goes on, or had no memory
abbrev pub GoesThrough : ℕ → State → ℕ → List ℕ → Result (Unit {0}) (Failure TextFlaw) → State → Type 0
GoesThrough max_depth old fed piece (Ok done) new = run max_depth old piece ≡ Some new
GoesThrough max_depth old fed piece (Err (Fault flaw)) new =
    (place : ℕ) × (place < length piece) × (run max_depth old (take place piece) ≡ Some new)
    × (step max_depth new (get_or piece place 0) ≡ None)
    × (flaw ≡ blame (fed + place) (lex (token_in new) (get_or piece place 0)))
GoesThrough max_depth old fed piece (Err Memory) new = Unit {0}

-- what the end of the text did: the token that has begun ended, or a list or the token was not complete, or
-- there was no memory
abbrev pub Ends : State → ℕ → Result (Unit {0}) (Failure TextFlaw) → State → Type 0
Ends old fed (Ok done) new =
    (depth_in old ≡ 0) × (may_end (token_in old) ≡ true) × (finished Nothing old ≡ new)
Ends old fed (Err (Fault flaw)) new =
    ((0 < depth_in old) ⊎ (may_end (token_in old) ≡ false)) × (flaw ≡ End fed) × (new ≡ old)
Ends old fed (Err Memory) new = Unit {0}
