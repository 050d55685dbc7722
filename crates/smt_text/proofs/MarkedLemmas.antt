-- The ends of trees in a piece that is read.
use Rattle.std.proofs.Common.{◌≡◌, ◌<◌, ◌≤◌, ◌+◌, ◌-◌, ℕ, List, [], ◌∷◌, ◌++◌, length, take, get_or}
use Rattle.std.proofs.Common.{Some, Result, Ok, Err, true, refl, sym, ap, ◌∙◌, inl, inr, arith}
use Rattle.std.proofs.Common.{subst}
use Rattle.std.proofs.lemmas.List.{append-nil, append_assoc, map-append}
use Rattle.smt_text.proofs.EndingLemmas.{flush_none}
use Rattle.smt_text.proofs.ReaderCompleteness.{run-cons}
use Rattle.smt_text.proofs.RunLemmas.{at_nothing, close_step, further, marked_run, rest_is, rest_length, rest_of}
use Rattle.smt_text.proofs.SexpLemmas.{append_nil, append_assoc as sexps_assoc}
use Rattle.smt_text.specs.Internal.LexerStates.{State, On, At, add_if, atom_of, depth_of, ended, flush}
use Rattle.smt_text.specs.Internal.LexerStates.{lex, may_end, run, separated, step, token_in}
use Rattle.smt_text.specs.Internal.ReaderState.{levels_of, state_of, trees_in, AreMarked, BeginsAtom, EndsTree}
use Rattle.smt_text.specs.Internal.ReaderState.{GoesOn, Marks, PushedBy, UnlessRefused}
use Rattle.smt_faults.specs.declared.failure.Failure.{Failure}
use Rattle.smt_faults.specs.declared.failure.Failure.TheVariants.{Fault, Memory}
use Rattle.smt_text.specs.declared.builder.Ready.{Ready}
use Rattle.smt_text.specs.declared.lexer.AtomState.{AtomState}
use Rattle.smt_text.specs.declared.lexer.AtomState.TheVariants.{Nothing}
use Rattle.smt_text.specs.declared.lexer.LexerStep.TheVariants.{Push}
use Rattle.smt_text.specs.declared.reader.Reader.{Reader}
use Rattle.smt_trees.specs.Owned.{sexp_of, sexps_of}
use Rattle.smt_trees.specs.OwnedJoins.{sexps_of-append}
use Rattle.smt_trees.specs.Sexp.{Sexps, Nil, Cons, append}
use Rattle.smt_trees.specs.declared.owned.OwnedTree.{OwnedTree}

-- one more tree is ready
pub trees_pushed : (ready more : List Ready) (tree : OwnedTree) (end : ℕ)
    → more ≡ ready ++ record { tree = tree; end = end } ∷ [] → trees_in more ≡ trees_in ready ++ tree ∷ []
trees_pushed ready more tree end e =
    ap trees_in e ∙ map-append (λ (r : Ready). r.tree) ready (record { tree = tree; end = end } ∷ [])

pub trees_joined : (ready more : List Ready)
    → sexps_of (trees_in (ready ++ more)) ≡ append (sexps_of (trees_in ready)) (sexps_of (trees_in more))
trees_joined ready more =
    ap sexps_of (map-append (λ (r : Ready). r.tree) ready more) ∙ sexps_of-append (trees_in ready) (trees_in more)

pub sexps_pushed : (ready more : List Ready) (tree : OwnedTree) (end : ℕ)
    → more ≡ ready ++ record { tree = tree; end = end } ∷ []
    → sexps_of (trees_in more) ≡ append (sexps_of (trees_in ready)) (Cons (sexp_of tree) Nil)
sexps_pushed ready more tree end e =
    ap (λ x. sexps_of (trees_in x)) e ∙ trees_joined ready (record { tree = tree; end = end } ∷ [])

pub marks_none : (old : Reader) (text : List ℕ) (new : Reader)
    → new.builder.ready.items ≡ old.builder.ready.items → Marks old text new
marks_none old text new e =
    record { more = []; ready = e ∙ sym (append-nil old.builder.ready.items); marked = tt }

pub marks_one : (old : Reader) (text : List ℕ) (new : Reader) (tree : OwnedTree) (end count : ℕ)
    (shown : State)
    → new.builder.ready.items ≡ old.builder.ready.items ++ record { tree = tree; end = end } ∷ []
    → end ≡ old.builder.limit - (length text - count) → count ≤ length text
    → run old.max_depth (state_of old) (take count text) ≡ Some shown
    → flush shown ≡ On [] (sexps_of (trees_in new.builder.ready.items)) → may_end (token_in shown) ≡ true
    → Marks old text new
marks_one old text new tree end count shown e is within runs all whole = record {
  more = record { tree = tree; end = end } ∷ [];
  ready = e;
  marked = (
    (
      count,
      is,
      record {
        within = within;
        end = shown;
        runs = runs;
        all = all ∙ ap (On []) (sexps_pushed old.builder.ready.items new.builder.ready.items tree end e);
        whole = whole;
      },
    ),
    tt,
  );
}

-- a byte was read
step_runs : (max_depth : ℕ) (s next : State) (text : List ℕ) → 0 < length text
    → step max_depth s (get_or text 0 0) ≡ Some next → run max_depth s (take 1 text) ≡ Some next
step_runs max_depth s next [] some e = absurd (omega arith)
step_runs max_depth s next (b ∷ text) some e = run-cons max_depth s next b [] e

pub marks_byte : (old : Reader) (text : List ℕ) (new : Reader) → 0 < length text
    → step old.max_depth (state_of old) (get_or text 0 0) ≡ Some (state_of new)
    → PushedBy (length text) old new → Marks old text new
marks_byte old text new some e (inl same) = marks_none old text new same
marks_byte old text new some e (inr (inl (inl same, whole))) = marks_none old text new same
marks_byte old text new some e (inr (inl (inr (tree, pushed, all), whole))) =
    marks_one old text new tree (old.builder.limit - (length text - 0)) 0 (state_of old) pushed refl (omega arith) refl all
    whole
marks_byte old text new some e (inr (inr (inl same, whole))) = marks_none old text new same
marks_byte old text new some e (inr (inr (inr (tree, pushed, all), whole))) =
    marks_one old text new tree (old.builder.limit - (length text - 1)) 1 (state_of new) pushed refl (omega arith)
    (step_runs old.max_depth (state_of old) (state_of new) text some e) all whole

-- ## Tokens that end in the text

-- an atom that ends before a byte
pub marks_atom : (old new : Reader) (text : List ℕ) (mark n : ℕ) (token : AtomState)
    → BeginsAtom old.max_depth (state_of old) text mark token → 0 < n → mark + n < length text
    → ((k : ℕ) → k < n → lex token (get_or (rest_of text mark) k 0) ≡ Push token)
    → levels_of new.builder ≡ add_if (atom_of token (take n (rest_of text mark))) (levels_of old.builder)
    → EndsTree (record { left = length text; read = mark + n }) old.builder new.builder
    → Marks old text new
marks_atom old new text mark n token begins some lt kept adds (inl same) = marks_none old text new same
marks_atom old new text mark n token begins some lt kept adds (inr (tree, pushed, none)) =
    let said = take n (rest_of text mark) in
    marks_one old text new tree (old.builder.limit - (length text - (mark + n))) (mark + n)
    (At token said (levels_of old.builder)) pushed refl (omega arith)
    (marked_run old.max_depth (state_of old) text mark n token begins some (omega arith) kept)
    (sym adds ∙ ap (λ ls. On ls (sexps_of (trees_in new.builder.ready.items))) none) begins.whole

-- a list that ends with a byte
pub marks_end : (old new : Reader) (text : List ℕ) (count : ℕ) → count ≤ length text
    → Nothing ≡ new.token → run old.max_depth (state_of old) (take count text) ≡ Some (state_of new)
    → EndsTree (record { left = length text; read = count }) old.builder new.builder
    → Marks old text new
marks_end old new text count le token runs (inl same) = marks_none old text new same
marks_end old new text count le token runs (inr (tree, pushed, none)) =
    marks_one old text new tree (old.builder.limit - (length text - count)) count (state_of new) pushed refl le runs
    (flush_none new token ∙ ap (λ ls. On ls (sexps_of (trees_in new.builder.ready.items))) none)
    (ap may_end (sym token))

-- a parenthesis where no token has begun
pub marks_close : (old new : Reader) (text : List ℕ) → 0 < length text → get_or text 0 0 ≡ 41
    → old.token ≡ Nothing → old.bytes.items ≡ [] → new.token ≡ old.token → new.bytes ≡ old.bytes
    → 0 < depth_of (levels_of old.builder) → ended (levels_of old.builder) ≡ levels_of new.builder
    → EndsTree (record { left = length text; read = 1 }) old.builder new.builder
    → Marks old text new
marks_close old new text some byte token bytes same kept deep closes ends =
    let levels = levels_of old.builder in
    let before : At Nothing [] levels ≡ state_of old = at_nothing old.token old.bytes.items levels token bytes in
    let after : At Nothing [] (levels_of new.builder) ≡ state_of new = at_nothing new.token new.bytes.items
    (levels_of new.builder) (same ∙ token) (ap (λ v. v.items) kept ∙ bytes) in
    let goes : step old.max_depth (state_of old) (get_or text 0 0) ≡ Some (state_of new) =
    ap (λ s. step old.max_depth s (get_or text 0 0)) (sym before)
    ∙ close_step old.max_depth levels (levels_of new.builder) Nothing [] (get_or text 0 0)
    (subst (λ b. lex Nothing b ≡ separated b) (sym byte) refl) byte deep closes ∙ ap Some after in
    marks_end old new text 1 (omega arith) (sym (same ∙ token))
    (step_runs old.max_depth (state_of old) (state_of new) text some goes) ends

-- ## Some bytes, and more behind them

marked_join : (max_depth : ℕ) (s : State) (text : List ℕ) (limit : ℕ) (before : Sexps) (xs ys : List Ready)
    → AreMarked max_depth s text limit before xs
    → AreMarked max_depth s text limit (append before (sexps_of (trees_in xs))) ys
    → AreMarked max_depth s text limit before (xs ++ ys)
marked_join max_depth s text limit before [] ys h k =
    subst (λ b. AreMarked max_depth s text limit b ys) (append_nil before) k
marked_join max_depth s text limit before (r ∷ xs) ys h k = (
  h.0,
  marked_join max_depth s text limit (append before (Cons (sexp_of r.tree) Nil)) xs ys h.1
      (subst (λ b. AreMarked max_depth s text limit b ys)
      (sym (sexps_assoc before (Cons (sexp_of r.tree) Nil) (sexps_of (trees_in xs)))) k),
)

marked_later : (max_depth : ℕ) (s mid : State) (text : List ℕ) (place limit : ℕ) (before : Sexps) (ys : List Ready)
    → place ≤ length text → run max_depth s (take place text) ≡ Some mid
    → AreMarked max_depth mid (rest_of text place) limit before ys → AreMarked max_depth s text limit before ys
marked_later max_depth s mid text place limit before [] le e h = tt
marked_later max_depth s mid text place limit before (r ∷ ys) le e h =
    let count = h.0.0 in
    let at = h.0.2 in
    let rest : length (rest_of text place) ≡ length text - place = rest_length text place in
    let same : length (rest_of text place) - count ≡ length text - (place + count) = omega arith in (
      (
        place + count,
        h.0.1 ∙ ap (λ n. limit - n) same,
        record {
          within = omega (arith, at.within);
          end = at.end;
          runs = further max_depth s mid at.end text place count e at.runs;
          all = at.all;
          whole = at.whole;
        },
      ),
      marked_later max_depth s mid text place limit (append before (Cons (sexp_of r.tree) Nil)) ys le e h.1,
    )

pub marks_further : (old mid : Reader) (text : List ℕ) (new : Reader) (place : ℕ) → place ≤ length text
    → run old.max_depth (state_of old) (take place text) ≡ Some (state_of mid) → mid.max_depth ≡ old.max_depth
    → mid.builder.limit ≡ old.builder.limit → Marks old text mid → Marks mid (rest_of text place) new → Marks old text new
marks_further old mid text new place le e m same h k =
    let ready = old.builder.ready.items in
    let trees : sexps_of (trees_in mid.builder.ready.items)
    ≡ append (sexps_of (trees_in ready)) (sexps_of (trees_in h.more)) = ap (λ x. sexps_of (trees_in x)) h.ready
    ∙ trees_joined ready h.more in
    let limit = old.builder.limit in
    let at = subst (λ n. AreMarked mid.max_depth (state_of mid) (rest_of text place) n
    (sexps_of (trees_in mid.builder.ready.items)) k.more) same k.marked in
    let later = subst (λ n. AreMarked n (state_of mid) (rest_of text place) limit
    (sexps_of (trees_in mid.builder.ready.items)) k.more) m at in
    record {
      more = h.more ++ k.more;
      ready = k.ready ∙ ap (λ x. x ++ k.more) h.ready ∙ append_assoc ready h.more k.more;
      marked = marked_join old.max_depth (state_of old) text limit (sexps_of (trees_in ready)) h.more k.more h.marked
          (marked_later old.max_depth (state_of old) (state_of mid) text place limit
          (append (sexps_of (trees_in ready)) (sexps_of (trees_in h.more))) k.more le e
          (subst (λ b. AreMarked old.max_depth (state_of mid) (rest_of text place) limit b k.more) trees later));
    }

-- nothing was read, and then something
pub marks_again : {T E : Type 0} (old mid : Reader) (text : List ℕ) (count : ℕ) (new : Reader)
    (result : Result T (Failure E)) → count ≡ 0 → mid.builder.limit ≡ old.builder.limit
    → GoesOn old text count mid → Marks old text mid
    → UnlessRefused result (Marks mid text new) → UnlessRefused result (Marks old text new)
marks_again {T} {E} old mid text count new result none same goes h k = by result k
  where
    all : Marks mid text new → Marks old text new
    all m = marks_further old mid text new 0 (omega arith)
        (subst (λ n. run old.max_depth (state_of old) (take n text) ≡ Some (state_of mid)) none goes.runs) goes.limit same h
        (subst (λ t. Marks mid t new) (sym (rest_is text 0)) m)

    by : (result : Result T (Failure E)) → UnlessRefused result (Marks mid text new)
        → UnlessRefused result (Marks old text new)
    by (Ok x) m = all m
    by (Err (Fault e)) m = all m
    by (Err Memory) m = tt
