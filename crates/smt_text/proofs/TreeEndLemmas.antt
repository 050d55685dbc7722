-- The ends of the trees of the bytes that were fed.
use Rattle.std.proofs.Common.{◌≡◌, ◌≢◌, ◌⊎◌, ◌≤◌, ◌+◌, ◌-◌, ℕ, List, [], ◌∷◌, ◌++◌, length, take, Some}
use Rattle.std.proofs.Common.{None, Result, Ok, Err, true, false, refl, sym, ap, ◌∙◌, inl, inr, arith, subst}
use Rattle.std.specs.Result.{result_err}
use Rattle.std.proofs.Math.Seq.{take-append-add}
use Rattle.std.proofs.lemmas.List.{append-nil, length-append, take-append-le, take_all}
use Rattle.smt_text.proofs.MarkedLemmas.{sexps_pushed}
use Rattle.smt_text.proofs.OrderLemmas.{later_end}
use Rattle.smt_text.proofs.ReaderCompleteness.{run-append}
use Rattle.smt_text.proofs.ReaderLemmas.{flush_after, runs_on, run_after, token_after, after_if}
use Rattle.smt_text.proofs.ReadingLemmas.{ends_outside}
use Rattle.smt_text.proofs.SexpLemmas.{append_nil, append_assoc as sexps_assoc}
use Rattle.smt_text.specs.Internal.LexerStates.{State, On, may_end, run, start}
use Rattle.smt_text.specs.Internal.ReaderState.{after_taken, state_of, trees_in, under, AreMarked, AreWhole, Ends}
use Rattle.smt_text.specs.Internal.ReaderState.{IfRead, IsWholeAt, Marks, Pushed, UnlessRefused}
use Rattle.smt_text.specs.Reader.{bytes_fed, is_finished, KeepsEnds, StandsFor}
use Rattle.smt_text.specs.Reading.{Reads}
use Rattle.smt_text.specs.declared.builder.Ready.{Ready}
use Rattle.smt_text.specs.declared.reader.Reader.{Reader}
use Rattle.smt_faults.specs.declared.failure.Failure.{Failure}
use Rattle.smt_faults.specs.declared.failure.Failure.TheVariants.{Fault, Memory}
use Rattle.smt_faults.specs.declared.text_flaw.TextFlaw.{TextFlaw}
use Rattle.smt_trees.specs.Owned.{sexp_of, sexps_of}
use Rattle.smt_trees.specs.Sexp.{Sexp, Sexps, Nil, Cons, append}

-- more of the text changes no end
whole_at_more : (max_depth : ℕ) (s : State) (text more : List ℕ) (count : ℕ) (trees : Sexps)
    → IsWholeAt max_depth s text count trees → IsWholeAt max_depth s (text ++ more) count trees
whole_at_more max_depth s text more count trees h = record {
  within = omega (arith, h.within, length-append text more);
  end = h.end;
  runs = ap (run max_depth s) (take-append-le count text more h.within) ∙ h.runs;
  all = h.all;
  whole = h.whole;
}

whole_more : (max_depth : ℕ) (fed more : List ℕ) (taken : Sexps) (ready : List Ready)
    → AreWhole max_depth fed taken ready → AreWhole max_depth (fed ++ more) taken ready
whole_more max_depth fed more taken [] h = tt
whole_more max_depth fed more taken (r ∷ ready) h = (
  whole_at_more max_depth start fed more r.end (append taken (Cons (sexp_of r.tree) Nil)) h.0,
  whole_more max_depth fed more (append taken (Cons (sexp_of r.tree) Nil)) ready h.1,
)

whole_join : (max_depth : ℕ) (fed : List ℕ) (taken : Sexps) (xs ys : List Ready) → AreWhole max_depth fed taken xs
    → AreWhole max_depth fed (append taken (sexps_of (trees_in xs))) ys → AreWhole max_depth fed taken (xs ++ ys)
whole_join max_depth fed taken [] ys h k = subst (λ t. AreWhole max_depth fed t ys) (append_nil taken) k
whole_join max_depth fed taken (r ∷ xs) ys h k = (
  h.0,
  whole_join max_depth fed (append taken (Cons (sexp_of r.tree) Nil)) xs ys h.1
      (subst (λ t. AreWhole max_depth fed t ys)
      (sym (sexps_assoc taken (Cons (sexp_of r.tree) Nil) (sexps_of (trees_in xs)))) k),
)

-- the ends in a piece, behind what was fed before
whole_behind : (max_depth : ℕ) (fed piece : List ℕ) (s : State) (taken trees : Sexps) (count : ℕ)
    → run max_depth start fed ≡ Some (after_taken taken s) → IsWholeAt max_depth s piece count trees
    → IsWholeAt max_depth start (fed ++ piece) (length fed + count) (append taken trees)
whole_behind max_depth fed piece s taken trees count e h = record {
  within = omega (arith, h.within, length-append fed piece);
  end = after_taken taken h.end;
  runs = ap (run max_depth start) (take-append-add fed piece count)
      ∙ run-append max_depth start (after_taken taken s) fed (take count piece) e
      ∙ run_after max_depth taken s (take count piece) ∙ ap (after_if taken) h.runs;
  all = flush_after taken h.end ∙ ap (under taken) h.all;
  whole = ap may_end (token_after taken h.end) ∙ h.whole;
}

marked_whole : (max_depth : ℕ) (fed piece : List ℕ) (s : State) (limit : ℕ) (taken before : Sexps)
    (ready : List Ready) → run max_depth start fed ≡ Some (after_taken taken s)
    → limit ≡ length fed + length piece → AreMarked max_depth s piece limit before ready
    → AreWhole max_depth (fed ++ piece) (append taken before) ready
marked_whole max_depth fed piece s limit taken before [] e is h = tt
marked_whole max_depth fed piece s limit taken before (r ∷ ready) e is h =
    let count = h.0.0 in
    let trees = append before (Cons (sexp_of r.tree) Nil) in
    let at : r.end ≡ length fed + count = omega (arith, h.0.1, h.0.2.within) in
    let all : append taken trees ≡ append (append taken before) (Cons (sexp_of r.tree) Nil) =
    sym (sexps_assoc taken before (Cons (sexp_of r.tree) Nil)) in (
      subst (λ n. IsWholeAt max_depth start (fed ++ piece) n (append (append taken before) (Cons (sexp_of r.tree) Nil)))
          (sym at) (subst (λ t. IsWholeAt max_depth start (fed ++ piece) (length fed + count) t) all
          (whole_behind max_depth fed piece s taken trees count e h.0.2)),
      subst (λ t. AreWhole max_depth (fed ++ piece) t ready) all
          (marked_whole max_depth fed piece s limit taken trees ready e is h.1),
    )

-- ## The reader

parts : (reader : Reader) (fed : List ℕ) (taken : Sexps) → KeepsEnds reader fed taken
    → IsWholeAt reader.max_depth start fed reader.tree_end taken
    × ((reader.failure ≡ Some Memory) ⊎ AreWhole reader.max_depth fed taken reader.builder.ready.items)
unfolding KeepsEnds
parts reader fed taken h = h

-- what is known while nothing has failed
wholes : (reader : Reader) (fed : List ℕ) (taken : Sexps) → reader.failure ≡ None → KeepsEnds reader fed taken
    → AreWhole reader.max_depth fed taken reader.builder.ready.items
wholes reader fed taken n h = by (parts reader fed taken h).1
  where
    by : (reader.failure ≡ Some Memory) ⊎ AreWhole reader.max_depth fed taken reader.builder.ready.items
        → AreWhole reader.max_depth fed taken reader.builder.ready.items
    by (inl m) = absurd (cc)
    by (inr w) = w

ends_if : (reader : Reader) (max_depth end : ℕ) (fed : List ℕ) (taken : Sexps) (ready : List Ready)
    → reader.max_depth ≡ max_depth → reader.tree_end ≡ end → reader.builder.ready.items ≡ ready
    → IsWholeAt max_depth start fed end taken
    → (reader.failure ≡ Some Memory) ⊎ AreWhole max_depth fed taken ready → KeepsEnds reader fed taken
unfolding KeepsEnds
ends_if reader max_depth end fed taken ready m e r h k = (
  subst (λ n. IsWholeAt n start fed reader.tree_end taken) (sym m)
      (subst (λ n. IsWholeAt max_depth start fed n taken) (sym e) h),
  subst (λ n. (reader.failure ≡ Some Memory) ⊎ AreWhole n fed taken reader.builder.ready.items) (sym m)
      (subst (λ x. (reader.failure ≡ Some Memory) ⊎ AreWhole max_depth fed taken x) (sym r) k),
)

-- before any byte
pub ends_new : (reader : Reader) → reader.tree_end ≡ 0 → reader.builder.ready.items ≡ []
    → KeepsEnds reader [] Nil
ends_new reader e r = ends_if reader reader.max_depth 0 [] Nil [] refl e r
    (record { within = omega arith; end = start; runs = refl; all = refl; whole = refl }) (inr tt)

-- the reader, about to read a piece that ends at the limit
abbrev pub limited : ℕ → Reader → Reader
limited limit reader = record reader { builder = record reader.builder { limit = limit } }

-- one more piece
ends_marked : (old new : Reader) (piece fed : List ℕ) (taken : Sexps) (limit : ℕ) → is_finished old ≡ false
    → old.failure ≡ None → new.max_depth ≡ old.max_depth → new.tree_end ≡ old.tree_end
    → limit ≡ length fed + length piece → (mid : Reader) → new.builder ≡ mid.builder
    → Marks (limited limit old) piece mid → StandsFor old fed taken → KeepsEnds old fed taken
    → KeepsEnds new (fed ++ piece) taken
ends_marked old new piece fed taken limit e n m same is mid b marks h k =
    let ready = old.builder.ready.items in
    let all : new.builder.ready.items ≡ ready ++ marks.more = ap (λ x. x.ready.items) b ∙ marks.ready in
    ends_if new old.max_depth old.tree_end (fed ++ piece) taken (ready ++ marks.more) m same all
    (whole_at_more old.max_depth start fed piece old.tree_end taken (parts old fed taken k).0)
    (inr (whole_join old.max_depth (fed ++ piece) taken ready marks.more
    (whole_more old.max_depth fed piece taken ready (wholes old fed taken n k))
    (marked_whole old.max_depth fed piece (state_of old) limit taken (sexps_of (trees_in ready)) marks.more
    (runs_on old fed taken h e n) is marks.marked)))

pub ends_read : (old new mid : Reader) (piece : List ℕ) (result : Result (Unit {0}) (Failure TextFlaw))
    (fed : List ℕ) (taken : Sexps) → is_finished old ≡ false → old.failure ≡ None
    → new.max_depth ≡ old.max_depth → new.tree_end ≡ old.tree_end → new.builder ≡ mid.builder
    → new.failure ≡ result_err result
    → UnlessRefused result (Marks (limited (bytes_fed old + length piece) old) piece mid) → StandsFor old fed taken
    → KeepsEnds old fed taken → KeepsEnds new (fed ++ piece) taken
ends_read old new mid piece (Ok done) fed taken e n m same b f marks h k =
    ends_marked old new piece fed taken (bytes_fed old + length piece) e n m same (ap (λ x. x + length piece) h.0) mid b
    marks h k
ends_read old new mid piece (Err (Fault flaw)) fed taken e n m same b f marks h k =
    ends_marked old new piece fed taken (bytes_fed old + length piece) e n m same (ap (λ x. x + length piece) h.0) mid b
    marks h k
ends_read old new mid piece (Err Memory) fed taken e n m same b f marks h k =
    ends_if new old.max_depth old.tree_end (fed ++ piece) taken new.builder.ready.items m same refl
    (whole_at_more old.max_depth start fed piece old.tree_end taken (parts old fed taken k).0) (inl f)

pub ends_skip : (old new : Reader) (piece fed : List ℕ) (taken : Sexps) → new.max_depth ≡ old.max_depth
    → new.tree_end ≡ old.tree_end → new.builder.ready.items ≡ old.builder.ready.items
    → new.failure ≡ old.failure → KeepsEnds old fed taken → KeepsEnds new (fed ++ piece) taken
ends_skip old new piece fed taken m same r f k =
    ends_if new old.max_depth old.tree_end (fed ++ piece) taken old.builder.ready.items m same r
    (whole_at_more old.max_depth start fed piece old.tree_end taken (parts old fed taken k).0) (by (parts old fed taken k).1)
  where
    by : (old.failure ≡ Some Memory) ⊎ AreWhole old.max_depth fed taken old.builder.ready.items
        → (new.failure ≡ Some Memory) ⊎ AreWhole old.max_depth (fed ++ piece) taken old.builder.ready.items
    by (inl memory) = inl (f ∙ memory)
    by (inr w) = inr (whole_more old.max_depth fed piece taken old.builder.ready.items w)

pub ends_same : (old new : Reader) (fed : List ℕ) (taken : Sexps) → new.max_depth ≡ old.max_depth
    → new.tree_end ≡ old.tree_end → new.builder.ready.items ≡ old.builder.ready.items
    → new.failure ≡ old.failure → KeepsEnds old fed taken → KeepsEnds new fed taken
ends_same old new fed taken m same r f k =
    subst (λ t. KeepsEnds new t taken) (append-nil fed) (ends_skip old new [] fed taken m same r f k)

-- the end of the text
pub ends_finish : (old new started mid : Reader) (result : Result (Unit {0}) (Failure TextFlaw)) (fed : List ℕ)
    (taken : Sexps) → is_finished old ≡ false → old.failure ≡ None → new.max_depth ≡ old.max_depth
    → new.tree_end ≡ old.tree_end → new.builder ≡ mid.builder → started.builder.ready ≡ old.builder.ready
    → started.builder.limit ≡ bytes_fed old → new.failure ≡ result_err result → Ends (state_of old) (bytes_fed old) result (state_of mid)
    → IfRead result started mid
    (Pushed (record { left = 0; read = 0 }) (state_of old) started mid)
    → StandsFor old fed taken → KeepsEnds old fed taken → KeepsEnds new fed taken
ends_finish old new started mid (Ok done) fed taken e n m same b o held f ends (inl none) h k =
    ends_if new old.max_depth old.tree_end fed taken old.builder.ready.items m same
    (ap (λ x. x.ready.items) b ∙ none ∙ ap (λ x. x.items) o) (parts old fed taken k).0 (inr (wholes old fed taken n k))
ends_finish old new started mid (Ok done) fed taken e n m same b o held f ends (inr (tree, pushed, all)) h k =
    let ready = old.builder.ready.items in
    let place = started.builder.limit - (0 - 0) in
    let one : Ready = record { tree = tree; end = place } in
    let at : place ≡ length fed = omega (arith, held, h.0) in
    let s = after_taken taken (state_of old) in
    let grown : mid.builder.ready.items ≡ ready ++ one ∷ [] = pushed ∙ ap (λ x. x.items ++ one ∷ []) o in
    let trees : sexps_of (trees_in mid.builder.ready.items)
    ≡ append (sexps_of (trees_in ready)) (Cons (sexp_of tree) Nil) = sexps_pushed ready mid.builder.ready.items tree
    place grown in
    let last : IsWholeAt old.max_depth start fed place
    (append (append taken (sexps_of (trees_in ready))) (Cons (sexp_of tree) Nil)) = record {
      within = omega (arith, at);
      end = s;
      runs = ap (run old.max_depth start) (take_all place fed (omega (arith, at))) ∙ runs_on old fed taken h e n;
      all = flush_after taken (state_of old) ∙ ap (under taken) (all ∙ ap (On []) trees)
          ∙ ap (On []) (sym (sexps_assoc taken (sexps_of (trees_in ready)) (Cons (sexp_of tree) Nil)));
      whole = ap may_end (token_after taken (state_of old)) ∙ ends.1;
    } in
    ends_if new old.max_depth old.tree_end fed taken (ready ++ one ∷ []) m same
    (ap (λ x. x.ready.items) b ∙ grown) (parts old fed taken k).0
    (inr (whole_join old.max_depth fed taken ready (one ∷ []) (wholes old fed taken n k) (last, tt)))
ends_finish old new started mid (Err (Fault flaw)) fed taken e n m same b o held f ends none h k =
    ends_if new old.max_depth old.tree_end fed taken old.builder.ready.items m same
    (ap (λ x. x.ready.items) b ∙ none ∙ ap (λ x. x.items) o) (parts old fed taken k).0 (inr (wholes old fed taken n k))
ends_finish old new started mid (Err Memory) fed taken e n m same b o held f ends pushed h k =
    ends_if new old.max_depth old.tree_end fed taken new.builder.ready.items m same refl
    (parts old fed taken k).0 (inl f)

-- a tree was handed out
pub ends_handed : (old new : Reader) (fed : List ℕ) (taken : Sexps) (first : Ready) → new.max_depth ≡ old.max_depth
    → new.tree_end ≡ first.end → old.failure ≢ Some Memory
    → old.builder.ready.items ≡ first ∷ new.builder.ready.items → KeepsEnds old fed taken
    → KeepsEnds new fed (append taken (Cons (sexp_of first.tree) Nil))
ends_handed old new fed taken first m e fine is k = by (parts old fed taken k).1
  where
    by : (old.failure ≡ Some Memory) ⊎ AreWhole old.max_depth fed taken old.builder.ready.items
        → KeepsEnds new fed (append taken (Cons (sexp_of first.tree) Nil))
    by (inl memory) = absurd (fine memory)
    by (inr w) =
        let all = subst (λ x. AreWhole old.max_depth fed taken x) is w in
        ends_if new old.max_depth first.end fed (append taken (Cons (sexp_of first.tree) Nil))
        new.builder.ready.items m e refl all.0 (inr all.1)

-- what is read up to there
pub end_reads : (reader : Reader) (fed : List ℕ) (taken : Sexps) → KeepsEnds reader fed taken
    → (reader.tree_end ≤ length fed)
    × Reads reader.max_depth true (take reader.tree_end fed) taken None
end_reads reader fed taken k =
    let at = (parts reader fed taken k).0 in (
      at.within,
      ends_outside reader.max_depth (take reader.tree_end fed) at.end taken at.runs at.all at.whole,
    )

-- a tree that is handed out later ends later
pub ends_later : (old new : Reader) (fed : List ℕ) (taken : Sexps) (x : Sexp) → new.max_depth ≡ old.max_depth
    → KeepsEnds old fed taken → KeepsEnds new fed (append taken (Cons x Nil)) → old.tree_end ≤ new.tree_end
ends_later old new fed taken x m h k =
    let later = (end_reads new fed (append taken (Cons x Nil)) k).1 in
    later_end old.max_depth fed old.tree_end new.tree_end taken x (end_reads old fed taken h).1
    (subst (λ n. Reads n true (take new.tree_end fed) (append taken (Cons x Nil)) None) m later)
