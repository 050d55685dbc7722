-- The complete trees of a prefix, and what is read of a text.
use Rattle.std.proofs.Common.{◌≡◌, ◌⊎◌, ℕ, List, [], ◌∷◌, ◌++◌, length, Option, Some, None, Bool, true, false}
use Rattle.std.proofs.Common.{ltb, cond, refl, sym, ap, ◌∙◌, inl, inr, arith, subst}
use Rattle.std.proofs.lemmas.List.{append-nil, append_assoc}
use Rattle.smt_text.proofs.ByteLemmas.{MayBeEnded, lex_ended, ender_values, white_separates, View, Kept}
use Rattle.smt_text.proofs.ByteLemmas.{Skipped, Refused, Separates, BarEnds, LineEnds, view}
use Rattle.smt_text.proofs.PrefixLemmas.{Grows, grows-run, settled-is}
use Rattle.smt_text.proofs.ReaderCompleteness.{step-at, run-cons, run-append, reads-forest, step-close}
use Rattle.smt_text.proofs.ReaderCompleteness.{none_begun, no_ender, run-barred, may_be_ended_ends, Rests}
use Rattle.smt_text.proofs.ReaderCompleteness.{act_next, acts, acts-trees, arrives}
use Rattle.smt_text.proofs.ReaderSoundness.{forest-read, closed_list, closed_bar, ClosedLast, ends_well}
use Rattle.smt_text.proofs.ReaderSoundness.{to_next}
use Rattle.smt_text.specs.Grammar.{Token, OpenParenthesis, CloseParenthesis, AtomToken, WordToken, IsSpelling}
use Rattle.smt_text.specs.Grammar.{IsSimpleSymbol, ZeroOrMore, Forest, barred, tokens_of_all}
use Rattle.smt_text.specs.Lexical.{bar, is_letter, is_quoted_byte, is_white, ends_token}
use Rattle.smt_text.specs.Internal.LexerStates.{Levels, On, State, At, start, add, atom_of, add_if, flush, act}
use Rattle.smt_text.specs.Internal.LexerStates.{settle, separated, move, may_end, token_in, step, go_on, run}
use Rattle.smt_text.specs.Internal.LexerStates.{top_of, complete_of}
use Rattle.smt_text.specs.Reading.{IsClosed, EndsClosed, IsFollowed, AreSettled, AreComplete}
use Rattle.smt_trees.specs.Sexp as sexp
use Rattle.smt_trees.specs.Sexp.{Sexp, Sexps, Atom, Items, Nil, Cons, append}
use Rattle.smt_text.specs.declared.lexer.AtomState.{AtomState}
use Rattle.smt_text.specs.declared.lexer.AtomState.TheVariants.{Nothing, InBars, AfterBar, InComment}
use Rattle.smt_text.specs.declared.lexer.LexerStep.TheVariants.{Push, Skip, Finish, Open, Close, Stuck}

-- what is settled stays so
pub settled_more : (max_depth : ℕ) (prefix more : List ℕ) (xs : Sexps) → AreSettled max_depth prefix xs
    → AreSettled max_depth (prefix ++ more) xs
settled_more max_depth prefix more xs h = record {
  beginning = h.beginning;
  rest = h.rest ++ more;
  parts = ap (λ x. x ++ more) h.parts ∙ append_assoc h.beginning h.rest more;
  forest = h.forest;
  settled = by h.settled;
}
  where
    by : (h.beginning ≡ []) ⊎ (EndsClosed (tokens_of_all xs []) h.beginning ⊎ IsFollowed h.rest)
        → (h.beginning ≡ []) ⊎ (EndsClosed (tokens_of_all xs []) h.beginning ⊎ IsFollowed (h.rest ++ more))
    by (inl e) = inl e
    by (inr (inl e)) = inr (inl e)
    by (inr (inr f)) = inr (inr (f.0, f.1 ++ more, ap (λ x. x ++ more) f.2, f.3))

flush_at_top : (o : Option Sexp) (top : Sexps) → add_if o (On [] top) ≡ On [] (top_of (add_if o (On [] top)))
flush_at_top None top = refl
flush_at_top (Some x) top = refl

flush_inside : (o : Option Sexp) (parts : Sexps) (lists : List Sexps) (top : Sexps)
    → top ≡ top_of (add_if o (On (parts ∷ lists) top))
flush_inside None parts lists top = refl
flush_inside (Some x) parts lists top = refl

-- a byte that shows the end of a token settles an atom at the top
settled_flush : (max_depth : ℕ) (prefix : List ℕ) (s : State) (b : ℕ) → run max_depth start prefix ≡ Some s
    → AreSettled max_depth prefix (complete_of s) → MayBeEnded (token_in s) → ends_token b ≡ true
    → AreSettled max_depth (prefix ++ b ∷ []) (top_of (flush s))
settled_flush max_depth prefix (At token bytes (On [] top)) b e h m ends = record {
  beginning = prefix;
  rest = b ∷ [];
  parts = refl;
  forest = forest-read max_depth prefix (At token bytes (On [] top)) (top_of (flush (At token bytes (On [] top))))
      e (flush_at_top (atom_of token bytes) top) (may_be_ended_ends token m);
  settled = inr (inr (b, [], refl, ends));
}
settled_flush max_depth prefix (At token bytes (On (parts ∷ lists) top)) b e h m ends =
    subst (AreSettled max_depth (prefix ++ b ∷ [])) (flush_inside (atom_of token bytes) parts lists top)
    (settled_more max_depth prefix (b ∷ []) top h)

opens_top : (max_depth : ℕ) (levels next : Levels) → act max_depth OpenParenthesis levels ≡ Some next
    → top_of levels ≡ top_of next
opens_top max_depth (On lists top) next e = by (ltb (length lists) max_depth) e
  where
    by : (t : Bool) → cond t (Some (On (Nil ∷ lists) top)) None ≡ Some next → top ≡ top_of next
    by true h = let same : On (Nil ∷ lists) top ≡ next = cc in ap top_of same
    by false h = absurd (cc)

settled_close : (max_depth : ℕ) (prefix : List ℕ) (s : State) (levels next : Levels)
    → run max_depth start prefix ≡ Some s → MayBeEnded (token_in s)
    → AreSettled max_depth (prefix ++ 41 ∷ []) (top_of (flush s)) → flush s ≡ levels
    → act max_depth CloseParenthesis levels ≡ Some next → AreSettled max_depth (prefix ++ 41 ∷ []) (top_of next)
settled_close max_depth prefix s (On [] top) next e m h f a = absurd (cc)
settled_close max_depth prefix s (On (parts ∷ []) top) next e m h f a =
    let closed : next ≡ On [] (append top (Cons (Items parts) Nil)) = cc in
    let at_top : next ≡ On [] (top_of next) = closed ∙ ap (λ x. On [] (top_of x)) (sym closed) in
    let acted : act max_depth CloseParenthesis (flush s) ≡ Some next = ap (act max_depth CloseParenthesis) f ∙ a in
    let steps : step max_depth s 41 ≡ Some (At Nothing [] next) = step-at max_depth s 41 Close
    (lex_ended (token_in s) 41 m refl) ∙ ap settle acted in
    let runs : run max_depth start (prefix ++ 41 ∷ []) ≡ Some (At Nothing [] next) = run-append max_depth start s
    prefix (41 ∷ []) e ∙ run-cons max_depth s (At Nothing [] next) 41 [] steps in
    record {
      beginning = prefix ++ 41 ∷ [];
      rest = [];
      parts = sym (append-nil (prefix ++ 41 ∷ []));
      forest = forest-read max_depth (prefix ++ 41 ∷ []) (At Nothing [] next) (top_of next) runs at_top refl;
      settled = inr (inl (closed_list max_depth prefix s (top_of next) e m (acted ∙ ap Some at_top)));
    }
settled_close max_depth prefix s (On (parts ∷ outer ∷ lists) top) next e m h f a =
    let closed : On (append outer (Cons (Items parts) Nil) ∷ lists) top ≡ next = cc in
    subst (AreSettled max_depth (prefix ++ 41 ∷ [])) (ap top_of f ∙ ap top_of closed) h

settled_by_end : (max_depth : ℕ) (prefix : List ℕ) (s : State) (b : ℕ) (next : State)
    → run max_depth start prefix ≡ Some s → AreSettled max_depth prefix (complete_of s) → MayBeEnded (token_in s)
    → ends_token b ≡ true → move max_depth (separated b) s b ≡ Some next
    → AreSettled max_depth (prefix ++ b ∷ []) (complete_of next)
settled_by_end max_depth prefix s b next e h m ends n = by (ender_values b ends)
  where
    flushed : AreSettled max_depth (prefix ++ b ∷ []) (top_of (flush s))
    flushed = settled_flush max_depth prefix s b e h m ends

    by : (is_white b ≡ true) ⊎ ((b ≡ 59) ⊎ ((b ≡ 40) ⊎ (b ≡ 41)))
        → AreSettled max_depth (prefix ++ b ∷ []) (complete_of next)
    by (inl w) =
        let some : move max_depth (Finish Nothing) s b ≡ Some next = ap (λ x. move max_depth x s b)
        (sym (white_separates b w)) ∙ n in
        let same : At Nothing [] (flush s) ≡ next = cc in
        subst (λ x. AreSettled max_depth (prefix ++ b ∷ []) (complete_of x)) same flushed
    by (inr (inl k)) =
        let some : move max_depth (Finish InComment) s b ≡ Some next = ap (λ x. move max_depth (separated x) s b)
        (sym k) ∙ n in
        let same : At InComment [] (flush s) ≡ next = cc in
        subst (λ x. AreSettled max_depth (prefix ++ b ∷ []) (complete_of x)) same flushed
    by (inr (inr (inl k))) =
        let some : move max_depth Open s b ≡ Some next = ap (λ x. move max_depth (separated x) s b) (sym k) ∙ n in
        let o = settled-is (act max_depth OpenParenthesis (flush s)) next some in
        subst (AreSettled max_depth (prefix ++ b ∷ []))
        (opens_top max_depth (flush s) o.0 o.1 ∙ ap complete_of (sym o.2)) flushed
    by (inr (inr (inr k))) =
        let some : move max_depth Close s b ≡ Some next = ap (λ x. move max_depth (separated x) s b) (sym k) ∙ n in
        let o = settled-is (act max_depth CloseParenthesis (flush s)) next some in
        let at_close : AreSettled max_depth (prefix ++ 41 ∷ []) (top_of (flush s)) = subst
        (λ x. AreSettled max_depth (prefix ++ x ∷ []) (top_of (flush s))) k flushed in
        subst (AreSettled max_depth (prefix ++ b ∷ [])) (ap complete_of (sym o.2))
        (subst (λ x. AreSettled max_depth (prefix ++ x ∷ []) (top_of o.0)) (sym k)
        (settled_close max_depth prefix s (flush s) o.0 e m at_close refl o.1))

-- a symbol in bars settles itself at the top
settled_bar : (max_depth : ℕ) (prefix bytes : List ℕ) (levels : Levels)
    → run max_depth start prefix ≡ Some (At InBars bytes levels) → AreSettled max_depth prefix (top_of levels)
    → AreSettled max_depth (prefix ++ bar ∷ []) (top_of (add (Atom sexp.Symbol bytes) levels))
settled_bar max_depth prefix bytes (On [] top) e h =
    let trees = append top (Cons (Atom sexp.Symbol bytes) Nil) in
    let runs : run max_depth start (prefix ++ bar ∷ []) ≡ Some (At AfterBar [] (On [] trees)) = run-append max_depth
    start (At InBars bytes (On [] top)) prefix (bar ∷ []) e in
    record {
      beginning = prefix ++ bar ∷ [];
      rest = [];
      parts = sym (append-nil (prefix ++ bar ∷ []));
      forest = forest-read max_depth (prefix ++ bar ∷ []) (At AfterBar [] (On [] trees)) trees runs refl refl;
      settled = inr (inl (closed_bar max_depth prefix bytes top trees e refl));
    }
settled_bar max_depth prefix bytes (On (parts ∷ lists) top) e h = settled_more max_depth prefix (bar ∷ []) top h

settled_view : (max_depth : ℕ) (prefix : List ℕ) (token : AtomState) (bytes : List ℕ) (levels : Levels) (b : ℕ)
    (next : State) → View token b → run max_depth start prefix ≡ Some (At token bytes levels)
    → AreSettled max_depth prefix (top_of levels) → step max_depth (At token bytes levels) b ≡ Some next
    → AreSettled max_depth (prefix ++ b ∷ []) (complete_of next)
settled_view max_depth prefix token bytes levels b next (Kept longer k) e h n =
    let some = to_next max_depth (Push longer) (At token bytes levels) b next n k in
    let same : At longer (bytes ++ b ∷ []) levels ≡ next = cc in
    subst (λ x. AreSettled max_depth (prefix ++ b ∷ []) (complete_of x)) same
    (settled_more max_depth prefix (b ∷ []) (top_of levels) h)
settled_view max_depth prefix token bytes levels b next (Skipped longer k) e h n =
    let some = to_next max_depth (Skip longer) (At token bytes levels) b next n k in
    let same : At longer bytes levels ≡ next = cc in
    subst (λ x. AreSettled max_depth (prefix ++ b ∷ []) (complete_of x)) same
    (settled_more max_depth prefix (b ∷ []) (top_of levels) h)
settled_view max_depth prefix token bytes levels b next (Refused k) e h n =
    let none = to_next max_depth Stuck (At token bytes levels) b next n k in absurd (cc)
settled_view max_depth prefix token bytes levels b next (Separates m ends k) e h n =
    settled_by_end max_depth prefix (At token bytes levels) b next e h m ends
    (to_next max_depth (separated b) (At token bytes levels) b next n k)
settled_view max_depth prefix token bytes levels b next (BarEnds t k m) e h n =
    let some = to_next max_depth (Finish AfterBar) (At token bytes levels) b next n m in
    let same : At AfterBar [] (flush (At token bytes levels)) ≡ next = cc in
    let trees : top_of (add (Atom sexp.Symbol bytes) levels) ≡ complete_of next = ap
    (λ x. top_of (flush (At x bytes levels))) (sym t) ∙ ap complete_of same in
    let at_bar : AreSettled max_depth (prefix ++ b ∷ []) (top_of (add (Atom sexp.Symbol bytes) levels)) = subst
    (λ x. AreSettled max_depth (prefix ++ x ∷ []) (top_of (add (Atom sexp.Symbol bytes) levels))) (sym k)
    (settled_bar max_depth prefix bytes levels (e ∙ ap (λ x. Some (At x bytes levels)) t) h) in
    subst (AreSettled max_depth (prefix ++ b ∷ [])) trees at_bar
settled_view max_depth prefix token bytes levels b next (LineEnds t k m) e h n =
    let some = to_next max_depth (Finish Nothing) (At token bytes levels) b next n m in
    let same : At Nothing [] (flush (At token bytes levels)) ≡ next = cc in
    let trees : top_of levels ≡ complete_of next = ap (λ x. top_of (flush (At x bytes levels)))
    (sym t) ∙ ap complete_of same in
    subst (AreSettled max_depth (prefix ++ b ∷ [])) trees (settled_more max_depth prefix (b ∷ []) (top_of levels) h)

settled_step : (max_depth : ℕ) (prefix : List ℕ) (s : State) (b : ℕ) (next : State)
    → run max_depth start prefix ≡ Some s → AreSettled max_depth prefix (complete_of s) → step max_depth s b ≡ Some next
    → AreSettled max_depth (prefix ++ b ∷ []) (complete_of next)
settled_step max_depth prefix (At token bytes levels) b next e h n =
    settled_view max_depth prefix token bytes levels b next (view token b) e h n

settled_run : (max_depth : ℕ) (text prefix : List ℕ) (s end : State) → run max_depth start prefix ≡ Some s
    → AreSettled max_depth prefix (complete_of s) → run max_depth s text ≡ Some end
    → AreSettled max_depth (prefix ++ text) (complete_of end)
settled_run max_depth [] prefix s end e h n =
    let same : s ≡ end = cc in
    subst (λ x. AreSettled max_depth (prefix ++ []) (complete_of x)) same
    (settled_more max_depth prefix [] (complete_of s) h)
settled_run max_depth (b ∷ text) prefix s end e h n =
    by_step (step max_depth s b) refl n (λ next. settled_run max_depth text (prefix ++ b ∷ []) next end)
  where
    by_step : (o : Option State) → step max_depth s b ≡ o → go_on o (λ x. run max_depth x text) ≡ Some end
        → ((next : State) → run max_depth start (prefix ++ b ∷ []) ≡ Some next
        → AreSettled max_depth (prefix ++ b ∷ []) (complete_of next) → run max_depth next text ≡ Some end
        → AreSettled max_depth ((prefix ++ b ∷ []) ++ text) (complete_of end))
        → AreSettled max_depth (prefix ++ b ∷ text) (complete_of end)
    by_step None k m later = absurd (cc)
    by_step (Some next) k m later =
        let runs : run max_depth start (prefix ++ b ∷ []) ≡ Some next = run-append max_depth start s prefix
        (b ∷ []) e ∙ run-cons max_depth s next b [] k in
        subst (λ x. AreSettled max_depth x (complete_of end)) (append_assoc prefix (b ∷ []) text)
        (later next runs (settled_step max_depth prefix s b next e h k) m)

-- what tokens do, but for the last
record Before (max_depth : ℕ) (tokens : List Token) (last : Token) (levels next : Levels) : Type 0 where
  mid : Levels
  acted : acts max_depth tokens levels ≡ Some mid
  then : act max_depth last mid ≡ Some next

last_act : (o : Option Levels) (next : Levels) → act_next o (λ x. Some x) ≡ Some next → o ≡ Some next
last_act None next e = absurd (cc)
last_act (Some levels) next e = e

acts_before : (max_depth : ℕ) (tokens : List Token) (last : Token) (levels next : Levels)
    → acts max_depth (tokens ++ last ∷ []) levels ≡ Some next → Before max_depth tokens last levels next
acts_before max_depth [] last levels next e =
    record { mid = levels; acted = refl; then = last_act (act max_depth last levels) next e }
acts_before max_depth (first ∷ tokens) last levels next e =
    by_act (act max_depth first levels) refl e (λ nearer. acts_before max_depth tokens last nearer next)
  where
    by_act : (o : Option Levels) → act max_depth first levels ≡ o
        → act_next o (λ x. acts max_depth (tokens ++ last ∷ []) x) ≡ Some next
        → ((nearer : Levels) → acts max_depth (tokens ++ last ∷ []) nearer ≡ Some next
        → Before max_depth tokens last nearer next) → Before max_depth (first ∷ tokens) last levels next
    by_act None a h later = absurd (cc)
    by_act (Some nearer) a h later =
        let r = later nearer h in
        record {
          mid = r.mid;
          acted = ap (λ o. act_next o (λ x. acts max_depth tokens x)) a ∙ r.acted;
          then = r.then;
        }

-- behind a token that shows its end itself, no token has begun
record Closed (max_depth : ℕ) (s : State) (text : List ℕ) (levels : Levels) : Type 0 where
  next : State
  runs : run max_depth s text ≡ Some next
  trees : complete_of next ≡ top_of levels

no_bar : (name text : List ℕ) → text ≡ name → IsSimpleSymbol name → text ≡ barred name → ⊥
no_bar [] text e h f = h
no_bar (b ∷ bs) text e h f =
    let both : b ∷ bs ≡ barred (b ∷ bs) = sym e ∙ f in
    let same : b ≡ bar = cc in
    let letter : is_letter bar ≡ true = ap is_letter (sym same) ∙ h.0 in
    cc

after_bar : (max_depth : ℕ) (name : List ℕ) (s : State) (text : List ℕ) (next : Levels) → text ≡ barred name
    → ZeroOrMore is_quoted_byte name → Rests s text → Some (add (Atom sexp.Symbol name) (flush s)) ≡ Some next
    → Closed max_depth s text next
after_bar max_depth name s text next is h r e =
    let all : text ++ [] ≡ text = append-nil text in
    let levels : add (Atom sexp.Symbol name) (flush s) ≡ next = cc in
    let at : At Nothing [] (flush s) ≡ s = none_begun s (barred name) [] (no_ender bar refl)
    (subst (λ x. Rests s (x ++ [])) is (subst (Rests s) (sym all) r)) in
    record {
      next = At AfterBar [] (add (Atom sexp.Symbol name) (flush s));
      runs = ap (run max_depth s) (sym all) ∙ ap (λ x. run max_depth s (x ++ [])) is ∙ ap
          (λ x. run max_depth x (barred name ++ [])) (sym at) ∙ run-barred max_depth (flush s) name [] h;
      trees = ap top_of levels;
    }

after_closed : (max_depth : ℕ) (last : Token) (s : State) (text : List ℕ) (next : Levels) → IsSpelling last text
    → IsClosed last text → Rests s text → act max_depth last (flush s) ≡ Some next → Closed max_depth s text next
after_closed max_depth CloseParenthesis s text next is c r e =
    let all : text ++ [] ≡ text = append-nil text in
    record {
      next = At Nothing [] next;
      runs = ap (run max_depth s) is ∙ run-cons max_depth s (At Nothing [] next) 41 []
          (step-close max_depth s text [] next is (subst (Rests s) (sym all) r) e);
      trees = refl;
    }
after_closed max_depth (AtomToken sexp.Symbol name) s text next (inl is) c r e =
    absurd (no_bar name text is.0 is.1 c)
after_closed max_depth (AtomToken sexp.Symbol name) s text next (inr is) c r e =
    after_bar max_depth name s text next c is.1 r e
after_closed max_depth OpenParenthesis s text next is c r e = absurd c
after_closed max_depth (WordToken word) s text next is c r e = absurd c
after_closed max_depth (AtomToken sexp.Numeral bytes) s text next is c r e = absurd c
after_closed max_depth (AtomToken sexp.Decimal bytes) s text next is c r e = absurd c
after_closed max_depth (AtomToken sexp.Hexadecimal bytes) s text next is c r e = absurd c
after_closed max_depth (AtomToken sexp.Binary bytes) s text next is c r e = absurd c
after_closed max_depth (AtomToken sexp.Text bytes) s text next is c r e = absurd c
after_closed max_depth (AtomToken sexp.Keyword bytes) s text next is c r e = absurd c

closed_state : (max_depth : ℕ) (text : List ℕ) (trees : Sexps) → Forest max_depth text trees
    → EndsClosed (tokens_of_all trees []) text → Closed max_depth start text (On [] trees)
closed_state max_depth text trees f h =
    let all : acts max_depth (tokens_of_all trees []) (On [] Nil) ≡ Some (On [] trees) = acts-trees max_depth trees []
    (On [] Nil) (omega (arith, f.shallow)) in
    let b = acts_before max_depth h.0 h.1 (On [] Nil) (On [] trees)
    (ap (λ x. acts max_depth x (On [] Nil)) (sym h.2) ∙ all) in
    let a = arrives max_depth (ClosedLast h.1) h.0 text start b.mid h.3 (inl (refl, refl)) b.acted in
    let c = after_closed max_depth h.1 a.reaches.next a.rest (On [] trees) a.last.0 a.last.1 a.reaches.rests
    (ap (act max_depth h.1) a.reaches.trees ∙ b.then) in
    record { next = c.next; runs = a.reaches.runs ∙ c.runs; trees = c.trees }

-- what a byte that shows the end of a token completes
follow_complete : (max_depth : ℕ) (s : State) (others : Sexps) (b : ℕ) (next : State) → flush s ≡ On [] others
    → ends_token b ≡ true → move max_depth (separated b) s b ≡ Some next → others ≡ complete_of next
follow_complete max_depth s others b next f ends n = by (ender_values b ends)
  where
    by : (is_white b ≡ true) ⊎ ((b ≡ 59) ⊎ ((b ≡ 40) ⊎ (b ≡ 41))) → others ≡ complete_of next
    by (inl w) =
        let some : move max_depth (Finish Nothing) s b ≡ Some next = ap (λ x. move max_depth x s b)
        (sym (white_separates b w)) ∙ n in
        let same : At Nothing [] (flush s) ≡ next = cc in
        ap top_of (sym f) ∙ ap complete_of same
    by (inr (inl k)) =
        let some : move max_depth (Finish InComment) s b ≡ Some next = ap (λ x. move max_depth (separated x) s b)
        (sym k) ∙ n in
        let same : At InComment [] (flush s) ≡ next = cc in
        ap top_of (sym f) ∙ ap complete_of same
    by (inr (inr (inl k))) =
        let some : move max_depth Open s b ≡ Some next = ap (λ x. move max_depth (separated x) s b) (sym k) ∙ n in
        let o = settled-is (act max_depth OpenParenthesis (flush s)) next some in
        ap top_of (sym f) ∙ opens_top max_depth (flush s) o.0 o.1 ∙ ap complete_of (sym o.2)
    by (inr (inr (inr k))) =
        let some : move max_depth Close s b ≡ Some next = ap (λ x. move max_depth (separated x) s b) (sym k) ∙ n in
        let none : settle (act max_depth CloseParenthesis (flush s)) ≡ None = ap
        (λ x. settle (act max_depth CloseParenthesis x)) f in
        absurd (cc)

followed_grows : (max_depth : ℕ) (s : State) (others : Sexps) (b : ℕ) (bs : List ℕ) (end : State)
    (o : Option State) → step max_depth s b ≡ o → flush s ≡ On [] others → MayBeEnded (token_in s)
    → ends_token b ≡ true → go_on o (λ x. run max_depth x bs) ≡ Some end → Grows others (complete_of end)
followed_grows max_depth s others b bs end None k f m ends e = absurd (cc)
followed_grows max_depth s others b bs end (Some next) k f m ends e =
    let n = to_next max_depth (separated b) s b next k (lex_ended (token_in s) b m ends) in
    subst (λ x. Grows x (complete_of end)) (sym (follow_complete max_depth s others b next f ends n))
    (grows-run max_depth next bs end e)

comment_complete : (s : State) (others : Sexps) → token_in s ≡ InComment → flush s ≡ On [] others
    → complete_of s ≡ others
comment_complete (At token bytes levels) others e f =
    ap (λ x. top_of (flush (At x bytes levels))) (sym e) ∙ ap top_of f

followed_any : (max_depth : ℕ) (s : State) (others : Sexps) (rest : List ℕ) (end : State)
    → (MayBeEnded (token_in s)) ⊎ (token_in s ≡ InComment) → flush s ≡ On [] others
    → run max_depth s rest ≡ Some end → IsFollowed rest → Grows others (complete_of end)
followed_any max_depth s others rest end (inl m) f n w = followed_grows max_depth s others w.0 w.1 end
    (step max_depth s w.0) refl f m w.3 (ap (run max_depth s) (sym w.2) ∙ n)
followed_any max_depth s others rest end (inr k) f n w =
    subst (λ x. Grows x (complete_of end)) (comment_complete s others k f) (grows-run max_depth s rest end n)

settled_grows : (max_depth : ℕ) (beginning rest : List ℕ) (others : Sexps) (s end : State)
    → Forest max_depth beginning others → run max_depth start beginning ≡ Some s → flush s ≡ On [] others
    → may_end (token_in s) ≡ true → run max_depth s rest ≡ Some end
    → (beginning ≡ []) ⊎ (EndsClosed (tokens_of_all others []) beginning ⊎ IsFollowed rest)
    → Grows others (complete_of end)
settled_grows max_depth beginning rest others s end h e f w n (inl none) =
    let at : Some start ≡ Some s = ap (run max_depth start) (sym none) ∙ e in
    let same : start ≡ s = cc in
    let nil : Nil ≡ others = ap (λ x. top_of (flush x)) same ∙ ap top_of f in
    subst (λ x. Grows x (complete_of end)) nil (complete_of end, refl)
settled_grows max_depth beginning rest others s end h e f w n (inr (inl l)) =
    let c = closed_state max_depth beginning others h l in
    let both : Some c.next ≡ Some s = sym c.runs ∙ e in
    let same : c.next ≡ s = cc in
    subst (λ x. Grows x (complete_of end)) (sym (ap complete_of same) ∙ c.trees)
    (grows-run max_depth s rest end n)
settled_grows max_depth beginning rest others s end h e f w n (inr (inr l)) =
    followed_any max_depth s others rest end (ends_well (token_in s) w).is f n l

-- what a run has at its top is complete, and there is no more
pub complete_run : (max_depth : ℕ) (prefix : List ℕ) (s : State) → run max_depth start prefix ≡ Some s
    → AreComplete max_depth prefix (complete_of s)
complete_run max_depth prefix s e = record { settled = are_settled; most = are_most }
  where
    none : AreSettled max_depth [] Nil
    none = record {
      beginning = [];
      rest = [];
      parts = refl;
      forest = forest-read max_depth [] start Nil refl refl refl;
      settled = inl refl;
    }

    are_settled : AreSettled max_depth prefix (complete_of s)
    are_settled = settled_run max_depth prefix [] start s refl none e

    are_most : (others : Sexps) → AreSettled max_depth prefix others → Grows others (complete_of s)
    are_most others h =
        let r = reads-forest max_depth h.beginning others h.forest in
        let then : run max_depth r.next h.rest ≡ Some s = sym
        (run-append max_depth start r.next h.beginning h.rest r.runs) ∙ ap (run max_depth start) (sym h.parts) ∙ e
        in
        settled_grows max_depth h.beginning h.rest others r.next s h.forest r.runs r.trees r.whole then h.settled
