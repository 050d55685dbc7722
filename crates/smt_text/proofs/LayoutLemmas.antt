-- Where the trees of a text stand, one more after another.
use Rattle.std.proofs.Common.{◌≡◌, ◌≤◌, ◌+◌, ℕ, List, [], ◌∷◌, ◌++◌, length, take, drop, None, true}
use Rattle.std.proofs.Common.{refl, sym, ap, ◌∙◌, subst}
use Rattle.smt_text.proofs.SexpLemmas.{append_nil, append_assoc as sexps_assoc}
use Rattle.smt_text.specs.Reader.{depth_limit, is_finished, KeepsEnds, StandsFor}
use Rattle.smt_text.specs.Reading.{Reads}
use Rattle.smt_text.specs.Spans.{AreSpans, IsGapLength, IsSpan}
use Rattle.smt_text.specs.declared.reader.Reader.{Reader}
use Rattle.smt_text.specs.declared.span.Span.{Span}
use Rattle.smt_trees.specs.Sexp.{Sexp, Sexps, Nil, Cons, append}

-- where the last of the trees ends
abbrev pub last_end : ℕ → List Span → ℕ
last_end before [] = before
last_end before (span ∷ spans) = last_end span.end spans

last_end-more : (before : ℕ) (spans : List Span) (span : Span) → last_end before (spans ++ span ∷ []) ≡ span.end
last_end-more before [] span = refl
last_end-more before (first ∷ spans) span = last_end-more first.end spans span

spans_more : (max_depth : ℕ) (text : List ℕ) (before : ℕ) (taken : Sexps) (spans : List Span) (trees : Sexps)
    (span : Span) (x : Sexp) → AreSpans max_depth text before taken spans trees
    → IsSpan max_depth text (last_end before spans) (append (append taken trees) (Cons x Nil)) span
    → AreSpans max_depth text before taken (spans ++ span ∷ []) (append trees (Cons x Nil))
spans_more max_depth text before taken [] Nil span x h k =
    (subst (λ t. IsSpan max_depth text before (append t (Cons x Nil)) span) (append_nil taken) k, refl)
spans_more max_depth text before taken [] (Cons y ys) span x h k = absurd (cc)
spans_more max_depth text before taken (first ∷ spans) Nil span x h k = absurd h
spans_more max_depth text before taken (first ∷ spans) (Cons y ys) span x h k = (
  h.0,
  spans_more max_depth text first.end (append taken (Cons y Nil)) spans ys span x h.1
      (subst (λ t. IsSpan max_depth text (last_end first.end spans) (append t (Cons x Nil)) span)
      (sym (sexps_assoc taken (Cons y Nil) ys)) k),
)

-- the trees so far stand there, and the reader goes on behind them
pub record IsLaidOut (max_depth : ℕ) (text : List ℕ) (reader : Reader) (spans : List Span) (before : ℕ) : Type 0 where
  pub taken : Sexps
  pub stands : StandsFor reader text taken
  pub ends : KeepsEnds reader text taken
  pub finished : is_finished reader ≡ true
  pub limit : depth_limit reader ≡ max_depth
  pub last : before ≡ last_end 0 spans
  pub within : before ≤ length text
  pub all : AreSpans max_depth text 0 Nil spans taken

-- and one more
pub laid_out_more : (max_depth : ℕ) (text : List ℕ) (old new : Reader) (spans : List Span) (before : ℕ) (span : Span)
    (gap : ℕ) (x : Sexp) → (h : IsLaidOut max_depth text old spans before)
    → ((fed : List ℕ) (taken : Sexps) → StandsFor old fed taken → StandsFor new fed (append taken (Cons x Nil)))
    → ((fed : List ℕ) (taken : Sexps) → KeepsEnds old fed taken → KeepsEnds new fed (append taken (Cons x Nil)))
    → is_finished new ≡ is_finished old → depth_limit new ≡ depth_limit old
    → ((fed : List ℕ) (taken : Sexps) → KeepsEnds new fed taken
    → (span.end ≤ length fed) × Reads (depth_limit new) true (take span.end fed) taken None)
    → span.start ≡ before + gap → IsGapLength (drop before text) gap
    → IsLaidOut max_depth text new (spans ++ span ∷ []) span.end
laid_out_more max_depth text old new spans before span gap x h stands ends finished limit reads start is_gap =
    let trees = append h.taken (Cons x Nil) in
    let at = reads text trees (ends text h.taken h.ends) in
    let same : depth_limit new ≡ max_depth = limit ∙ h.limit in
    record {
      taken = trees;
      stands = stands text h.taken h.stands;
      ends = ends text h.taken h.ends;
      finished = finished ∙ h.finished;
      limit = same;
      last = sym (last_end-more 0 spans span);
      within = at.0;
      all = spans_more max_depth text 0 Nil spans h.taken span x h.all (record {
        within = at.0;
        reads = subst (λ m. Reads m true (take span.end text) trees None) same at.1;
        gap = gap;
        start = start ∙ ap (λ n. n + gap) h.last;
        is_gap = subst (λ n. IsGapLength (drop n text) gap) h.last is_gap;
      });
    }
