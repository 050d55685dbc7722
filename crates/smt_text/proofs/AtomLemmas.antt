-- The atoms of a text, place by place.
use Rattle.std.proofs.Common.{◌≡◌, ◌⊎◌, ◌<◌, ◌≤◌, ◌+◌, ℕ, List, [], ◌∷◌, ◌++◌, length, get_or, Bool, true, false}
use Rattle.std.proofs.Common.{refl, sym, ap, ◌∙◌, inl, inr, arith, subst}
use Rattle.std.specs.List.{All, AllPairs, Contains}
use Rattle.std.proofs.lemmas.Bool.{cases_lt, false≢true}
use Rattle.std.proofs.lemmas.List.Elements.{All-append, All-from_recursion, Contains-append_left, Contains-append_right}
use Rattle.std.proofs.lemmas.List.Quantifiers.{all_pairs_push}
use Rattle.smt_text.proofs.EndingLemmas.{own_none}
use Rattle.std.proofs.lemmas.Option.{slice_get_within}
use Rattle.smt_text.proofs.ScanLemmas.{only_next, step_is, token_is, upto}
use Rattle.smt_text.specs.Atoms.{is_inside, AreAtoms, IsAtom}
use Rattle.smt_text.specs.Internal.AtomScanning.{IsAtomBefore, IsAtomScan, IsEntered}
use Rattle.smt_text.specs.Internal.LexerStates.{lex, own_end, token_behind}
use Rattle.smt_text.specs.Internal.Scanning.{IsAt}
use Rattle.smt_text.specs.Places.{token_at}
use Rattle.smt_text.specs.declared.atom_places.AtomScan.{AtomScan}
use Rattle.smt_text.specs.declared.lexer.AtomState.{AtomState}
use Rattle.smt_text.specs.declared.lexer.AtomState.TheVariants.{AfterBar}
use Rattle.smt_text.specs.declared.lexer.LexerStep.{LexerStep}
use Rattle.smt_text.specs.declared.span.Span.{Span}

own_small : (token : AtomState) → own_end token ≤ 1
own_small token = by (own_none token)
  where
    by : (token ≡ AfterBar) ⊎ (own_end token ≡ 0) → own_end token ≤ 1
    by (inl bar) = omega (arith, ap own_end bar)
    by (inr none) = omega (arith, none)

clash : (b : Bool) → b ≡ true → b ≡ false → ⊥
clash b e f = false≢true (sym f ∙ e)

-- ## Where an atom begins

pub enters : (text : List ℕ) (place : ℕ) → is_inside (token_at text place) ≡ false
    → is_inside (token_at text (place + 1)) ≡ true → IsEntered text (place + 1) place
enters text place e more = record {
  within = omega arith;
  begins = e;
  inside = λ later lt le. subst (λ n. is_inside (token_at text n) ≡ true) (only_next place later lt le) more;
}

pub goes_on : (text : List ℕ) (place begun : ℕ) → IsEntered text place begun
    → is_inside (token_at text (place + 1)) ≡ true → IsEntered text (place + 1) begun
goes_on text place begun h more = record {
  within = omega (arith, h.within);
  begins = h.begins;
  inside = λ later lt le. by later lt (upto place later le);
}
  where
    by : (later : ℕ) → begun < later → (later ≡ place + 1) ⊎ (later ≤ place)
        → is_inside (token_at text later) ≡ true
    by later lt (inl same) = subst (λ n. is_inside (token_at text n) ≡ true) (sym same) more
    by later lt (inr le) = h.inside later lt le

-- ## The atoms so far

earlier : (text : List ℕ) (place : ℕ) (span : Span) → IsAtomBefore text place span → IsAtomBefore text (place + 1) span
earlier text place span h = record { atom = h.atom; before = omega (arith, h.before) }

each_earlier : (text : List ℕ) (place : ℕ) (spans : List Span) → All (IsAtomBefore text place) spans
    → All (IsAtomBefore text (place + 1)) spans
each_earlier text place spans h = λ k d lt. earlier text place (get_or spans k d) (h k d lt)

-- no atom ends with the byte, unless the text leaves an atom there
none_ends : (text : List ℕ) (place : ℕ)
    → (is_inside (token_at text place) ≡ false) ⊎ (is_inside (token_at text (place + 1)) ≡ true)
    → (span : Span) → IsAtomBefore text (place + 1) span → IsAtomBefore text place span
none_ends text place h span k = by (cases_lt k.atom.last place)
  where
    at : place ≤ k.atom.last → k.atom.last ≡ place
    at le = omega (arith, k.before)

    by : (k.atom.last < place) ⊎ (place ≤ k.atom.last) → IsAtomBefore text place span
    by (inl lt) = record { atom = k.atom; before = lt }
    by (inr le) = absurd (left h)
      where
        left : (is_inside (token_at text place) ≡ false) ⊎ (is_inside (token_at text (place + 1)) ≡ true) → ⊥
        left (inl out) = clash (is_inside (token_at text place))
            (k.atom.inside place (omega (arith, at le, k.atom.some)) (omega arith)) out
        left (inr still) = clash (is_inside (token_at text (place + 1))) still
            (subst (λ n. is_inside (token_at text (n + 1)) ≡ false) (at le) k.atom.ends)

-- the same spans are all the atoms
pub none_more : (text : List ℕ) (place : ℕ) (old new : AtomScan) → new.spans ≡ old.spans
    → new.token ≡ token_at text (place + 1)
    → (is_inside (token_at text (place + 1)) ≡ true → IsEntered text (place + 1) new.begun)
    → (is_inside (token_at text place) ≡ false) ⊎ (is_inside (token_at text (place + 1)) ≡ true)
    → IsAtomScan text place old → IsAtomScan text (place + 1) new
none_more text place old new same token begun left h = record {
  token = token;
  begun = begun;
  each = subst (λ v. All (IsAtomBefore text (place + 1)) v.items) (sym same)
      (each_earlier text place old.spans.items h.each);
  all = λ span k. subst (λ v. Contains v.items span) (sym same) (h.all span (none_ends text place left span k));
  apart = subst (λ v. AllPairs (λ (span later : Span). span.end ≤ later.start) v.items) (sym same) h.apart;
}

-- ## One more atom

ended : (text : List ℕ) (place begun : ℕ) → place < length text → IsEntered text place begun
    → is_inside (token_at text (place + 1)) ≡ false
    → IsAtomBefore text (place + 1) (record { start = begun; end = place + own_end (token_at text (place + 1)) })
ended text place begun lt h out = record {
  atom = record {
    last = place;
    some = h.within;
    within = lt;
    begins = h.begins;
    inside = h.inside;
    ends = out;
    end = refl;
  };
  before = omega arith;
}

-- an atom that ends there is the one that began there
same_start : (text : List ℕ) (place begun : ℕ) (span : Span) → IsEntered text place begun → (k : IsAtom text span)
    → k.last ≡ place → span.start ≡ begun
same_start text place begun span h k at = by (cases_lt span.start begun) (cases_lt begun span.start)
  where
    by : (span.start < begun) ⊎ (begun ≤ span.start) → (begun < span.start) ⊎ (span.start ≤ begun)
        → span.start ≡ begun
    by (inl lt) other = absurd (clash (is_inside (token_at text begun))
        (k.inside begun lt (omega (arith, at, h.within))) h.begins)
    by (inr le) (inl lt) = absurd (clash (is_inside (token_at text span.start))
        (h.inside span.start lt (omega (arith, at, k.some))) k.begins)
    by (inr le) (inr more) = omega arith

span_is : (span : Span) (start end : ℕ) → span.start ≡ start → span.end ≡ end
    → record { start = start; end = end } ≡ span
span_is span start end e f = ap (λ n. record { start = n; end = end }) (sym e)
    ∙ ap (λ n. record { start = span.start; end = n }) (sym f)

pub one_more : (text : List ℕ) (place end : ℕ) (old new : AtomScan) → place < length text
    → new.spans.items ≡ old.spans.items ++ record { start = old.begun; end = end } ∷ []
    → new.token ≡ token_at text (place + 1) → end ≡ place + own_end (token_at text (place + 1))
    → is_inside (token_at text place) ≡ true → is_inside (token_at text (place + 1)) ≡ false
    → IsAtomScan text place old → IsAtomScan text (place + 1) new
one_more text place end old new lt items token is inside out h = record {
  token = token;
  begun = λ still. absurd (clash (is_inside (token_at text (place + 1))) still out);
  each = subst (All (IsAtomBefore text (place + 1))) (sym items)
      (All-append (IsAtomBefore text (place + 1)) old.spans.items (this ∷ [])
      (each_earlier text place old.spans.items h.each)
      (All-from_recursion (IsAtomBefore text (place + 1)) (this ∷ []) (new_one, tt)));
  all = λ span k. subst (λ spans. Contains spans span) (sym items) (either span k (cases_lt k.atom.last place));
  apart = subst (AllPairs (λ (span later : Span). span.end ≤ later.start)) (sym items)
      (all_pairs_push (λ (span later : Span). span.end ≤ later.start) old.spans.items this h.apart
      (λ k d lt. behind (get_or old.spans.items k d) (h.each k d lt)));
}
  where
    this : Span
    this = record { start = old.begun; end = end }

    entered : IsEntered text place old.begun
    entered = h.begun inside

    new_one : IsAtomBefore text (place + 1) this
    new_one = subst (λ n. IsAtomBefore text (place + 1) (record { start = old.begun; end = n })) (sym is)
        (ended text place old.begun lt entered out)

    either : (span : Span) (k : IsAtomBefore text (place + 1) span)
        → (k.atom.last < place) ⊎ (place ≤ k.atom.last) → Contains (old.spans.items ++ this ∷ []) span
    either span k (inl before) = Contains-append_left old.spans.items (this ∷ []) span
        (h.all span (record { atom = k.atom; before = before }))
    either span k (inr le) =
        let at : k.atom.last ≡ place = omega (arith, k.before) in
        let end_is : span.end ≡ end = k.atom.end
        ∙ ap (λ n. n + own_end (token_at text (n + 1))) at ∙ sym is in
        Contains-append_right old.spans.items (this ∷ []) span
        (0, omega arith, span_is span old.begun end (same_start text place old.begun span entered k.atom at) end_is)

    behind : (span : Span) → IsAtomBefore text place span → span.end ≤ old.begun
    behind span k = by (cases_lt old.begun (k.atom.last + 1))
      where
        by : (old.begun < k.atom.last + 1) ⊎ (k.atom.last + 1 ≤ old.begun) → span.end ≤ old.begun
        by (inl lt) = absurd (clash (is_inside (token_at text (k.atom.last + 1)))
            (entered.inside (k.atom.last + 1) lt (omega (arith, k.before))) k.atom.ends)
        by (inr le) = omega (arith, k.atom.end, own_small (token_at text (k.atom.last + 1)))

-- ## One byte

-- outside atoms
pub scan_outside : (text : List ℕ) (old new : AtomScan) (what : LexerStep) (byte place : ℕ) → IsAt text byte place
    → what ≡ lex old.token byte → new.token ≡ token_behind what → new.begun ≡ place → new.spans ≡ old.spans
    → is_inside old.token ≡ false → IsAtomScan text place old → IsAtomScan text (place + 1) new
scan_outside text old new what byte place at e token begun same out h =
    let step = step_is text old.token byte place what at h.token e in
    let before : is_inside (token_at text place) ≡ false = ap is_inside (sym h.token) ∙ out in
    none_more text place old new same (token_is text place what new.token step token)
    (λ still. subst (IsEntered text (place + 1)) (sym begun) (enters text place before still)) (inl before) h

-- inside an atom
pub scan_inside : (text : List ℕ) (old new : AtomScan) (what : LexerStep) (byte place : ℕ) → IsAt text byte place
    → what ≡ lex old.token byte → new.token ≡ token_behind what → new.begun ≡ old.begun → new.spans ≡ old.spans
    → is_inside old.token ≡ true → is_inside new.token ≡ true → IsAtomScan text place old
    → IsAtomScan text (place + 1) new
scan_inside text old new what byte place at e token begun same inside more h =
    let step = step_is text old.token byte place what at h.token e in
    let next = token_is text place what new.token step token in
    let before : is_inside (token_at text place) ≡ true = ap is_inside (sym h.token) ∙ inside in
    none_more text place old new same next
    (λ still. subst (IsEntered text (place + 1)) (sym begun) (goes_on text place old.begun (h.begun before) still))
    (inr (ap is_inside (sym next) ∙ more)) h

-- where an atom ends
pub scan_ended : (text : List ℕ) (old new : AtomScan) (what : LexerStep) (byte place end : ℕ) → IsAt text byte place
    → what ≡ lex old.token byte → new.token ≡ token_behind what
    → new.spans.items ≡ old.spans.items ++ record { start = old.begun; end = end } ∷ []
    → end ≡ place + own_end new.token → is_inside old.token ≡ true → is_inside new.token ≡ false
    → IsAtomScan text place old → IsAtomScan text (place + 1) new
scan_ended text old new what byte place end at e token items is inside out h =
    let step = step_is text old.token byte place what at h.token e in
    let next = token_is text place what new.token step token in
    one_more text place end old new (slice_get_within text place byte at) items next
    (is ∙ ap (λ t. place + own_end t) next) (ap is_inside (sym h.token) ∙ inside) (ap is_inside (sym next) ∙ out) h

-- ## The whole text

pub no_atoms : (text : List ℕ) (scan : AtomScan) → scan.token ≡ token_at text 0 → scan.spans.items ≡ []
    → IsAtomScan text 0 scan
no_atoms text scan token none = record {
  token = token;
  begun = λ inside. absurd (false≢true inside);
  each = λ k d lt. absurd (omega (arith, lt, ap length none));
  all = λ span k. absurd (omega (arith, k.before));
  apart = λ i j d lt le. absurd (omega (arith, le, ap length none));
}

pub all_atoms : (text : List ℕ) (scan : AtomScan) → IsAtomScan text (length text) scan
    → AreAtoms text scan.spans.items
all_atoms text scan h = record {
  each = λ k d lt. (h.each k d lt).atom;
  all = λ span k. h.all span (record { atom = k; before = k.within });
  apart = h.apart;
}
