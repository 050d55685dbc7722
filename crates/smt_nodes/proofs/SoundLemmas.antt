-- What every table keeps, as it grows and is cut.
use Rattle.std.proofs.Common.{◌≡◌, ◌≤◌, ◌<◌, ◌-◌, ◌⊎◌, inl, inr, ℕ, List, [], ◌∷◌, ◌++◌, length, take}
use Rattle.std.proofs.Common.{slice_get, get_or, Option, Some, ap, sym, subst, ◌∙◌, arith}
use Rattle.std.proofs.lemmas.List.{length-take}
use Rattle.std.proofs.lemmas.Option.{slice_get-get_or, slice_get_within}
use Rattle.smt_nodes.specs.Internal.Annotations.{IsOwn, inner}
use Rattle.smt_nodes.specs.Internal.Lists.{Grows, IsHeld, IsPrefix, IsUpTo, Lists, first_of, lengths}
use Rattle.smt_nodes.specs.Internal.Rows.{IsSound, ends_in, last_ends}
use Rattle.smt_nodes.specs.declared.annotated.AnnotatedNode.{AnnotatedNode}
use Rattle.smt_nodes.specs.declared.rows.Ends.{Ends}
use Rattle.smt_nodes.specs.declared.rows.Stored.{Stored}
use Rattle.smt_nodes.specs.declared.rows.StoredRow.{StoredRow}
use Rattle.smt_nodes.proofs.PlaceLemmas.{Keeps, get_pushed, get_taken, longer, longer_keeps}
use Rattle.smt_nodes.proofs.RowLemmas.{inner_kept, own_kept}

up_to_itself : (a : Ends) → IsUpTo a a
up_to_itself a = record { parts = omega arith; digits = omega arith; ops = omega arith }

up_to_on : (a b c : Ends) → IsUpTo a b → IsUpTo b c → IsUpTo a c
up_to_on a b c p q = record {
  parts = omega (arith, p.parts, q.parts);
  digits = omega (arith, p.digits, q.digits);
  ops = omega (arith, p.ops, q.ops);
}

-- ---- growing

pub sound_grown : (rows : List StoredRow) (t u : Lists) (nodes more : List AnnotatedNode) → IsSound rows t nodes
    → Grows t u → IsPrefix nodes more → IsSound rows u more
sound_grown rows t u nodes more sound grown prefix = record {
  held = λ i r at. subst (λ (s : Stored). IsHeld r.ends s)
      (sym (inner_kept nodes more i r.stored (keeps i) (sound.own i r at))) (sound.held i r at);
  own = λ i r at. own_kept nodes more i r.stored (keeps i) (sound.own i r at);
  ordered = sound.ordered;
  within = λ i r at. up_to_on r.ends (lengths t) (lengths u) (sound.within i r at) further;
}
  where
    further : IsUpTo (lengths t) (lengths u)
    further = record {
      parts = longer t.parts u.parts grown.parts;
      digits = longer t.digits u.digits grown.digits;
      ops = longer t.ops u.ops grown.ops;
    }

    keeps : (i : ℕ) → Keeps (λ x. x.row) nodes more i
    keeps i = longer_keeps (λ x. x.row) nodes more i prefix

pub sound_pushed : (rows : List StoredRow) (t : Lists) (nodes : List AnnotatedNode) (new : StoredRow)
    → IsSound rows t nodes → new.ends ≡ lengths t → IsHeld (lengths t) (inner nodes new.stored)
    → IsOwn nodes (length rows) new.stored → IsSound (rows ++ new ∷ []) t nodes
sound_pushed rows t nodes new sound ends held own = record {
  held = λ i r at. held_by r i (get_pushed rows new i r at);
  own = λ i r at. own_by r i (get_pushed rows new i r at);
  ordered = λ i j r s le at there. ordered_by i j r s le (get_pushed rows new i r at)
      (get_pushed rows new j s there);
  within = λ i r at. within_by r i (get_pushed rows new i r at);
}
  where
    whole : IsUpTo new.ends (lengths t)
    whole = subst (λ (e : Ends). IsUpTo e (lengths t)) (sym ends) (up_to_itself (lengths t))

    kept : IsHeld new.ends (inner nodes new.stored)
    kept = subst (λ (e : Ends). IsHeld e (inner nodes new.stored)) (sym ends) held

    held_by : (r : StoredRow) (i : ℕ) → (slice_get rows i ≡ Some r) ⊎ ((i ≡ length rows) × (new ≡ r))
        → IsHeld r.ends (inner nodes r.stored)
    held_by r i (inl at) = sound.held i r at
    held_by r i (inr (e, is)) = subst (λ (s : StoredRow). IsHeld s.ends (inner nodes s.stored)) is kept

    own_by : (r : StoredRow) (i : ℕ) → (slice_get rows i ≡ Some r) ⊎ ((i ≡ length rows) × (new ≡ r))
        → IsOwn nodes i r.stored
    own_by r i (inl at) = sound.own i r at
    own_by r i (inr (e, is)) =
        subst (λ (j : ℕ). IsOwn nodes j r.stored) (sym e)
        (subst (λ (s : StoredRow). IsOwn nodes (length rows) s.stored) is own)

    within_by : (r : StoredRow) (i : ℕ) → (slice_get rows i ≡ Some r) ⊎ ((i ≡ length rows) × (new ≡ r))
        → IsUpTo r.ends (lengths t)
    within_by r i (inl at) = sound.within i r at
    within_by r i (inr (e, is)) = subst (λ (s : StoredRow). IsUpTo s.ends (lengths t)) is whole

    to_last : (r s : StoredRow) → IsUpTo r.ends (lengths t) → new ≡ s → IsUpTo r.ends s.ends
    to_last r s h is =
        let same : lengths t ≡ s.ends = sym ends ∙ ap (λ (x : StoredRow). x.ends) is in
        subst (λ (e : Ends). IsUpTo r.ends e) same h

    ordered_by : (i j : ℕ) (r s : StoredRow) → i ≤ j
        → (slice_get rows i ≡ Some r) ⊎ ((i ≡ length rows) × (new ≡ r))
        → (slice_get rows j ≡ Some s) ⊎ ((j ≡ length rows) × (new ≡ s)) → IsUpTo r.ends s.ends
    ordered_by i j r s le (inl at) (inl there) = sound.ordered i j r s le at there
    ordered_by i j r s le p (inr (e, is)) = to_last r s (within_by r i p) is
    ordered_by i j r s le (inr (e, is)) (inl there) =
        absurd (omega (arith, le, e, slice_get_within rows j s there))

-- ---- cut

-- so far as the last row reaches, each does
last_reaches : (n : ℕ) (rows : List StoredRow) (t : Lists) (nodes : List AnnotatedNode) (i : ℕ) (r : StoredRow)
    → IsSound rows t nodes → slice_get (take n rows) i ≡ Some r → IsUpTo r.ends (last_ends (take n rows))
last_reaches n rows t nodes i r sound at =
    subst (λ (o : Option StoredRow). IsUpTo r.ends (ends_in o)) (sym there)
    (sound.ordered i (length (take n rows) - 1) r (get_or (take n rows) (length (take n rows) - 1) r)
    (omega (arith, within)) (get_taken n rows i r at)
    (get_taken n rows (length (take n rows) - 1) (get_or (take n rows) (length (take n rows) - 1) r) there))
  where
    within : i < length (take n rows)
    within = slice_get_within (take n rows) i r at

    there : slice_get (take n rows) (length (take n rows) - 1)
        ≡ Some (get_or (take n rows) (length (take n rows) - 1) r)
    there = slice_get-get_or (take n rows) (length (take n rows) - 1) r (omega (arith, within))

-- within the lists that are left
left_within : (a b : Ends) (t : Lists) → IsUpTo a b → IsUpTo a (lengths t)
    → IsUpTo a (lengths (first_of b t))
left_within a b t p q = record {
  parts = omega (arith, p.parts, q.parts, length-take b.parts t.parts);
  digits = omega (arith, p.digits, q.digits, length-take b.digits t.digits);
  ops = omega (arith, p.ops, q.ops, length-take b.ops t.ops);
}

-- what belongs to the rows below this one among the first stands at its place among the second
abbrev pub KeepsBelow : ℕ → List AnnotatedNode → List AnnotatedNode → Type 0
KeepsBelow n nodes left = (i : ℕ) (x : AnnotatedNode) → slice_get nodes i ≡ Some x → x.row < n
    → slice_get left i ≡ Some x

pub below_keeps : (n : ℕ) (rows : List StoredRow) (nodes left : List AnnotatedNode) (i : ℕ) (r : StoredRow)
    → KeepsBelow n nodes left → slice_get (take n rows) i ≡ Some r → Keeps (λ x. x.row) nodes left i
below_keeps n rows nodes left i r kept at = λ place x there mine.
    kept place x there (omega (arith, mine, slice_get_within (take n rows) i r at, length-take n rows))

pub sound_cut : (n : ℕ) (rows : List StoredRow) (t : Lists) (nodes left : List AnnotatedNode)
    → IsSound rows t nodes → KeepsBelow n nodes left
    → IsSound (take n rows) (first_of (last_ends (take n rows)) t) left
sound_cut n rows t nodes left sound kept = record {
  held = λ i r at. subst (λ (s : Stored). IsHeld r.ends s)
      (sym (inner_kept nodes left i r.stored (below_keeps n rows nodes left i r kept at)
      (sound.own i r (get_taken n rows i r at)))) (sound.held i r (get_taken n rows i r at));
  own = λ i r at. own_kept nodes left i r.stored (below_keeps n rows nodes left i r kept at)
      (sound.own i r (get_taken n rows i r at));
  ordered = λ i j r s le at there. sound.ordered i j r s le (get_taken n rows i r at)
      (get_taken n rows j s there);
  within = λ i r at. left_within r.ends (last_ends (take n rows)) t (last_reaches n rows t nodes i r sound at)
      (sound.within i r (get_taken n rows i r at));
}
