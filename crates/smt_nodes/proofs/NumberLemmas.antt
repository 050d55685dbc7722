-- The numbers that rows hold, as a table grows and is cut.
use Rattle.std.proofs.Common.{◌≡◌, ◌<◌, ◌⊎◌, inl, inr, ℕ, List, [], ◌∷◌, ◌++◌, length, take, slice_get, Option}
use Rattle.std.proofs.Common.{Some, option_map, refl, ap, sym, subst, ◌∙◌, arith}
use Rattle.std.proofs.lemmas.List.{length-take}
use Rattle.std.proofs.lemmas.Option.{slice_get_within}
use Rattle.smt_nodes.specs.Internal.Annotations.{inner}
use Rattle.smt_nodes.specs.Internal.Lists.{Grows, IsPrefix, Lists, first_of, lengths, node_of}
use Rattle.smt_nodes.specs.Internal.Numbers.{IsNumberHeld, number_in}
use Rattle.smt_nodes.specs.Internal.Rows.{AreNumbered, IsSound, last_ends}
use Rattle.smt_nodes.specs.Literals.{spelled}
use Rattle.smt_nodes.specs.Node as spec
use Rattle.smt_nodes.specs.declared.annotated.AnnotatedNode.{AnnotatedNode}
use Rattle.smt_nodes.specs.declared.large.LargeNumber.{LargeNumber}
use Rattle.smt_nodes.specs.declared.rows.Ends.{Ends}
use Rattle.smt_nodes.specs.declared.rows.Stored.{Stored}
use Rattle.smt_nodes.specs.declared.rows.Stored.TheVariants.{Large}
use Rattle.smt_nodes.specs.declared.rows.StoredRow.{StoredRow}
use Rattle.smt_nodes.proofs.PlaceLemmas.{Keeps, get_pushed, get_taken, kept_place, longer_keeps}
use Rattle.smt_nodes.proofs.RowLemmas.{inner_kept, node_kept}
use Rattle.smt_nodes.proofs.SoundLemmas.{KeepsBelow, below_keeps}
use Rattle.smt_nodes.proofs.TableLemmas.{node_cut}

held_on : (large left : List LargeNumber) (row : ℕ) (s : Stored) (number : Option ℕ)
    → Keeps (λ x. x.row) large left row → IsNumberHeld large row s number → IsNumberHeld left row s number
held_on large left row s number keeps h = by s h
  where
    by : (s : Stored) → IsNumberHeld large row s number → IsNumberHeld left row s number
    by (Large base n place) h =
        let here : slice_get left place ≡ slice_get large place =
        kept_place (λ x. x.row) large left row place keeps (h.own place refl) in
        record {
          value = ap (λ o. number_in o) here ∙ h.value;
          own = λ p e. (let there : place ≡ p = cc in
              ap (λ q. option_map (λ x. x.row) (slice_get left q)) (sym there)
              ∙ ap (λ o. option_map (λ x. x.row) o) here ∙ h.own place refl);
        }
    by _ h = record { value = h.value; own = λ p e. cc }

-- a number that is held, of a node that is stored the same
held_at : (left : List LargeNumber) (row : ℕ) (s s' : Stored) (n n' : spec.Node) → s ≡ s' → n ≡ n'
    → IsNumberHeld left row s (spelled n) → IsNumberHeld left row s' (spelled n')
held_at left row s s' n n' same is h =
    subst (λ (x : Stored). IsNumberHeld left row x (spelled n')) same
    (subst (λ (x : spec.Node). IsNumberHeld left row s (spelled x)) is h)

-- ---- growing

pub numbered_grown : (rows : List StoredRow) (t u : Lists) (large larger : List LargeNumber)
    (nodes more : List AnnotatedNode) → IsSound rows t nodes → Grows t u → IsPrefix large larger
    → IsPrefix nodes more → AreNumbered rows t large nodes → AreNumbered rows u larger more
numbered_grown rows t u large larger nodes more sound grown longer prefix numbered = λ i r at.
    let same : inner nodes r.stored ≡ inner more r.stored =
    sym (inner_kept nodes more i r.stored (longer_keeps (λ x. x.row) nodes more i prefix) (sound.own i r at)) in
    let node : node_of t r.ends (inner nodes r.stored) ≡ node_of u r.ends (inner more r.stored) =
    sym (node_kept t u r.ends (inner nodes r.stored) (sound.held i r at) (sound.within i r at) grown)
    ∙ ap (λ (s : Stored). node_of u r.ends s) same in
    held_at larger i (inner nodes r.stored) (inner more r.stored) (node_of t r.ends (inner nodes r.stored))
    (node_of u r.ends (inner more r.stored)) same node
    (held_on large larger i (inner nodes r.stored) (spelled (node_of t r.ends (inner nodes r.stored)))
    (longer_keeps (λ x. x.row) large larger i longer) (numbered i r at))

pub numbered_pushed : (rows : List StoredRow) (t : Lists) (large : List LargeNumber) (nodes : List AnnotatedNode)
    (new : StoredRow) → AreNumbered rows t large nodes → new.ends ≡ lengths t
    → IsNumberHeld large (length rows) (inner nodes new.stored) (spelled (node_of t (lengths t) (inner nodes new.stored)))
    → AreNumbered (rows ++ new ∷ []) t large nodes
numbered_pushed rows t large nodes new numbered ends held = λ i r at. by i r (get_pushed rows new i r at)
  where
    Holds : ℕ → StoredRow → Type 0
    Holds i r = IsNumberHeld large i (inner nodes r.stored) (spelled (node_of t r.ends (inner nodes r.stored)))

    here : Holds (length rows) new
    here = subst (λ (e : Ends). IsNumberHeld large (length rows) (inner nodes new.stored)
        (spelled (node_of t e (inner nodes new.stored)))) (sym ends) held

    by : (i : ℕ) (r : StoredRow) → (slice_get rows i ≡ Some r) ⊎ ((i ≡ length rows) × (new ≡ r)) → Holds i r
    by i r (inl at) = numbered i r at
    by i r (inr (e, is)) =
        subst (λ (j : ℕ). Holds j r) (sym e) (subst (λ (s : StoredRow). Holds (length rows) s) is here)

-- ---- cut

pub numbered_cut : (n : ℕ) (rows : List StoredRow) (t : Lists) (large fewer : List LargeNumber)
    (nodes left : List AnnotatedNode) → IsSound rows t nodes → AreNumbered rows t large nodes
    → ((place : ℕ) (x : LargeNumber) → slice_get large place ≡ Some x → x.row < n → slice_get fewer place ≡ Some x)
    → KeepsBelow n nodes left → AreNumbered (take n rows) (first_of (last_ends (take n rows)) t) fewer left
numbered_cut n rows t large fewer nodes left sound numbered kept keeps = λ i r at.
    let u = first_of (last_ends (take n rows)) t in
    let below : i < n = omega (arith, slice_get_within (take n rows) i r at, length-take n rows) in
    held_at fewer i (inner nodes r.stored) (inner left r.stored) (node_of t r.ends (inner nodes r.stored))
    (node_of u r.ends (inner left r.stored))
    (sym (inner_kept nodes left i r.stored (below_keeps n rows nodes left i r keeps at)
    (sound.own i r (get_taken n rows i r at))))
    (sym (node_cut n rows t nodes left i r sound keeps at))
    (held_on large fewer i (inner nodes r.stored) (spelled (node_of t r.ends (inner nodes r.stored)))
    (λ place x here mine. kept place x here (omega (arith, below, mine)))
    (numbered i r (get_taken n rows i r at)))
