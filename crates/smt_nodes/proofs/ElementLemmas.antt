-- The numbers that rows of elements hold, as a table grows and is cut, and as names come.
use Rattle.std.proofs.Common.{◌≡◌, ◌⊎◌, inl, inr, ℕ, suc, Bool, true, false, cond, List, [], ◌∷◌, ◌++◌}
use Rattle.std.proofs.Common.{length, take, slice_get, Option, Some, None, is_some, refl, ap, sym, subst, ◌∙◌, append-nil}
use Rattle.std.specs.Prelude.{bytes_eq}
use Rattle.std.specs.Bool.{Decides}
use Rattle.std.specs.Option.{option_or}
use Rattle.std.proofs.lemmas.Slice.Eq.{bytes_eq-Decides}
use Rattle.smt_names.specs.Places.{place_from, place_of, with_name}
use Rattle.smt_nodes.specs.Elements.{element_number, names_with}
use Rattle.smt_nodes.specs.Internal.Annotations.{inner}
use Rattle.smt_nodes.specs.Internal.Elements.{AreNamed, held_element}
use Rattle.smt_nodes.specs.Internal.Lists.{Grows, IsPrefix, Lists, first_of, lengths, node_of}
use Rattle.smt_nodes.specs.Internal.Rows.{IsSound, last_ends, row_view, views}
use Rattle.smt_nodes.specs.Node as spec
use Rattle.smt_nodes.specs.declared.annotated.AnnotatedNode.{AnnotatedNode}
use Rattle.smt_nodes.specs.declared.rows.Ends.{Ends}
use Rattle.smt_nodes.specs.declared.rows.Stored.{Stored}
use Rattle.smt_nodes.specs.declared.rows.Stored.TheVariants.{Literal, Large, Element, Slot, Plain, Numbered, Declared}
use Rattle.smt_nodes.specs.declared.rows.Stored.TheVariants.{Defined, Let, Annotated}
use Rattle.smt_nodes.specs.declared.rows.StoredRow.{StoredRow}
use Rattle.smt_nodes.proofs.PlaceLemmas.{get_pushed, get_taken, longer_keeps}
use Rattle.smt_nodes.proofs.RowLemmas.{inner_kept, node_kept}
use Rattle.smt_nodes.proofs.SoundLemmas.{KeepsBelow, below_keeps}
use Rattle.smt_nodes.proofs.TableLemmas.{node_cut, row_absent, row_found}

-- what is held, of a node that is stored the same
held_at : (names : List (List ℕ)) (s s' : Stored) (n n' : spec.Node) → s ≡ s' → n ≡ n'
    → held_element s ≡ element_number names n → held_element s' ≡ element_number names n'
held_at names s s' n n' same is h =
    sym (ap held_element same) ∙ h ∙ ap (element_number names) is

-- ---- rows

pub named_grown : (rows : List StoredRow) (t u : Lists) (names : List (List ℕ)) (nodes more : List AnnotatedNode)
    → IsSound rows t nodes → Grows t u → IsPrefix nodes more → AreNamed rows t names nodes
    → AreNamed rows u names more
named_grown rows t u names nodes more sound grown prefix named = λ i r at.
    let same : inner nodes r.stored ≡ inner more r.stored =
    sym (inner_kept nodes more i r.stored (longer_keeps (λ x. x.row) nodes more i prefix) (sound.own i r at)) in
    held_at names (inner nodes r.stored) (inner more r.stored) (node_of t r.ends (inner nodes r.stored))
    (node_of u r.ends (inner more r.stored)) same
    (sym (node_kept t u r.ends (inner nodes r.stored) (sound.held i r at) (sound.within i r at) grown)
    ∙ ap (λ (s : Stored). node_of u r.ends s) same) (named i r at)

pub named_pushed : (rows : List StoredRow) (t : Lists) (names : List (List ℕ)) (nodes : List AnnotatedNode)
    (new : StoredRow) → AreNamed rows t names nodes → new.ends ≡ lengths t
    → held_element (inner nodes new.stored) ≡ element_number names (node_of t (lengths t) (inner nodes new.stored))
    → AreNamed (rows ++ new ∷ []) t names nodes
named_pushed rows t names nodes new named ends held = λ i r at. by i r (get_pushed rows new i r at)
  where
    Holds : StoredRow → Type 0
    Holds r = held_element (inner nodes r.stored) ≡ element_number names (node_of t r.ends (inner nodes r.stored))

    here : Holds new
    here = held ∙ ap (λ (e : Ends). element_number names (node_of t e (inner nodes new.stored))) (sym ends)

    by : (i : ℕ) (r : StoredRow) → (slice_get rows i ≡ Some r) ⊎ ((i ≡ length rows) × (new ≡ r)) → Holds r
    by i r (inl at) = named i r at
    by i r (inr (e, is)) = subst (λ (s : StoredRow). Holds s) is here

pub named_cut : (n : ℕ) (rows : List StoredRow) (t : Lists) (names : List (List ℕ)) (nodes left : List AnnotatedNode)
    → IsSound rows t nodes → AreNamed rows t names nodes → KeepsBelow n nodes left
    → AreNamed (take n rows) (first_of (last_ends (take n rows)) t) names left
named_cut n rows t names nodes left sound named keeps = λ i r at.
    let u = first_of (last_ends (take n rows)) t in
    held_at names (inner nodes r.stored) (inner left r.stored) (node_of t r.ends (inner nodes r.stored))
    (node_of u r.ends (inner left r.stored))
    (sym (inner_kept nodes left i r.stored (below_keeps n rows nodes left i r keeps at)
    (sound.own i r (get_taken n rows i r at))))
    (sym (node_cut n rows t nodes left i r sound keeps at)) (named i r (get_taken n rows i r at))

-- ---- names

-- the place of a name stays where another comes behind
behind : (at : ℕ) (names : List (List ℕ)) (x y : List ℕ) → bytes_eq x y ≡ false
    → place_from at (names ++ y ∷ []) x ≡ place_from at names x
behind at [] x y other = ap (λ b. cond b (Some at) None) other
behind at (z ∷ names) x y other =
    ap (λ o. option_or o (cond (bytes_eq x z) (Some at) None)) (behind (suc at) names x y other)

other_name : (names : List (List ℕ)) (x y : List ℕ) (k : ℕ) → place_of names x ≡ Some k → place_of names y ≡ None
    → bytes_eq x y ≡ false
other_name names x y k there none = by (bytes_eq x y) (bytes_eq-Decides x y)
  where
    by : (b : Bool) → Decides b (x ≡ y) → b ≡ false
    by false d = refl
    by true d =
        let e : Some k ≡ None = sym there ∙ ap (place_of names) (d.0 refl) ∙ none in cc

stays : (names : List (List ℕ)) (x y : List ℕ) (k : ℕ) → place_of names x ≡ Some k
    → place_of (with_name names y) x ≡ Some k
stays names x y k there = by (place_of names y) refl
  where
    by : (o : Option ℕ) → place_of names y ≡ o → place_of (cond (is_some o) names (names ++ y ∷ [])) x ≡ Some k
    by (Some j) e = there
    by None e = behind 0 names x y (other_name names x y k there e) ∙ there

number_stays : (names : List (List ℕ)) (y : List ℕ) (t : Lists) (e : Ends) (s : Stored)
    → held_element s ≡ element_number names (node_of t e s)
    → held_element s ≡ element_number (with_name names y) (node_of t e s)
number_stays names y t e (Element n k) h = sym (stays names _ y k (sym h))
number_stays names y t e (Literal kind n number) h = h
number_stays names y t e (Large kind n place) h = h
number_stays names y t e (Slot place) h = h
number_stays names y t e (Plain op n) h = h
number_stays names y t e (Numbered place n) h = h
number_stays names y t e (Declared place n) h = h
number_stays names y t e (Defined place n) h = h
number_stays names y t e (Let n body) h = h
number_stays names y t e (Annotated place around) h = h

pub named_more : (rows : List StoredRow) (t : Lists) (names : List (List ℕ)) (y : List ℕ) (nodes : List AnnotatedNode)
    → AreNamed rows t names nodes → AreNamed rows t (with_name names y) nodes
named_more rows t names y nodes named = λ i r at.
    number_stays names y t r.ends (inner nodes r.stored) (named i r at)

-- names with one more have the first ones before it
pub longer : (names : List (List ℕ)) (n : spec.Node) → IsPrefix names (names_with names n)
longer names (spec.Element x) = by (is_some (place_of names x))
  where
    by : (b : Bool) → IsPrefix names (cond b names (names ++ x ∷ []))
    by true = ([], sym (append-nil names))
    by false = (x ∷ [], refl)
longer names (spec.Literal kind digits) = ([], sym (append-nil names))
longer names (spec.Slot place) = ([], sym (append-nil names))
longer names (spec.Apply op args) = ([], sym (append-nil names))
longer names (spec.Declared place args) = ([], sym (append-nil names))
longer names (spec.Defined place args) = ([], sym (append-nil names))
longer names (spec.Let values body) = ([], sym (append-nil names))

-- ---- what stands in a table

-- a row of an element holds a number
holds_number : (names : List (List ℕ)) (t : Lists) (e : Ends) (s : Stored) (x : List ℕ)
    → node_of t e s ≡ spec.Element x → held_element s ≡ element_number names (node_of t e s)
    → (k : ℕ) × (place_of names x ≡ Some k)
holds_number names t e (Element n k) x is h = (k, ap (element_number names) (sym is) ∙ sym h)
holds_number names t e (Literal kind n number) x is h = cc
holds_number names t e (Large kind n place) x is h = cc
holds_number names t e (Slot place) x is h = cc
holds_number names t e (Plain op n) x is h = cc
holds_number names t e (Numbered place n) x is h = cc
holds_number names t e (Declared place n) x is h = cc
holds_number names t e (Defined place n) x is h = cc
holds_number names t e (Let n body) x is h = cc
holds_number names t e (Annotated place around) x is h = cc

abbrev node_or : Option spec.Row → spec.Node → spec.Node
node_or None other = other
node_or (Some r) other = r.node

pub row_has_number : (rows : List StoredRow) (t : Lists) (names : List (List ℕ)) (nodes : List AnnotatedNode) (i : ℕ)
    (row : spec.Row) (x : List ℕ) → AreNamed rows t names nodes → slice_get (views rows t nodes) i ≡ Some row
    → row.node ≡ spec.Element x → (k : ℕ) × (place_of names x ≡ Some k)
row_has_number rows t names nodes i row x named at is = by (slice_get rows i) refl
  where
    by : (o : Option StoredRow) → slice_get rows i ≡ o → (k : ℕ) × (place_of names x ≡ Some k)
    by None e = let none : Some row ≡ None = sym at ∙ row_absent rows t nodes i e in cc
    by (Some r) e =
        let same : Some row ≡ Some (row_view t nodes r) = sym at ∙ row_found rows t nodes i r e in
        let node : row.node ≡ node_of t r.ends (inner nodes r.stored) =
        ap (λ (o : Option spec.Row). node_or o row.node) same in
        holds_number names t r.ends (inner nodes r.stored) x (sym node ∙ is) (named i r e)
