-- A node stands for its term by those of lower numbers alone.
use Rattle.std.proofs.Common.{◌≡◌, ◌<◌, ℕ, zero, suc, ◌+◌, List, [], ◌∷◌, ◌++◌, length, slice_get, take, Option}
use Rattle.std.proofs.Common.{Some, refl, sym, subst, arith}
use Rattle.std.specs.List.{All}
use Rattle.std.proofs.lemmas.List.Elements.{All-head, All-tail}
use Rattle.smt_trees.specs.Sexp.{Sexp, Sexps, Atom, Reserved, Items, Nil, Cons, Numeral, Decimal, Hexadecimal}
use Rattle.smt_trees.specs.Sexp.{Binary, Symbol}
use Rattle.smt_trees.specs.declared.reserved.Word.TheVariants.{As, Bang, Let, Underscore}
use Rattle.smt_forms.specs.Labels.{labels_among}
use Rattle.smt_nodes.specs.Node as node
use Rattle.smt_nodes.specs.Node.{Node, Row}
use Rattle.smt_terms.specs.Contents.{Contents, terms_in}
use Rattle.smt_terms.specs.Denotes.{AreBound, AreDenoted, Denotes, IsNameOf, IsNode, IsRow, Slots, Table, UsesNone}
use Rattle.smt_terms.specs.Denotes.{slots_bound, slots_from, unless_labelled}
use Rattle.smt_terms.specs.Library.{Holds}
use Rattle.smt_terms.specs.Signature as signature
use Rattle.smt_terms.specs.Signature.{Entry, Origin, Signature}
use Rattle.smt_terms.specs.TermsOf.{AreBodies, IsNextBody, first_heads}

-- what stands at a place stands there among the first so many
get_first : {A : Type 0} (n : ℕ) (xs : List A) (i : ℕ) → i < n → slice_get (take n xs) i ≡ slice_get xs i
get_first zero xs i within = absurd (omega (arith, within))
get_first (suc n) [] i within = refl
get_first (suc n) (x ∷ xs) zero within = refl
get_first (suc n) (x ∷ xs) (suc i) within = get_first n xs i (omega (arith, within))

-- the first so many rows of a table
abbrev pub first_rows : ℕ → Table → Table
first_rows n t = record t { rows = take n t.rows }

module _ (n : ℕ) (t : Table) where
  row_left : (i around : ℕ) (m : Option Node) → i < n → IsRow (slice_get t.rows i) around m
      → IsRow (slice_get (take n t.rows) i) around m
  row_left i around m within h =
      subst (λ (r : Option Row). IsRow r around m) (sym (get_first n t.rows i within)) h

  is_left : (i around : ℕ) (m : Option Node) → i < n → IsNode t around i m → IsNode (first_rows n t) around i m
  is_left i around m within h = (row_left i around m within h.0, h.1)

  annotated_left : (slots : Slots) (next around i : ℕ) (term : Sexp) (labels : List (List ℕ)) → i < n
      → (Denotes t slots next (around + 1) i term → Denotes (first_rows n t) slots next (around + 1) i term)
      → ((j : ℕ) → j < n → Denotes t [] 0 0 j term → Denotes (first_rows n t) [] 0 0 j term)
      → unless_labelled labels (Denotes t slots next (around + 1) i term)
      (λ label. UsesNone slots term × IsNameOf t label around i (λ j. Denotes t [] 0 0 j term))
      → unless_labelled labels (Denotes (first_rows n t) slots next (around + 1) i term)
      (λ label. UsesNone slots term
      × IsNameOf (first_rows n t) label around i (λ j. Denotes (first_rows n t) [] 0 0 j term))
  annotated_left slots next around i term [] within bare labelled h = bare h
  annotated_left slots next around i term (label ∷ labels) within bare labelled h =
      let m = h.1 in (
        h.0,
        (
          m.0,
          m.1,
          m.2,
          row_left i around (Some (node.Defined m.0 [])) within m.3,
          m.4,
          m.5,
          labelled m.1 (omega (arith, m.5, within)) m.6,
        ),
      )

  mutual
    pub denotes_left : (slots : Slots) (next around i : ℕ) (term : Sexp) → i < n → Denotes t slots next around i term
        → Denotes (first_rows n t) slots next around i term
    denotes_left slots next around i (Atom Symbol x) within d = is_left i around _ within d
    denotes_left slots next around i (Atom Numeral digits) within d = is_left i around _ within d
    denotes_left slots next around i (Atom Decimal digits) within d = is_left i around _ within d
    denotes_left slots next around i (Atom Hexadecimal digits) within d = is_left i around _ within d
    denotes_left slots next around i (Atom Binary digits) within d = is_left i around _ within d
    denotes_left slots next around i (Items (Cons (Reserved Underscore) parts)) within d =
        (d.0, d.1, is_left i around _ within d.2)
    denotes_left slots next around i (Items (Cons (Reserved As) parts)) within d = is_left i around _ within d
    denotes_left slots next around i
        (Items (Cons (Reserved Let) (Cons (Items bindings) (Cons body Nil)))) within d = (
          d.0,
          d.1,
          is_left i around _ within d.2,
          bound_left slots next i d.0 bindings within d.3,
          d.4,
          denotes_left (slots_bound next bindings ++ slots) (next + length d.0) 0 d.1 body
              (omega (arith, d.4, within)) d.5,
        )
    denotes_left slots next around i (Items (Cons (Reserved Bang) (Cons term attributes))) within d =
        annotated_left slots next around i term (labels_among attributes) within
        (denotes_left slots next (around + 1) i term within) (λ j below. denotes_left [] 0 0 j term below) d
    denotes_left slots next around i (Items (Cons head args)) within d = (
      d.0,
      d.1,
      d.2,
      is_left i around _ within d.3,
      all_left slots next i d.1 args within d.4,
    )
    denotes_left slots next around i _ within d = absurd d

    all_left : (slots : Slots) (next i : ℕ) (js : List ℕ) (terms : Sexps) → i < n
        → AreDenoted t slots next i js terms → AreDenoted (first_rows n t) slots next i js terms
    all_left slots next i [] Nil within d = tt
    all_left slots next i (j ∷ js) (Cons x xs) within d = (
      d.0,
      denotes_left slots next 0 j x (omega (arith, d.0, within)) d.1,
      all_left slots next i js xs within d.2,
    )
    all_left slots next i _ _ within d = absurd d

    bound_left : (slots : Slots) (next i : ℕ) (js : List ℕ) (bindings : Sexps) → i < n
        → AreBound t slots next i js bindings → AreBound (first_rows n t) slots next i js bindings
    bound_left slots next i [] Nil within d = tt
    bound_left slots next i (j ∷ js) (Cons (Items (Cons (Atom Symbol x) (Cons term Nil))) rest) within d = (
      d.0,
      denotes_left slots next 0 j term (omega (arith, d.0, within)) d.1,
      bound_left slots next i js rest within d.2,
    )
    bound_left slots next i _ _ within d = absurd d

-- ---- bodies

-- bodies below n stand for theirs in the first n rows
bodies_left : (n : ℕ) (t : Table) (k : ℕ) (bs : List ℕ) (es : List Entry) → All (λ j. j < n) bs
    → AreBodies t k bs es → AreBodies (first_rows n t) k bs es
bodies_left n t k bs [] below h = h
bodies_left n t k bs (e ∷ es) below h =
    by e.origin bs below h (λ js rest all. bodies_left n t (k + 1) js es all rest)
  where
    by : (o : Origin) (js : List ℕ) → All (λ j. j < n) js
        → IsNextBody t k (length e.parameters) o js (λ rest. AreBodies t (k + 1) rest es)
        → ((ks : List ℕ) → AreBodies t (k + 1) ks es → All (λ j. j < n) ks → AreBodies (first_rows n t) (k + 1) ks es)
        → IsNextBody (first_rows n t) k (length e.parameters) o js (λ rest. AreBodies (first_rows n t) (k + 1) rest es)
    by (signature.Declared command) js all g next = next js g all
    by (signature.Defined ps body) [] all g next = absurd g
    by (signature.Defined ps body) (j ∷ js) all g next = (
      record {
        counted = g.0.counted;
        denotes = denotes_left n (first_heads k t) (slots_from 0 ps) (length ps) 0 j body (All-head (λ k. k < n) j js all)
            g.0.denotes;
      },
      next js g.1 (All-tail (λ k. k < n) j js all),
    )

-- so contents stand for the same with the first n rows
pub holds_left : (n : ℕ) (c : Contents) (s : Signature) → All (λ j. j < n) c.bodies → Holds c s
    → Holds (record c { rows = take n c.rows }) s
holds_left n c s below stands = record {
  theories = stands.theories;
  elements = stands.elements;
  distinct = stands.distinct;
  abbreviations = stands.abbreviations;
  ranks = stands.ranks;
  declared = stands.declared;
  definitions = stands.definitions;
  terms = record {
    theories = stands.terms.theories;
    elements = stands.terms.elements;
    heads = stands.terms.heads;
    free = stands.terms.free;
    names = stands.terms.names;
    bodies = bodies_left n (terms_in c) 0 c.bodies s.entries below stands.terms.bodies;
  };
}
