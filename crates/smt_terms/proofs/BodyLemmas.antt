-- Tables of terms, as names and nodes come behind those that are there, and the bodies of definitions in them.
use Rattle.std.proofs.Common.{◌≡◌, ◌<◌, ℕ, zero, suc, ◌+◌, Bool, true, false, cond, List, [], ◌∷◌, ◌++◌}
use Rattle.std.proofs.Common.{length, take, slice_get, Option, Some, None, option_map, refl, ap, sym}
use Rattle.std.proofs.Common.{◌∙◌, subst, arith, ◌⊎◌, inl, inr, ◌≤◌, get_or}
use Rattle.std.proofs.lemmas.List.Elements.{All-head, All-tail}
use Rattle.std.proofs.lemmas.Option.{slice_get_cases, slice_get_within}
use Rattle.std.specs.List.{All}
use Rattle.std.specs.Prelude.{bytes_eq}
use Rattle.smt_trees.specs.Sexp.{Sexp, Atom, Reserved, Items, Nil, Cons, Numeral, Decimal, Hexadecimal}
use Rattle.smt_trees.specs.Sexp.{Binary, Symbol}
use Rattle.smt_trees.specs.declared.reserved.Word.TheVariants.{As, Bang, Let, Underscore}
use Rattle.smt_theory.specs.Operators.{is_plain_operator}
use Rattle.smt_theory.specs.Words.{look_up}
use Rattle.smt_theory.specs.declared.theories.Theories.{Theories}
use Rattle.smt_forms.specs.ElementNames.{qualified_symbol}
use Rattle.smt_forms.specs.Labels.{labels_among}
use Rattle.smt_theory.specs.declared.literal.LiteralKind.TheVariants as literal
use Rattle.smt_nodes.specs.Node as node
use Rattle.smt_nodes.specs.Node.{Node, Row}
use Rattle.smt_terms.specs.Denotes.{AreApart, Denotes, Head, IsLonger, IsNameOf, IsRow, Slots, Table, UsesNone}
use Rattle.smt_terms.specs.Denotes.{node_of, qualified_node, slots_from, symbol_node, unless_labelled}
use Rattle.smt_terms.specs.Internal.TableView.{HasBody, IsReady}
use Rattle.smt_terms.specs.Signature as signature
use Rattle.smt_terms.specs.Signature.{Entry, Origin, Signature, declared_among, defined_among}
use Rattle.smt_terms.specs.TermsOf.{AreBodies, AreTermsOf, IsBody, IsNextBody, first_heads, heads_from}
use Rattle.smt_terms.specs.TermsOf.{place_behind, with_declared, with_defined}
use Rattle.smt_terms.specs.declared.library.Found.{Found}
use Rattle.smt_terms.specs.declared.library.Found.TheVariants as place
use Rattle.smt_terms.proofs.ApartLemmas.{apart_first}
use Rattle.smt_terms.proofs.DenotesLemmas.{denotes_kept}
use Rattle.smt_terms.proofs.NameLemmas.{same_name}
use Rattle.smt_terms.proofs.PlaceLemmas.{counted_declared, counted_defined}

-- ---- longer tables

-- the first so many of a longer list are those of the list, and perhaps more
take_longer : {A : Type 0} (n : ℕ) (xs more : List A) → (rest : List A) × (take n (xs ++ more) ≡ take n xs ++ rest)
take_longer zero xs more = ([], refl)
take_longer (suc n) [] more = (take (suc n) more, refl)
take_longer {A = A} (suc n) (x ∷ xs) more =
    let r = take_longer n xs more in (r.0, ap (λ (ys : List A). x ∷ ys) r.1)

first_longer : (n : ℕ) (t u : Table) → IsLonger t u → IsLonger (first_heads n t) (first_heads n u)
first_longer n t u longer =
    let r = take_longer n t.heads longer.heads.0 in
    record {
      theories = longer.theories;
      elements = longer.elements;
      heads = (r.0, ap (take n) longer.heads.1 ∙ r.1);
      apart = subst (λ hs. AreApart t.elements (take n t.heads) (take n hs)) (sym longer.heads.1)
          (apart_first t.elements n t.heads longer.heads.0
          (subst (λ hs. AreApart t.elements t.heads hs) longer.heads.1 longer.apart));
      names = longer.names;
      bodies = longer.bodies;
      rows = longer.rows;
    }

-- ---- bodies

-- a body is one in a longer table
body_longer : (t u : Table) (n arity : ℕ) (ps : List (List ℕ)) (body : Sexp) (j : ℕ) → IsLonger t u
    → IsBody t n arity ps body j → IsBody u n arity ps body j
body_longer t u n arity ps body j longer is = record {
  counted = is.counted;
  denotes = denotes_kept (first_heads n t) (first_heads n u) (first_longer n t u longer) (slots_from 0 ps)
      (length ps) 0 j body is.denotes;
}

pub bodies_longer : (t u : Table) (n : ℕ) (bs : List ℕ) (es : List Entry) → IsLonger t u → AreBodies t n bs es
    → AreBodies u n bs es
bodies_longer t u n bs [] longer h = h
bodies_longer t u n bs (e ∷ es) longer h =
    by e.origin bs h (λ js rest. bodies_longer t u (n + 1) js es longer rest)
  where
    by : (o : Origin) (js : List ℕ) → IsNextBody t n (length e.parameters) o js (λ rest. AreBodies t (n + 1) rest es)
        → ((ks : List ℕ) → AreBodies t (n + 1) ks es → AreBodies u (n + 1) ks es)
        → IsNextBody u n (length e.parameters) o js (λ rest. AreBodies u (n + 1) rest es)
    by (signature.Declared command) js g next = next js g
    by (signature.Defined ps body) [] g next = absurd g
    by (signature.Defined ps body) (j ∷ js) g next =
        (body_longer t u n (length e.parameters) ps body j longer g.0, next js g.1)

-- what one more entry has behind the bodies
abbrev pub IsLastBody : Table → ℕ → Entry → List ℕ → Type 0
IsLastBody t n e more = IsNextBody t n (length e.parameters) e.origin more (λ rest. rest ≡ [])

pub bodies_push : (t : Table) (n : ℕ) (bs : List ℕ) (es : List Entry) (e : Entry) (more : List ℕ)
    → AreBodies t n bs es → IsLastBody t (n + length es) e more → AreBodies t n (bs ++ more) (es ++ e ∷ [])
bodies_push t n bs [] e more h last =
    let same : n + 0 ≡ n = omega arith in
    subst (λ (js : List ℕ). IsLastBody t n e js) (sym (ap (λ (js : List ℕ). js ++ more) h))
    (subst (λ (k : ℕ). IsLastBody t k e more) same last)
bodies_push t n bs (y ∷ es) e more h last =
    let same : n + suc (length es) ≡ (n + 1) + length es = omega arith in
    let later : IsLastBody t ((n + 1) + length es) e more =
    subst (λ (k : ℕ). IsLastBody t k e more) same last in
    by y.origin bs h (λ js rest. bodies_push t (n + 1) js es e more rest later)
  where
    by : (o : Origin) (js : List ℕ) → IsNextBody t n (length y.parameters) o js (λ rest. AreBodies t (n + 1) rest es)
        → ((ks : List ℕ) → AreBodies t (n + 1) ks es → AreBodies t (n + 1) (ks ++ more) (es ++ e ∷ []))
        → IsNextBody t n (length y.parameters) o (js ++ more) (λ rest. AreBodies t (n + 1) rest (es ++ e ∷ []))
    by (signature.Declared command) js g next = next js g
    by (signature.Defined ps body) [] g next = absurd g
    by (signature.Defined ps body) (j ∷ js) g next = (g.0, next js g.1)

-- ---- names

-- one more name stands behind all
pub heads-push : (m n : ℕ) (es : List Entry) (e : Entry)
    → heads_from m n (es ++ e ∷ [])
    ≡ heads_from m n es ++ (
      e.name,
      record {
        place = place_behind (m + length (declared_among es)) (n + length (defined_among es)) e.origin;
        arity = length e.parameters;
      },
    ) ∷ []
heads-push m n [] e = ap
    (λ (k : ℕ). (e.name, record { place = place_behind k n e.origin; arity = length e.parameters }) ∷ [])
    (omega arith) ∙ ap
    (λ (k : ℕ). (e.name, record { place = place_behind (m + 0) k e.origin; arity = length e.parameters }) ∷ [])
    (omega arith)
heads-push m n (x ∷ es) e =
    ap (λ (hs : List (List ℕ × Head)).
    (x.name, record { place = place_behind m n x.origin; arity = length x.parameters }) ∷ hs)
    (heads-push (with_declared m x.origin) (with_defined n x.origin) es e
    ∙ ap (λ (k : ℕ). heads_from (with_declared m x.origin) (with_defined n x.origin) es
    ++ (
      e.name,
      record {
        place = place_behind k (with_defined n x.origin + length (defined_among es)) e.origin;
        arity = length e.parameters;
      },
    ) ∷ []) (counted_declared m x es)
    ∙ ap (λ (k : ℕ). heads_from (with_declared m x.origin) (with_defined n x.origin) es
    ++ (
      e.name,
      record {
        place = place_behind (m + length (declared_among (x ∷ es))) k e.origin;
        arity = length e.parameters;
      },
    ) ∷ []) (counted_defined n x es))

-- ---- what is ready

row_within : (rows : List Row) (i around : ℕ) (n : Option Node) → IsRow (slice_get rows i) around n
    → i < length rows
row_within rows i around n h = by (slice_get rows i) refl h
  where
    by : (r : Option Row) → slice_get rows i ≡ r → IsRow r around n → i < length rows
    by None is h = absurd h
    by (Some row) is h = slice_get_within rows i row is

-- a node that stands for a term is there
pub denotes_within : (t : Table) (slots : Slots) (next around i : ℕ) (term : Sexp)
    → Denotes t slots next around i term → i < length t.rows
denotes_within t slots next around i (Atom Symbol x) d =
    row_within t.rows i around (symbol_node t x (look_up slots x)) d.0
denotes_within t slots next around i (Atom Numeral digits) d =
    row_within t.rows i around (Some (node.Literal literal.Numeral digits)) d.0
denotes_within t slots next around i (Atom Decimal digits) d =
    row_within t.rows i around (Some (node.Literal literal.Decimal digits)) d.0
denotes_within t slots next around i (Atom Hexadecimal digits) d =
    row_within t.rows i around (Some (node.Literal literal.Hexadecimal digits)) d.0
denotes_within t slots next around i (Atom Binary digits) d =
    row_within t.rows i around (Some (node.Literal literal.Binary digits)) d.0
denotes_within t slots next around i (Items (Cons (Reserved Underscore) parts)) d =
    row_within t.rows i around (node_of t d.0 []) d.2.0
denotes_within t slots next around i (Items (Cons (Reserved As) parts)) d =
    row_within t.rows i around (qualified_node t.elements (qualified_symbol parts)) d.0
denotes_within t slots next around i
    (Items (Cons (Reserved Let) (Cons (Items bindings) (Cons body Nil)))) d =
    row_within t.rows i around (Some (node.Let d.0 d.1)) d.2.0
denotes_within t slots next around i (Items (Cons (Reserved Bang) (Cons term attributes))) d =
    by (labels_among attributes) d (denotes_within t slots next (around + 1) i term)
  where
    by : (labels : List (List ℕ)) → unless_labelled labels (Denotes t slots next (around + 1) i term)
        (λ label. UsesNone slots term × IsNameOf t label around i (λ j. Denotes t [] 0 0 j term))
        → (Denotes t slots next (around + 1) i term → i < length t.rows) → i < length t.rows
    by [] h bare = bare h
    by (label ∷ labels) h bare = row_within t.rows i around (Some (node.Defined h.1.0 [])) h.1.3
denotes_within t slots next around i (Items (Cons head args)) d =
    row_within t.rows i around (node_of t d.0 d.1) d.3.0
denotes_within t slots next around i _ d = absurd d

-- and so no look-up misses it
pub not_missing : (rows : List Row) (i k : ℕ) → k ≡ i → i < length rows
    → None ≡ option_map (λ row. row.node) (slice_get rows k) → ⊥
not_missing rows i k same within none = by (slice_get_cases rows i).1
  where
    by : ((x : Row) × (i < length rows) × (slice_get rows i ≡ Some x) × (get_or rows i x ≡ x))
        ⊎ ((length rows ≤ i) × (slice_get rows i ≡ None)) → ⊥
    by (inl found) = let missed : None ≡ Some found.0.node =
        none ∙ ap (λ (n : ℕ). option_map (λ row. row.node) (slice_get rows n)) same
        ∙ ap (option_map (λ row. row.node)) found.2 in cc
    by (inr past) = omega (arith, within, past.0)

-- no name that is looked up is an operator's, if no entry's is
free_named : (theories : Theories) (m n : ℕ) (es : List Entry) (x : List ℕ) (head : Head)
    → All (λ e. is_plain_operator theories e.name ≡ false) es → look_up (heads_from m n es) x ≡ Some head
    → is_plain_operator theories x ≡ false
free_named theories m n [] x head free at = cc
free_named theories m n (e ∷ es) x head free at =
    by (bytes_eq x e.name) refl at
    (free_named theories (with_declared m e.origin) (with_defined n e.origin) es x head
    (All-tail (λ d. is_plain_operator theories d.name ≡ false) e es free))
  where
    by : (b : Bool) → bytes_eq x e.name ≡ b
        → cond b (Some (record { place = place_behind m n e.origin; arity = length e.parameters }))
        (look_up (heads_from (with_declared m e.origin) (with_defined n e.origin) es) x) ≡ Some head
        → (look_up (heads_from (with_declared m e.origin) (with_defined n e.origin) es) x ≡ Some head
        → is_plain_operator theories x ≡ false)
        → is_plain_operator theories x ≡ false
    by true is h rest = ap (is_plain_operator theories) (same_name x e.name is)
        ∙ All-head (λ d. is_plain_operator theories d.name ≡ false) e es free
    by false is h rest = rest h

-- a definition behind n others has a body among these, which is a node
abbrev HasBodyFrom : Table → List ℕ → ℕ → Found → Type 0
HasBodyFrom t bs n (place.Declared p) = Unit {0}
HasBodyFrom t bs n (place.Defined p) =
    (q : ℕ) × (j : ℕ) × (p ≡ n + q) × (slice_get bs q ≡ Some j) × (j < length t.rows)

body_from : (t : Table) (k m n : ℕ) (bs : List ℕ) (es : List Entry) (x : List ℕ) (head : Head)
    → AreBodies t k bs es → look_up (heads_from m n es) x ≡ Some head → HasBodyFrom t bs n head.place
body_from t k m n bs [] x head h at = cc
body_from t k m n bs (e ∷ es) x head h at =
    by_origin e.origin bs (bytes_eq x e.name) h at
    (λ m' n' js rest later. body_from t (k + 1) m' n' js es x head rest later)
  where
    by_origin : (o : Origin) (js : List ℕ) (b : Bool)
        → IsNextBody t k (length e.parameters) o js (λ rest. AreBodies t (k + 1) rest es)
        → cond b (Some (record { place = place_behind m n o; arity = length e.parameters }))
        (look_up (heads_from (with_declared m o) (with_defined n o) es) x) ≡ Some head
        → ((m' n' : ℕ) (ks : List ℕ) → AreBodies t (k + 1) ks es
        → look_up (heads_from m' n' es) x ≡ Some head → HasBodyFrom t ks n' head.place)
        → HasBodyFrom t js n head.place
    by_origin (signature.Declared command) js true g is next =
        let same : place.Declared m ≡ head.place = cc in subst (HasBodyFrom t js n) same tt
    by_origin (signature.Declared command) js false g is next = next (m + 1) n js g is
    by_origin (signature.Defined ps body) [] b g is next = absurd g
    by_origin (signature.Defined ps body) (j ∷ js) true g is next =
        let same : place.Defined n ≡ head.place = cc in
        subst (HasBodyFrom t (j ∷ js) n) same (
          0,
          j,
          omega arith,
          refl,
          denotes_within (first_heads k t) (slots_from 0 ps) (length ps) 0 j body g.0.denotes,
        )
    by_origin (signature.Defined ps body) (j ∷ js) false g is next =
        later head.place (next m (n + 1) js g.1 is)
      where
        later : (f : Found) → HasBodyFrom t js (n + 1) f → HasBodyFrom t (j ∷ js) n f
        later (place.Declared p) has = tt
        later (place.Defined p) (q, i, same, at, within) = (suc q, i, omega (arith, same), at, within)

-- a table that is a signature's is ready for terms
pub ready : (t : Table) (s : Signature) → AreTermsOf t s → IsReady t
ready t s are = record {
  free = λ x head at. ap (λ ts. is_plain_operator ts x) are.theories
      ∙ free_named s.theories 0 0 s.entries x head are.free
      (ap (λ hs. look_up hs x) (sym are.heads) ∙ at);
  bodied = λ x head at. by head.place (body_from t 0 0 0 t.bodies s.entries x head are.bodies
      (ap (λ hs. look_up hs x) (sym are.heads) ∙ at));
}
  where
    by : (f : Found) → HasBodyFrom t t.bodies 0 f → HasBody t f
    by (place.Declared p) has = tt
    by (place.Defined p) (q, j, same, at, within) =
        let here : p ≡ q = omega (arith, same) in (j, ap (λ (k : ℕ). slice_get t.bodies k) here ∙ at, within)
