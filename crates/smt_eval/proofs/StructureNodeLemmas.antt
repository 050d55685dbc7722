-- A node of a script gives what is known of its term over the structure that a model gives to the script.
use Rattle.std.proofs.Common.{◌≡◌, ◌<◌, ◌≤◌, ◌++◌, ℕ, zero, suc, ◌+◌, Bool, true, false, cond, not, List, [], ◌∷◌}
use Rattle.std.proofs.Common.{length, map, take, slice_get, Option, Some, None, refl, ap, sym, ◌∙◌, subst, arith}
use Rattle.std.proofs.Common.{length-append}
use Rattle.std.proofs.Math.Seq.{take-length}
use Rattle.std.proofs.lemmas.List.{length-map}
use Rattle.std.specs.List.{All}
use Rattle.std.specs.Prelude.{bytes_eq}
use Rattle.smt_trees.specs.Sexp.{Sexp, Atom, Reserved, Items, Nil, Cons, Numeral, Decimal, Hexadecimal, Binary}
use Rattle.smt_trees.specs.Sexp.{Symbol}
use Rattle.smt_trees.specs.declared.reserved.Word.TheVariants.{As, Bang, Let, Underscore}
use Rattle.smt_theory.specs.Operators.{is_plain_operator}
use Rattle.smt_theory.specs.Words.{look_up}
use Rattle.smt_theory.specs.Sort.{Sort}
use Rattle.smt_theory.specs.declared.theories.Theories.{Theories}
use Rattle.smt_forms.specs.Labels.{labels_among}
use Rattle.smt_nodes.specs.Node.{Node, Row}
use Rattle.smt_machine.specs.Given.{given}
use Rattle.smt_machine.specs.Nodes as machine
use Rattle.smt_machine.specs.Nodes.{Frame, node_value}
use Rattle.smt_values.specs.Element.{Naming}
use Rattle.smt_machine.specs.Tables.{resolved, unnamed}
use Rattle.smt_terms.specs.Elements.{ElementNames}
use Rattle.smt_terms.specs.Denotes.{Denotes, Head, IsNameOf, IsRow, Slots, Table, UsesNone, unless_labelled}
use Rattle.smt_terms.specs.Elements.{element_among}
use Rattle.smt_terms.specs.Library.{declared_among, defined_among, is_declared}
use Rattle.smt_terms.specs.Signature.{AreDistinct, Entry, Origin, Declared, Defined, Signature, entry_named}
use Rattle.smt_terms.specs.TermsOf.{AreTermsOf, first_heads, heads_from, place_behind, with_declared}
use Rattle.smt_terms.specs.TermsOf.{with_defined}
use Rattle.smt_eval.proofs.EvaluatorLemmas.{all_first}
use Rattle.smt_eval.proofs.HeadLemmas.{IsBodyOf, body_at, none_declared}
use Rattle.smt_eval.proofs.NameLemmas.{same_name}
use Rattle.smt_eval.proofs.NodeNameLemmas.{HasNames, IsGivenAt, calls_are_given, closed_given}
use Rattle.smt_eval.proofs.NodeNameLemmas.{called}
use Rattle.smt_eval.proofs.PlaceLemmas.{at_left, at_right, none_among, none_in_both, within}
use Rattle.smt_eval.specs.Internal.DefinitionValues.{AllDefined, IsDefined, first}
use Rattle.smt_eval.specs.Known.{known_in_by, known_of, known_over_by}
use Rattle.smt_eval.specs.NodeValues.{GivesBodies, nodes_over}
use Rattle.smt_eval.specs.Structure.{structure_of}

-- ---- lists

pub at_map : {A B : Type 0} (f : A → B) (xs : List A) (k : ℕ) (x : A) → slice_get xs k ≡ Some x
    → slice_get (map f xs) k ≡ Some (f x)
at_map f [] k x h = cc
at_map f (y ∷ xs) zero x h = let is : y ≡ x = cc in ap (λ z. Some (f z)) is
at_map f (y ∷ xs) (suc k) x h = at_map f xs k x h

heads_counted : (declared defined : ℕ) (es : List Entry) → length (heads_from declared defined es) ≡ length es
heads_counted declared defined [] = refl
heads_counted declared defined (e ∷ es) =
    ap suc (heads_counted (with_declared declared e.origin) (with_defined defined e.origin) es)

-- ---- definitions among entries

-- how many of the first n entries are defined
abbrev pub defined_before : List Entry → ℕ → ℕ
defined_before es n = length (defined_among (take n es))

defined_at : (es : List Entry) (q : ℕ) (e : Entry) → slice_get es q ≡ Some e → IsDefined e.origin
    → slice_get (defined_among es) (defined_before es q) ≡ Some e
defined_at [] q e at is = cc
defined_at (c ∷ es) zero e at is =
    let same : c ≡ e = cc in
    by c.origin (subst (λ (a : Entry). IsDefined a.origin) (sym same) is) same
  where
    by : (o : Origin) → IsDefined o → c ≡ e
        → slice_get (cond (not (is_declared o)) (c ∷ defined_among es) (defined_among es)) 0 ≡ Some e
    by (Declared command) d same = absurd d
    by (Defined ps body) d same = ap Some same
defined_at (c ∷ es) (suc q) e at is = by (is_declared c.origin) (defined_at es q e at is)
  where
    by : (b : Bool) → slice_get (defined_among es) (defined_before es q) ≡ Some e
        → slice_get (cond (not b) (c ∷ defined_among es) (defined_among es))
        (length (cond (not b) (c ∷ defined_among (take q es)) (defined_among (take q es)))) ≡ Some e
    by true rest = rest
    by false rest = rest

defined_grows : (es : List Entry) (q n : ℕ) (e : Entry) → slice_get es q ≡ Some e → IsDefined e.origin → q < n
    → defined_before es q < defined_before es n
defined_grows [] q n e at is h = cc
defined_grows (c ∷ es) q zero e at is h = absurd (omega (arith, h))
defined_grows (c ∷ es) zero (suc n) e at is h =
    let same : c ≡ e = cc in
    by c.origin (subst (λ (a : Entry). IsDefined a.origin) (sym same) is)
  where
    by : (o : Origin) → IsDefined o
        → 0 < length (cond (not (is_declared o)) (c ∷ defined_among (take n es)) (defined_among (take n es)))
    by (Declared command) d = absurd d
    by (Defined ps body) d = omega arith
defined_grows (c ∷ es) (suc q) (suc n) e at is h =
    by (is_declared c.origin) (defined_grows es q n e at is (omega (arith, h)))
  where
    by : (b : Bool) → defined_before es q < defined_before es n
        → length (cond (not b) (c ∷ defined_among (take q es)) (defined_among (take q es)))
        < length (cond (not b) (c ∷ defined_among (take n es)) (defined_among (take n es)))
    by true rest = rest
    by false rest = omega (arith, rest)

-- ---- names that are no operators

not_named : (theories : Theories) (es : List Entry) (x : List ℕ)
    → All (λ e. is_plain_operator theories e.name ≡ false) es → is_plain_operator theories x ≡ true
    → entry_named es x ≡ None
not_named theories [] x free plain = refl
not_named theories (e ∷ es) x free plain =
    by (bytes_eq x e.name) refl
    (not_named theories es x (λ k d h. free (suc k) d (omega (arith, h))) plain)
  where
    by : (b : Bool) → bytes_eq x e.name ≡ b → entry_named es x ≡ None
        → cond b (Some e) (entry_named es x) ≡ None
    by true same rest =
        let here : is_plain_operator theories x ≡ false =
        ap (is_plain_operator theories) (same_name x e.name same) ∙ free zero e (omega arith) in
        cc
    by false same rest = rest

-- ---- names that have no head

not_headed : (declared defined n : ℕ) (es more : List Entry) (x : List ℕ) → n ≤ length es
    → look_up (take n (heads_from declared defined es)) x ≡ None → entry_named (take n (es ++ more)) x ≡ None
not_headed declared defined zero [] [] x h none = refl
not_headed declared defined zero [] (d ∷ more) x h none = refl
not_headed declared defined (suc n) [] more x h none = absurd (omega (arith, h))
not_headed declared defined zero (e ∷ es) more x h none = refl
not_headed declared defined (suc n) (e ∷ es) more x h none = by (bytes_eq x e.name) none
    (not_headed (with_declared declared e.origin) (with_defined defined e.origin) n es more x
    (omega (arith, h)))
  where
    rest : Option Head
    rest = look_up (take n (heads_from (with_declared declared e.origin) (with_defined defined e.origin) es)) x

    by : (b : Bool)
        → cond b (Some (record { place = place_behind declared defined e.origin; arity = length e.parameters }))
        rest ≡ None
        → (rest ≡ None → entry_named (take n (es ++ more)) x ≡ None)
        → cond b (Some e) (entry_named (take n (es ++ more)) x) ≡ None
    by true none next = cc
    by false none next = next none

no_element : (elements : Option ElementNames) (x : List ℕ) (sort : Sort) → elements ≡ None
    → element_among elements x ≡ Some sort → ⊥
no_element None x sort is among = cc
no_element (Some sorts) x sort is among = cc

-- ---- a node that stands for a term is a row

row_within : (rows : List Row) (i around : ℕ) (o : Option Node) → IsRow (slice_get rows i) around o
    → i < length rows
row_within rows i around o h = by (slice_get rows i) refl h
  where
    by : (r : Option Row) → slice_get rows i ≡ r → IsRow r around o → i < length rows
    by None at is = absurd is
    by (Some row) at is = within rows i row at

pub denotes_within : (t : Table) (slots : Slots) (next around i : ℕ) (term : Sexp)
    → Denotes t slots next around i term → i < length t.rows
denotes_within t slots next around i (Atom Symbol x) d = row_within t.rows i around _ d.0
denotes_within t slots next around i (Atom Numeral x) d = row_within t.rows i around _ d.0
denotes_within t slots next around i (Atom Decimal x) d = row_within t.rows i around _ d.0
denotes_within t slots next around i (Atom Hexadecimal x) d = row_within t.rows i around _ d.0
denotes_within t slots next around i (Atom Binary x) d = row_within t.rows i around _ d.0
denotes_within t slots next around i (Items (Cons (Reserved Underscore) parts)) d =
    row_within t.rows i around _ d.2.0
denotes_within t slots next around i (Items (Cons (Reserved As) parts)) d = row_within t.rows i around _ d.0
denotes_within t slots next around i (Items (Cons (Reserved Let) (Cons (Items bs) (Cons body Nil)))) d =
    row_within t.rows i around _ d.2.0
denotes_within t slots next around i (Items (Cons (Reserved Bang) (Cons term attributes))) d =
    by (labels_among attributes) d (denotes_within t slots next (around + 1) i term)
  where
    by : (labels : List (List ℕ))
        → unless_labelled labels (Denotes t slots next (around + 1) i term)
        (λ label. UsesNone slots term × IsNameOf t label around i (λ j. Denotes t [] 0 0 j term))
        → (Denotes t slots next (around + 1) i term → i < length t.rows) → i < length t.rows
    by [] e bare = bare e
    by (label ∷ labels) e bare = row_within t.rows i around _ e.1.3
denotes_within t slots next around i (Items (Cons head args)) d = row_within t.rows i around _ d.3.0
denotes_within t slots next around i _ d = absurd d

-- ---- the structure of a model and a script

module _ (has : (nodes : List machine.Node) (i : ℕ) (frame : Frame)
    → given nodes i frame ≡ node_value i (given nodes) frame (slice_get nodes i))
    (naming : Naming) (model script : Table) (declared : List ℕ) (names definitions : Signature)
    (terms : AreTermsOf script names) (bodies : AreTermsOf model definitions)
    (all : AllDefined definitions.entries) (theories : definitions.theories ≡ names.theories)
    (elements : names.elements ≡ None) (distinct : AreDistinct (structure_of names definitions).entries)
    (gives : GivesBodies declared names definitions model.bodies) where
  abbrev pub g : machine.Giving
  g = given (nodes_over naming model script declared)

  abbrev pub count : ℕ
  count = length model.rows

  abbrev pub whole : Signature
  whole = structure_of names definitions

  abbrev of_model : Row → machine.Node
  of_model row = resolved naming 0 model.bodies [] row.node

  abbrev of_script : Row → machine.Node
  of_script row = resolved unnamed count script.bodies declared row.node

  free_of_operators : (x : List ℕ) → is_plain_operator definitions.theories x ≡ true
      → entry_named whole.entries x ≡ None
  free_of_operators x plain =
      none_in_both definitions.entries (defined_among names.entries) x
      (not_named definitions.theories definitions.entries x bodies.free plain)
      (none_among names.entries x (not_named names.theories names.entries x terms.free
      (ap (λ ts. is_plain_operator ts x) (sym theories) ∙ plain)))

  pub model_names : HasNames naming naming g 0 [] model definitions.entries whole (λ n. n)
  model_names = record {
    rows = λ k row at frame. has (nodes_over naming model script declared) (0 + k) frame
        ∙ ap (node_value (0 + k) g frame)
        (at_left (map of_model model.rows) (map of_script script.rows) (0 + k) (of_model row)
        (at_map of_model model.rows (0 + k) row (ap (slice_get model.rows) (omega arith) ∙ at)));
    named = λ e is x. refl;
    theories = bodies.theories;
    heads = bodies.heads;
    bodies = bodies.bodies;
    distinct = distinct;
    free = free_of_operators;
    apart = λ n x sort h none among. not_headed 0 0 n definitions.entries (defined_among names.entries) x h
        (ap (λ hs. look_up (take n hs) x) (sym bodies.heads) ∙ none);
    placed = λ q e at is. at_left definitions.entries (defined_among names.entries) q e at;
    grows = λ q n e at is h. h;
    given = λ k e at. absurd (none_declared definitions.entries k e all at);
  }

  -- so many definitions are seen where the first n names of the script are
  abbrev pub seen : ℕ → ℕ
  seen n = length definitions.entries + defined_before names.entries n

  -- the body of the definition that the model gives to a declared name gives what the name means
  declared_given : (k : ℕ) (e : Entry) → slice_get (declared_among names.entries) k ≡ Some e
      → IsGivenAt naming g count declared whole seen k e
  declared_given k e at =
      let m = gives k e at in
      let b : IsBodyOf model m.place m.definition m.body =
      subst (λ q. IsBodyOf model q m.definition m.body) (omega arith)
      (body_at model definitions.entries 0 model.bodies m.place m.definition m.body all bodies.bodies
      m.defined m.node) in
      let place = within definitions.entries m.place m.definition m.defined in (
        m.body,
        m.listed,
        denotes_within (first_heads m.place model) _ _ _ m.body b.1 b.3.denotes,
        λ n vs counted. ap (λ j. g j vs) (omega arith)
            ∙ called naming naming g 0 [] model definitions.entries whole (λ q. q) model_names m.body
            (calls_are_given naming naming g 0 [] model definitions.entries whole (λ q. q) model_names m.body) (seen n)
            m.place m.body m.definition e.name vs m.defined (omega (arith, place)) m.name b (omega arith)
            (counted ∙ sym m.counted),
      )

  pub script_names : HasNames naming unnamed g count declared script names.entries whole seen
  script_names = record {
    rows = λ k row at frame. has (nodes_over naming model script declared) (count + k) frame
        ∙ ap (node_value (count + k) g frame) (at_right (map of_model model.rows) (map of_script script.rows)
        (count + k) k (of_script row)
        (let l = length-map model.rows of_model in omega (arith, l))
        (at_map of_script script.rows k row at));
    named = λ e is x. let none : Some e ≡ None = sym is ∙ terms.elements ∙ elements in cc;
    theories = terms.theories ∙ sym theories;
    heads = terms.heads;
    bodies = terms.bodies;
    distinct = distinct;
    free = free_of_operators;
    apart = λ n x sort h none among. absurd (no_element script.elements x sort (terms.elements ∙ elements) among);
    placed = λ q e at is. at_right definitions.entries (defined_among names.entries) (seen q)
        (defined_before names.entries q) e refl (defined_at names.entries q e at is);
    grows = λ q n e at is h. let more = defined_grows names.entries q n e at is h in omega (arith, more);
    given = declared_given;
  }

  -- all of the script's names
  abbrev pub all_names : ℕ
  all_names = length script.heads

  pub names_counted : all_names ≡ length names.entries
  names_counted = ap (λ (hs : List (List ℕ × Head)). length hs) terms.heads ∙ heads_counted 0 0 names.entries

  pub all_seen : first (seen all_names) whole ≡ whole
  all_seen = all_first whole (seen all_names)
      (ap (λ k. length definitions.entries + length (defined_among (take k names.entries))) names_counted
      ∙ ap (λ es. length definitions.entries + length (defined_among es)) (take-length names.entries)
      ∙ sym (length-append definitions.entries (defined_among names.entries)))

  pub node_gives_value : (around i : ℕ) (term : Sexp) → Denotes script [] 0 around i term
      → g (count + i) [] ≡ known_over_by naming whole term
  node_gives_value around i term denotes =
      closed_given naming unnamed g count declared script names.entries whole seen script_names all_names around i term
      (omega (arith, names_counted))
      (subst (λ hs. Denotes (record script { heads = hs }) [] 0 around i term) (sym (take-length script.heads))
      denotes)
      ∙ ap (λ d. known_of (known_in_by naming d) [] term) all_seen
