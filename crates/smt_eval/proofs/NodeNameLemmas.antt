-- The nodes of names give what the names mean where the definitions before them are seen.
use Rattle.std.proofs.Common.{◌≡◌, ◌≤◌, ◌<◌, ℕ, zero, suc, ◌+◌, Bool, true, false, cond, List, [], ◌∷◌, length, take}
use Rattle.std.proofs.Common.{slice_get, Option, Some, None, is_some, option_map, refl, ap, sym, ◌∙◌, subst}
use Rattle.std.proofs.Common.{Result, Ok, Err, arith}
use Rattle.std.proofs.lemmas.Bool.{lt-ltb}
use Rattle.std.specs.Bool.{◌==◌}
use Rattle.std.specs.List.{zip}
use Rattle.std.specs.Prelude.{ok_or, option_and_then}
use Rattle.smt_trees.specs.Sexp.{Sexp}
use Rattle.smt_theory.specs.Operators.{is_plain_operator, op_by, plain_op}
use Rattle.smt_theory.specs.Words.{look_up, result_and_then}
use Rattle.smt_theory.specs.declared.op.Op.{Op}
use Rattle.smt_theory.specs.declared.op.ArraysOp.TheVariants.{Const}
use Rattle.smt_theory.specs.declared.op.Op.TheVariants.{Arrays}
use Rattle.smt_theory.specs.declared.op.OpFault.{OpFault}
use Rattle.smt_theory.specs.declared.op.OpFault.TheVariants.{Unknown}
use Rattle.smt_theory.specs.Sort.{Sort}
use Rattle.smt_values.specs.Lists.{all_known}
use Rattle.smt_arrays.specs.Element.{Element, Plain as NoArray}
use Rattle.smt_arrays.specs.Known.{known_arrays, known_step}
use Rattle.smt_forms.specs.ElementNames.{sort_of_element}
use Rattle.smt_forms.specs.Identifier.{Identifier, Plain, Indexed, Qualified, operator_of}
use Rattle.smt_nodes.specs.Node as node
use Rattle.smt_nodes.specs.Node.{Node}
use Rattle.smt_machine.specs.Nodes.{Frame, Giving, node_value, parts}
use Rattle.smt_values.specs.Element.{Naming}
use Rattle.smt_machine.specs.Tables.{call, resolved, shifted}
use Rattle.smt_terms.specs.Denotes.{Denotes, HasBodyBelow, Head, Table, applied_node, named_node, node_at}
use Rattle.smt_faults.specs.declared.term_flaw.TermFlaw.{TermFlaw}
use Rattle.smt_terms.specs.Denotes.{constant_node, slots_from}
use Rattle.smt_terms.specs.Elements.{ElementNames, constant_sorts, element_among, if_declared}
use Rattle.smt_terms.specs.SortTrees.{sort_named}
use Rattle.smt_forms.specs.Variables.{is_among}
use Rattle.smt_terms.specs.Library.{declared_among}
use Rattle.smt_terms.specs.Signature.{AreDistinct, Entry, Origin, Signature, entry_named}
use Rattle.smt_terms.specs.TermsOf.{AreBodies, IsBody, first_heads, heads_of}
use Rattle.smt_terms.specs.declared.library.Found.{Found}
use Rattle.smt_terms.specs.declared.library.Found.TheVariants as place
use Rattle.smt_eval.proofs.EntryLemmas.{entry_named-take}
use Rattle.smt_eval.proofs.EvaluatorLemmas.{defined_means, element_kept, indexed_known, known_constant, not_defined}
use Rattle.smt_eval.proofs.FrameLemmas.{stands_behind}
use Rattle.smt_eval.proofs.HeadLemmas.{IsBodyOf, IsHeadAt, IsNamed, found}
use Rattle.smt_eval.proofs.PlaceLemmas.{within as within_list}
use Rattle.smt_eval.proofs.NodeValueLemmas.{HasRows, MeansElements, MeansItsNodes, NamesElements, part_below}
use Rattle.smt_eval.proofs.NodeValueLemmas.{parts_counted, term_given}
use Rattle.smt_eval.specs.Internal.DefinitionValues.{IsDefined, first}
use Rattle.smt_eval.specs.Known.{KnownMeaning, known_defined, known_in_by, known_of, known_of_op}
use Rattle.smt_eval.specs.Known.{known_operators, other_known}

-- the k-th of these nodes gives what the name of the entry means, however many definitions are seen
abbrev pub IsGivenAt : Naming → Giving → (off : ℕ) → List ℕ → Signature → (ℕ → ℕ) → ℕ → Entry → Type 0
IsGivenAt naming g off declared d seen k e = (j : ℕ) × (slice_get declared k ≡ Some j) × (j < off)
    × ((n : ℕ) (vs : Frame) → length vs ≡ length e.parameters
    → g j vs ≡ (known_in_by naming (first (seen n) d)).gives (Plain e.name) vs)

-- A table of terms over definitions: behind so many other nodes, each of its rows gives the value of its
-- node. Where the first n names are in force, so many of the definitions are seen: the definitions among
-- the names stand in order among them, and what is declared is given from the start. An element's name that is not
-- in force names none of them.
pub record HasNames (naming held : Naming) (g : Giving) (off : ℕ) (declared : List ℕ) (t : Table) (es : List Entry) (d : Signature)
    (seen : ℕ → ℕ) : Type 0 where
  pub rows : HasRows g held off declared t
  pub named : (elements : ElementNames) → t.elements ≡ Some elements → (x : List ℕ) → held x ≡ naming x
  pub theories : t.theories ≡ d.theories
  pub heads : t.heads ≡ heads_of es
  pub bodies : AreBodies t 0 t.bodies es
  pub distinct : AreDistinct d.entries
  pub free : (x : List ℕ) → is_plain_operator d.theories x ≡ true → entry_named d.entries x ≡ None
  pub apart : (n : ℕ) (x : List ℕ) (sort : Sort) → n ≤ length es → look_up (take n t.heads) x ≡ None
      → element_among t.elements x ≡ Some sort → entry_named (take (seen n) d.entries) x ≡ None
  pub placed : (q : ℕ) (e : Entry) → slice_get es q ≡ Some e → IsDefined e.origin
      → slice_get d.entries (seen q) ≡ Some e
  pub grows : (q n : ℕ) (e : Entry) → slice_get es q ≡ Some e → IsDefined e.origin → q < n
      → seen q < seen n
  pub given : (k : ℕ) (e : Entry) → slice_get (declared_among es) k ≡ Some e
      → IsGivenAt naming g off declared d seen k e

-- ---- tests

same_count : (a b : ℕ) → (a == b) ≡ true → a ≡ b
same_count a b h = grind (arith, h)

pub some_op : (o : Option Op) (op : Op) → ok_or o Unknown ≡ Ok op → is_some o ≡ true
some_op (Some p) op h = refl
some_op None op h = cc

-- a name with arguments is a node, if it takes so many
pub record IsNodeOf (head : Head) (js : List ℕ) (n : Node) : Type 0 where
  pub counted : length js ≡ head.arity
  pub is : n ≡ node_at head.place js

pub node_of_head : (head : Head) (js : List ℕ) (n : Node) → named_node (Some head) js ≡ Some n
    → IsNodeOf head js n
node_of_head head js n h = by (length js == head.arity) refl h
  where
    by : (b : Bool) → (length js == head.arity) ≡ b → cond b (Some (node_at head.place js)) None ≡ Some n
        → IsNodeOf head js n
    by true same at = record { counted = same_count (length js) head.arity same; is = cc }
    by false same at = cc

-- ---- elements

-- what may be named as an element has the form of one
has_form : (naming : Naming) (elements : Option ElementNames) (x : List ℕ) (sort : Sort) → element_among elements x ≡ Some sort
    → option_and_then (λ of. naming x) (sort_of_element x) ≡ naming x
has_form naming None x sort among = cc
has_form naming (Some elements) x sort among = by (is_among elements.taken x) (sort_of_element x) among
  where
    by : (b : Bool) (o : Option (List ℕ))
        → cond b None (option_and_then if_declared (option_and_then (look_up elements.sorts.abbreviations) o)) ≡ Some sort
        → option_and_then (λ of. naming x) o ≡ naming x
    by true o is = cc
    by false None is = cc
    by false (Some name) is = refl

with_elements : (o : Option ElementNames) (x : List ℕ) (sort : Sort) → element_among o x ≡ Some sort
    → (elements : ElementNames) × (o ≡ Some elements)
with_elements None x sort among = cc
with_elements (Some elements) x sort among = (elements, refl)

-- ---- over definitions

module _ (naming held : Naming) (g : Giving) (off : ℕ) (declared : List ℕ) (t : Table) (es : List Entry)
    (d : Signature) (seen : ℕ → ℕ) (names : HasNames naming held g off declared t es d seen) where
  -- what identifiers mean where the first n names are in force
  abbrev pub meaning : ℕ → KnownMeaning
  meaning n = known_in_by naming (first (seen n) d)

  -- bodies below this number give what the names of their definitions mean
  abbrev pub CallsAreGiven : ℕ → Type 0
  CallsAreGiven last = (n : ℕ) (x : List ℕ) (head : Head) (p j : ℕ) (vs : Frame)
      → look_up (take n t.heads) x ≡ Some head → head.place ≡ place.Defined p
      → slice_get t.bodies p ≡ Some j → j < last → length vs ≡ head.arity
      → g (off + j) vs ≡ (meaning n).gives (Plain x) vs

  pub named_at : (n : ℕ) (x : List ℕ) (head : Head) → look_up (take n t.heads) x ≡ Some head
      → IsNamed t es (declared_among es) 0 0 0 t.bodies n x head
  named_at n x head at = found t es 0 0 0 t.bodies n x head names.bodies
      (ap (λ hs. look_up (take n hs) x) (sym names.heads) ∙ at)

  -- ---- operators

  operator_means : (n : ℕ) (f : Identifier) (op : Op) (vs : Frame) → operator_of t.theories f ≡ Ok op
      → known_step op vs ≡ (meaning n).gives f vs
  operator_means n (Indexed x indexes) op vs is =
      sym (indexed_known naming d (seen n) x indexes vs
      ∙ ap (λ ts. known_of_op naming (op_by ts x indexes) (Indexed x indexes) vs) (sym names.theories)
      ∙ ap (λ o. known_of_op naming o (Indexed x indexes) vs) is)
  operator_means n (Plain x) op vs is =
      let plain = ap (λ ts. is_plain_operator ts x) (sym names.theories)
      ∙ some_op (plain_op t.theories x) op is in
      sym (not_defined naming d (seen n) x vs (entry_named-take d.entries x (seen n) (names.free x plain))
      ∙ ap (λ ts. known_of_op naming (op_by ts x []) (Plain x) vs) (sym names.theories)
      ∙ ap (λ o. known_of_op naming o (Plain x) vs) is)
  operator_means n (Qualified sort) op vs is = cc

  -- a constant array holds what is known of its argument
  constant_is : (s : Sort) (sort : Sexp) (vs : Frame) → known_step (Arrays (Const s)) vs ≡ other_known naming (Qualified sort) vs
  constant_is s sort [] = refl
  constant_is s sort (None ∷ []) = refl
  constant_is s sort (Some e ∷ []) = refl
  constant_is s sort (None ∷ l ∷ vs) = refl
  constant_is s sort (Some e ∷ None ∷ vs) = refl
  constant_is s sort (Some e ∷ Some f ∷ vs) = by (all_known vs)
    where
      by : (o : Option (List Element))
          → option_and_then (known_arrays (Const s))
          (option_map (λ es. e ∷ es) (option_map (λ es. f ∷ es) o)) ≡ None
      by None = refl
      by (Some es) = refl

  constant_means : (n : ℕ) (s : Sort) (sort : Sexp) (vs : Frame)
      → known_step (Arrays (Const s)) vs ≡ (meaning n).gives (Qualified sort) vs
  constant_means n s sort vs = constant_is s sort vs
      ∙ sym (known_constant (known_operators naming d.theories) (take (seen n) d.entries) sort vs)

  -- ---- elements

  pub means_elements : (n : ℕ) → n ≤ length es → MeansElements held (first_heads n t) (meaning n)
  means_elements n within x sort fault is at among =
      not_defined naming d (seen n) x [] (names.apart n x sort within at among)
      ∙ ap (λ ts. known_of_op naming (op_by ts x []) (Plain x) []) (sym names.theories)
      ∙ ap (λ o. known_of_op naming o (Plain x) []) is
      ∙ ap (option_map NoArray) (has_form naming t.elements x sort among
      ∙ sym (let e = with_elements t.elements x sort among in names.named e.0 e.1 x))

  -- also behind an `as`
  pub names_elements : (n : ℕ) → NamesElements held (first_heads n t) (meaning n)
  names_elements n elements is x =
      names.named elements is x
      ∙ sym (ap (λ (f : Naming). f x) (element_kept (known_operators naming d.theories) (take (seen n) d.entries)))

  -- ---- names

  module _ (last : ℕ) (calls : CallsAreGiven last) (n i : ℕ) (frame : Frame) (x : List ℕ) (js : List ℕ)
      (head : Head) (below : i ≤ last) (at : look_up (take n t.heads) x ≡ Some head)
      (counted : length js ≡ head.arity) where
    abbrev args : Frame
    args = parts (off + i) g frame (shifted off js)

    abbrev given_means : Node → Type 0
    given_means m = node_value (off + i) g frame (Some (resolved held off t.bodies declared m))
        ≡ (meaning n).gives (Plain x) args

    args_counted : length args ≡ head.arity
    args_counted = parts_counted off (off + i) g frame js ∙ counted

    declared_given : (p : ℕ) → head.place ≡ place.Declared p → given_means (node.Declared p js)
    declared_given p is =
        let f = named_at n x head at in
        let h : IsHeadAt t (declared_among es) 0 0 0 t.bodies f.place f.entry (place.Declared p) =
        subst (IsHeadAt t (declared_among es) 0 0 0 t.bodies f.place f.entry) is f.stands in
        let given = names.given h.0 f.entry h.2 in
        let same : p ≡ h.0 = omega (arith, h.1) in
        let listed : slice_get declared p ≡ Some given.0 = ap (slice_get declared) same ∙ given.1 in
        let above : given.0 < off + i = omega (arith, given.2) in
        ap (λ o. node_value (off + i) g frame (Some (call o (shifted off js)))) listed
        ∙ ap (λ b. cond b (g given.0 args) None) (lt-ltb given.0 (off + i) above)
        ∙ given.3 n args (args_counted ∙ f.counted) ∙ ap (λ y. (meaning n).gives (Plain y) args) f.name

    defined_given : (p : ℕ) → head.place ≡ place.Defined p
        → HasBodyBelow t.bodies i (Some (node.Defined p js)) → given_means (node.Defined p js)
    defined_given p is body =
        ap (λ o. node_value (off + i) g frame (Some (call (option_map (λ j. off + j) o) (shifted off js))))
        body.1
        ∙ part_below off i body.0 g args body.2
        ∙ calls n x head p body.0 args at is body.1 (omega (arith, below, body.2)) args_counted

    named_given : (m : Node) → named_node (Some head) js ≡ Some m → HasBodyBelow t.bodies i (Some m)
        → given_means m
    named_given m made body =
        let k = node_of_head head js m made in
        subst given_means (sym k.is)
        (by head.place refl (subst (λ a. HasBodyBelow t.bodies i (Some a)) k.is body))
      where
        by : (f : Found) → head.place ≡ f → HasBodyBelow t.bodies i (Some (node_at f js))
            → given_means (node_at f js)
        by (place.Declared p) is b = declared_given p is
        by (place.Defined p) is b = defined_given p is b

  -- ---- identifiers

  module _ (last : ℕ) (calls : CallsAreGiven last) (n : ℕ) where
    operator_given : (i : ℕ) (frame : Frame) (f : Identifier) (js : List ℕ) (op : Op) (m : Node)
        → operator_of t.theories f ≡ Ok op → Some (node.Apply op js) ≡ Some m
        → node_value (off + i) g frame (Some (resolved held off t.bodies declared m))
        ≡ (meaning n).gives f (parts (off + i) g frame (shifted off js))
    operator_given i frame f js op m is made =
        let same : node.Apply op js ≡ m = cc in
        ap (λ a. node_value (off + i) g frame (Some (resolved held off t.bodies declared a))) (sym same)
        ∙ operator_means n f op (parts (off + i) g frame (shifted off js)) is

    pub means_its_nodes : MeansItsNodes g held off declared (first_heads n t) (meaning n) last
    means_its_nodes i frame (Plain x) js m below made body =
        by (op_by t.theories x []) refl (look_up (take n t.heads) x) refl made
      where
        by : (o : Result Op OpFault) → op_by t.theories x [] ≡ o → (h : Option Head)
            → look_up (take n t.heads) x ≡ h → applied_node o h js ≡ Some m
            → node_value (off + i) g frame (Some (resolved held off t.bodies declared m))
            ≡ (meaning n).gives (Plain x) (parts (off + i) g frame (shifted off js))
        by (Ok op) is h at here = operator_given i frame (Plain x) js op m is here
        by (Err fault) is None at here = cc
        by (Err fault) is (Some head) at here =
            let k = node_of_head head js m here in
            named_given last calls n i frame x js head below at k.counted m here body
    means_its_nodes i frame (Indexed x indexes) js m below made body =
        by (op_by t.theories x indexes) refl made
      where
        by : (o : Result Op OpFault) → op_by t.theories x indexes ≡ o → applied_node o None js ≡ Some m
            → node_value (off + i) g frame (Some (resolved held off t.bodies declared m))
            ≡ (meaning n).gives (Indexed x indexes) (parts (off + i) g frame (shifted off js))
        by (Ok op) is here = operator_given i frame (Indexed x indexes) js op m is here
        by (Err fault) is here = cc
    means_its_nodes i frame (Qualified sort) js m below made body =
        by (sort_named (constant_sorts t.theories t.elements) sort) made
      where
        by : (r : Result Sort TermFlaw)
            → constant_node (result_and_then r (λ s. Ok (Arrays (Const s)))) js ≡ Some m
            → node_value (off + i) g frame (Some (resolved held off t.bodies declared m))
            ≡ (meaning n).gives (Qualified sort) (parts (off + i) g frame (shifted off js))
        by (Err fault) here = cc
        by (Ok s) here =
            let same : node.Apply (Arrays (Const s)) js ≡ m = cc in
            ap (λ a. node_value (off + i) g frame (Some (resolved held off t.bodies declared a))) (sym same)
            ∙ constant_means n s sort (parts (off + i) g frame (shifted off js))

  -- ---- bodies

  -- the body of a definition gives what it is over the names before it
  pub body_given : (last : ℕ) → CallsAreGiven last → (q j : ℕ) (e : Entry) (ps : List (List ℕ)) (body : Sexp)
      (vs : Frame) → q ≤ length es → IsBody t q (length e.parameters) ps body j → j ≤ last
      → length vs ≡ length e.parameters → g (off + j) vs ≡ known_of (meaning q) (zip ps vs) body
  body_given last calls q j e ps body vs seen_first is below counted =
      let same : length ps ≡ length vs = is.counted ∙ sym counted in
      term_given g held off declared (first_heads q t) (meaning q) last names.rows (means_its_nodes last calls q)
      (means_elements q seen_first) (names_elements q)
      (slots_from 0 ps) (length ps) 0 j body is.denotes below vs (zip ps vs) same
      (stands_behind [] vs ps 0 refl same)

  -- which is what its name means behind it
  pub called : (last : ℕ) → CallsAreGiven last → (n q j : ℕ) (e : Entry) (x : List ℕ) (vs : Frame)
      → slice_get es q ≡ Some e → q < n → e.name ≡ x → IsBodyOf t q e j → j ≤ last
      → length vs ≡ length e.parameters → g (off + j) vs ≡ (meaning n).gives (Plain x) vs
  called last calls n q j e x vs at within name b below counted =
      let defined : IsDefined e.origin = subst IsDefined (sym b.2) tt in
      let place = within_list es q e at in
      body_given last calls q j e b.0 b.1 vs (omega (arith, place)) b.3 below counted
      ∙ sym (ap (λ (o : Origin). known_defined (meaning q) o vs) b.2)
      ∙ sym (defined_means naming d (seen n) (seen q) e x vs names.distinct (names.placed q e at defined)
      (names.grows q n e at defined within) name)

  pub calls_are_given : (last : ℕ) → CallsAreGiven last
  calls_are_given zero n x head p j vs at is body below counted = absurd (omega (arith, below))
  calls_are_given (suc last) n x head p j vs at is body below counted =
      let f = named_at n x head at in
      let h : IsHeadAt t (declared_among es) 0 0 0 t.bodies f.place f.entry (place.Defined p) =
      subst (IsHeadAt t (declared_among es) 0 0 0 t.bodies f.place f.entry) is f.stands in
      let same : h.0 ≡ p = omega (arith, h.1) in
      let here : IsBodyOf t (0 + f.place) f.entry j = h.2 j (ap (slice_get t.bodies) same ∙ body) in
      let b : IsBodyOf t f.place f.entry j = subst (λ q. IsBodyOf t q f.entry j) (omega arith) here in
      called last (calls_are_given last) n f.place j f.entry x vs f.at f.within f.name b
      (omega (arith, below)) (counted ∙ f.counted)

  -- where all names are in force, a node gives what is known of its term
  pub closed_given : (n around i : ℕ) (term : Sexp) → n ≤ length es
      → Denotes (first_heads n t) [] 0 around i term → g (off + i) [] ≡ known_of (meaning n) [] term
  closed_given n around i term within denotes =
      term_given g held off declared (first_heads n t) (meaning n) i names.rows
      (means_its_nodes i (calls_are_given i) n) (means_elements n within) (names_elements n) [] 0 around i term
      denotes (omega arith) [] [] refl tt
