-- The value of a well-sorted term is of the term's sort.
use Rattle.std.proofs.Common.{◌≡◌, ℕ, Bool, true, false, cond, not, ◌||◌, List, [], ◌∷◌, ◌++◌, Option, Some, None}
use Rattle.std.proofs.Common.{Result, Ok, Err, ◌&&◌, ◌*◌, ◌≤◌, length, nat_le, refl, ap, sym, ◌∙◌, subst}
use Rattle.std.proofs.Common.{append_assoc, append-nil, arith, rules}
use Rattle.std.proofs.Math.Nat.{mod-lt}
use Rattle.std.proofs.Math.Pow.{pow_pos}
use Rattle.std.specs.List.{zip}
use Rattle.std.specs.Option.{option_or}
use Rattle.std.specs.Prelude.{ℤ, pos, unwrap_or, bytes_eq, is_some, ok_or, option_and_then, option_map}
use Rattle.std.specs.Str.Parse.{digits_value}
use Rattle.smt_bits.specs.Literals.{constant}
use Rattle.smt_trees.specs.Sexp.{Sexp, Sexps, Atom, Reserved, Items, Nil, Cons, Symbol, Numeral, Decimal}
use Rattle.smt_trees.specs.Sexp.{Hexadecimal, Binary, Text, Keyword}
use Rattle.smt_trees.specs.declared.reserved.Word.TheVariants.{As, Bang, Let, Underscore}
use Rattle.smt_theory.specs.Ranks.{rank_of}
use Rattle.smt_theory.specs.Shapes.{are_exactly}
use Rattle.smt_theory.specs.Sort.{is_same_sort}
use Rattle.smt_theory.specs.Width.{width_of}
use Rattle.smt_theory.specs.Words.{look_up, result_and_then}
use Rattle.smt_theory.specs.declared.op.Op.{Op}
use Rattle.smt_theory.specs.declared.op.OpFault.{OpFault}
use Rattle.smt_theory.specs.declared.op.OpFault.TheVariants as ops
use Rattle.smt_theory.specs.Sort.{Sort}
use Rattle.smt_theory.specs.Sort.{Int, Real, Bits, Free}
use Rattle.smt_theory.specs.declared.theories.Theories.{Theories}
use Rattle.smt_values.specs.Element.{Abstract, Integer, Vector}
use Rattle.smt_arrays.specs.Element.{Element, Plain as NoArray, IsOfSort, AreOfSorts}
use Rattle.smt_values.specs.Decimals.{decimal_value}
use Rattle.smt_values.specs.Operations.{DivisionByZero}
use Rattle.smt_arrays.specs.Operations.{operate}
use Rattle.smt_theory.specs.declared.op.ArraysOp.TheVariants.{Const}
use Rattle.smt_theory.specs.declared.op.Op.TheVariants.{Arrays}
use Rattle.smt_forms.specs.Bindings.{are_attributes, are_bindings}
use Rattle.smt_forms.specs.Labels.{labels_among}
use Rattle.smt_terms.specs.Checking.{bound_in, flaw_of_labels, sort_applied, sort_in, sorts_in, sort_of_call}
use Rattle.smt_terms.specs.Checking.{sort_of_name, sort_of_operator, sort_of_plain, sort_of_rank}
use Rattle.smt_terms.specs.Checking.{sort_alone, sort_of_symbol, sort_unless_element, sort_unless_variable}
use Rattle.smt_terms.specs.Checking.{unless}
use Rattle.smt_terms.specs.Elements.{ElementNames, constant_sorts, element_among, if_declared, if_free, or_ill_sorted}
use Rattle.smt_terms.specs.Elements.{qualified_sort}
use Rattle.smt_terms.specs.declared.named_sort.NamedSort.{NamedSort}
use Rattle.smt_forms.specs.Variables.{is_among}
use Rattle.smt_terms.specs.SortTrees.{sort_named}
use Rattle.smt_forms.specs.ElementNames.{begins_at, qualified_symbol, sort_of_element}
use Rattle.smt_forms.specs.Heads.{begins_indexed}
use Rattle.smt_forms.specs.Identifier.{Identifier, Plain, Indexed, Qualified, applied, applied_in, indexed}
use Rattle.smt_forms.specs.Identifier.{of_profile, operator_of}
use Rattle.smt_terms.specs.Signature.{AreDistinct, Entry, Origin, Declared, Defined, Names, Rank, Signature}
use Rattle.smt_terms.specs.Signature.{entry_named, names_of, rank_of_entry, ranks_of, unlabelled}
use Rattle.smt_terms.specs.Signature.{unlabelled_over}
use Rattle.smt_terms.specs.WellSorted.{AreWellSorted, IsWellSorted, IsWellSortedFrom}
use Rattle.smt_faults.specs.declared.term_flaw.TermFlaw.{TermFlaw}
use Rattle.smt_faults.specs.declared.term_flaw.TermFlaw.TheVariants.{BoundTwice, Form, IllSorted, Unknown}
use Rattle.smt_faults.specs.declared.term_flaw.TermFlaw.TheVariants.{Index, NotFresh, Unsupported}
use Rattle.smt_eval.proofs.NameLemmas.{same_name, same_self, none_step}
use Rattle.smt_eval.specs.Agreement.{FitsScope, IsOfSorts}
use Rattle.smt_eval.specs.Meaning.{Meaning, element_by, value_of, values_bound, values_of, meaning_of_op}
use Rattle.smt_eval.specs.Meaning.{element_of_symbol, operators, defined_value, with_definition, meaning_after}
use Rattle.smt_eval.specs.Meaning.{meaning_in}
use Rattle.smt_eval.proofs.MeaningLemmas.{is_plain_list, value-other}

-- where an identifier has a sort for arguments of some sorts, it gives an element of that sort for elements
-- of those
abbrev pub FitsApplied : Names → Meaning → Type 0
FitsApplied names m = (f : Identifier) (sorts : List Sort) (sort : Sort) (es : List Element)
    → sort_applied names f sorts ≡ Ok sort → AreOfSorts sorts es → IsOfSort sort (m f es)

-- and so does a symbol alone, which may be an element
abbrev pub FitsAlone : Names → Meaning → Type 0
FitsAlone names m = (x : List ℕ) (sort : Sort)
    → sort_alone names x (look_up names.ranks x) ≡ Ok sort → IsOfSort sort (m (Plain x) [])

-- the law of decimals
abbrev pub DecimalsAreReals : Type 0
DecimalsAreReals = (digits : List ℕ) → IsOfSort Real (NoArray (decimal_value digits))

pub record Fits (names : Names) (m : Meaning) : Type 0 where
  pub called : FitsApplied names m
  pub alone : FitsAlone names m
  pub decimals : DecimalsAreReals

-- the law of the operators
abbrev pub ResultsAreOfTheirSorts : Type 0
ResultsAreOfTheirSorts = (z : DivisionByZero) (op : Op) (sorts : List Sort) (sort : Sort) (es : List Element)
    → rank_of op sorts ≡ Some sort → AreOfSorts sorts es → IsOfSort sort (operate z op es)

-- operators give what their ranks say
operator-fits : ResultsAreOfTheirSorts
    → (z : DivisionByZero) (o : Result Op OpFault) (f : Identifier) (sorts : List Sort) (sort : Sort)
    (es : List Element)
    → sort_of_operator o sorts ≡ Ok sort → AreOfSorts sorts es → IsOfSort sort (meaning_of_op z o f es)
operator-fits law z (Err ops.Unknown) f sorts sort es is h = cc
operator-fits law z (Err ops.Index) f sorts sort es is h = cc
operator-fits law z (Ok op) f sorts sort es is h = by (rank_of op sorts) refl is
  where
    by : (o : Option Sort) → rank_of op sorts ≡ o → sort_of_rank o ≡ Ok sort → IsOfSort sort (operate z op es)
    by None ranked is = cc
    by (Some found) ranked is =
        let same : found ≡ sort = cc in law z op sorts sort es (ranked ∙ ap (λ (s : Sort). Some s) same) h

applied-operators : ResultsAreOfTheirSorts
    → (z : DivisionByZero) (theories : Theories) (elements : Option ElementNames)
    → FitsApplied (unlabelled_over theories elements []) (operators z theories)
applied-operators law z theories elements (Plain f) sorts sort es is h =
    operator-fits law z (operator_of theories (Plain f)) (Plain f) sorts sort es is h
applied-operators law z theories elements (Indexed f indexes) sorts sort es is h =
    operator-fits law z (operator_of theories (Indexed f indexes)) (Indexed f indexes) sorts sort es is h
applied-operators law z theories elements (Qualified tree) sorts sort es is h =
    by (sort_named (constant_sorts theories elements) tree) is
  where
    same : (s : Sort) (es : List Element)
        → operate z (Arrays (Const s)) es ≡ operators z theories (Qualified tree) es
    same s [] = refl
    same s (e ∷ []) = refl
    same s (e ∷ f ∷ es) = refl

    by : (r : Result Sort TermFlaw)
        → result_and_then (result_and_then r (λ s. Ok (Arrays (Const s)))) (λ op. sort_of_rank (rank_of op sorts))
        ≡ Ok sort → IsOfSort sort (operators z theories (Qualified tree) es)
    by (Err fault) is = cc
    by (Ok s) is = subst (IsOfSort sort) (same s es)
        (operator-fits law z (Ok (Arrays (Const s))) (Qualified tree) sorts sort es is h)

-- ---- elements

-- a declared sort has the elements of all names
free-fits : (s sort : Sort) (x : List ℕ) → if_free s ≡ Some sort → IsOfSort sort (NoArray (Abstract x))
free-fits (Free n) sort x is = let same : Free n ≡ sort = cc in subst (λ t. IsOfSort t (NoArray (Abstract x))) same tt
free-fits _ sort x is = cc

element-fits : (elements : Option ElementNames) (y x : List ℕ) (sort : Sort)
    → element_among elements y ≡ Some sort → IsOfSort sort (NoArray (Abstract x))
element-fits None y x sort is = cc
element-fits (Some elements) y x sort is =
    among (is_among elements.taken y)
    (option_and_then (look_up elements.sorts.abbreviations) (sort_of_element y)) is
  where
    own : (s : Sort) (b : Bool) → cond b (if_free s) None ≡ Some sort → IsOfSort sort (NoArray (Abstract x))
    own s true h = free-fits s sort x h
    own s false h = cc

    by : (o : Option NamedSort) → option_and_then if_declared o ≡ Some sort → IsOfSort sort (NoArray (Abstract x))
    by None h = cc
    by (Some named) h = own named.sort named.is_declared h

    among : (b : Bool) (o : Option NamedSort) → cond b None (option_and_then if_declared o) ≡ Some sort
        → IsOfSort sort (NoArray (Abstract x))
    among true o h = cc
    among false o h = by o h

-- the element behind an `as`
qualified-fits : {A : Type 0} (elements : Option ElementNames) (names : List (List ℕ × A)) (parts : Sexps) (sort : Sort)
    → qualified_sort elements names parts ≡ Ok sort → IsOfSort sort (element_of_symbol (qualified_symbol parts))
qualified-fits None names parts sort is = cc
qualified-fits (Some elements) names (Cons (Atom Symbol x) (Cons tree Nil)) sort is =
    by (begins_at x) (is_among elements.taken x || is_some (look_up names x)) (sort_named elements.sorts tree) is
  where
    named : (o s : Option Sort) → o ≡ s → or_ill_sorted s ≡ Ok sort → o ≡ Some sort
    named o None e h = cc
    named o (Some t) e h = let same : t ≡ sort = cc in e ∙ ap (λ (s : Sort). Some s) same

    by : (b t : Bool) (r : Result Sort TermFlaw)
        → cond (not b) (Err Unsupported)
        (cond t (Err NotFresh) (result_and_then r (λ s. or_ill_sorted (if_free s)))) ≡ Ok sort
        → IsOfSort sort (NoArray (Abstract x))
    by false t r h = cc
    by true true r h = cc
    by true false (Err fault) h = cc
    by true false (Ok s) h = free-fits s sort x (named (if_free s) (if_free s) refl h)
qualified-fits (Some elements) names _ sort is = cc

-- an operator without arguments, or else an element
unless-element-fits : ResultsAreOfTheirSorts → (z : DivisionByZero) (elements : Option ElementNames) (x : List ℕ)
    (o : Option Sort) (op : Result Op OpFault) (sort : Sort) → element_among elements x ≡ o
    → sort_unless_element o op ≡ Ok sort → IsOfSort sort (meaning_of_op z op (Plain x) [])
unless-element-fits law z elements x None op sort among is =
    operator-fits law z op (Plain x) [] sort [] is tt
unless-element-fits law z elements x (Some s) (Err ops.Unknown) sort among is =
    let same : s ≡ sort = cc in subst (λ t. IsOfSort t (NoArray (Abstract x))) same (element-fits elements x x s among)
unless-element-fits law z elements x (Some s) (Err ops.Index) sort among is = cc
unless-element-fits law z elements x (Some s) (Ok op) sort among is =
    operator-fits law z (Ok op) (Plain x) [] sort [] is tt

Fits-operators : ResultsAreOfTheirSorts → DecimalsAreReals
    → (z : DivisionByZero) (theories : Theories) (elements : Option ElementNames)
    → Fits (unlabelled_over theories elements []) (operators z theories)
Fits-operators law decimals z theories elements = record {
  called = applied-operators law z theories elements;
  alone = λ x sort is. unless-element-fits law z elements x (element_among elements x)
      (operator_of theories (Plain x)) sort refl is;
  decimals = decimals;
}

-- a first answer, where the whole is one
first_ok : {A B : Type 0} (r : Result A TermFlaw) (next : A → Result B TermFlaw) (b : B)
    → result_and_then r next ≡ Ok b → (a : A) × (r ≡ Ok a) × (next a ≡ Ok b)
first_ok (Ok a) next b h = (a, refl, h)
first_ok (Err f) next b h = cc

-- a variable, or else a name
variable-fits : (names : Names) (m : Meaning) (x : List ℕ) (s : Option Sort) (e : Option Element)
    (sort : Sort) → Fits names m → IsOfSorts s e → sort_of_symbol names x s ≡ Ok sort
    → IsOfSort sort (unwrap_or e (m (Plain x) []))
variable-fits names m x None None sort fits h is = fits.alone x sort is
variable-fits names m x None (Some e) sort fits h is = absurd h
variable-fits names m x (Some s) None sort fits h is = absurd h
variable-fits names m x (Some s) (Some e) sort fits h is =
    let same : s ≡ sort = cc in subst (λ t. IsOfSort t e) same h

-- a call of what is no variable
call_applied : (names : Names) (scope : List (List ℕ × Sort)) (f : Identifier) (sorts : List Sort)
    (sort : Sort) → sort_of_call names scope f sorts ≡ Ok sort → sort_applied names f sorts ≡ Ok sort
call_applied names scope (Indexed f indexes) sorts sort is = is
call_applied names scope (Qualified tree) sorts sort is = is
call_applied names scope (Plain f) sorts sort is = by (look_up scope f) is
  where
    by : (o : Option Sort) → sort_unless_variable o (sort_applied names (Plain f) sorts) ≡ Ok sort
        → sort_applied names (Plain f) sorts ≡ Ok sort
    by None is = is
    by (Some s) is = cc

-- a numeral is an integer, or a real that is one
numeral-fits : (ints reals : Bool) (sort : Sort) (z : ℤ)
    → cond ints (Ok Int) (cond reals (Ok Real) (Err Unknown)) ≡ Ok sort → IsOfSort sort (NoArray (Integer z))
numeral-fits true reals sort z is = let same : Int ≡ sort = cc in subst (λ s. IsOfSort s (NoArray (Integer z))) same tt
numeral-fits false true sort z is = let same : Real ≡ sort = cc in subst (λ s. IsOfSort s (NoArray (Integer z))) same tt
numeral-fits false false sort z is = cc

-- a decimal is a real
decimal-fits : (reals : Bool) (fault : TermFlaw) (sort : Sort) (e : Element) → IsOfSort Real e
    → cond reals (Ok Real) (Err fault) ≡ Ok sort → IsOfSort sort e
decimal-fits true fault sort e here is = let same : Real ≡ sort = cc in subst (λ s. IsOfSort s e) same here
decimal-fits false fault sort e here is = cc

-- a constant is a bit vector of as many bits as its digits have
constant-fits : (b : Bool) (base bits n : ℕ) (digits : List ℕ) (sort : Sort) → n ≡ bits * length digits
    → cond b (ok_or (option_map Bits (width_of n)) Index) (Err Unknown) ≡ Ok sort
    → IsOfSort sort (NoArray (Vector (constant base bits digits)))
constant-fits false base bits n digits sort e h = cc
constant-fits true base bits n digits sort e h = by (nat_le 1 n) (nat_le n 128) (λ t. search rules) h
  where
    by : (p q : Bool) → (p ≡ true → 1 ≤ n)
        → ok_or (option_map Bits (cond (p && q) (Some n) None)) Index ≡ Ok sort
        → IsOfSort sort (NoArray (Vector (constant base bits digits)))
    by true true some h =
        let is : Bits n ≡ sort = cc in
        subst (λ s. IsOfSort s (NoArray (Vector (constant base bits digits)))) is (
          sym e,
          (
            subst (λ k. 1 ≤ k) e (some refl),
            mod-lt (digits_value base digits)
                (pow_pos (bits * length digits)),
          ),
        )
    by true false some h = cc
    by false q some h = cc

-- a list that is no `let` and no annotated term, with another head than `_`
sort-other : (names : Names) (scope : List (List ℕ × Sort)) (head : Sexp) (args : Sexps)
    → is_plain_list head args ≡ true → begins_indexed head ≡ false
    → sort_in names scope (Items (Cons head args))
    ≡ result_and_then (applied_in names.theories.wide head args)
    (λ f. result_and_then (sorts_in names scope args) (λ ss. sort_of_call names scope f ss))
sort-other names scope (Reserved Underscore) args p h = cc
sort-other names scope (Reserved As) args p h = cc
sort-other names scope (Reserved Let) (Cons (Items bindings) (Cons body Nil)) p h = cc
sort-other names scope (Reserved Bang) (Cons term attributes) p h = cc
sort-other names scope _ _ p h = refl

-- what a profile supports is what is applied
supported : (wide : Bool) (r : Result Identifier TermFlaw) (f : Identifier)
    → result_and_then r (of_profile wide) ≡ Ok f → r ≡ Ok f
supported wide (Err fault) f is = cc
supported wide (Ok (Plain x)) f is = is
supported wide (Ok (Indexed x indexes)) f is = is
supported true (Ok (Qualified tree)) f is = is
supported false (Ok (Qualified tree)) f is = cc

-- a variable in front fits
by_name : (b : Bool) (s : Sort) (e : Element) (o : Option Sort) (p : Option Element) → IsOfSort s e
    → IsOfSorts o p → IsOfSorts (cond b (Some s) o) (cond b (Some e) p)
by_name true s e o p here rest = here
by_name false s e o p here rest = rest

-- where there is a sort, a test was passed
passed : (b : Bool) (r : Result Sort TermFlaw) (sort : Sort) → cond b r (Err Form) ≡ Ok sort → r ≡ Ok sort
passed true r sort is = is
passed false r sort is = cc

-- and no name was bound before
new_name : {A : Type 0} (b : Bool) (r : Result A TermFlaw) (a : A) → cond b (Err BoundTwice) r ≡ Ok a
    → r ≡ Ok a
new_name true r a is = cc
new_name false r a is = is

-- an annotated term has the sort of the term
annotated : (o : Option TermFlaw) (s sort : Sort) → unless o (Ok s) ≡ Ok sort → s ≡ sort
annotated (Some fault) s sort is = cc
annotated None s sort is = cc

-- what bindings bring behind variables
abbrev BoundFit : Meaning → List (List ℕ × Sort) → List (List ℕ × Element) → List (List ℕ × Sort)
    → List (List ℕ × Sort) → Sexps → Type 0
BoundFit m scope r before bound ts = (new : List (List ℕ × Sort)) × (bound ≡ before ++ new)
    × FitsScope (new ++ scope) (values_bound m r ts ++ r)

-- over names whose meaning fits
module _ (N : Names) (m : Meaning) (fits : Fits (unlabelled N) m) where
  call-fits : (scope : List (List ℕ × Sort)) (r : List (List ℕ × Element)) (head : Sexp) (args : Sexps)
      (sort : Sort) → ((ss : List Sort) → sorts_in (unlabelled N) scope args ≡ Ok ss
      → AreOfSorts ss (values_of m r args))
      → result_and_then (applied_in N.theories.wide head args)
      (λ f. result_and_then (sorts_in (unlabelled N) scope args)
      (λ ss. sort_of_call (unlabelled N) scope f ss)) ≡ Ok sort
      → IsOfSort sort (element_by (applied head args) (λ f. m f (values_of m r args)))
  call-fits scope r head args sort all is =
      let p =
      first_ok (applied_in N.theories.wide head args)
      (λ f. result_and_then (sorts_in (unlabelled N) scope args)
      (λ ss. sort_of_call (unlabelled N) scope f ss)) sort is in
      let q =
      first_ok (sorts_in (unlabelled N) scope args)
      (λ ss. sort_of_call (unlabelled N) scope p.0 ss) sort p.2 in
      subst (λ o. IsOfSort sort (element_by o (λ f. m f (values_of m r args))))
      (sym (supported N.theories.wide (applied head args) p.0 p.1))
      (fits.called p.0 q.0 sort (values_of m r args) (call_applied (unlabelled N) scope p.0 q.0 sort q.2)
      (all q.0 q.1))

  list-fits : (scope : List (List ℕ × Sort)) (r : List (List ℕ × Element)) (head : Sexp) (args : Sexps)
      (sort : Sort) → ((ss : List Sort) → sorts_in (unlabelled N) scope args ≡ Ok ss
      → AreOfSorts ss (values_of m r args))
      → is_plain_list head args ≡ true → (b : Bool) → begins_indexed head ≡ b
      → sort_in (unlabelled N) scope (Items (Cons head args)) ≡ Ok sort
      → IsOfSort sort (value_of m r (Items (Cons head args)))
  list-fits scope r head args sort all plain false other is =
      subst (λ e. IsOfSort sort e) (sym (value-other m r head args plain other))
      (call-fits scope r head args sort all
      (sym (sort-other (unlabelled N) scope head args plain other) ∙ is))
  list-fits scope r (Reserved Underscore) args sort all plain true other is =
      let p = first_ok (indexed args) (λ f. sort_applied (unlabelled N) f []) sort is in
      subst (λ o. IsOfSort sort (element_by o (λ f. m f []))) (sym p.1)
      (fits.called p.0 [] sort [] p.2 tt)
  list-fits scope r _ args sort all plain true other is = cc

  mutual
    pub term-fits : (scope : List (List ℕ × Sort)) (r : List (List ℕ × Element)) → FitsScope scope r
        → (t : Sexp) (sort : Sort) → sort_in (unlabelled N) scope t ≡ Ok sort → IsOfSort sort (value_of m r t)
    term-fits scope r fit (Atom Symbol x) sort is =
        variable-fits (unlabelled N) m x (look_up scope x) (look_up r x) sort fits (fit x) is
    term-fits scope r fit (Atom Numeral x) sort is =
        numeral-fits N.theories.ints N.theories.reals sort (pos (digits_value 10 x)) is
    term-fits scope r fit (Atom Decimal x) sort is =
        decimal-fits N.theories.reals (cond N.theories.wide Unknown Unsupported) sort (NoArray (decimal_value x))
        (fits.decimals x) is
    term-fits scope r fit (Atom Hexadecimal x) sort is =
        constant-fits N.theories.bits 16 4 (4 * length x) x sort refl is
    term-fits scope r fit (Atom Binary x) sort is =
        constant-fits N.theories.bits 2 1 (length x) x sort (omega arith) is
    term-fits scope r fit (Atom Text x) sort is = cc
    term-fits scope r fit (Atom Keyword x) sort is = cc
    term-fits scope r fit (Reserved word) sort is = cc
    term-fits scope r fit (Items Nil) sort is = cc
    term-fits scope r fit (Items (Cons (Reserved As) parts)) sort is = qualified-fits N.elements N.ranks parts sort is
    term-fits scope r fit (Items (Cons (Reserved Let) (Cons (Items bindings) (Cons body Nil)))) sort is =
        let p = first_ok (bound_in (unlabelled N) scope [] bindings)
        (λ bound. sort_in (unlabelled N) (bound ++ scope) body) sort
        (passed (are_bindings bindings)
        (result_and_then (bound_in (unlabelled N) scope [] bindings)
        (λ bound. sort_in (unlabelled N) (bound ++ scope) body)) sort is) in
        let q = bound-fits scope r fit [] bindings p.0 p.1 in
        term-fits (q.0 ++ scope) (values_bound m r bindings ++ r) q.2 body sort
        (ap (λ (b : List (List ℕ × Sort)). sort_in (unlabelled N) (b ++ scope) body) (sym q.1) ∙ p.2)
    term-fits scope r fit (Items (Cons (Reserved Bang) (Cons term attributes))) sort is =
        let p = first_ok (sort_in (unlabelled N) scope term)
        (λ s. unless (flaw_of_labels (unlabelled N) scope term (labels_among attributes)) (Ok s)) sort
        (passed (are_attributes attributes)
        (result_and_then (sort_in (unlabelled N) scope term)
        (λ s. unless (flaw_of_labels (unlabelled N) scope term (labels_among attributes)) (Ok s))) sort
        is) in
        subst (λ s. IsOfSort s (value_of m r term))
        (annotated (flaw_of_labels (unlabelled N) scope term (labels_among attributes)) p.0 sort p.2)
        (term-fits scope r fit term p.0 p.1)
    term-fits scope r fit (Items (Cons head args)) sort is = list-fits scope r head args sort
        (λ ss h. terms-fit scope r fit args ss h) refl (begins_indexed head) refl is

    terms-fit : (scope : List (List ℕ × Sort)) (r : List (List ℕ × Element)) → FitsScope scope r
        → (ts : Sexps) (sorts : List Sort) → sorts_in (unlabelled N) scope ts ≡ Ok sorts
        → AreOfSorts sorts (values_of m r ts)
    terms-fit scope r fit Nil sorts is = let none : [] ≡ sorts = cc in subst (λ ss. AreOfSorts ss []) none tt
    terms-fit scope r fit (Cons t ts) sorts is =
        let p =
        first_ok (sort_in (unlabelled N) scope t)
        (λ s. result_and_then (sorts_in (unlabelled N) scope ts) (λ ss. Ok (s ∷ ss))) sorts is in
        let q = first_ok (sorts_in (unlabelled N) scope ts) (λ ss. Ok (p.0 ∷ ss)) sorts p.2 in
        let whole : p.0 ∷ q.0 ≡ sorts = cc in
        subst (λ ss. AreOfSorts ss (values_of m r (Cons t ts))) whole
        (term-fits scope r fit t p.0 p.1, terms-fit scope r fit ts q.0 q.1)

    bound-fits : (scope : List (List ℕ × Sort)) (r : List (List ℕ × Element)) → FitsScope scope r
        → (before : List (List ℕ × Sort)) (ts : Sexps) (bound : List (List ℕ × Sort))
        → bound_in (unlabelled N) scope before ts ≡ Ok bound → BoundFit m scope r before bound ts
    bound-fits scope r fit before Nil bound is =
        let same : before ≡ bound = cc in ([], sym same ∙ sym (append-nil before), fit)
    bound-fits scope r fit before (Cons (Items (Cons (Atom Symbol x) (Cons t Nil))) rest) bound is =
        let go : Sort → Result (List (List ℕ × Sort)) TermFlaw =
        λ s. bound_in (unlabelled N) scope (before ++ (x, s) ∷ []) rest in
        let p =
        first_ok (sort_in (unlabelled N) scope t) go bound
        (new_name (is_some (look_up before x))
        (result_and_then (sort_in (unlabelled N) scope t) go) bound is) in
        let q = bound-fits scope r fit (before ++ (x, p.0) ∷ []) rest bound p.2 in (
          (x, p.0) ∷ q.0,
          q.1 ∙ append_assoc before ((x, p.0) ∷ []) q.0,
          λ y. by_name (bytes_eq y x) p.0 (value_of m r t) (look_up (q.0 ++ scope) y)
              (look_up (values_bound m r rest ++ r) y) (term-fits scope r fit t p.0 p.1) (q.2 y),
        )
    bound-fits scope r fit before _ bound is = cc

-- values of the parameters' sorts make a scope
FitsScope-zip : (ps : List (List ℕ)) (sorts : List Sort) (es : List Element) → AreOfSorts sorts es
    → FitsScope (zip ps sorts) (zip ps es)
FitsScope-zip [] sorts es h x = tt
FitsScope-zip (p ∷ ps) [] [] h x = tt
FitsScope-zip (p ∷ ps) [] (e ∷ es) h x = absurd h
FitsScope-zip (p ∷ ps) (s ∷ sorts) [] h x = absurd h
FitsScope-zip (p ∷ ps) (s ∷ sorts) (e ∷ es) h x = by_name (bytes_eq x p) s e (look_up (zip ps sorts) x)
    (look_up (zip ps es) x) h.0 (FitsScope-zip ps sorts es h.1 x)

-- ---- definitions

-- the names of entries
abbrev pub names_over : Theories → Option ElementNames → List Entry → Names
names_over theories elements es = unlabelled_over theories elements es

option_or_none : {A : Type 0} (o : Option A) → option_or o None ≡ o
option_or_none None = refl
option_or_none (Some a) = refl

-- the rank of a name, with one more entry at the end
look_up-more : (es : List Entry) (e : Entry) (x : List ℕ)
    → look_up (ranks_of (es ++ e ∷ [])) x
    ≡ option_or (look_up (ranks_of es) x) (cond (bytes_eq x e.name) (Some (rank_of_entry e)) None)
look_up-more [] e x = refl
look_up-more (d ∷ es) e x = by (bytes_eq x d.name) (look_up-more es e x)
  where
    by : (b : Bool) → look_up (ranks_of (es ++ e ∷ [])) x
        ≡ option_or (look_up (ranks_of es) x) (cond (bytes_eq x e.name) (Some (rank_of_entry e)) None)
        → cond b (Some (rank_of_entry d)) (look_up (ranks_of (es ++ e ∷ [])) x)
        ≡ option_or (cond b (Some (rank_of_entry d)) (look_up (ranks_of es) x))
        (cond (bytes_eq x e.name) (Some (rank_of_entry e)) None)
    by true rest = refl
    by false rest = rest

-- a name without an entry has no rank
no_rank : (es : List Entry) (x : List ℕ) → entry_named es x ≡ None → look_up (ranks_of es) x ≡ None
no_rank [] x h = refl
no_rank (d ∷ es) x h = by (bytes_eq x d.name) h (λ g. no_rank es x g)
  where
    by : (b : Bool) → cond b (Some d) (entry_named es x) ≡ None
        → (entry_named es x ≡ None → look_up (ranks_of es) x ≡ None)
        → cond b (Some (rank_of_entry d)) (look_up (ranks_of es) x) ≡ None
    by true h next = cc
    by false h next = next h

-- an entry after others has another name than those
found_behind : (ds : List Entry) (e : Entry) (es : List Entry) (x : List ℕ) → e.name ≡ x
    → entry_named (ds ++ e ∷ es) x ≡ None → ⊥
found_behind [] e es x is none = let p = none_step (bytes_eq x e.name) e (entry_named es x) none
    in let self : bytes_eq x e.name ≡ true = ap (λ n. bytes_eq x n) is ∙ same_self x in cc
found_behind (d ∷ ds) e es x is none =
    found_behind ds e es x is (none_step (bytes_eq x d.name) d (entry_named (ds ++ e ∷ es) x) none).1

none_before : (earlier : List Entry) (e : Entry) (es : List Entry) → AreDistinct (earlier ++ e ∷ es)
    → entry_named earlier e.name ≡ None
none_before [] e es distinct = refl
none_before (d ∷ earlier) e es distinct =
    by (bytes_eq e.name d.name) refl (none_before earlier e es distinct.1)
  where
    by : (b : Bool) → bytes_eq e.name d.name ≡ b → entry_named earlier e.name ≡ None
        → cond b (Some d) (entry_named earlier e.name) ≡ None
    by false other rest = rest
    by true is rest = absurd (found_behind earlier e es d.name (same_name e.name d.name is) distinct.0)

-- sorts that pass the test are the same
abbrev pub SameSorts : Type 0
SameSorts = (a b : Sort) → is_same_sort a b ≡ true → a ≡ b

exactly-same : SameSorts → (sorts args : List Sort) → are_exactly sorts args ≡ true → args ≡ sorts
exactly-same same [] [] h = refl
exactly-same same [] (a ∷ args) h = cc
exactly-same same (s ∷ sorts) [] h = cc
exactly-same same (s ∷ sorts) (a ∷ args) h =
    by (is_same_sort a s) refl h (λ g. exactly-same same sorts args g)
  where
    by : (b : Bool) → is_same_sort a s ≡ b → (b && are_exactly sorts args) ≡ true
        → (are_exactly sorts args ≡ true → args ≡ sorts) → a ∷ args ≡ s ∷ sorts
    by false is h rest = cc
    by true is h rest = let head = same a s is in let tail = rest h in cc

-- a name in force for arguments
name-fits : SameSorts → (rank : Rank) (sorts : List Sort) (sort : Sort) → sort_of_name rank sorts ≡ Ok sort
    → (sorts ≡ rank.parameters) × (rank.sort ≡ sort)
name-fits same rank sorts sort is = by (are_exactly rank.parameters sorts) refl is
  where
    by : (b : Bool) → are_exactly rank.parameters sorts ≡ b → cond b (Ok rank.sort) (Err IllSorted) ≡ Ok sort
        → (sorts ≡ rank.parameters) × (rank.sort ≡ sort)
    by true all is = (exactly-same same rank.parameters sorts all, cc)
    by false all is = cc

-- what a definition gives
definition-fits : (theories : Theories) (elements : Option ElementNames) (earlier : List Entry) (m : Meaning)
    (sorts : List Sort) (sort : Sort) (origin : Origin) (es : List Element)
    → Fits (names_over theories elements earlier) m
    → IsWellSortedFrom (names_over theories elements earlier) sorts sort origin → AreOfSorts sorts es
    → IsOfSort sort (defined_value m origin es)
definition-fits theories elements earlier m sorts sort (Declared command) es fits sorted h = absurd sorted
definition-fits theories elements earlier m sorts sort (Defined ps body) es fits sorted h =
    term-fits (names_over theories elements earlier) m fits (zip ps sorts) (zip ps es)
    (FitsScope-zip ps sorts es h) body sort sorted.sorted

-- one more definition
module _ (same : SameSorts) (theories : Theories) (elements : Option ElementNames) (earlier : List Entry) (m : Meaning)
    (e : Entry) (fits : Fits (names_over theories elements earlier) m)
    (sorted : IsWellSorted theories elements earlier e) (fresh : entry_named earlier e.name ≡ None) where
  abbrev more : Names
  more = names_over theories elements (earlier ++ e ∷ [])

  -- its own name has its rank
  rank-here : (x : List ℕ) → bytes_eq x e.name ≡ true → look_up more.ranks x ≡ Some (rank_of_entry e)
  rank-here x is_name =
      look_up-more earlier e x
      ∙ ap (λ o. option_or o (cond (bytes_eq x e.name) (Some (rank_of_entry e)) None))
      (no_rank earlier x (ap (λ n. entry_named earlier n) (same_name x e.name is_name) ∙ fresh))
      ∙ ap (λ b. cond b (Some (rank_of_entry e)) None) is_name

  -- another name the rank of before
  rank-there : (x : List ℕ) → bytes_eq x e.name ≡ false → look_up more.ranks x ≡ look_up (ranks_of earlier) x
  rank-there x other =
      look_up-more earlier e x
      ∙ ap (λ b. option_or (look_up (ranks_of earlier) x) (cond b (Some (rank_of_entry e)) None)) other
      ∙ option_or_none (look_up (ranks_of earlier) x)

  defined-fits : (sorts : List Sort) (sort : Sort) (es : List Element)
      → sort_of_name (rank_of_entry e) sorts ≡ Ok sort → AreOfSorts sorts es
      → IsOfSort sort (defined_value m e.origin es)
  defined-fits sorts sort es is h =
      let p = name-fits same (rank_of_entry e) sorts sort is in
      subst (λ s. IsOfSort s (defined_value m e.origin es)) p.1
      (definition-fits theories elements earlier m e.parameters e.sort e.origin es fits sorted
      (subst (λ ss. AreOfSorts ss es) p.0 h))

  applied-with : FitsApplied more (with_definition m e)
  applied-with (Indexed f indexes) sorts sort es is h = fits.called (Indexed f indexes) sorts sort es is h
  applied-with (Qualified tree) sorts sort es is h = fits.called (Qualified tree) sorts sort es is h
  applied-with (Plain f) sorts sort es is h = by (bytes_eq f e.name) refl
    where
      by : (b : Bool) → bytes_eq f e.name ≡ b
          → IsOfSort sort (cond b (defined_value m e.origin es) (m (Plain f) es))
      by true here =
          defined-fits sorts sort es (sym (ap (λ o. sort_of_plain more f o sorts) (rank-here f here)) ∙ is) h
      by false other = fits.called (Plain f) sorts sort es
          (sym (ap (λ o. sort_of_plain more f o sorts) (rank-there f other)) ∙ is) h

  alone-with : FitsAlone more (with_definition m e)
  alone-with x sort is = by (bytes_eq x e.name) refl
    where
      by : (b : Bool) → bytes_eq x e.name ≡ b
          → IsOfSort sort (cond b (defined_value m e.origin []) (m (Plain x) []))
      by true here =
          defined-fits [] sort [] (sym (ap (λ o. sort_alone more x o) (rank-here x here)) ∙ is) tt
      by false other = fits.alone x sort (sym (ap (λ o. sort_alone more x o) (rank-there x other)) ∙ is)

  Fits-with : Fits more (with_definition m e)
  Fits-with = record { called = applied-with; alone = alone-with; decimals = fits.decimals }

-- and any
Fits-after : SameSorts → (theories : Theories) (elements : Option ElementNames) (earlier es : List Entry)
    (m : Meaning) → Fits (names_over theories elements earlier) m → AreWellSorted theories elements earlier es
    → AreDistinct (earlier ++ es) → Fits (names_over theories elements (earlier ++ es)) (meaning_after m es)
Fits-after same theories elements earlier [] m fits sorted distinct =
    subst (λ ds. Fits (names_over theories elements ds) m) (sym (append-nil earlier)) fits
Fits-after same theories elements earlier (e ∷ es) m fits sorted distinct =
    let together = append_assoc earlier (e ∷ []) es in
    subst (λ ds. Fits (names_over theories elements ds) (meaning_after (with_definition m e) es)) together
    (Fits-after same theories elements (earlier ++ e ∷ []) es (with_definition m e)
    (Fits-with same theories elements earlier m e fits sorted.0 (none_before earlier e es distinct)) sorted.1
    (subst AreDistinct (sym together) distinct))

-- the value of a well-sorted term is of its sort
pub sorted-value : ResultsAreOfTheirSorts → DecimalsAreReals → SameSorts
    → (z : DivisionByZero) (definitions : Signature) (scope : List (List ℕ × Sort))
    (r : List (List ℕ × Element)) (term : Sexp) (sort : Sort)
    → AreWellSorted definitions.theories definitions.elements [] definitions.entries
    → AreDistinct definitions.entries
    → FitsScope scope r → sort_in (unlabelled (names_of definitions)) scope term ≡ Ok sort
    → IsOfSort sort (value_of (meaning_in z definitions) r term)
sorted-value law decimals same z definitions scope r term sort sorted distinct fit is =
    term-fits (names_of definitions) (meaning_in z definitions)
    (Fits-after same definitions.theories definitions.elements [] definitions.entries
    (operators z definitions.theories)
    (Fits-operators law decimals z definitions.theories definitions.elements) sorted distinct) scope r fit term sort is
