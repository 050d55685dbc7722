-- A term that has a sort without the wide profile has it there too, and an item defines the same.
use Rattle.std.proofs.Common.{◌≡◌, ℕ, Bool, true, false, cond, not, ◌&&◌, ◌||◌, List, [], ◌∷◌, ◌++◌, map}
use Rattle.std.proofs.Common.{Option, Some, None, is_some, Result, Ok, Err, refl, ap, sym, ◌∙◌, subst}
use Rattle.std.specs.Option.{option_or}
use Rattle.std.specs.Prelude.{bytes_eq, codes, ok_or, option_map}
use Rattle.smt_trees.specs.Sexp as sexp
use Rattle.smt_trees.specs.Sexp.{Sexp, Sexps, Atom, Reserved, Items, Nil, Cons, Symbol, Keyword, Numeral}
use Rattle.smt_trees.specs.Sexp.{Hexadecimal, Binary}
use Rattle.smt_trees.specs.declared.reserved.Word.TheVariants.{As, Bang, Let, Underscore}
use Rattle.std.proofs.lemmas.Slice.Eq.{bytes_eq-Decides}
use Rattle.smt_theory.specs.Arrays.{arrays_named}
use Rattle.smt_theory.specs.Bits.{added_op, bits_named, constant_digits, conversion_plain, indexed_bits}
use Rattle.smt_theory.specs.Bits.{indexed_constant, indexed_other, named_among, only_width, overflow_plain}
use Rattle.smt_theory.specs.Core.{core_named}
use Rattle.smt_theory.specs.Index.{IndexView}
use Rattle.smt_theory.specs.Ints.{ints_named}
use Rattle.smt_theory.specs.Operators.{has_ints_op, indexed_op, is_plain_operator, op_by, plain_op}
use Rattle.smt_theory.specs.Reals.{has_reals_op, reals_named}
use Rattle.smt_theory.specs.declared.op.BitsOp.{BitsOp}
use Rattle.smt_theory.specs.declared.op.BitsOp.TheVariants.{FromInt, FromIntOlder}
use Rattle.smt_theory.specs.declared.op.Op.{Op}
use Rattle.smt_theory.specs.Ranks.{rank_of}
use Rattle.smt_theory.specs.declared.op.ArraysOp.TheVariants.{Const}
use Rattle.smt_theory.specs.declared.op.Op.TheVariants.{Core, Ints, Reals, Bits, Arrays}
use Rattle.smt_theory.specs.declared.op.OpFault.{OpFault}
use Rattle.smt_theory.specs.declared.op.OpFault.TheVariants as ops
use Rattle.smt_theory.specs.declared.op.OpFault.TheVariants.{Index as WrongIndex}
use Rattle.smt_theory.specs.Sort.{is_same_sort}
use Rattle.smt_theory.specs.Words.{if_passes, look_up, result_and_then}
use Rattle.smt_theory.specs.Sort.{Sort, Boolean, Real}
use Rattle.smt_theory.specs.declared.theories.Theories.{Theories}
use Rattle.smt_forms.specs.Bindings.{are_attributes, are_bindings}
use Rattle.smt_forms.specs.Identifier.{Identifier, Plain, Indexed, Qualified, applied, applied_in, indexed, of_profile}
use Rattle.smt_forms.specs.ItemForm.{ItemForm}
use Rattle.smt_forms.specs.Labels.{labels_among, labels_in, labels_in_bindings}
use Rattle.smt_terms.specs.Elements.{ElementNames}
use Rattle.smt_terms.specs.Checking.{bound_in, flaw_of_label, flaw_of_labels, sort_alone, sort_applied, sort_in}
use Rattle.smt_terms.specs.Checking.{sort_of_call, sort_of_operator, sort_of_plain, sort_of_rank, sort_of_symbol}
use Rattle.smt_terms.specs.Checking.{sort_unless_element, sort_unless_variable, sorts_in, unless}
use Rattle.smt_terms.specs.Elements.{constant_op, constant_sorts, element_among}
use Rattle.smt_terms.specs.Labels.{Labels, Refused, with_labels}
use Rattle.smt_terms.specs.WellSorted.{KeepsElements}
use Rattle.smt_terms.specs.Definitions.{definition, definition_in, parameters_named}
use Rattle.smt_terms.specs.Freshness.{is_bound, is_element, is_element_name, is_taken_undeclared, item_elements}
use Rattle.smt_terms.specs.Freshness.{name_flaw}
use Rattle.smt_terms.specs.Items.{form_in, has_rank_of, is_defined_in, item_in, items_before}
use Rattle.smt_terms.specs.Repeated.{widened}
use Rattle.smt_terms.specs.Signature.{Entry, Names, Rank, Signature, behind, declared_named, entry_named, names_of}
use Rattle.smt_terms.specs.Signature.{ranks_of, sort_names_of}
use Rattle.smt_terms.specs.SortTrees as trees
use Rattle.smt_terms.specs.SortTrees.{SortNames, is_some_tree, or_named, sort_named, sort_of_list}
use Rattle.smt_terms.specs.declared.named_sort.NamedSort.{NamedSort}
use Rattle.smt_faults.specs.declared.term_flaw.TermFlaw.{TermFlaw}
use Rattle.smt_faults.specs.declared.term_flaw.TermFlaw.TheVariants.{BoundTwice, Form, IllSorted, NotFresh}
use Rattle.smt_faults.specs.declared.term_flaw.TermFlaw.TheVariants.{Unknown, Unsupported}
use Rattle.smt_terms.proofs.CheckerLemmas.{Scope}
use Rattle.smt_terms.proofs.ItemLemmas.{is_named, item_behind}
use Rattle.smt_terms.proofs.ItemSortLemmas.{no_fault}
use Rattle.smt_terms.proofs.KeptLemmas.{KeepsSorts, kept-constant, kept-else, kept-named, kept-qualified, kept-steps}
use Rattle.smt_terms.proofs.KeptLemmas.{kept-then, no_rank, unless-none}
use Rattle.smt_terms.proofs.WrittenLemmas.{form_defined}
use Rattle.smt_terms.proofs.RepeatedLemmas.{item_kept, taken_by}

-- these names in the wide profile, where terms may name these elements
abbrev wider : Names → Option ElementNames → Names
wider names elements =
    record names { theories = record names.theories { wide = true }; elements = elements }

abbrev wide_sorts : SortNames → SortNames
wide_sorts names = record names { theories = record names.theories { wide = true } }

-- ## Sorts

-- reals that there are without the wide profile are there in it too
wide-reals : (theories : Theories) (b : Bool) (sort : Sort)
    → cond b (Ok Real) (Err (cond theories.wide Unknown Unsupported)) ≡ Ok sort
    → cond b (Ok Real) (Err Unknown) ≡ Ok sort
wide-reals theories true sort h = h
wide-reals theories false sort h = cc

wide-word : (theories : Theories) (bools ints reals strings : Bool) (sort : Sort)
    → cond bools (Ok Boolean) (cond ints (trees.integers theories) (cond reals (trees.reals theories)
    (cond strings (Err Unsupported) (Err Unknown)))) ≡ Ok sort
    → cond bools (Ok Boolean) (cond ints (trees.integers theories)
    (cond reals (trees.reals (record theories { wide = true }))
    (cond strings (Err Unsupported) (Err Unknown)))) ≡ Ok sort
wide-word theories true ints reals strings sort h = h
wide-word theories false true reals strings sort h = h
wide-word theories false false true strings sort h = wide-reals theories theories.reals sort h
wide-word theories false false false strings sort h = h

-- and a word that names none names none
wide-no-word : (theories : Theories) (bools ints reals strings : Bool) (flaw : TermFlaw)
    → cond bools (Ok Boolean) (cond ints (trees.integers theories) (cond reals (trees.reals theories)
    (cond strings (Err Unsupported) (Err Unknown)))) ≡ Err flaw
    → (e : TermFlaw) × (cond bools (Ok Boolean) (cond ints (trees.integers theories)
    (cond reals (trees.reals (record theories { wide = true }))
    (cond strings (Err Unsupported) (Err Unknown)))) ≡ Err e)
wide-no-word theories true ints reals strings flaw h = cc
wide-no-word theories false true reals strings flaw h = (flaw, h)
wide-no-word theories false false true strings flaw h = by theories.reals h
  where
    by : (b : Bool) → cond b (Ok Real) (Err (cond theories.wide Unknown Unsupported)) ≡ Err flaw
        → (e : TermFlaw) × (cond b (Ok Real) (Err Unknown) ≡ Err e)
    by true g = cc
    by false g = (Unknown, refl)
wide-no-word theories false false false strings flaw h = (flaw, h)

wide-symbol-named : (theories : Theories) (abbreviations : List (List ℕ × NamedSort)) (x : List ℕ) (sort : Sort)
    → trees.sort_of_symbol theories x (look_up abbreviations x) ≡ Ok sort
    → trees.sort_of_symbol (record theories { wide = true }) x (look_up abbreviations x) ≡ Ok sort
wide-symbol-named theories abbreviations x sort h =
    by (trees.sort_of_word theories x) (look_up abbreviations x) refl h
  where
    by : (r : Result Sort TermFlaw) (o : Option NamedSort) → trees.sort_of_word theories x ≡ r
        → or_named o r ≡ Ok sort → or_named o (trees.sort_of_word (record theories { wide = true }) x) ≡ Ok sort
    by (Ok s) o is g =
        ap (or_named o) (wide-word theories (bytes_eq x (codes "Bool")) (bytes_eq x (codes "Int"))
        (bytes_eq x (codes "Real")) (bytes_eq x (codes "String")) s is) ∙ g
    by (Err flaw) None is g = cc
    by (Err flaw) (Some named) is g =
        ap (or_named (Some named)) (wide-no-word theories (bytes_eq x (codes "Bool")) (bytes_eq x (codes "Int"))
        (bytes_eq x (codes "Real")) (bytes_eq x (codes "String")) flaw is).1 ∙ g

-- lists name sorts in the wide profile too, but for those of arrays
wide-list : (theories : Theories) (parts : Sexps) (sort : Sort) → sort_of_list theories parts ≡ Ok sort
    → sort_of_list (record theories { wide = true }) parts ≡ Ok sort
wide-list theories (Cons (Reserved Underscore) parts) sort h = h
wide-list theories (Cons (Atom Symbol name) args) sort h =
    absurd (by (bytes_eq name (codes "Array")) (is_some_tree args) h)
  where
    by : (b c : Bool) → cond b (Err (cond theories.wide Form Unsupported)) (cond c (Err Unknown) (Err Form)) ≡ Ok sort
        → ⊥
    by true c g = cc
    by false true g = cc
    by false false g = cc
wide-list theories _ sort h = cc

-- a tree that names a sort names it in the wide profile too
wide-named : (names : SortNames) (t : Sexp) (sort : Sort) → sort_named names t ≡ Ok sort
    → sort_named (wide_sorts names) t ≡ Ok sort
wide-named names =
    let keeps : KeepsSorts names (wide_sorts names) = record {
      word = wide-symbol-named names.theories names.abbreviations;
      list = wide-list names.theories;
      wide = λ h. refl;
      arrays = refl;
    } in
    kept-named names (wide_sorts names) keeps

-- ## Terms

-- where no label may be given, its fault does not hang on the names
refused-fault : (names : Names) (elements : Option ElementNames) (labels : Labels) (scope : Scope) (term : Sexp)
    (x : List ℕ) → labels ≡ Refused
    → flaw_of_label (wider names elements) labels scope term x ≡ flaw_of_label names labels scope term x
refused-fault names elements labels scope term x refused =
    ap (λ ls. flaw_of_label (wider names elements) ls scope term x) refused
    ∙ ap (λ ls. flaw_of_label names ls scope term x) (sym refused)

refused-behind : (ls : List (List ℕ × Sexp)) (labels : Labels) → labels ≡ Refused
    → with_labels (map (λ l. l.0) ls) labels ≡ Refused
refused-behind ls labels refused = ap (λ ks. with_labels (map (λ l. l.0) ls) ks) refused

refused-faults : (names : Names) (elements : Option ElementNames) (scope : Scope) (term : Sexp) (xs : List (List ℕ))
    → names.labels ≡ Refused
    → flaw_of_labels (wider names elements) scope term xs ≡ flaw_of_labels names scope term xs
refused-faults names elements scope term [] refused = refl
refused-faults names elements scope term (x ∷ xs) refused =
    ap (λ o. option_or o (flaw_of_labels (behind ((x, term) ∷ []) (wider names elements)) scope term xs))
    (refused-fault names elements names.labels scope term x refused)
    ∙ ap (option_or (flaw_of_label names names.labels scope term x))
    (refused-faults (behind ((x, term) ∷ []) names) elements scope term xs
    (refused-behind ((x, term) ∷ []) names.labels refused))

-- an operator that there is without the wide profile is there in it too
or-kept : {A : Type 0} (first second more : Option A) (x : A) → (second ≡ Some x → more ≡ Some x)
    → option_or first second ≡ Some x → option_or first more ≡ Some x
or-kept None second more x kept h = kept h
or-kept (Some y) second more x kept h = h

added-kept : (theories : Theories) (x : List ℕ) (op : Op) → option_map Bits (added_op theories x) ≡ Some op
    → option_map Bits (added_op (record theories { wide = true }) x) ≡ Some op
added-kept theories x op h = by theories.wide h
  where
    found : Option BitsOp
    found = option_or (named_among overflow_plain x) (cond theories.ints (named_among conversion_plain x) None)

    by : (wide : Bool) → option_map Bits (cond (wide && theories.bits) found None) ≡ Some op
        → option_map Bits (cond (true && theories.bits) found None) ≡ Some op
    by true g = g
    by false g = cc

plain-kept : (theories : Theories) (x : List ℕ) (op : Op) → plain_op theories x ≡ Some op
    → plain_op (record theories { wide = true }) x ≡ Some op
plain-kept theories x op =
    or-kept (option_map Core (core_named x)) _ _ op
    (or-kept (option_map Ints (if_passes (has_ints_op theories) (ints_named x))) _ _ op
    (or-kept (cond theories.bits (option_map Bits (bits_named x)) None) _ _ op
    (or-kept (option_map Reals (if_passes (has_reals_op theories) (reals_named x))) _ _ op
    (or-kept (cond theories.arrays (option_map Arrays (arrays_named x)) None) _ _ op
    (added-kept theories x op)))))

other-kept : (converts : Bool) (x : List ℕ) (indexes : List IndexView) (op : BitsOp)
    → indexed_other false x indexes ≡ Ok op → indexed_other converts x indexes ≡ Ok op
other-kept converts x indexes op h =
    by (bytes_eq x (codes "int_to_bv")) (bytes_eq x (codes "int2bv")) (bytes_eq-Decides x (codes "int_to_bv")).0
    (bytes_eq-Decides x (codes "int2bv")).0 h
  where
    constant : List ℕ → Result BitsOp OpFault
    constant symbol = indexed_constant (constant_digits symbol) indexes

    by : (a b : Bool) → (a ≡ true → x ≡ codes "int_to_bv") → (b ≡ true → x ≡ codes "int2bv")
        → cond (a && false) (ok_or (option_map FromInt (only_width indexes)) WrongIndex)
        (cond (b && false) (ok_or (option_map FromIntOlder (only_width indexes)) WrongIndex) (constant x)) ≡ Ok op
        → cond (a && converts) (ok_or (option_map FromInt (only_width indexes)) WrongIndex)
        (cond (b && converts) (ok_or (option_map FromIntOlder (only_width indexes)) WrongIndex) (constant x)) ≡ Ok op
    by true true is so g = let e : constant (codes "int_to_bv") ≡ Ok op = ap constant (sym (is refl)) ∙ g in cc
    by true false is so g = let e : constant (codes "int_to_bv") ≡ Ok op = ap constant (sym (is refl)) ∙ g in cc
    by false true is so g = let e : constant (codes "int2bv") ≡ Ok op = ap constant (sym (so refl)) ∙ g in cc
    by false false is so g = g

else-kept : {A F : Type 0} (b : Bool) (first second more : Result A F) (x : A) → (second ≡ Ok x → more ≡ Ok x)
    → cond b first second ≡ Ok x → cond b first more ≡ Ok x
else-kept true first second more x kept h = h
else-kept false first second more x kept h = kept h

bits-kept : (converts : Bool) (x : List ℕ) (indexes : List IndexView) (op : BitsOp)
    → indexed_bits false x indexes ≡ Ok op → indexed_bits converts x indexes ≡ Ok op
bits-kept converts x indexes op =
    else-kept (bytes_eq x (codes "extract")) _ _ _ op
    (else-kept (bytes_eq x (codes "repeat")) _ _ _ op
    (else-kept (bytes_eq x (codes "zero_extend")) _ _ _ op
    (else-kept (bytes_eq x (codes "sign_extend")) _ _ _ op
    (else-kept (bytes_eq x (codes "rotate_left")) _ _ _ op
    (else-kept (bytes_eq x (codes "rotate_right")) _ _ _ op
    (other-kept converts x indexes op))))))

mapped-kept : (first more : Result BitsOp OpFault) (op : Op) → ((o : BitsOp) → first ≡ Ok o → more ≡ Ok o)
    → result_and_then first (λ o. Ok (Bits o)) ≡ Ok op → result_and_then more (λ o. Ok (Bits o)) ≡ Ok op
mapped-kept (Ok o) more op kept h = ap (λ r. result_and_then r (λ o. Ok (Bits o))) (kept o refl) ∙ h
mapped-kept (Err fault) more op kept h = cc

indexed-kept : (theories : Theories) (x : List ℕ) (indexes : List IndexView) (op : Op)
    → indexed_op theories x indexes ≡ Ok op → indexed_op (record theories { wide = true }) x indexes ≡ Ok op
indexed-kept theories x indexes op =
    else-kept (theories.ints && bytes_eq x (codes "divisible")) _ _ _ op
    (then-kept theories.bits _ _ (Err ops.Unknown) op (by theories.wide))
  where
    then-kept : (b : Bool) (first more second : Result Op OpFault) (x : Op) → (first ≡ Ok x → more ≡ Ok x)
        → cond b first second ≡ Ok x → cond b more second ≡ Ok x
    then-kept true first more second x kept h = kept h
    then-kept false first more second x kept h = h

    by : (wide : Bool) → result_and_then (indexed_bits ((wide && theories.bits) && theories.ints) x indexes)
        (λ o. Ok (Bits o)) ≡ Ok op
        → result_and_then (indexed_bits ((true && theories.bits) && theories.ints) x indexes) (λ o. Ok (Bits o)) ≡ Ok op
    by true h = h
    by false h = mapped-kept (indexed_bits false x indexes) _ op
        (bits-kept ((true && theories.bits) && theories.ints) x indexes) h

-- an operator of a name, with or without indexes, is the same in the wide profile
abbrev AreKept : Result Op OpFault → Result Op OpFault → Type 0
AreKept first more = (op : Op) → first ≡ Ok op → more ≡ Ok op

operators-kept : (theories : Theories) (x : List ℕ) (indexes : List IndexView)
    → AreKept (op_by theories x indexes) (op_by (record theories { wide = true }) x indexes)
operators-kept theories x [] op h =
    by (plain_op theories x) (λ o is. plain-kept theories x o is) h
  where
    by : (o : Option Op) → ((p : Op) → o ≡ Some p → plain_op (record theories { wide = true }) x ≡ Some p)
        → ok_or o ops.Unknown ≡ Ok op → ok_or (plain_op (record theories { wide = true }) x) ops.Unknown ≡ Ok op
    by None kept g = cc
    by (Some p) kept g = ap (λ o. ok_or o ops.Unknown) (kept p refl) ∙ g
operators-kept theories x (i ∷ indexes) op h = indexed-kept theories x (i ∷ indexes) op h

operator-kept : (first more : Result Op OpFault) (args : List Sort) (sort : Sort) → AreKept first more
    → sort_of_operator first args ≡ Ok sort → sort_of_operator more args ≡ Ok sort
operator-kept (Ok op) more args sort kept h = ap (λ r. sort_of_operator r args) (kept op refl) ∙ h
operator-kept (Err ops.Unknown) more args sort kept h = cc
operator-kept (Err ops.Index) more args sort kept h = cc

alone-kept : (o : Option Sort) (first more : Result Op OpFault) (sort : Sort) → AreKept first more
    → sort_of_operator first [] ≡ Ok sort → sort_unless_element o more ≡ Ok sort
alone-kept o (Ok op) more sort kept h = ap (sort_unless_element o) (kept op refl) ∙ by o
  where
    by : (o : Option Sort) → sort_unless_element o (Ok op) ≡ Ok sort
    by None = h
    by (Some s) = h
alone-kept o (Err ops.Unknown) more sort kept h = cc
alone-kept o (Err ops.Index) more sort kept h = cc

-- elements, where there were none, change no sort of a symbol
wide-symbol : (names : Names) (elements : Option ElementNames) → names.elements ≡ None → (x : List ℕ)
    (o : Option Sort) (r : Option Rank) (sort : Sort) → look_up names.ranks x ≡ r
    → sort_of_symbol names x o ≡ Ok sort → sort_of_symbol (wider names elements) x o ≡ Ok sort
wide-symbol names elements none x (Some s) r sort is h = h
wide-symbol names elements none x None (Some rank) sort is h =
    ap (λ q. sort_alone (wider names elements) x q) is ∙ sym (ap (λ q. sort_alone names x q) is) ∙ h
wide-symbol names elements none x None None sort is h =
    ap (λ q. sort_alone (wider names elements) x q) is
    ∙ alone-kept (element_among elements x) (op_by names.theories x []) _ sort (operators-kept names.theories x [])
    (sym (ap (λ es. sort_unless_element (element_among es x) (op_by names.theories x [])) none)
    ∙ sym (ap (λ q. sort_alone names x q) is) ∙ h)

-- the operator of a constant array
wide-constant : (names : Names) (elements : Option ElementNames) → names.elements ≡ None → (t : Sexp) (op : Op)
    → constant_op names.theories names.elements t ≡ Ok op
    → constant_op (record names.theories { wide = true }) elements t ≡ Ok op
wide-constant names elements none t op h =
    let theories : Theories = record names.theories { wide = true } in
    let sorts = constant_sorts names.theories None in
    kept-constant theories None elements t op tt
    (kept-steps (sort_named sorts t) (sort_named (wide_sorts sorts) t) (λ s. Ok (Arrays (Const s)))
    (λ s. Ok (Arrays (Const s))) op (wide-named sorts t) (λ s g. g)
    (sym (ap (λ es. constant_op names.theories es t) none) ∙ h))

wide-applied : (names : Names) (elements : Option ElementNames) → names.elements ≡ None → (f : Identifier)
    (args : List Sort) (sort : Sort)
    → sort_applied names f args ≡ Ok sort → sort_applied (wider names elements) f args ≡ Ok sort
wide-applied names elements none (Plain f) args sort h = by (look_up names.ranks f) h
  where
    by : (o : Option Rank) → sort_of_plain names f o args ≡ Ok sort
        → sort_of_plain (wider names elements) f o args ≡ Ok sort
    by None g = operator-kept (op_by names.theories f []) _ args sort (operators-kept names.theories f []) g
    by (Some rank) g = g
wide-applied names elements none (Indexed f indexes) args sort h =
    operator-kept (op_by names.theories f indexes) _ args sort (operators-kept names.theories f indexes) h
wide-applied names elements none (Qualified o) args sort h =
    kept-steps (constant_op names.theories names.elements o)
    (constant_op (record names.theories { wide = true }) elements o) (λ op. sort_of_rank (rank_of op args))
    (λ op. sort_of_rank (rank_of op args)) sort (wide-constant names elements none o) (λ op i. i) h

wide-call : (names : Names) (elements : Option ElementNames) → names.elements ≡ None → (scope : Scope)
    (f : Identifier) (args : List Sort) (sort : Sort) → sort_of_call names scope f args ≡ Ok sort
    → sort_of_call (wider names elements) scope f args ≡ Ok sort
wide-call names elements none scope (Plain f) args sort h = by (look_up scope f) h
  where
    by : (o : Option Sort) → sort_unless_variable o (sort_applied names (Plain f) args) ≡ Ok sort
        → sort_unless_variable o (sort_applied (wider names elements) (Plain f) args) ≡ Ok sort
    by None g = wide-applied names elements none (Plain f) args sort g
    by (Some s) g = g
wide-call names elements none scope (Indexed f indexes) args sort h =
    wide-applied names elements none (Indexed f indexes) args sort h
wide-call names elements none scope (Qualified o) args sort h =
    wide-applied names elements none (Qualified o) args sort h

-- what a list applies, it applies in the wide profile too
wide-of : (wide : Bool) (head : Sexp) (args : Sexps) (f : Identifier) → applied_in wide head args ≡ Ok f
    → applied_in true head args ≡ Ok f
wide-of true head args f h = h
wide-of false head args f h = by (applied head args) h
  where
    by : (r : Result Identifier TermFlaw) → result_and_then r (of_profile false) ≡ Ok f
        → result_and_then r (of_profile true) ≡ Ok f
    by (Ok (Plain x)) g = g
    by (Ok (Indexed x is)) g = g
    by (Ok (Qualified o)) g = cc
    by (Err flaw) g = cc

-- a term keeps its sort where no label may be given
mutual
  wide-sort : (names : Names) (elements : Option ElementNames) → names.elements ≡ None
      → names.labels ≡ Refused → (scope : Scope) (t : Sexp) (sort : Sort)
      → sort_in names scope t ≡ Ok sort → sort_in (wider names elements) scope t ≡ Ok sort
  wide-sort names elements none refused scope (Atom Symbol x) sort h =
      wide-symbol names elements none x (look_up scope x) (look_up names.ranks x) sort refl h
  wide-sort names elements none refused scope (Atom Numeral x) sort h = h
  wide-sort names elements none refused scope (Atom Hexadecimal x) sort h = h
  wide-sort names elements none refused scope (Atom Binary x) sort h = h
  wide-sort names elements none refused scope (Atom sexp.Decimal x) sort h =
      wide-reals names.theories names.theories.reals sort h
  wide-sort names elements none refused scope (Atom sexp.Text x) sort h = cc
  wide-sort names elements none refused scope (Atom Keyword x) sort h = cc
  wide-sort names elements none refused scope (Reserved word) sort h = cc
  wide-sort names elements none refused scope (Items Nil) sort h = cc
  wide-sort names elements none refused scope (Items (Cons (Reserved Underscore) parts)) sort h =
      kept-steps (indexed parts) (indexed parts) (λ f. sort_applied names f [])
      (λ f. sort_applied (wider names elements) f []) sort (λ f is. is)
      (λ f i. wide-applied names elements none f [] sort i) h
  wide-sort names elements none refused scope (Items (Cons (Reserved As) parts)) sort h =
      kept-qualified names.elements elements names.ranks names.ranks parts sort
      (subst (λ e. KeepsElements e elements) (sym none) tt)
      (λ x rank none some. absurd (no_rank (look_up names.ranks x) rank none some)) h
  wide-sort names elements none refused scope
      (Items (Cons (Reserved Let) (Cons (Items bindings) (Cons body Nil)))) sort h =
      let ls = labels_in_bindings bindings in
      kept-then (are_bindings bindings)
      (result_and_then (bound_in names scope [] bindings)
      (λ bound. sort_in (behind ls names) (bound ++ scope) body))
      (result_and_then (bound_in (wider names elements) scope [] bindings)
      (λ bound. sort_in (behind ls (wider names elements)) (bound ++ scope) body)) Form sort
      (kept-steps (bound_in names scope [] bindings) (bound_in (wider names elements) scope [] bindings)
      (λ bound. sort_in (behind ls names) (bound ++ scope) body)
      (λ bound. sort_in (behind ls (wider names elements)) (bound ++ scope) body) sort
      (wide-bound names elements none refused scope [] bindings)
      (λ bound. wide-sort (behind ls names) elements none (refused-behind ls names.labels refused)
      (bound ++ scope) body sort)) h
  wide-sort names elements none refused scope (Items (Cons (Reserved Let) args)) sort h = cc
  wide-sort names elements none refused scope (Items (Cons (Reserved Bang) (Cons term attributes))) sort h =
      let ls = labels_in term in
      let xs = labels_among attributes in
      kept-then (are_attributes attributes)
      (result_and_then (sort_in names scope term)
      (λ s. unless (flaw_of_labels (behind ls names) scope term xs) (Ok s)))
      (result_and_then (sort_in (wider names elements) scope term)
      (λ s. unless (flaw_of_labels (behind ls (wider names elements)) scope term xs) (Ok s))) Form sort
      (kept-steps (sort_in names scope term) (sort_in (wider names elements) scope term)
      (λ s. unless (flaw_of_labels (behind ls names) scope term xs) (Ok s))
      (λ s. unless (flaw_of_labels (behind ls (wider names elements)) scope term xs) (Ok s)) sort
      (wide-sort names elements none refused scope term)
      (λ s i. ap (λ o. unless o (Ok s))
      (refused-faults (behind ls names) elements scope term xs (refused-behind ls names.labels refused)) ∙ i)) h
  wide-sort names elements none refused scope (Items (Cons (Reserved Bang) args)) sort h = cc
  wide-sort names elements none refused scope (Items (Cons head args)) sort h =
      kept-steps (applied_in names.theories.wide head args) (applied_in true head args)
      (λ f. result_and_then (sorts_in names scope args) (λ ss. sort_of_call names scope f ss))
      (λ f. result_and_then (sorts_in (wider names elements) scope args)
      (λ ss. sort_of_call (wider names elements) scope f ss)) sort
      (wide-of names.theories.wide head args)
      (λ f. kept-steps (sorts_in names scope args) (sorts_in (wider names elements) scope args)
      (λ ss. sort_of_call names scope f ss) (λ ss. sort_of_call (wider names elements) scope f ss) sort
      (wide-sorts names elements none refused scope args)
      (λ ss i. wide-call names elements none scope f ss sort i)) h

  wide-sorts : (names : Names) (elements : Option ElementNames) → names.elements ≡ None
      → names.labels ≡ Refused → (scope : Scope) (ts : Sexps) (sorts : List Sort)
      → sorts_in names scope ts ≡ Ok sorts → sorts_in (wider names elements) scope ts ≡ Ok sorts
  wide-sorts names elements none refused scope Nil sorts h = h
  wide-sorts names elements none refused scope (Cons x xs) sorts h =
      let ls = labels_in x in
      kept-steps (sort_in names scope x) (sort_in (wider names elements) scope x)
      (λ s. result_and_then (sorts_in (behind ls names) scope xs) (λ ss. Ok (s ∷ ss)))
      (λ s. result_and_then (sorts_in (behind ls (wider names elements)) scope xs) (λ ss. Ok (s ∷ ss))) sorts
      (wide-sort names elements none refused scope x)
      (λ s. kept-steps (sorts_in (behind ls names) scope xs) (sorts_in (behind ls (wider names elements)) scope xs)
      (λ ss. Ok (s ∷ ss)) (λ ss. Ok (s ∷ ss)) sorts
      (wide-sorts (behind ls names) elements none (refused-behind ls names.labels refused) scope xs)
      (λ ss i. i)) h

  wide-bound : (names : Names) (elements : Option ElementNames) → names.elements ≡ None
      → names.labels ≡ Refused → (scope bound : Scope) (bs : Sexps) (vs : Scope)
      → bound_in names scope bound bs ≡ Ok vs → bound_in (wider names elements) scope bound bs ≡ Ok vs
  wide-bound names elements none refused scope bound Nil vs h = h
  wide-bound names elements none refused scope bound
      (Cons (Items (Cons (Atom Symbol x) (Cons term Nil))) rest) vs h =
      let ls = labels_in term in
      kept-else (is_bound bound x)
      (result_and_then (sort_in names scope term)
      (λ s. bound_in (behind ls names) scope (bound ++ (x, s) ∷ []) rest))
      (result_and_then (sort_in (wider names elements) scope term)
      (λ s. bound_in (behind ls (wider names elements)) scope (bound ++ (x, s) ∷ []) rest)) BoundTwice vs
      (kept-steps (sort_in names scope term) (sort_in (wider names elements) scope term)
      (λ s. bound_in (behind ls names) scope (bound ++ (x, s) ∷ []) rest)
      (λ s. bound_in (behind ls (wider names elements)) scope (bound ++ (x, s) ∷ []) rest) vs
      (wide-sort names elements none refused scope term)
      (λ s. wide-bound (behind ls names) elements none (refused-behind ls names.labels refused) scope
      (bound ++ (x, s) ∷ []) rest vs)) h
  wide-bound names elements none refused scope bound _ vs h = cc

-- ## Items

wide-parameters : (sorts : SortNames) (earlier : Scope) (ps : List (List ℕ × Sexp)) (qs : Scope)
    → parameters_named sorts earlier ps ≡ Ok qs → parameters_named (wide_sorts sorts) earlier ps ≡ Ok qs
wide-parameters sorts earlier [] qs h = h
wide-parameters sorts earlier (p ∷ ps) qs h =
    kept-steps (sort_named sorts p.1) (sort_named (wide_sorts sorts) p.1)
    (λ s. cond (is_bound earlier p.0) (Err BoundTwice)
    (parameters_named sorts (earlier ++ (p.0, s) ∷ []) ps))
    (λ s. cond (is_bound earlier p.0) (Err BoundTwice)
    (parameters_named (wide_sorts sorts) (earlier ++ (p.0, s) ∷ []) ps)) qs
    (wide-named sorts p.1)
    (λ s. kept-else (is_bound earlier p.0) (parameters_named sorts (earlier ++ (p.0, s) ∷ []) ps)
    (parameters_named (wide_sorts sorts) (earlier ++ (p.0, s) ∷ []) ps) BoundTwice qs
    (wide-parameters sorts (earlier ++ (p.0, s) ∷ []) ps qs)) h

-- a definition stays where elements may be named
wide-definition : (names : Names) (elements : Option ElementNames) (x : List ℕ) (ps : Scope) (sort : Sort) (body : Sexp)
    (e : Entry) → names.elements ≡ None → names.labels ≡ Refused
    → definition_in names x ps sort body ≡ Ok e → definition_in (wider names elements) x ps sort body ≡ Ok e
wide-definition names elements x ps sort body e none refused =
    kept-steps (sort_in names ps body) (sort_in (wider names elements) ps body)
    (λ found. cond (is_same_sort found sort) (Ok (definition x ps sort body)) (Err IllSorted))
    (λ found. cond (is_same_sort found sort) (Ok (definition x ps sort body)) (Err IllSorted)) e
    (wide-sort names elements none refused ps body) (λ found h. h)

-- terms name no elements where the profile is not the wide one
none_named : (script : Signature) → script.theories.wide ≡ false → item_elements script ≡ None
none_named script narrow =
    ap (λ b. cond b (Some (record {
      sorts = sort_names_of script;
      taken = map (λ (e : Entry). e.name) script.entries;
    })) None) narrow

-- a name that may be an item's stays so where it is no operator's
taken-kept : (d k l p q : Bool) → q ≡ false → (not d && ((k || l) || p)) ≡ false
    → (not d && ((k || l) || q)) ≡ false
taken-kept true k l p q e h = refl
taken-kept false true l p q e h = cc
taken-kept false false true p q e h = cc
taken-kept false false false p q e h = e

-- what an item of these parts defines
wide-form : (script : Signature) (earlier : List Entry) (form : ItemForm) (e : Entry)
    → script.theories.wide ≡ false → is_element_name (widened script) form.name ≡ false
    → is_plain_operator (widened script).theories form.name ≡ false → form_in script earlier form ≡ Ok e
    → form_in (widened script) earlier form ≡ Ok e
wide-form script earlier form e narrow apart new h =
    let names = names_of (items_before script earlier) in
    let wide = names_of (items_before (widened script) earlier) in
    let fits = λ (ps : Scope) (s : Sort). has_rank_of (declared_named script.entries form.name)
    (map (λ p. p.1) ps) s in
    let n = unless-none (name_flaw script earlier form.name) (item_behind script earlier form) e h in
    let fit = no_fault script earlier form.name n.0 in
    let flaw : name_flaw (widened script) earlier form.name ≡ None =
    ap (λ o. cond (is_some o) (Some BoundTwice)
    (cond (is_element_name (widened script) form.name || is_taken_undeclared (widened script) form.name)
    (Some NotFresh) None)) fit.0
    ∙ ap (λ b. cond (b || is_taken_undeclared (widened script) form.name) (Some NotFresh) None) apart
    ∙ ap (λ b. cond b (Some NotFresh) None) (taken-kept (is_some (declared_named script.entries form.name))
    (is_element (names_of script) form.name) (is_some (look_up (ranks_of script.entries) form.name))
    (is_plain_operator script.theories form.name) (is_plain_operator (widened script).theories form.name) new fit.1) in
    ap (λ o. unless o (item_behind (widened script) earlier form)) flaw
    ∙ kept-steps (parameters_named (sort_names_of script) [] form.parameters)
    (parameters_named (sort_names_of (widened script)) [] form.parameters)
    (λ ps. result_and_then (sort_named (sort_names_of script) form.sort)
    (λ s. cond (not (fits ps s)) (Err IllSorted) (definition_in names form.name ps s form.body)))
    (λ ps. result_and_then (sort_named (sort_names_of (widened script)) form.sort)
    (λ s. cond (not (fits ps s)) (Err IllSorted) (definition_in wide form.name ps s form.body))) e
    (λ ps. wide-parameters (sort_names_of script) [] form.parameters ps)
    (λ ps. kept-steps (sort_named (sort_names_of script) form.sort)
    (sort_named (sort_names_of (widened script)) form.sort)
    (λ s. cond (not (fits ps s)) (Err IllSorted) (definition_in names form.name ps s form.body))
    (λ s. cond (not (fits ps s)) (Err IllSorted) (definition_in wide form.name ps s form.body)) e
    (λ s. wide-named (sort_names_of script) form.sort s)
    (λ s. kept-else (not (fits ps s)) (definition_in names form.name ps s form.body)
    (definition_in wide form.name ps s form.body) IllSorted e
    (wide-definition names (item_elements (widened script)) form.name ps s form.body e
    (none_named script narrow) refl))) n.1

-- a name that is fit for an item is no definition's
undefined : (n d k l p : Bool) → n ≡ l → (not d && ((k || l) || p)) ≡ false → (n && not d) ≡ false
undefined true true k l p e h = refl
undefined false d k l p e h = refl
undefined true false true l p e h = cc
undefined true false false true p e h = cc
undefined true false false false p e h = cc

not_defined : (script : Signature) (earlier : List Entry) (form : ItemForm) (e : Entry)
    → form_in script earlier form ≡ Ok e → is_defined_in script form.name ≡ false
not_defined script earlier form e h =
    undefined (is_some (entry_named script.entries form.name))
    (is_some (declared_named script.entries form.name)) (is_element (names_of script) form.name)
    (is_some (look_up (ranks_of script.entries) form.name)) (is_plain_operator script.theories form.name)
    (is_named script.entries form.name)
    (no_fault script earlier form.name
    (unless-none (name_flaw script earlier form.name) (item_behind script earlier form) e h).0).1

-- where the profile is the wide one already, nothing changes
already_wide : (script : Signature) → script.theories.wide ≡ true → widened script ≡ script
already_wide script is = λ i. record script { theories = record script.theories { wide = sym is i } }

pub same_item : (script : Signature) (earlier : List Entry) (tree : Sexp) (e : Entry)
    → item_in script earlier tree ≡ Ok (Some e) → is_element_name (widened script) e.name ≡ false
    → is_plain_operator (widened script).theories e.name ≡ false
    → item_in (widened script) earlier tree ≡ Ok (Some e)
same_item script earlier tree e h apart new = by script.theories.wide refl
  where
    by : (b : Bool) → script.theories.wide ≡ b → item_in (widened script) earlier tree ≡ Ok (Some e)
    by true is = ap (λ s. item_in s earlier tree) (already_wide script is) ∙ h
    by false is =
        let t = taken_by script earlier tree e h in
        item_kept (widened script) earlier tree t.0 t.1
        (ap (λ b. b && not (is_element_name (widened script) t.0.name)) (not_defined script earlier t.0 e t.2))
        ∙ ap (λ r. result_and_then r (λ d. Ok (Some d)))
        (wide-form script earlier t.0 e is
        (ap (is_element_name (widened script)) (sym (form_defined script earlier t.0 e t.2).name) ∙ apart)
        (ap (is_plain_operator (widened script).theories) (sym (form_defined script earlier t.0 e t.2).name) ∙ new) t.2)
