-- A term keeps its sort over more names.
use Rattle.std.proofs.Common.{◌≡◌, ℕ, ◌*◌, Bool, true, false, cond, not, ◌||◌, List, [], ◌∷◌, ◌++◌, map, length, Option}
use Rattle.std.proofs.Common.{Some, None, is_some, ok_or, Result, Ok, Err, refl, ap, sym, ◌∙◌}
use Rattle.std.specs.Option.{option_or}
use Rattle.std.specs.Prelude.{bytes_eq, codes}
use Rattle.smt_trees.specs.Sexp as sexp
use Rattle.smt_trees.specs.Sexp.{Sexp, Sexps, Atom, Reserved, Items, Nil, Cons, Symbol, Keyword, Numeral}
use Rattle.smt_trees.specs.Sexp.{Hexadecimal, Binary}
use Rattle.smt_trees.specs.declared.reserved.Word.TheVariants.{As, Bang, Let, Underscore}
use Rattle.smt_theory.specs.Operators.{op_by, plain_op}
use Rattle.smt_theory.specs.Width.{width_of}
use Rattle.smt_theory.specs.Words.{look_up, result_and_then}
use Rattle.smt_theory.specs.declared.op.Op.{Op}
use Rattle.smt_theory.specs.declared.op.OpFault.{OpFault}
use Rattle.smt_theory.specs.declared.op.OpFault.TheVariants as ops
use Rattle.smt_theory.specs.Ranks.{rank_of}
use Rattle.smt_theory.specs.Sort.{Sort}
use Rattle.smt_theory.specs.declared.op.ArraysOp.TheVariants.{Const}
use Rattle.smt_theory.specs.declared.op.Op.TheVariants.{Arrays}
use Rattle.smt_theory.specs.declared.theories.Theories.{Theories}
use Rattle.smt_forms.specs.Bindings.{are_attributes, are_bindings}
use Rattle.smt_forms.specs.ElementNames.{begins_at}
use Rattle.smt_forms.specs.Variables.{is_among}
use Rattle.smt_terms.specs.Checking.{bound_in, flaw_of_label, flaw_of_labels, sort_applied, sort_in}
use Rattle.smt_terms.specs.Checking.{sort_of_call, sort_of_operator, sort_of_plain, sort_of_rank, sort_of_symbol}
use Rattle.smt_terms.specs.Checking.{sort_alone, sort_unless_element, sort_unless_variable, sorts_in, unless}
use Rattle.smt_terms.specs.Elements.{ElementNames, element_among, element_in, if_free, names_element, or_ill_sorted}
use Rattle.smt_terms.specs.Elements.{abbreviations_of, constant_op, constant_sorts, qualified_in, qualified_sort}
use Rattle.smt_forms.specs.Identifier.{Identifier, Plain, Indexed, Qualified, applied_in, indexed}
use Rattle.smt_terms.specs.Labels.{Labels, Unread, with_labels}
use Rattle.smt_forms.specs.Labels.{labels_among, labels_in, labels_in_bindings}
use Rattle.smt_terms.specs.Signature.{Names, Rank, behind, unlabelled}
use Rattle.smt_terms.specs.SortTrees as trees
use Rattle.smt_terms.specs.SortTrees.{SortNames, array_of, bit_vectors, numerals, or_named, reals, sort_named}
use Rattle.smt_terms.specs.SortTrees.{sort_of_list, sort_of_word}
use Rattle.smt_terms.specs.declared.named_sort.NamedSort.{NamedSort}
use Rattle.smt_terms.specs.WellSorted.{Keeps, KeepsElements}
use Rattle.smt_faults.specs.declared.term_flaw.TermFlaw.{TermFlaw}
use Rattle.smt_faults.specs.declared.term_flaw.TermFlaw.TheVariants.{BoundTwice, Form, NotFresh, Unknown, Unsupported}
use Rattle.smt_terms.proofs.CheckerLemmas.{Scope}
use Rattle.smt_terms.proofs.ElementLemmas.{no_element}

-- ## Answers

-- where the second of two steps is answered, the first is
pub answered : {A B : Type 0} (r : Result A TermFlaw) (next : A → Result B TermFlaw) (y : B)
    → result_and_then r next ≡ Ok y → (x : A) × (r ≡ Ok x) × (next x ≡ Ok y)
answered (Ok x) next y h = (x, refl, h)
answered (Err f) next y h = cc

-- two steps that are answered by the same keep the answer
pub kept-steps : {A B : Type 0} (r s : Result A TermFlaw) (next more : A → Result B TermFlaw) (y : B)
    → ((x : A) → r ≡ Ok x → s ≡ Ok x) → ((x : A) → next x ≡ Ok y → more x ≡ Ok y)
    → result_and_then r next ≡ Ok y
    → result_and_then s more ≡ Ok y
kept-steps r s next more y first second h =
    let a = answered r next y h in
    ap (λ q. result_and_then q more) (first a.0 a.1) ∙ second a.0 a.2

-- so does a test
pub kept-then : {A : Type 0} (b : Bool) (x y : Result A TermFlaw) (e : TermFlaw) (a : A)
    → (x ≡ Ok a → y ≡ Ok a) → cond b x (Err e) ≡ Ok a → cond b y (Err e) ≡ Ok a
kept-then true x y e a f h = f h
kept-then false x y e a f h = cc

pub kept-else : {A : Type 0} (b : Bool) (x y : Result A TermFlaw) (e : TermFlaw) (a : A)
    → (x ≡ Ok a → y ≡ Ok a) → cond b (Err e) x ≡ Ok a → cond b (Err e) y ≡ Ok a
kept-else true x y e a f h = cc
kept-else false x y e a f h = f h

-- ## Sorts

-- what names sorts keeps those that lists and symbols name
pub record KeepsSorts (names more : SortNames) : Type 0 where
  pub word : (x : List ℕ) (sort : Sort)
      → trees.sort_of_symbol names.theories x (look_up names.abbreviations x) ≡ Ok sort
      → trees.sort_of_symbol more.theories x (look_up more.abbreviations x) ≡ Ok sort
  pub list : (parts : Sexps) (sort : Sort) → sort_of_list names.theories parts ≡ Ok sort
      → sort_of_list more.theories parts ≡ Ok sort
  pub wide : names.theories.wide ≡ true → more.theories.wide ≡ true
  pub arrays : more.theories.arrays ≡ names.theories.arrays

kept-pair : (is_array w v a b : Bool) (i e j f : Result Sort TermFlaw) (sort : Sort) → (w ≡ true → v ≡ true) → b ≡ a
    → ((s : Sort) → i ≡ Ok s → j ≡ Ok s) → ((s : Sort) → e ≡ Ok s → f ≡ Ok s)
    → cond is_array (cond (not w) (Err Unsupported) (cond (not a) (Err Unknown)
    (result_and_then i (λ s. result_and_then e (array_of s))))) (Err Unknown) ≡ Ok sort
    → cond is_array (cond (not v) (Err Unsupported) (cond (not b) (Err Unknown)
    (result_and_then j (λ s. result_and_then f (array_of s))))) (Err Unknown) ≡ Ok sort
kept-pair false w v a b i e j f sort wide same first second h = cc
kept-pair true false v a b i e j f sort wide same first second h = cc
kept-pair true true v false b i e j f sort wide same first second h = cc
kept-pair true true v true false i e j f sort wide same first second h = cc
kept-pair true true false true true i e j f sort wide same first second h = let w = wide refl in cc
kept-pair true true true true true i e j f sort wide same first second h =
    kept-steps i j (λ s. result_and_then e (array_of s)) (λ s. result_and_then f (array_of s)) sort first
    (λ s. kept-steps e f (array_of s) (array_of s) sort second (λ x g. g)) h

pub kept-named : (names more : SortNames) → KeepsSorts names more → (t : Sexp) (sort : Sort)
    → sort_named names t ≡ Ok sort → sort_named more t ≡ Ok sort
kept-named names more keeps (Atom Symbol x) sort h = keeps.word x sort h
kept-named names more keeps (Items (Cons (Atom Symbol x) (Cons first (Cons second Nil)))) sort h =
    kept-pair (bytes_eq x (codes "Array")) names.theories.wide more.theories.wide names.theories.arrays
    more.theories.arrays (sort_named names first) (sort_named names second) (sort_named more first)
    (sort_named more second) sort keeps.wide keeps.arrays (kept-named names more keeps first)
    (kept-named names more keeps second) h
kept-named names more keeps (Items parts) sort h = keeps.list parts sort h
kept-named names more keeps _ sort h = cc

-- a sort that is named by no abbreviation is the same where there are some
pub kept-abbreviated : (theories : Theories) (abbreviations : List (List ℕ × NamedSort)) (t : Sexp) (sort : Sort)
    → sort_named (record { theories = theories; abbreviations = [] }) t ≡ Ok sort
    → sort_named (record { theories = theories; abbreviations = abbreviations }) t ≡ Ok sort
kept-abbreviated theories abbreviations =
    kept-named (record { theories = theories; abbreviations = [] })
    (record { theories = theories; abbreviations = abbreviations }) (record {
      word = λ x sort. by (look_up abbreviations x) (sort_of_word theories x) sort;
      list = λ parts sort h. h;
      wide = λ h. h;
      arrays = refl;
    })
  where
    by : (o : Option NamedSort) (r : Result Sort TermFlaw) (sort : Sort) → or_named None r ≡ Ok sort
        → or_named o r ≡ Ok sort
    by o (Ok s) sort h = h
    by o (Err flaw) sort h = cc

-- so is the operator of a constant array where elements come
pub kept-constant : (theories : Theories) (elements more : Option ElementNames) (t : Sexp) (op : Op)
    → KeepsElements elements more → constant_op theories elements t ≡ Ok op → constant_op theories more t ≡ Ok op
kept-constant theories None more t op keeps h =
    kept-steps (sort_named (constant_sorts theories None) t) (sort_named (constant_sorts theories more) t)
    (λ s. Ok (Arrays (Const s))) (λ s. Ok (Arrays (Const s))) op
    (kept-abbreviated theories (abbreviations_of more) t) (λ s i. i) h
kept-constant theories (Some elements) more t op keeps h = ap (λ es. constant_op theories es t) keeps ∙ h

-- ## Names

-- a name that is no plain operator's has no sort as an operator
no_operator : (o : Option Op) (args : List Sort) (sort : Sort) → is_some o ≡ false
    → sort_of_operator (ok_or o ops.Unknown) args ≡ Ok sort → ⊥
no_operator None args sort h i = cc
no_operator (Some op) args sort h i = cc

-- a plain name
kept-plain : (names more : Names) → Keeps names more
    → (f : List ℕ) (args : List Sort) (sort : Sort) (r q : Option Rank) → look_up names.ranks f ≡ r
    → look_up more.ranks f ≡ q → sort_of_plain names f r args ≡ Ok sort
    → sort_of_plain more f q args ≡ Ok sort
kept-plain names more keeps f args sort (Some rank) q is now h =
    ap (λ (o : Option Rank). sort_of_plain more f o args) (sym now ∙ keeps.ranks f rank is) ∙ h
kept-plain names more keeps f args sort None None is now h =
    ap (λ theories. sort_of_operator (op_by theories f []) args) keeps.theories ∙ h
kept-plain names more keeps f args sort None (Some rank) is now h =
    absurd (no_operator (plain_op names.theories f) args sort (keeps.fresh f rank is now) h)

kept-applied : (names more : Names) → Keeps names more → (f : Identifier) (args : List Sort) (sort : Sort)
    → sort_applied names f args ≡ Ok sort → sort_applied more f args ≡ Ok sort
kept-applied names more keeps (Plain f) args sort h =
    kept-plain names more keeps f args sort (look_up names.ranks f) (look_up more.ranks f) refl refl h
kept-applied names more keeps (Indexed f is) args sort h =
    ap (λ theories. sort_of_operator (op_by theories f is) args) keeps.theories ∙ h
kept-applied names more keeps (Qualified o) args sort h =
    kept-steps (constant_op names.theories names.elements o) (constant_op more.theories more.elements o)
    (λ op. sort_of_rank (rank_of op args)) (λ op. sort_of_rank (rank_of op args)) sort
    (λ op is. ap (λ theories. constant_op theories more.elements o) keeps.theories
    ∙ kept-constant names.theories names.elements more.elements o op keeps.elements is) (λ op i. i) h

-- the sort of an operator stays where elements come, and that of an element where they stay
pub kept-element : (elements more : Option ElementNames) (x : List ℕ) (op : Result Op OpFault) (sort : Sort)
    → KeepsElements elements more → sort_unless_element (element_among elements x) op ≡ Ok sort
    → sort_unless_element (element_among more x) op ≡ Ok sort
kept-element None more x op sort keeps h = by (element_among more x) op h
  where
    by : (o : Option Sort) (r : Result Op OpFault) → sort_of_operator r [] ≡ Ok sort
        → sort_unless_element o r ≡ Ok sort
    by None r h = h
    by (Some s) (Ok op) h = h
    by (Some s) (Err ops.Unknown) h = cc
    by (Some s) (Err ops.Index) h = cc
kept-element (Some sorts) more x op sort keeps h =
    ap (λ es. sort_unless_element (element_among es x) op) keeps ∙ h

kept-alone : (names more : Names) → Keeps names more → (x : List ℕ) (sort : Sort) (r q : Option Rank)
    → look_up names.ranks x ≡ r → look_up more.ranks x ≡ q → sort_alone names x r ≡ Ok sort
    → sort_alone more x q ≡ Ok sort
kept-alone names more keeps x sort (Some rank) q is now h =
    ap (λ (o : Option Rank). sort_alone more x o) (sym now ∙ keeps.ranks x rank is) ∙ h
kept-alone names more keeps x sort None None is now h =
    ap (λ theories. sort_unless_element (element_among more.elements x) (op_by theories x [])) keeps.theories
    ∙ kept-element names.elements more.elements x (op_by names.theories x []) sort keeps.elements h
kept-alone names more keeps x sort None (Some rank) is now h =
    absurd (no_operator (plain_op names.theories x) [] sort (keeps.fresh x rank is now)
    (sym (ap (λ o. sort_unless_element o (op_by names.theories x []))
    (no_element names.elements x (keeps.apart x rank is now))) ∙ h))

-- an element with its sort, over more names of which none is an element's
kept-qualified_in : (elements : ElementNames) (ranks others : List (List ℕ × Rank)) (parts : Sexps) (sort : Sort)
    → ((x : List ℕ) (rank : Rank) → look_up ranks x ≡ None → look_up others x ≡ Some rank
    → names_element (Some elements) x ≡ false)
    → qualified_in elements ranks parts ≡ Ok sort → qualified_in elements others parts ≡ Ok sort
kept-qualified_in elements ranks others (Cons (Atom Symbol x) (Cons tree Nil)) sort apart h =
    by (begins_at x) (is_among elements.taken x) (look_up ranks x) (look_up others x) refl refl refl h
  where
    rest : Result Sort TermFlaw
    rest = result_and_then (sort_named elements.sorts tree) (λ s. or_ill_sorted (if_free s))

    by : (b t : Bool) (o p : Option Rank) → begins_at x ≡ b → look_up ranks x ≡ o → look_up others x ≡ p
        → cond (not b) (Err Unsupported) (cond (t || is_some o) (Err NotFresh) rest) ≡ Ok sort
        → cond (not b) (Err Unsupported) (cond (t || is_some p) (Err NotFresh) rest) ≡ Ok sort
    by false t o p at is now g = cc
    by true true o p at is now g = cc
    by true false (Some rank) p at is now g = cc
    by true false None None at is now g = g
    by true false None (Some rank) at is now g =
        let both : true ≡ false =
        sym (ap (λ b. b || is_some (element_in elements x)) at) ∙ apart x rank is now in cc
kept-qualified_in elements ranks others _ sort apart h = cc

pub kept-qualified : (elements more : Option ElementNames) (ranks others : List (List ℕ × Rank)) (parts : Sexps)
    (sort : Sort) → KeepsElements elements more
    → ((x : List ℕ) (rank : Rank) → look_up ranks x ≡ None → look_up others x ≡ Some rank
    → names_element elements x ≡ false)
    → qualified_sort elements ranks parts ≡ Ok sort → qualified_sort more others parts ≡ Ok sort
kept-qualified None more ranks others parts sort keeps apart h = cc
kept-qualified (Some elements) more ranks others parts sort keeps apart h =
    ap (λ es. qualified_sort es others parts) keeps ∙ kept-qualified_in elements ranks others parts sort apart h

kept-symbol : (names more : Names) → Keeps names more → (x : List ℕ) (o : Option Sort) (sort : Sort)
    → sort_of_symbol names x o ≡ Ok sort → sort_of_symbol more x o ≡ Ok sort
kept-symbol names more keeps x None sort h =
    kept-alone names more keeps x sort (look_up names.ranks x) (look_up more.ranks x) refl refl h
kept-symbol names more keeps x (Some s) sort h = h

kept-unless : (o : Option Sort) (x y : Result Sort TermFlaw) (sort : Sort) → (x ≡ Ok sort → y ≡ Ok sort)
    → sort_unless_variable o x ≡ Ok sort → sort_unless_variable o y ≡ Ok sort
kept-unless None x y sort f h = f h
kept-unless (Some s) x y sort f h = cc

kept-call : (names more : Names) → Keeps names more
    → (scope : Scope) (f : Identifier) (args : List Sort) (sort : Sort)
    → sort_of_call names scope f args ≡ Ok sort → sort_of_call more scope f args ≡ Ok sort
kept-call names more keeps scope (Plain f) args sort h =
    kept-unless (look_up scope f) (sort_applied names (Plain f) args) (sort_applied more (Plain f) args) sort
    (kept-applied names more keeps (Plain f) args sort) h
kept-call names more keeps scope (Indexed f is) args sort h =
    kept-applied names more keeps (Indexed f is) args sort h
kept-call names more keeps scope (Qualified o) args sort h = kept-applied names more keeps (Qualified o) args sort h

-- ## Terms

-- what a list applies
abbrev application : Names → Scope → Sexp → Sexps → Result Sort TermFlaw
application names scope head args = result_and_then (applied_in names.theories.wide head args)
    (λ f. result_and_then (sorts_in names scope args) (λ ss. sort_of_call names scope f ss))

kept-application : (names more : Names) → Keeps names more
    → (scope : Scope) (head : Sexp) (args : Sexps) (sort : Sort)
    → ((ss : List Sort) → sorts_in names scope args ≡ Ok ss → sorts_in more scope args ≡ Ok ss)
    → application names scope head args ≡ Ok sort → application more scope head args ≡ Ok sort
kept-application names more keeps scope head args sort sorts h =
    kept-steps (applied_in names.theories.wide head args) (applied_in more.theories.wide head args)
    (λ f. result_and_then (sorts_in names scope args) (λ ss. sort_of_call names scope f ss))
    (λ f. result_and_then (sorts_in more scope args) (λ ss. sort_of_call more scope f ss)) sort
    (λ f is. ap (λ theories. applied_in theories.wide head args) keeps.theories ∙ is)
    (λ f i. kept-steps (sorts_in names scope args) (sorts_in more scope args)
    (λ ss. sort_of_call names scope f ss) (λ ss. sort_of_call more scope f ss) sort sorts
    (λ ss. kept-call names more keeps scope f ss sort) i) h

-- ## Labels

-- labels that are not looked at are not looked at behind more
pub Unread-behind : (ls : List (List ℕ × Sexp)) (labels : Labels) → labels ≡ Unread
    → with_labels (map (λ l. l.0) ls) labels ≡ Unread
Unread-behind ls labels h = ap (λ ks. with_labels (map (λ l. l.0) ls) ks) h

-- and have no fault
unread_fault : (names : Names) (labels : Labels) (scope : Scope) (term : Sexp) (x : List ℕ) → labels ≡ Unread
    → flaw_of_label names labels scope term x ≡ None
unread_fault names labels scope term x h = ap (λ ks. flaw_of_label names ks scope term x) h

pub unread_faults : (names : Names) (scope : Scope) (term : Sexp) (xs : List (List ℕ)) → names.labels ≡ Unread
    → flaw_of_labels names scope term xs ≡ None
unread_faults names scope term [] h = refl
unread_faults names scope term (x ∷ xs) h =
    ap (λ o. option_or o (flaw_of_labels (behind ((x, term) ∷ []) names) scope term xs))
    (unread_fault names names.labels scope term x h)
    ∙ unread_faults (behind ((x, term) ∷ []) names) scope term xs
    (Unread-behind ((x, term) ∷ []) names.labels h)

-- what has no fault is what comes then
pub unless-none : {A : Type 0} (o : Option TermFlaw) (r : Result A TermFlaw) (y : A) → unless o r ≡ Ok y
    → (o ≡ None) × (r ≡ Ok y)
unless-none None r y h = (refl, h)
unless-none (Some f) r y h = cc

-- the labels of a term change nothing of the names that are kept
pub Keeps-behind : (names more : Names) (ls ks : List (List ℕ × Sexp)) → Keeps names more
    → Keeps (behind ls names) (behind ks more)
Keeps-behind names more ls ks keeps = record {
  theories = keeps.theories;
  elements = keeps.elements;
  ranks = keeps.ranks;
  labels = Unread-behind ks more.labels keeps.labels;
  fresh = keeps.fresh;
  apart = keeps.apart;
}

pub no_rank : (o : Option Rank) (rank : Rank) → o ≡ None → o ≡ Some rank → ⊥
no_rank None rank h i = cc
no_rank (Some r) rank h i = cc

pub elements_stay : (elements : Option ElementNames) → KeepsElements elements elements
elements_stay None = tt
elements_stay (Some sorts) = refl

-- names are kept where labels are not looked at
pub Keeps-unlabelled : (names : Names) → Keeps names (unlabelled names)
Keeps-unlabelled names = record {
  theories = refl;
  elements = elements_stay names.elements;
  ranks = λ x rank h. h;
  labels = refl;
  fresh = λ x rank none some. absurd (no_rank (look_up names.ranks x) rank none some);
  apart = λ x rank none some. absurd (no_rank (look_up names.ranks x) rank none some);
}

mutual
  pub kept-sort : (names more : Names) → Keeps names more → (scope : Scope) (t : Sexp) (sort : Sort)
      → sort_in names scope t ≡ Ok sort → sort_in more scope t ≡ Ok sort
  kept-sort names more keeps scope (Atom Symbol x) sort h =
      kept-symbol names more keeps x (look_up scope x) sort h
  kept-sort names more keeps scope (Atom Numeral x) sort h = ap numerals keeps.theories ∙ h
  kept-sort names more keeps scope (Atom Hexadecimal x) sort h =
      ap (λ theories. bit_vectors theories (width_of (4 * length x))) keeps.theories ∙ h
  kept-sort names more keeps scope (Atom Binary x) sort h =
      ap (λ theories. bit_vectors theories (width_of (length x))) keeps.theories ∙ h
  kept-sort names more keeps scope (Atom sexp.Decimal x) sort h = ap reals keeps.theories ∙ h
  kept-sort names more keeps scope (Atom sexp.Text x) sort h = cc
  kept-sort names more keeps scope (Atom Keyword x) sort h = cc
  kept-sort names more keeps scope (Reserved word) sort h = cc
  kept-sort names more keeps scope (Items Nil) sort h = cc
  kept-sort names more keeps scope (Items (Cons (Reserved Underscore) parts)) sort h =
      kept-steps (indexed parts) (indexed parts) (λ f. sort_applied names f [])
      (λ f. sort_applied more f []) sort (λ f is. is) (λ f. kept-applied names more keeps f [] sort) h
  kept-sort names more keeps scope (Items (Cons (Reserved As) parts)) sort h =
      kept-qualified names.elements more.elements names.ranks more.ranks parts sort keeps.elements keeps.apart h
  kept-sort names more keeps scope
      (Items (Cons (Reserved Let) (Cons (Items bindings) (Cons body Nil)))) sort h =
      let ls = labels_in_bindings bindings in
      kept-then (are_bindings bindings)
      (result_and_then (bound_in names scope [] bindings)
      (λ bound. sort_in (behind ls names) (bound ++ scope) body))
      (result_and_then (bound_in more scope [] bindings)
      (λ bound. sort_in (behind ls more) (bound ++ scope) body)) Form sort
      (kept-steps (bound_in names scope [] bindings) (bound_in more scope [] bindings)
      (λ bound. sort_in (behind ls names) (bound ++ scope) body)
      (λ bound. sort_in (behind ls more) (bound ++ scope) body) sort
      (kept-bound names more keeps scope [] bindings)
      (λ bound. kept-sort (behind ls names) (behind ls more) (Keeps-behind names more ls ls keeps)
      (bound ++ scope) body sort)) h
  kept-sort names more keeps scope (Items (Cons (Reserved Let) args)) sort h = cc
  kept-sort names more keeps scope (Items (Cons (Reserved Bang) (Cons term attributes))) sort h =
      let ls = labels_in term in
      let xs = labels_among attributes in
      kept-then (are_attributes attributes)
      (result_and_then (sort_in names scope term)
      (λ s. unless (flaw_of_labels (behind ls names) scope term xs) (Ok s)))
      (result_and_then (sort_in more scope term)
      (λ s. unless (flaw_of_labels (behind ls more) scope term xs) (Ok s))) Form sort
      (kept-steps (sort_in names scope term) (sort_in more scope term)
      (λ s. unless (flaw_of_labels (behind ls names) scope term xs) (Ok s))
      (λ s. unless (flaw_of_labels (behind ls more) scope term xs) (Ok s)) sort
      (kept-sort names more keeps scope term)
      (λ s i. ap (λ o. unless o (Ok s))
      (unread_faults (behind ls more) scope term xs (Unread-behind ls more.labels keeps.labels)) ∙
      (unless-none (flaw_of_labels (behind ls names) scope term xs) (Ok s) sort i).1)) h
  kept-sort names more keeps scope (Items (Cons (Reserved Bang) args)) sort h = cc
  kept-sort names more keeps scope (Items (Cons head args)) sort h =
      kept-application names more keeps scope head args sort (kept-sorts names more keeps scope args) h

  pub kept-sorts : (names more : Names) → Keeps names more → (scope : Scope) (ts : Sexps) (sorts : List Sort)
      → sorts_in names scope ts ≡ Ok sorts → sorts_in more scope ts ≡ Ok sorts
  kept-sorts names more keeps scope Nil sorts h = h
  kept-sorts names more keeps scope (Cons x xs) sorts h =
      let ls = labels_in x in
      kept-steps (sort_in names scope x) (sort_in more scope x)
      (λ s. result_and_then (sorts_in (behind ls names) scope xs) (λ ss. Ok (s ∷ ss)))
      (λ s. result_and_then (sorts_in (behind ls more) scope xs) (λ ss. Ok (s ∷ ss))) sorts
      (kept-sort names more keeps scope x)
      (λ s. kept-steps (sorts_in (behind ls names) scope xs) (sorts_in (behind ls more) scope xs)
      (λ ss. Ok (s ∷ ss)) (λ ss. Ok (s ∷ ss)) sorts
      (kept-sorts (behind ls names) (behind ls more) (Keeps-behind names more ls ls keeps) scope xs)
      (λ ss i. i)) h

  kept-bound : (names more : Names) → Keeps names more → (scope bound : Scope) (bs : Sexps) (vs : Scope)
      → bound_in names scope bound bs ≡ Ok vs → bound_in more scope bound bs ≡ Ok vs
  kept-bound names more keeps scope bound Nil vs h = h
  kept-bound names more keeps scope bound (Cons (Items (Cons (Atom Symbol x) (Cons term Nil))) rest) vs h =
      let ls = labels_in term in
      kept-else (is_some (look_up bound x))
      (result_and_then (sort_in names scope term)
      (λ s. bound_in (behind ls names) scope (bound ++ (x, s) ∷ []) rest))
      (result_and_then (sort_in more scope term)
      (λ s. bound_in (behind ls more) scope (bound ++ (x, s) ∷ []) rest)) BoundTwice vs
      (kept-steps (sort_in names scope term) (sort_in more scope term)
      (λ s. bound_in (behind ls names) scope (bound ++ (x, s) ∷ []) rest)
      (λ s. bound_in (behind ls more) scope (bound ++ (x, s) ∷ []) rest) vs
      (kept-sort names more keeps scope term)
      (λ s. kept-bound (behind ls names) (behind ls more) (Keeps-behind names more ls ls keeps) scope
      (bound ++ (x, s) ∷ []) rest vs)) h
  kept-bound names more keeps scope bound _ vs h = cc
