-- The labels that an assertion brings are introduced one behind another.
use Rattle.std.proofs.Common.{◌≡◌, ℕ, Bool, true, false, cond, ◌||◌, List, [], ◌∷◌, ◌++◌, map, Option, Some}
use Rattle.std.proofs.Common.{None, is_some, option_map, Result, Ok, Err, refl, ap, sym, ◌∙◌, subst}
use Rattle.std.proofs.Common.{append-nil, ◌⊎◌, inl, inr}
use Rattle.std.specs.Str.{bytes_eq}
use Rattle.smt_trees.specs.Sexp.{Sexp, Sexps, Atom, Reserved, Items, Nil, Cons, Symbol}
use Rattle.smt_trees.specs.declared.reserved.Word.TheVariants.{As, Bang, Let, Underscore}
use Rattle.smt_theory.specs.Operators.{is_plain_operator}
use Rattle.smt_theory.specs.Sort.{is_same_sort}
use Rattle.smt_theory.specs.Words.{look_up, result_and_then}
use Rattle.smt_theory.specs.Sort.{Sort}
use Rattle.smt_theory.specs.Sort.{Boolean}
use Rattle.smt_theory.specs.declared.theories.Theories.{Theories}
use Rattle.smt_terms.specs.Elements.{ElementNames}
use Rattle.smt_terms.specs.Assertions.{asserted_in, label_entries, label_or_none}
use Rattle.smt_forms.specs.Bindings.{are_attributes, are_bindings}
use Rattle.smt_terms.specs.Checking.{bound_in, flaw_of_label, flaw_of_labels, sort_in, sort_of_call}
use Rattle.smt_terms.specs.Checking.{sorts_in, unless}
use Rattle.smt_terms.specs.Definitions.{definition}
use Rattle.smt_forms.specs.Identifier.{applied_in}
use Rattle.smt_terms.specs.Labels.{Labels, Refused, Given, Unread, with_labels}
use Rattle.smt_forms.specs.Variables.{is_among, uses_variable}
use Rattle.smt_forms.specs.Labels.{labels_among, labels_in, labels_in_all, labels_in_bindings}
use Rattle.smt_terms.specs.Freshness.{is_element, is_label_taken, is_taken}
use Rattle.smt_terms.specs.Elements.{names_element}
use Rattle.smt_terms.specs.Signature.{Entry, Names, Rank, Signature, behind, entry_named, in_assertion}
use Rattle.smt_terms.specs.Signature.{names_of, rank_of_entry, ranks_of, unlabelled, unlabelled_over}
use Rattle.smt_terms.specs.WellSorted.{AreIntroduced, Keeps}
use Rattle.smt_faults.specs.declared.term_flaw.TermFlaw.{TermFlaw}
use Rattle.smt_faults.specs.declared.term_flaw.TermFlaw.TheVariants.{BoundTwice, Form, IllSorted, NotFresh}
use Rattle.smt_faults.specs.declared.term_flaw.TermFlaw.TheVariants.{Label as IsLabel}
use Rattle.smt_terms.proofs.CheckerLemmas.{Scope}
use Rattle.smt_terms.proofs.EntryLemmas.{look_up-ranks}
use Rattle.smt_terms.proofs.ClosedLemmas.{closed, neither, of_ok}
use Rattle.smt_terms.proofs.KeptLemmas.{Keeps-unlabelled, answered, kept-sort, unless-none}
use Rattle.smt_terms.proofs.NameLemmas.{same_name}
use Rattle.smt_terms.proofs.LabelLemmas.{Labelled, behind-append, or_none, with_term}

-- ## Labels that fit

-- labels may be given
abbrev pub MayBeGiven : Labels → Type 0
MayBeGiven (Given names) = Unit {0}
MayBeGiven Refused = Unit {0}
MayBeGiven Unread = ⊥

MayBeGiven-behind : (xs : List (List ℕ)) (labels : Labels) → MayBeGiven labels
    → MayBeGiven (with_labels xs labels)
MayBeGiven-behind xs (Given names) h = tt
MayBeGiven-behind xs Refused h = tt
MayBeGiven-behind xs Unread h = h

-- a label was given, or none may be
abbrev pub is_given : Labels → List ℕ → Bool
is_given (Given names) x = is_among names x
is_given Refused x = true
is_given Unread x = false

-- the label is fresh, and its term has a sort without variables
pub record IsFit (names : Names) (l : List ℕ × Sexp) : Type 0 where
  pub free : is_taken names l.0 ≡ false
  pub new : is_given names.labels l.0 ≡ false
  pub sorted : (sort : Sort) × (sort_in (unlabelled names) [] l.1 ≡ Ok sort)

abbrev pub AreFit : Names → Labelled → Type 0
AreFit names [] = Unit {0}
AreFit names (l ∷ ls) = IsFit names l × AreFit (behind (l ∷ []) names) ls

no_more : (labels : Labels) → with_labels [] labels ≡ labels
no_more Refused = refl
no_more (Given names) = ap (λ ls. Given ls) (append-nil names)
no_more Unread = refl

AreFit-append : (names : Names) (xs ys : Labelled) → AreFit names xs → AreFit (behind xs names) ys
    → AreFit names (xs ++ ys)
AreFit-append names [] ys h i =
    subst (λ labels. AreFit (record names { labels = labels }) ys) (no_more names.labels) i
AreFit-append names (x ∷ xs) ys h i = (
  h.0,
  AreFit-append (behind (x ∷ []) names) xs ys h.1
      (subst (λ (ns : Names). AreFit ns ys) (sym (behind-append (x ∷ []) xs names)) i),
)

-- a label without a fault
fit-label : (names : Names) (labels : Labels) (scope : Scope) (term : Sexp) (x : List ℕ) (sort : Sort)
    → MayBeGiven labels → sort_in (unlabelled names) scope term ≡ Ok sort
    → flaw_of_label names labels scope term x ≡ None
    → (is_taken names x ≡ false) × (is_given labels x ≡ false)
    × (sort_in (unlabelled names) [] term ≡ Ok sort)
fit-label names Refused scope term x sort may h i = cc
fit-label names Unread scope term x sort may h i = absurd may
fit-label names (Given ls) scope term x sort may h i =
    by (uses_variable scope term) refl (is_label_taken names ls x) refl i
  where
    by : (u : Bool) → uses_variable scope term ≡ u → (b : Bool) → is_label_taken names ls x ≡ b
        → cond u (Some IsLabel) (cond b (Some NotFresh) None) ≡ None
        → (is_taken names x ≡ false) × (is_among ls x ≡ false)
        × (sort_in (unlabelled names) [] term ≡ Ok sort)
    by true used b taken g = cc
    by false used true taken g = cc
    by false used false taken g = let n = neither (is_taken names x) (is_among ls x) taken
        in (n.0, n.1, closed (unlabelled names) scope term sort refl used h)

fit-labels : (names : Names) (scope : Scope) (term : Sexp) (xs : List (List ℕ)) (sort : Sort)
    → MayBeGiven names.labels → sort_in (unlabelled names) scope term ≡ Ok sort
    → flaw_of_labels names scope term xs ≡ None → AreFit names (with_term term xs)
fit-labels names scope term [] sort may h i = tt
fit-labels names scope term (x ∷ xs) sort may h i =
    let later = behind ((x, term) ∷ []) names in
    let n =
    or_none (flaw_of_label names names.labels scope term x) (flaw_of_labels later scope term xs) i in
    let f = fit-label names names.labels scope term x sort may h n.0 in (
      record { free = f.0; new = f.1; sorted = (sort, f.2) },
      fit-labels later scope term xs sort
          (MayBeGiven-behind (x ∷ []) names.labels may) h n.1,
    )

-- what a test lets pass
pub passed : {A : Type 0} (b : Bool) (r : Result A TermFlaw) (e : TermFlaw) (y : A)
    → cond b r (Err e) ≡ Ok y → r ≡ Ok y
passed true r e y h = h
passed false r e y h = cc

pub passed-else : {A : Type 0} (b : Bool) (r : Result A TermFlaw) (e : TermFlaw) (y : A)
    → cond b (Err e) r ≡ Ok y → r ≡ Ok y
passed-else true r e y h = cc
passed-else false r e y h = h

-- the labels of a list of terms
fit-application : (names : Names) (scope : Scope) (head : Sexp) (args : Sexps) (sort : Sort)
    → ((ss : List Sort) → sorts_in names scope args ≡ Ok ss → AreFit names (labels_in_all args))
    → result_and_then (applied_in names.theories.wide head args)
    (λ f. result_and_then (sorts_in names scope args) (λ ss. sort_of_call names scope f ss)) ≡ Ok sort
    → AreFit names (labels_in_all args)
fit-application names scope head args sort fit h =
    let a =
    answered (applied_in names.theories.wide head args)
    (λ f. result_and_then (sorts_in names scope args) (λ ss. sort_of_call names scope f ss)) sort h in
    let b = answered (sorts_in names scope args) (λ ss. sort_of_call names scope a.0 ss) sort a.2 in
    fit b.0 b.1

-- the labels of a term that has a sort
mutual
  pub fit : (names : Names) (scope : Scope) (t : Sexp) (sort : Sort) → MayBeGiven names.labels
      → sort_in names scope t ≡ Ok sort → AreFit names (labels_in t)
  fit names scope (Atom kind x) sort may h = tt
  fit names scope (Reserved word) sort may h = tt
  fit names scope (Items Nil) sort may h = tt
  fit names scope (Items (Cons (Reserved Underscore) parts)) sort may h = tt
  fit names scope (Items (Cons (Reserved As) parts)) sort may h = tt
  fit names scope (Items (Cons (Reserved Let) (Cons (Items bindings) (Cons body Nil)))) sort may h =
      let ls = labels_in_bindings bindings in
      let next = λ (bound : Scope). sort_in (behind ls names) (bound ++ scope) body in
      let a =
      answered (bound_in names scope [] bindings) next sort
      (passed (are_bindings bindings)
      (result_and_then (bound_in names scope [] bindings) next) Form sort h) in
      AreFit-append names ls (labels_in body) (fit-bindings names scope [] bindings a.0 may a.1)
      (fit (behind ls names) (a.0 ++ scope) body sort
      (MayBeGiven-behind (map (λ l. l.0) ls) names.labels may) a.2)
  fit names scope (Items (Cons (Reserved Let) args)) sort may h = cc
  fit names scope (Items (Cons (Reserved Bang) (Cons term attributes))) sort may h =
      let ls = labels_in term in
      let xs = labels_among attributes in
      let next = λ (s : Sort). unless (flaw_of_labels (behind ls names) scope term xs) (Ok s) in
      let a =
      answered (sort_in names scope term) next sort
      (passed (are_attributes attributes) (result_and_then (sort_in names scope term) next) Form sort h)
      in
      AreFit-append names ls (with_term term xs) (fit names scope term a.0 may a.1)
      (fit-labels (behind ls names) scope term xs a.0 (MayBeGiven-behind (map (λ l. l.0) ls) names.labels may)
      (kept-sort names (unlabelled names) (Keeps-unlabelled names) scope term a.0 a.1)
      (unless-none (flaw_of_labels (behind ls names) scope term xs) (Ok a.0) sort a.2).0)
  fit names scope (Items (Cons (Reserved Bang) args)) sort may h = cc
  fit names scope (Items (Cons head args)) sort may h =
      fit-application names scope head args sort (λ ss. fit-all names scope args ss may) h

  fit-all : (names : Names) (scope : Scope) (ts : Sexps) (sorts : List Sort) → MayBeGiven names.labels
      → sorts_in names scope ts ≡ Ok sorts → AreFit names (labels_in_all ts)
  fit-all names scope Nil sorts may h = tt
  fit-all names scope (Cons x xs) sorts may h =
      let ls = labels_in x in
      let next = λ (s : Sort). result_and_then (sorts_in (behind ls names) scope xs) (λ ss. Ok (s ∷ ss)) in
      let a = answered (sort_in names scope x) next sorts h in
      let b = answered (sorts_in (behind ls names) scope xs) (λ ss. Ok (a.0 ∷ ss)) sorts a.2 in
      AreFit-append names ls (labels_in_all xs) (fit names scope x a.0 may a.1)
      (fit-all (behind ls names) scope xs b.0
      (MayBeGiven-behind (map (λ l. l.0) ls) names.labels may) b.1)

  fit-bindings : (names : Names) (scope bound : Scope) (bs : Sexps) (vs : Scope) → MayBeGiven names.labels
      → bound_in names scope bound bs ≡ Ok vs → AreFit names (labels_in_bindings bs)
  fit-bindings names scope bound (Cons (Items (Cons (Atom Symbol x) (Cons term Nil))) rest) vs may h =
      let ls = labels_in term in
      let next = λ (s : Sort). bound_in (behind ls names) scope (bound ++ (x, s) ∷ []) rest in
      let a =
      answered (sort_in names scope term) next vs
      (passed-else (is_some (look_up bound x))
      (result_and_then (sort_in names scope term) next) BoundTwice vs h) in
      AreFit-append names ls (labels_in_bindings rest) (fit names scope term a.0 may a.1)
      (fit-bindings (behind ls names) scope (bound ++ (x, a.0) ∷ []) rest vs
      (MayBeGiven-behind (map (λ l. l.0) ls) names.labels may) a.2)
  fit-bindings names scope bound _ vs may h = tt

-- a term that has a sort where none may be given has none
pub no_labels_given : (names : Names) (scope : Scope) (t : Sexp) (sort : Sort) → names.labels ≡ Refused
    → sort_in names scope t ≡ Ok sort → labels_in t ≡ []
no_labels_given names scope t sort refused h =
    by (labels_in t) (fit names scope t sort (subst MayBeGiven (sym refused) tt) h)
  where
    by : (ls : Labelled) → AreFit names ls → ls ≡ []
    by [] fits = refl
    by (l ∷ ls) fits =
        let never : true ≡ false = ap (λ labels. is_given labels l.0) (sym refused) ∙ fits.0.new in cc

-- ## Entries behind entries

-- what is found does not change with one more entry, which hides nothing
kept-rank : (es : List Entry) (e : Entry) (x : List ℕ) (rank : Rank) → look_up (ranks_of es) x ≡ Some rank
    → look_up (ranks_of (es ++ e ∷ [])) x ≡ Some rank
kept-rank [] e x rank h = cc
kept-rank (d ∷ es) e x rank h = by (bytes_eq x d.name) h (kept-rank es e x rank)
  where
    by : (b : Bool) → cond b (Some (rank_of_entry d)) (look_up (ranks_of es) x) ≡ Some rank
        → (look_up (ranks_of es) x ≡ Some rank → look_up (ranks_of (es ++ e ∷ [])) x ≡ Some rank)
        → cond b (Some (rank_of_entry d)) (look_up (ranks_of (es ++ e ∷ [])) x) ≡ Some rank
    by true g rest = g
    by false g rest = rest g

-- what is new then is that entry
new-rank : (es : List Entry) (e : Entry) (x : List ℕ) (rank : Rank) → look_up (ranks_of es) x ≡ None
    → look_up (ranks_of (es ++ e ∷ [])) x ≡ Some rank → x ≡ e.name
new-rank [] e x rank none h = by (bytes_eq x e.name) refl h
  where
    by : (b : Bool) → bytes_eq x e.name ≡ b → cond b (Some (rank_of_entry e)) None ≡ Some rank → x ≡ e.name
    by true is g = same_name x e.name is
    by false is g = cc
new-rank (d ∷ es) e x rank none h = by (bytes_eq x d.name) none h (new-rank es e x rank)
  where
    by : (b : Bool) → cond b (Some (rank_of_entry d)) (look_up (ranks_of es) x) ≡ None
        → cond b (Some (rank_of_entry d)) (look_up (ranks_of (es ++ e ∷ [])) x) ≡ Some rank
        → (look_up (ranks_of es) x ≡ None → look_up (ranks_of (es ++ e ∷ [])) x ≡ Some rank → x ≡ e.name)
        → x ≡ e.name
    by true g i rest = cc
    by false g i rest = rest g i

some_or_none : (o : Option Rank) → (o ≡ None) ⊎ ((r : Rank) × (o ≡ Some r))
some_or_none None = inl refl
some_or_none (Some r) = inr (r, refl)

no_two : (o : Option Rank) (r q : Rank) → o ≡ Some r → o ≡ Some q → r ≡ q
no_two o r q h i = cc

-- one more entry that is no operator's and no element's keeps sorts
Keeps-entry : (names : Names) (theories : Theories) (elements : Option ElementNames) (earlier : List Entry) (e : Entry)
    → names.theories ≡ theories → is_plain_operator theories e.name ≡ false
    → names_element names.elements e.name ≡ false → Keeps names (unlabelled_over theories elements earlier)
    → Keeps names (unlabelled_over theories elements (earlier ++ e ∷ []))
Keeps-entry names theories elements earlier e same free apart keeps = record {
  theories = keeps.theories;
  elements = keeps.elements;
  ranks = λ x rank h. kept-rank earlier e x rank (keeps.ranks x rank h);
  labels = refl;
  fresh = λ x rank none some. by x rank none some (some_or_none (look_up (ranks_of earlier) x));
  apart = λ x rank none some. aside x rank none some (some_or_none (look_up (ranks_of earlier) x));
}
  where
    by : (x : List ℕ) (rank : Rank) → look_up names.ranks x ≡ None
        → look_up (ranks_of (earlier ++ e ∷ [])) x ≡ Some rank
        → (look_up (ranks_of earlier) x ≡ None) ⊎ ((r : Rank) × (look_up (ranks_of earlier) x ≡ Some r))
        → is_plain_operator names.theories x ≡ false
    by x rank none some (inr p) = keeps.fresh x p.0 none p.1
    by x rank none some (inl new) = ap (λ y. is_plain_operator names.theories y)
        (new-rank earlier e x rank new some) ∙ ap (λ ts. is_plain_operator ts e.name) same ∙ free

    aside : (x : List ℕ) (rank : Rank) → look_up names.ranks x ≡ None
        → look_up (ranks_of (earlier ++ e ∷ [])) x ≡ Some rank
        → (look_up (ranks_of earlier) x ≡ None) ⊎ ((r : Rank) × (look_up (ranks_of earlier) x ≡ Some r))
        → names_element names.elements x ≡ false
    aside x rank none some (inr p) = keeps.apart x p.0 none p.1
    aside x rank none some (inl new) =
        ap (λ y. names_element names.elements y) (new-rank earlier e x rank new some) ∙ apart

-- labels are given
abbrev pub IsGivenList : Labels → Type 0
IsGivenList (Given names) = Unit {0}
IsGivenList _ = ⊥

pub IsGivenList-behind : (xs : List (List ℕ)) (labels : Labels) → IsGivenList labels
    → IsGivenList (with_labels xs labels)
IsGivenList-behind xs (Given names) h = tt
IsGivenList-behind xs Refused h = h
IsGivenList-behind xs Unread h = h

-- names that are new, and not among the labels, stand for nothing
abbrev Covers : Names → Labels → List Entry → Type 0
Covers names labels earlier =
    (x : List ℕ) → look_up names.ranks x ≡ None → is_given labels x ≡ false → entry_named earlier x ≡ None

pub any-split : (xs : List (List ℕ)) (y x : List ℕ) → is_among (xs ++ y ∷ []) x ≡ false
    → (is_among xs x ≡ false) × (bytes_eq x y ≡ false)
any-split [] y x h = (refl, (neither (bytes_eq x y) false h).0)
any-split (z ∷ xs) y x h =
    let n = neither (bytes_eq x z) (is_among (xs ++ y ∷ []) x) h in
    let m = any-split xs y x n.1 in
    (ap (λ b. b || is_among xs x) n.0 ∙ m.0, m.1)

none-push : (es : List Entry) (e : Entry) (x : List ℕ) → entry_named es x ≡ None → bytes_eq x e.name ≡ false
    → entry_named (es ++ e ∷ []) x ≡ None
none-push [] e x h i = ap (λ b. cond b (Some e) None) i
none-push (d ∷ es) e x h i = by (bytes_eq x d.name) h (λ g. none-push es e x g i)
  where
    by : (b : Bool) → cond b (Some d) (entry_named es x) ≡ None
        → (entry_named es x ≡ None → entry_named (es ++ e ∷ []) x ≡ None)
        → cond b (Some d) (entry_named (es ++ e ∷ []) x) ≡ None
    by true g rest = cc
    by false g rest = rest g

Covers-push : (names : Names) (labels : Labels) (earlier : List Entry) (e : Entry) → IsGivenList labels
    → Covers names labels earlier → Covers names (with_labels (e.name ∷ []) labels) (earlier ++ e ∷ [])
Covers-push names (Given ls) earlier e is covers =
    λ x none new. let m = any-split ls e.name x new in none-push earlier e x (covers x none m.0) m.1
Covers-push names Refused earlier e is covers = absurd is
Covers-push names Unread earlier e is covers = absurd is

-- labels that fit are introduced
introduced : (names : Names) (theories : Theories) (elements : Option ElementNames) (earlier : List Entry)
    (ls : Labelled) → names.theories ≡ theories → IsGivenList names.labels
    → Keeps (unlabelled names) (unlabelled_over theories elements earlier) → Covers names names.labels earlier
    → AreFit names ls → AreIntroduced theories elements earlier (label_entries names ls)
introduced names theories elements earlier [] same is keeps covers fits = tt
introduced names theories elements earlier (l ∷ ls) same is keeps covers fits =
    let n = neither (is_element names l.0 || is_some (look_up names.ranks l.0)) (is_plain_operator names.theories l.0)
    fits.0.free in
    let m = neither (is_element names l.0) (is_some (look_up names.ranks l.0)) n.0 in
    let sort = fits.0.sorted.0 in
    let e = definition l.0 [] sort l.1 in
    let free = sym (ap (λ ts. is_plain_operator ts l.0) same) ∙ n.1 in
    let rest =
    introduced (behind (l ∷ []) names) theories elements (earlier ++ e ∷ []) ls same
    (IsGivenList-behind (l.0 ∷ []) names.labels is)
    (Keeps-entry (unlabelled names) theories elements earlier e same free
    m.0 keeps)
    (Covers-push names names.labels earlier e is covers) fits.1 in
    subst (λ r. AreIntroduced theories elements earlier (label_or_none l r ++ label_entries names ls))
    (sym fits.0.sorted.1) (
      record {
        new = covers l.0 (none_of (look_up names.ranks l.0) m.1) fits.0.new;
        free = free;
        sorted = record {
          counted = refl;
          different = tt;
          sorted = kept-sort (unlabelled names) (unlabelled_over theories elements earlier) keeps
              [] l.1 sort fits.0.sorted.1;
        };
      },
      rest,
    )
  where
    none_of : {A : Type 0} (o : Option A) → is_some o ≡ false → o ≡ None
    none_of None h = refl
    none_of (Some r) h = cc

entry_none : (es : List Entry) (x : List ℕ) → look_up (ranks_of es) x ≡ None → entry_named es x ≡ None
entry_none es x h = by (entry_named es x) (sym (look_up-ranks es x) ∙ h)
  where
    by : (o : Option Entry) → option_map rank_of_entry o ≡ None → o ≡ None
    by None g = refl
    by (Some e) g = cc

-- the labels of an assertion
pub introduced-asserted : (s : Signature) (term : Sexp) (labels : List Entry)
    → asserted_in (names_of s) term ≡ Ok labels → AreIntroduced s.theories s.elements s.entries labels
introduced-asserted s term labels h = by (sort_in names [] term) refl h
  where
    names : Names
    names = in_assertion (names_of s)

    all : (sort : Sort) → sort_in names [] term ≡ Ok sort
        → AreIntroduced s.theories s.elements s.entries (label_entries (names_of s) (labels_in term))
    all sort is = introduced names s.theories s.elements s.entries (labels_in term) refl tt
        (Keeps-unlabelled (unlabelled names)) (λ x none new. entry_none s.entries x none)
        (fit names [] term sort tt is)

    test : (sort : Sort) (b : Bool) → sort_in names [] term ≡ Ok sort
        → cond b (Ok (label_entries (names_of s) (labels_in term))) (Err IllSorted) ≡ Ok labels
        → AreIntroduced s.theories s.elements s.entries labels
    test sort true is g = subst (λ ls. AreIntroduced s.theories s.elements s.entries ls)
        (of_ok (label_entries (names_of s) (labels_in term)) labels
        (Ok (label_entries (names_of s) (labels_in term))) refl g) (all sort is)
    test sort false is g = cc

    by : (r : Result Sort TermFlaw) → sort_in names [] term ≡ r
        → result_and_then r (λ sort. cond (is_same_sort sort Boolean)
        (Ok (label_entries (names_of s) (labels_in term))) (Err IllSorted)) ≡ Ok labels
        → AreIntroduced s.theories s.elements s.entries labels
    by (Err f) is g = cc
    by (Ok sort) is g = test sort (is_same_sort sort Boolean) is g
