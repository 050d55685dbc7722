-- Labels that are given, one behind another.
use Rattle.std.proofs.Common.{◌≡◌, ℕ, Bool, true, false, cond, List, [], ◌∷◌, ◌++◌, map, Option}
use Rattle.std.proofs.Common.{Some, None, Result, Ok, Err, OnOk, refl, ap, sym, subst, ◌∙◌, append_assoc}
use Rattle.std.proofs.Common.{append-nil, inl, inr}
use Rattle.std.specs.Option.{option_or}
use Rattle.std.proofs.lemmas.List.{map-append}
use Rattle.smt_trees.specs.Sexp.{Sexp, Sexps, Atom, Cons, Items, Keyword, Reserved}
use Rattle.smt_trees.specs.declared.reserved.Word.TheVariants.{As, Bang, Let, Underscore}
use Rattle.smt_trees.specs.View.{sexp_of}
use Rattle.smt_theory.specs.Words.{look_up}
use Rattle.smt_theory.specs.Sort.{Sort}
use Rattle.smt_terms.specs.Internal.SoFar.{AreGivenOf, IsPlainHead}
use Rattle.smt_terms.specs.Checking.{flaw_of_label, flaw_of_labels, sort_applied, sort_in, sort_of_call, sort_of_plain}
use Rattle.smt_terms.specs.Checking.{sort_unless_variable, sorts_in}
use Rattle.smt_forms.specs.Heads.{begins_indexed}
use Rattle.smt_forms.specs.Identifier.{Identifier, Plain, Indexed, Qualified}
use Rattle.smt_forms.specs.Labels.{label_of_tree}
use Rattle.smt_forms.specs.Heads.{begins_annotated, begins_let, begins_qualified}
use Rattle.smt_terms.specs.Internal.LabelsView.{AreGiven, AreSorted, given_names, given_terms, labels_view}
use Rattle.smt_terms.specs.Internal.LibraryView.{names_for, names_of_library}
use Rattle.smt_forms.specs.Identifier.{applied_in}
use Rattle.smt_terms.specs.Labels as spec
use Rattle.smt_forms.specs.Labels.{labels_among, labels_in, labels_in_all}
use Rattle.smt_terms.specs.Labels.{with_labels}
use Rattle.smt_terms.specs.Signature.{Names, Rank, behind, unlabelled}
use Rattle.smt_faults.specs.declared.term_flaw.TermFlaw.{TermFlaw}
use Rattle.smt_faults.specs.declared.term_flaw.TermFlaw.TheVariants.{Label as IsLabel}
use Rattle.smt_terms.proofs.CheckerLemmas.{Scope, applied_ok}
use Rattle.smt_terms.specs.declared.labels.Label.{Label}
use Rattle.smt_terms.specs.declared.labels.Labels.{Labels}
use Rattle.smt_terms.specs.declared.library.Library.{Library}
use Rattle.smt_faults.specs.Outcome.{TellsSome, flaw_told}
use Rattle.smt_faults.specs.declared.term_fault.TermFault.{TermFault}

-- labels with their terms
abbrev pub Labelled : Type 0
Labelled = List (List ℕ × Sexp)

-- ## Labels without their terms

names_of_terms : (ls : List Label)
    → map (λ l. l.name.items) ls
    ≡ map (λ (p : List ℕ × Sexp). p.0) (map (λ l. (l.name.items, sexp_of l.body)) ls)
names_of_terms [] = refl
names_of_terms (l ∷ ls) = ap (λ xs. l.name.items ∷ xs) (names_of_terms ls)

given-names : (old new : Labels) (more : Labelled) → given_terms new ≡ given_terms old ++ more
    → given_names new ≡ given_names old ++ map (λ (p : List ℕ × Sexp). p.0) more
given-names old new more h =
    names_of_terms new.given.items ∙ ap
    (λ (ps : Labelled). map (λ (p : List ℕ × Sexp). p.0) ps) h ∙ map-append (λ (p : List ℕ × Sexp). p.0)
    (given_terms old) more ∙ ap (λ xs. xs ++ map (λ (p : List ℕ × Sexp). p.0) more)
    (sym (names_of_terms old.given.items))

given-view : (old new : Bool) (before after : List (List ℕ)) (more : List (List ℕ)) → new ≡ old
    → after ≡ before ++ more
    → cond new spec.Refused (spec.Given after) ≡ with_labels more (cond old spec.Refused (spec.Given before))
given-view true new before after more same h = rw same refl
given-view false new before after more same h = rw (same, h) refl

-- those of one term
pub given_names_of : (old new : Labels) (xs : List (List ℕ)) (term : Sexp)
    → given_terms new ≡ given_terms old ++ map (λ x. (x, term)) xs → given_names new ≡ given_names old ++ xs
given_names_of old new xs term h =
    given-names old new (map (λ x. (x, term)) xs) h ∙ ap (λ ys. given_names old ++ ys) (again xs)
  where
    again : (ys : List (List ℕ)) → map (λ (p : List ℕ × Sexp). p.0) (map (λ x. (x, term)) ys) ≡ ys
    again [] = refl
    again (y ∷ ys) = ap (λ zs. y ∷ zs) (again ys)

-- what the labels are behind those that are given
pub given_view : (names : Names) (old new : Labels) (more : Labelled) → AreGiven names old new more
    → labels_view new ≡ with_labels (map (λ (p : List ℕ × Sexp). p.0) more) (labels_view old)
given_view names old new more given = given-view old.refused new.refused (given_names old) (given_names new)
    (map (λ (p : List ℕ × Sexp). p.0) more) given.refused (given-names old new more given.given)

pub names_behind : (library : Library) (names : Names) (old new : Labels) (more : Labelled)
    → AreGiven names old new more
    → names_for library (labels_view new) ≡ behind more (names_for library (labels_view old))
names_behind library names old new more given =
    ap (λ labels. names_for library labels) (given_view names old new more given)

-- ## Labels behind labels

-- none
pub AreGiven-none : (names : Names) (labels : Labels) → AreGiven names labels labels []
AreGiven-none names labels =
    record { refused = refl; given = sym (append-nil (given_terms labels)); sorted = λ h. h }

-- some, and then others
pub AreGiven-append : (names : Names) (old mid new : Labels) (xs ys : Labelled) → AreGiven names old mid xs
    → AreGiven names mid new ys → AreGiven names old new (xs ++ ys)
AreGiven-append names old mid new xs ys first second = record {
  refused = second.refused ∙ first.refused;
  given = second.given ∙ ap (λ ls. ls ++ ys) first.given ∙ append_assoc (given_terms old) xs ys;
  sorted = λ h. second.sorted (first.sorted h);
}

pub AreGivenOf-none : (names : Names) (labels : Labels) (all : Labelled)
    → AreGivenOf names labels labels all all
AreGivenOf-none names labels all = record { more = []; given = AreGiven-none names labels; are = refl }

pub AreGivenOf-next : (names : Names) (old mid new : Labels) (all left xs rest : Labelled)
    → AreGivenOf names old mid all left → left ≡ xs ++ rest → AreGiven names mid new xs
    → AreGivenOf names old new all rest
AreGivenOf-next names old mid new all left xs rest first split second = record {
  more = first.more ++ xs;
  given = AreGiven-append names old mid new first.more xs first.given second;
  are = first.are ∙ ap (λ ls. first.more ++ ls) split ∙ sym (append_assoc first.more xs rest);
}

pub AreGivenOf-all : (names : Names) (old new : Labels) (all left : Labelled)
    → AreGivenOf names old new all left → left ≡ [] → AreGiven names old new all
AreGivenOf-all names old new all left given none =
    rw (given.are ∙ ap (λ ls. given.more ++ ls) none ∙ append-nil given.more) given.given

-- ## One label

AreSorted-push : (names : Names) (ls : List Label) (l : Label) → AreSorted names ls
    → sort_in (unlabelled names) [] (sexp_of l.body) ≡ Ok l.sort → AreSorted names (ls ++ l ∷ [])
AreSorted-push names [] l h is = (is, tt)
AreSorted-push names (k ∷ ls) l h is = (h.0, AreSorted-push names ls l h.1 is)

-- a label of a term that has its sort
pub AreGiven-push : (names : Names) (old new : Labels) (x : List ℕ) (sort : Sort) (term : Sexp) (l : Label)
    → new.refused ≡ old.refused → new.given.items ≡ old.given.items ++ l ∷ [] → l.name.items ≡ x
    → l.sort ≡ sort → sexp_of l.body ≡ term
    → sort_in (unlabelled names) [] term ≡ Ok sort → AreGiven names old new ((x, term) ∷ [])
AreGiven-push names old new x sort term l refused pushed named sorted is has = record {
  refused = refused;
  given = ap (λ (ls : List Label). map (λ k. (k.name.items, sexp_of k.body)) ls) pushed ∙ map-append
      (λ (k : Label). (k.name.items, sexp_of k.body)) old.given.items (l ∷ [])
      ∙ ap (λ p. given_terms old ++ p ∷ []) (ap (λ y. (y, sexp_of l.body)) named ∙ ap (λ t. (x, t)) is);
  sorted = λ h. rw pushed (AreSorted-push names old.given.items l h
      (ap (λ t. sort_in (unlabelled names) [] t) is ∙ has ∙ ap (λ s. Ok s) (sym sorted)));
}

-- ## Faults of labels

-- the label that stands first among attributes, and the others
pub labels_among-first : (tree : Sexp) (rest : Sexps)
    → labels_among (Cons tree rest) ≡ label_of_tree tree rest ++ labels_among rest
labels_among-first (Atom Keyword k) rest = refl
labels_among-first _ rest = refl

-- each label with one term
abbrev pub with_term : Sexp → List (List ℕ) → Labelled
with_term term xs = map (λ x. (x, term)) xs

labels-append : (xs ys : List (List ℕ)) (labels : spec.Labels)
    → with_labels ys (with_labels xs labels) ≡ with_labels (xs ++ ys) labels
labels-append xs ys spec.Refused = refl
labels-append xs ys (spec.Given names) = ap (λ ls. spec.Given ls) (append_assoc names xs ys)
labels-append xs ys spec.Unread = refl

pub behind-append : (xs ys : Labelled) (names : Names) → behind ys (behind xs names) ≡ behind (xs ++ ys) names
behind-append xs ys names =
    ap (λ labels. record names { labels = labels })
    (labels-append (map (λ (l : List ℕ × Sexp). l.0) xs)
    (map (λ (l : List ℕ × Sexp). l.0) ys) names.labels ∙ ap (λ ls. with_labels ls names.labels)
    (sym (map-append (λ (l : List ℕ × Sexp). l.0) xs ys)))

pub or_none : (o p : Option TermFlaw) → option_or o p ≡ None → (o ≡ None) × (p ≡ None)
or_none None p h = (refl, h)
or_none (Some f) p h = cc

-- behind labels without a fault come the others
faults-behind : (names : Names) (scope : Scope) (term : Sexp) (xs ys : List (List ℕ))
    → flaw_of_labels names scope term xs ≡ None
    → flaw_of_labels names scope term (xs ++ ys)
    ≡ flaw_of_labels (behind (with_term term xs) names) scope term ys
faults-behind names scope term [] ys h = ap (λ (ns : Names). flaw_of_labels ns scope term ys)
    (ap (λ labels. record names { labels = labels }) (none names.labels))
  where
    none : (labels : spec.Labels) → labels ≡ with_labels [] labels
    none spec.Refused = refl
    none (spec.Given ls) = ap (λ ks. spec.Given ks) (sym (append-nil ls))
    none spec.Unread = refl
faults-behind names scope term (x ∷ xs) ys h =
    let n =
    or_none (flaw_of_label names names.labels scope term x)
    (flaw_of_labels (behind ((x, term) ∷ []) names) scope term xs) h in
    ap (λ o. option_or o (flaw_of_labels (behind ((x, term) ∷ []) names) scope term (xs ++ ys))) n.0 ∙
    faults-behind (behind ((x, term) ∷ []) names) scope term xs ys n.1
    ∙ ap (λ (ns : Names). flaw_of_labels ns scope term ys)
    (behind-append ((x, term) ∷ []) (with_term term xs) names)

pub faults-next : (names later : Names) (scope : Scope) (term : Sexp) (all xs ys : List (List ℕ))
    → later ≡ behind (with_term term xs) names → all ≡ xs ++ ys → flaw_of_labels names scope term xs ≡ None
    → flaw_of_labels names scope term all ≡ flaw_of_labels later scope term ys
faults-next names later scope term all xs ys next split none =
    ap (λ ls. flaw_of_labels names scope term ls) split ∙ faults-behind names scope term xs ys none ∙ ap
    (λ (ns : Names). flaw_of_labels ns scope term ys) (sym next)

-- and a fault of the first is that of all
faults-first : (names : Names) (scope : Scope) (term : Sexp) (xs ys : List (List ℕ)) (e : TermFlaw)
    → flaw_of_labels names scope term xs ≡ Some e → flaw_of_labels names scope term (xs ++ ys) ≡ Some e
faults-first names scope term [] ys e h = cc
faults-first names scope term (x ∷ xs) ys e h = by (flaw_of_label names names.labels scope term x) h
    (faults-first (behind ((x, term) ∷ []) names) scope term xs ys e)
  where
    by : (o : Option TermFlaw)
        → option_or o (flaw_of_labels (behind ((x, term) ∷ []) names) scope term xs) ≡ Some e
        → (flaw_of_labels (behind ((x, term) ∷ []) names) scope term xs ≡ Some e
        → flaw_of_labels (behind ((x, term) ∷ []) names) scope term (xs ++ ys) ≡ Some e)
        → option_or o (flaw_of_labels (behind ((x, term) ∷ []) names) scope term (xs ++ ys)) ≡ Some e
    by None g rest = rest g
    by (Some f) g rest = g

pub faults-fault : (names : Names) (scope : Scope) (term : Sexp) (all xs ys : List (List ℕ)) (e : TermFault)
    → all ≡ xs ++ ys → TellsSome (flaw_of_labels names scope term xs) e
    → TellsSome (flaw_of_labels names scope term all) e
faults-fault names scope term all xs ys e split (inl m) = inl m
faults-fault names scope term all xs ys e split (inr h) =
    inr (ap (λ ls. flaw_of_labels names scope term ls) split ∙ faults-first names scope term xs ys (flaw_told e) h)

-- a label where none may stand, and one by its tests
pub label_refused : (names : Names) (labels : Labels) (scope : Scope) (term : Sexp) (x : List ℕ)
    → labels.refused ≡ true → flaw_of_label names (labels_view labels) scope term x ≡ Some IsLabel
label_refused names labels scope term x h =
    ap (λ b. flaw_of_label names (cond b spec.Refused (spec.Given (given_names labels))) scope term x) h

-- what follows where there is an answer
pub on_ok : {A E : Type 0} (r : Result A E) (P Q : Type 0) → (P → Q) → OnOk r P → OnOk r Q
on_ok (Ok v) P Q f h = f h
on_ok (Err e) P Q f h = h

-- a fault of what is the same
pub carried_fault : (e : TermFault) (o p : Option TermFlaw) → p ≡ o → TellsSome (o) e
    → TellsSome (p) e
carried_fault e o p same (inl m) = inl m
carried_fault e o p same (inr h) = inr (same ∙ h)

-- labels are nothing to a call
plain_without_labels : (library : Library) (labels : spec.Labels) (f : List ℕ) (args : List Sort)
    (o : Option Rank) → sort_of_plain (names_for library labels) f o args
    ≡ sort_of_plain (names_of_library library) f o args
plain_without_labels library labels f args None = refl
plain_without_labels library labels f args (Some rank) = refl

pub applied_without_labels : (library : Library) (labels : spec.Labels) (f : Identifier) (args : List Sort)
    → sort_applied (names_for library labels) f args ≡ sort_applied (names_of_library library) f args
applied_without_labels library labels (Plain f) args =
    plain_without_labels library labels f args (look_up (names_of_library library).ranks f)
applied_without_labels library labels (Indexed f is) args = refl
applied_without_labels library labels (Qualified sort) args = refl

pub call_without_labels : (library : Library) (labels : spec.Labels) (scope : Scope) (f : Identifier)
    (args : List Sort) → sort_of_call (names_for library labels) scope f args
    ≡ sort_of_call (names_of_library library) scope f args
call_without_labels library labels scope (Plain f) args = ap (λ r. sort_unless_variable (look_up scope f) r)
    (plain_without_labels library labels f args (look_up (names_of_library library).ranks f))
call_without_labels library labels scope (Indexed f is) args = refl
call_without_labels library labels scope (Qualified sort) args = refl

-- a list with another head has the labels of its arguments
other_labels : (head : Sexp) (args : Sexps) → begins_indexed head ≡ false → begins_let head ≡ false
    → begins_annotated head ≡ false → begins_qualified head ≡ false
    → labels_in (Items (Cons head args)) ≡ labels_in_all args
other_labels (Reserved Underscore) args h i j k = cc
other_labels (Reserved As) args h i j k = cc
other_labels (Reserved Let) args h i j k = cc
other_labels (Reserved Bang) args h i j k = cc
other_labels _ args h i j k = refl

-- the sort of a list is that of the call that it is
pub called : (library : Library) (labels : spec.Labels) (scope : Scope) (head : Sexp) (args parts : Sexps)
    (f : Identifier) (ss given : List Sort) (r : Result Sort TermFlaw) → parts ≡ Cons head args
    → IsPlainHead head → applied_in library.sorts.theories.wide head args ≡ Ok f
    → sorts_in (names_for library labels) scope args ≡ Ok ss → given ≡ ss
    → r ≡ sort_of_call (names_of_library library) scope f given
    → sort_in (names_for library labels) scope (Items parts) ≡ r
called library labels scope head args parts f ss given r split other is done same call =
    applied_ok (names_for library labels) scope head args parts f ss split other is done
    ∙ ap (λ ts. sort_of_call (names_for library labels) scope f ts) (sym same)
    ∙ call_without_labels library labels scope f given ∙ sym call

pub given_by_args : {T E : Type 0} (r : Result T E) (names : Names) (old new : Labels) (head : Sexp)
    (args parts : Sexps) → parts ≡ Cons head args → IsPlainHead head
    → AreGiven names old new (labels_in_all args) → OnOk r (AreGiven names old new (labels_in (Items parts)))
given_by_args (Err e) names old new head args parts split other given = tt
given_by_args (Ok v) names old new head args parts split other given =
    subst (AreGiven names old new)
    (sym (ap (λ ps. labels_in (Items ps)) split
    ∙ other_labels head args other.no_index other.no_let other.no_bang other.no_as)) given
