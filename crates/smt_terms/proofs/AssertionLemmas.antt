-- Labels that are added, one behind another.
use Rattle.std.proofs.Common.{◌≡◌, ℕ, Bool, true, false, cond, List, [], ◌∷◌, ◌++◌, ◌||◌, map, Option, Some, None}
use Rattle.std.proofs.Common.{is_some, Result, Ok, Err, OnOk, refl, ap, sym, ◌∙◌, subst, append_assoc}
use Rattle.std.proofs.Common.{append-nil, inl, inr}
use Rattle.std.proofs.lemmas.List.{map-append}
use Rattle.std.specs.Str.{bytes_eq}
use Rattle.smt_trees.specs.Sexp.{Sexp}
use Rattle.smt_trees.specs.View.{sexp_of}
use Rattle.smt_theory.specs.Operators.{is_plain_operator}
use Rattle.smt_theory.specs.Sort.{is_same_sort}
use Rattle.smt_theory.specs.Words.{look_up, result_and_then}
use Rattle.smt_theory.specs.Sort.{Sort}
use Rattle.smt_theory.specs.Sort.{Boolean}
use Rattle.smt_terms.specs.Assertions.{asserted_in, label_entries, label_or_none}
use Rattle.smt_terms.specs.Checking.{sort_in}
use Rattle.smt_terms.specs.Contents.{Contents, Extends, IsWithin, contents_of, first_of}
use Rattle.smt_nodes.specs.Node.{Row}
use Rattle.smt_terms.specs.Denotes.{IsLonger, Table}
use Rattle.smt_terms.specs.Internal.Growing.{AreFitUnder, Bodies, HoldsUnder, IsFitUnder, terms_under}
use Rattle.smt_terms.specs.Internal.LabelsView.{AreNew, AreSorted, label_entry}
use Rattle.smt_terms.specs.Internal.TableView.{AreNamed, names_of_definitions, table_with}
use Rattle.smt_terms.specs.Internal.LibraryView.{elements_of_library, names_for, names_of_library}
use Rattle.smt_terms.specs.Internal.LibraryView.{ranks_of_library}
use Rattle.smt_terms.specs.Freshness.{is_element}
use Rattle.smt_terms.specs.Labels as spec
use Rattle.smt_forms.specs.Labels.{labels_in}
use Rattle.smt_terms.specs.Library.{StandsFor}
use Rattle.smt_terms.specs.Signature.{Entry, Names, Rank, Signature, behind, in_assertion, names_of}
use Rattle.smt_terms.specs.Signature.{rank_of_entry, with_entries, with_entry}
use Rattle.smt_faults.specs.Outcome.{Tells}
use Rattle.smt_faults.specs.declared.term_fault.TermFault.{TermFault}
use Rattle.smt_faults.specs.declared.term_flaw.TermFlaw.TheVariants.{IllSorted}
use Rattle.smt_terms.specs.declared.labels.Label.{Label}
use Rattle.smt_terms.specs.declared.library.Library.{Library}
use Rattle.smt_terms.specs.declared.library.marks.Mark.{Mark}
use Rattle.smt_terms.proofs.ElementLemmas.{no_element}
use Rattle.smt_terms.proofs.ClosedLemmas.{neither}
use Rattle.smt_terms.proofs.ContentsLemmas.{extends_itself, extends_on, mark_kept}
use Rattle.smt_terms.proofs.IntroducedLemmas.{AreFit, IsGivenList, IsGivenList-behind, any-split, fit}
use Rattle.smt_terms.proofs.IntroducedLemmas.{is_given}
use Rattle.smt_terms.proofs.DenotesLemmas.{denotes_kept}
use Rattle.smt_terms.proofs.ItemLemmas.{names_as}
use Rattle.smt_terms.proofs.StandsLemmas.{under_longer}
use Rattle.smt_terms.proofs.KeptTermLemmas.{given_as}

-- ## Labels that are new

-- names that are new, and not among the labels, have no rank
abbrev Leaves : Names → List (List ℕ × Rank) → Type 0
Leaves names ranks =
    (x : List ℕ) → look_up names.ranks x ≡ None → is_given names.labels x ≡ false → look_up ranks x ≡ None

look_up-push : (ranks : List (List ℕ × Rank)) (y x : List ℕ) (r : Rank) → look_up ranks x ≡ None
    → bytes_eq x y ≡ false → look_up (ranks ++ (y, r) ∷ []) x ≡ None
look_up-push [] y x r h i = ap (λ b. cond b (Some r) None) i
look_up-push (p ∷ ranks) y x r h i = by (bytes_eq x p.0) h (λ g. look_up-push ranks y x r g i)
  where
    by : (b : Bool) → cond b (Some p.1) (look_up ranks x) ≡ None
        → (look_up ranks x ≡ None → look_up (ranks ++ (y, r) ∷ []) x ≡ None)
        → cond b (Some p.1) (look_up (ranks ++ (y, r) ∷ []) x) ≡ None
    by true g rest = cc
    by false g rest = rest g

leaves-push : (names : Names) (labels : spec.Labels) (ranks : List (List ℕ × Rank)) (y : List ℕ) (r : Rank)
    → IsGivenList labels → ((x : List ℕ) → look_up names.ranks x ≡ None → is_given labels x ≡ false
    → look_up ranks x ≡ None)
    → (x : List ℕ) → look_up names.ranks x ≡ None → is_given (spec.with_labels (y ∷ []) labels) x ≡ false
    → look_up (ranks ++ (y, r) ∷ []) x ≡ None
leaves-push names (spec.Given ls) ranks y r is leaves x none new =
    let m = any-split ls y x new in look_up-push ranks y x r (leaves x none m.0) m.1
leaves-push names spec.Refused ranks y r is leaves x none new = absurd is
leaves-push names spec.Unread ranks y r is leaves x none new = absurd is

none_of : {A : Type 0} (o : Option A) → is_some o ≡ false → o ≡ None
none_of None h = refl
none_of (Some r) h = cc

-- labels that fit are new
fit_are_new : (names : Names) (ranks : List (List ℕ × Rank)) (ks : List Label) → IsGivenList names.labels
    → Leaves names ranks → AreFit names (map (λ k. (k.name.items, sexp_of k.body)) ks)
    → AreNew names.elements ranks ks
fit_are_new names ranks [] is leaves fits = tt
fit_are_new names ranks (k ∷ ks) is leaves fits =
    let n =
    neither (is_element names k.name.items) (is_some (look_up names.ranks k.name.items))
    (neither (is_element names k.name.items || is_some (look_up names.ranks k.name.items))
    (is_plain_operator names.theories k.name.items) fits.0.free).0 in (
      leaves k.name.items (none_of (look_up names.ranks k.name.items) n.1) fits.0.new,
      no_element names.elements k.name.items n.0,
      fit_are_new (behind ((k.name.items, sexp_of k.body) ∷ []) names)
          (ranks ++ (k.name.items, rank_of_entry (label_entry k)) ∷ []) ks
          (IsGivenList-behind (k.name.items ∷ []) names.labels is)
          (leaves-push names names.labels ranks k.name.items (rank_of_entry (label_entry k)) is leaves)
          fits.1,
    )

-- those that a term gives fit
given_fit : (library : Library) (labels : spec.Labels) (given : List Label) (term : Sexp) (sort : Sort)
    → labels ≡ spec.Given [] → sort_in (names_for library labels) [] term ≡ Ok sort
    → given_as given ≡ labels_in term → AreFit (in_assertion (names_of_library library)) (given_as given)
given_fit library labels given term sort view has same =
    let names = in_assertion (names_of_library library) in
    subst (λ ls. AreFit names ls) (sym same)
    (fit names [] term sort tt
    (ap (λ (ls : spec.Labels). sort_in (names_for library ls) [] term) (sym view) ∙ has))

-- so are those of a term that has a sort
pub given_are_new : (library : Library) (labels : spec.Labels) (given : List Label) (term : Sexp) (sort : Sort)
    → labels ≡ spec.Given [] → sort_in (names_for library labels) [] term ≡ Ok sort
    → given_as given ≡ labels_in term → AreNew (elements_of_library library) (ranks_of_library library) given
given_are_new library labels given term sort view has same =
    fit_are_new (in_assertion (names_of_library library)) (ranks_of_library library) given tt (λ x h i. h)
    (given_fit library labels given term sort view has same)

-- ## What labels bring

entries-sorted : (names : Names) (ks : List Label) → AreSorted names ks
    → label_entries names (map (λ k. (k.name.items, sexp_of k.body)) ks) ≡ map label_entry ks
entries-sorted names [] h = refl
entries-sorted names (k ∷ ks) h =
    ap (λ r. label_or_none (k.name.items, sexp_of k.body) r
    ++ label_entries names (map (λ l. (l.name.items, sexp_of l.body)) ks)) h.0 ∙ ap
    (λ (es : List Entry). label_entry k ∷ es) (entries-sorted names ks h.1)

-- what an asserted term brings by the labels that it gave
pub asserted_by : (library : Library) (s : Signature) (labels : spec.Labels) (given : List Label) (term : Sexp)
    (sort : Sort) → StandsFor library s → labels ≡ spec.Given []
    → sort_in (names_for library labels) [] term ≡ Ok sort → is_same_sort sort Boolean ≡ true
    → given_as given ≡ labels_in term → AreSorted (names_of_library library) given
    → asserted_in (names_of s) term ≡ Ok (map label_entry given)
asserted_by library s labels given term sort stands view has formula same sorted =
    let names = names_of_library library in
    ap (λ (ns : Names). asserted_in ns term) (sym (names_as library s stands))
    ∙ ap (λ r. result_and_then r
    (λ found. cond (is_same_sort found Boolean) (Ok (label_entries names (labels_in term)))
    (Err IllSorted))) (ap (λ (ls : spec.Labels). sort_in (names_for library ls) [] term) (sym view) ∙ has)
    ∙ ap (λ b. cond b (Ok (label_entries names (labels_in term))) (Err IllSorted)) formula
    ∙ ap (λ es. Ok es) (ap (label_entries names) (sym same) ∙ entries-sorted names given sorted)

-- the fault of a term that is asserted
pub asserted_fault : (library : Library) (s : Signature) (labels : spec.Labels) (term : Sexp) (e : TermFault)
    → StandsFor library s → labels ≡ spec.Given [] → Tells (sort_in (names_for library labels) [] term) e
    → Tells (asserted_in (names_of s) term) e
asserted_fault library s labels term e stands view (inl m) = inl m
asserted_fault library s labels term e stands view (inr h) =
    let names = names_of_library library in
    inr (ap (λ (ns : Names). asserted_in ns term) (sym (names_as library s stands))
    ∙ ap (λ r. result_and_then r
    (λ found. cond (is_same_sort found Boolean) (Ok (label_entries names (labels_in term)))
    (Err IllSorted))) (ap (λ (ls : spec.Labels). sort_in (names_for library ls) [] term) (sym view) ∙ h))

-- and of one that is no formula
pub asserted_ill : (library : Library) (s : Signature) (labels : spec.Labels) (term : Sexp) (sort : Sort)
    → StandsFor library s → labels ≡ spec.Given []
    → sort_in (names_for library labels) [] term ≡ Ok sort → is_same_sort sort Boolean ≡ false
    → asserted_in (names_of s) term ≡ Err IllSorted
asserted_ill library s labels term sort stands view has other =
    let names = names_of_library library in
    ap (λ (ns : Names). asserted_in ns term) (sym (names_as library s stands))
    ∙ ap (λ r. result_and_then r
    (λ found. cond (is_same_sort found Boolean) (Ok (label_entries names (labels_in term)))
    (Err IllSorted))) (ap (λ (ls : spec.Labels). sort_in (names_for library ls) [] term) (sym view) ∙ has)
    ∙ ap (λ b. cond b (Ok (label_entries names (labels_in term))) (Err IllSorted)) other

-- ## What labels stand for

-- labels that fit, with nodes that stand for their terms, over the table that the term was checked over
fits_named : (names : Names) (t : Table) (bodies : Bodies) (c : Contents) (s : Signature) (ls : List Label)
    → names.theories ≡ s.theories → IsLonger t (terms_under bodies c) → AreFit names (given_as ls)
    → AreNamed t ls → AreFitUnder bodies c s ls
fits_named names t bodies c s [] same longer fits named = tt
fits_named names t bodies c s (l ∷ ls) same longer fits named = (
  record {
    free = ap (λ ts. is_plain_operator ts l.name.items) (sym same)
        ∙ (neither (is_element names l.name.items || is_some (look_up names.ranks l.name.items))
        (is_plain_operator names.theories l.name.items) fits.0.free).1;
    named = denotes_kept t (terms_under bodies c) longer [] 0 0 l.node (sexp_of l.body) named.0;
  },
  fits_named (behind ((l.name.items, sexp_of l.body) ∷ []) names) t bodies c s ls same longer fits.1 named.1,
)

-- those of an assertion, over the bodies with their own
pub given_named : (library : Library) (labels : spec.Labels) (given : List Label) (term : Sexp) (sort : Sort)
    (rows : List Row) (bodies : Bodies) (now : Contents) (s : Signature) → StandsFor library s
    → labels ≡ spec.Given [] → sort_in (names_for library labels) [] term ≡ Ok sort
    → given_as given ≡ labels_in term
    → IsLonger (table_with library given rows) (terms_under bodies now)
    → AreNamed (table_with library given rows) given → AreFitUnder bodies now s given
given_named library labels given term sort rows bodies now s stands view has same longer named =
    fits_named (in_assertion (names_of_library library)) (table_with library given rows) bodies now s given
    stands.theories longer (given_fit library labels given term sort view has same) named

-- ## Adding

-- some labels were added, and these are left
pub record AreAdded (old now : Library) (all left : List Label) : Type 0 where
  pub done : List Label
  pub are : all ≡ done ++ left
  pub stands : (bodies : Bodies) (s : Signature) → HoldsUnder bodies (contents_of old) s
      → AreFitUnder bodies (contents_of old) s all
      → HoldsUnder bodies (contents_of now) (with_entries s (map label_entry done))
  pub names : names_of_definitions now.definitions.items
      ≡ names_of_definitions old.definitions.items ++ map (λ l. l.name.items) done
  pub bodies : now.bodies.items ≡ old.bodies.items ++ map (λ l. l.node) done
  pub new : AreNew (elements_of_library now) (ranks_of_library now) left
  pub grown : Extends (contents_of old) (contents_of now)
  pub transient : now.transient ≡ old.transient

no_entries : (s : Signature) → s ≡ with_entries s []
no_entries s = λ i. record {
  theories = s.theories;
  abbreviations = s.abbreviations;
  elements = s.elements;
  entries = sym (append-nil s.entries) i;
}

one_entry : (s : Signature) (done : List Entry) (e : Entry)
    → with_entry (with_entries s done) e ≡ with_entries s (done ++ e ∷ [])
one_entry s done e = λ i. record {
  theories = s.theories;
  abbreviations = s.abbreviations;
  elements = s.elements;
  entries = append_assoc s.entries done (e ∷ []) i;
}

-- the one behind others that fit
fit_behind : (bodies : Bodies) (c : Contents) (s : Signature) (done : List Label) (l : Label) (rest : List Label)
    → AreFitUnder bodies c s (done ++ l ∷ rest) → IsFitUnder bodies c s l
fit_behind bodies c s [] l rest fits = fits.0
fit_behind bodies c s (d ∷ done) l rest fits = fit_behind bodies c s done l rest fits.1

-- a label that fits does so in longer contents, over the same bodies and more names
pub fit_longer : (bodies : Bodies) (c d : Contents) (s t : Signature) (l : Label) → t.theories ≡ s.theories
    → IsLonger (terms_under bodies c) (terms_under bodies d) → IsFitUnder bodies c s l
    → IsFitUnder bodies d t l
fit_longer bodies c d s t l same longer fits = record {
  free = ap (λ ts. is_plain_operator ts l.name.items) same ∙ fits.free;
  named = denotes_kept (terms_under bodies c) (terms_under bodies d) longer [] 0 0 l.node (sexp_of l.body)
      fits.named;
}

pub AreAdded-none : (library : Library) (all : List Label)
    → AreNew (elements_of_library library) (ranks_of_library library) all → AreAdded library library all all
AreAdded-none library all new = record {
  done = [];
  are = refl;
  stands = λ bodies s h fits. subst (λ r. HoldsUnder bodies (contents_of library) r) (no_entries s) h;
  names = sym (append-nil (names_of_definitions library.definitions.items));
  bodies = sym (append-nil library.bodies.items);
  new = new;
  grown = extends_itself (contents_of library);
  transient = refl;
}

-- what is seen of one more label, behind others
one_behind : {A : Type 0} (f : Label → A) (old : List A) (done : List Label) (l : Label) {mid now : List A}
    → mid ≡ old ++ map f done → now ≡ mid ++ f l ∷ [] → now ≡ old ++ map f (done ++ l ∷ [])
one_behind {A = A} f old done l first then =
    then ∙ ap (λ (xs : List A). xs ++ f l ∷ []) first ∙ append_assoc old (map f done) (f l ∷ [])
    ∙ ap (λ (xs : List A). old ++ xs) (sym (map-append f done (l ∷ [])))

pub AreAdded-next : (old mid now : Library) (all left rest : List Label) (l : Label)
    → AreAdded old mid all left → left ≡ l ∷ rest
    → ((bodies : Bodies) (s : Signature) → HoldsUnder bodies (contents_of mid) s
    → IsFitUnder bodies (contents_of mid) s l
    → HoldsUnder bodies (contents_of now) (with_entry s (label_entry l)))
    → ranks_of_library now ≡ ranks_of_library mid ++ (l.name.items, rank_of_entry (label_entry l)) ∷ []
    → names_of_definitions now.definitions.items ≡ names_of_definitions mid.definitions.items ++ l.name.items ∷ []
    → now.bodies.items ≡ mid.bodies.items ++ l.node ∷ []
    → Extends (contents_of mid) (contents_of now) → now.transient ≡ mid.transient → AreAdded old now all rest
AreAdded-next old mid now all left rest l first split added ranks named joined grown transient =
    let parts : all ≡ first.done ++ l ∷ rest = first.are ∙ ap (λ (ls : List Label). first.done ++ ls) split in
    let longer = λ (bodies : Bodies).
    under_longer bodies (contents_of old) (contents_of mid) first.grown.theories
    first.grown.elements first.grown.heads first.grown.apart first.grown.rows in
    record {
      done = first.done ++ l ∷ [];
      are = parts ∙ sym (append_assoc first.done (l ∷ []) rest);
      stands = λ bodies s h fits.
          subst (λ es. HoldsUnder bodies (contents_of now) (with_entries s es))
          (sym (map-append label_entry first.done (l ∷ [])))
          (subst (λ r. HoldsUnder bodies (contents_of now) r) (one_entry s (map label_entry first.done) (label_entry l))
          (added bodies (with_entries s (map label_entry first.done)) (first.stands bodies s h fits)
          (fit_longer bodies (contents_of old) (contents_of mid) s (with_entries s (map label_entry first.done)) l
          refl (longer bodies)
          (fit_behind bodies (contents_of old) s first.done l rest
          (subst (λ ls. AreFitUnder bodies (contents_of old) s ls) parts fits)))));
      names = one_behind (λ k. k.name.items) (names_of_definitions old.definitions.items) first.done l first.names
          named;
      bodies = one_behind (λ k. k.node) old.bodies.items first.done l first.bodies joined;
      new = subst (λ rs. AreNew (elements_of_library now) rs rest) (sym ranks)
          (subst (λ es. AreNew es
          (ranks_of_library mid ++ (l.name.items, rank_of_entry (label_entry l)) ∷ []) rest) (sym grown.elements)
          (subst (λ ls. AreNew (elements_of_library mid) (ranks_of_library mid) ls) split first.new).2);
      grown = extends_on (contents_of old) (contents_of mid) (contents_of now) first.grown grown;
      transient = transient ∙ first.transient;
    }

-- what is seen of labels that were added where nothing else has come
pub labels_added : {A : Type 0} (f : Label → A) (old : List A) (added given : List Label) {mid now : List A}
    → now ≡ mid ++ map f added → mid ≡ old → added ≡ given → now ≡ old ++ map f given
labels_added {A = A} f old added given grown kept same =
    grown ∙ ap (λ (xs : List A). xs ++ map f added) kept ∙ ap (λ (ls : List Label). old ++ map f ls) same

-- ## Undoing

-- what is cut to a mark that counted all is what it was
pub undone : (mark : Mark) (c d e : Contents) → first_of mark c ≡ c → IsWithin mark c → Extends c d
    → e ≡ first_of mark d → e ≡ c
undone mark c d e all within grown cut = cut ∙ mark_kept mark c d within grown ∙ all

-- a fact that holds holds of an answer
pub on_ok : {A E P : Type 0} (r : Result A E) → P → OnOk r P
on_ok (Ok a) p = p
on_ok (Err e) p = tt
