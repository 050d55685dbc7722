-- What declarations, definitions, items and labels bring is what they say.
use Rattle.std.proofs.Common.{◌≡◌, ℕ, Bool, true, false, cond, not, List, [], ◌∷◌, ◌++◌, map, is_some, Result}
use Rattle.std.proofs.Common.{Some, Ok, Err, refl, ap, sym, ◌∙◌, subst, append_assoc, append-nil}
use Rattle.std.proofs.lemmas.List.{map-append}
use Rattle.smt_trees.specs.Sexp.{Sexp, Sexps, Atom, Reserved, Items, Nil, Cons, Symbol}
use Rattle.smt_trees.specs.declared.reserved.Word.TheVariants.{DefineFun, DefineFunRec, DefineFunsRec}
use Rattle.smt_theory.specs.Sort.{is_same_sort}
use Rattle.smt_theory.specs.Words.{look_up, result_and_then}
use Rattle.smt_theory.specs.Sort.{Sort}
use Rattle.smt_theory.specs.Sort.{Boolean}
use Rattle.smt_forms.specs.Bindings.{are_named_trees, named_trees}
use Rattle.smt_terms.specs.Assertions.{asserted_in, label_entries, label_or_none}
use Rattle.smt_terms.specs.Checking.{sort_in}
use Rattle.smt_terms.specs.Definitions.{defined_in, definition, definition_in, parameters_named}
use Rattle.smt_forms.specs.ItemForm.{ItemForm, item_form}
use Rattle.smt_terms.specs.Items.{defined_as, form_in, has_rank_of, item_in, items_before}
use Rattle.smt_terms.specs.Freshness.{is_taken, name_flaw}
use Rattle.smt_terms.specs.Labels.{Labels, Given, with_labels}
use Rattle.smt_forms.specs.Labels.{labels_in}
use Rattle.smt_terms.specs.Declarations.{declaration, declared_in}
use Rattle.smt_terms.specs.Signature.{Entry, Defined, Names, Rank, Signature, declared_named, in_assertion}
use Rattle.smt_terms.specs.Signature.{names_of, sort_names_of}
use Rattle.smt_terms.specs.SortTrees.{SortNames, sort_named, sorts_named}
use Rattle.smt_terms.specs.Written.{AreLabelsOf, IsDeclaredAs, IsDefinedAs, IsPrintedAs}
use Rattle.smt_faults.specs.declared.term_flaw.TermFlaw.{TermFlaw}
use Rattle.smt_faults.specs.declared.term_flaw.TermFlaw.TheVariants.{BoundTwice, Form, IllSorted, NotFresh}
use Rattle.smt_terms.proofs.ClosedLemmas.{of_ok}
use Rattle.smt_terms.proofs.IntroducedLemmas.{AreFit, fit, passed, passed-else}
use Rattle.smt_terms.proofs.ItemLemmas.{Params}
use Rattle.smt_terms.proofs.KeptLemmas.{answered, unless-none}
use Rattle.smt_terms.proofs.RepeatedLemmas.{taken_by}

-- ## Declarations

pub written-declared : (s : Signature) (command : ℕ) (x : List ℕ) (parameters : Sexps) (tree : Sexp)
    (e : Entry) → declared_in s command x parameters tree ≡ Ok e
    → IsDeclaredAs (sort_names_of s) command x parameters tree e
written-declared s command x parameters tree e h = by (is_taken (names_of s) x)
    (sorts_named (sort_names_of s) parameters) refl (sort_named (sort_names_of s) tree) refl h
  where
    by : (b : Bool) (r : Result (List Sort) TermFlaw) → sorts_named (sort_names_of s) parameters ≡ r
        → (q : Result Sort TermFlaw) → sort_named (sort_names_of s) tree ≡ q
        → cond b (Err NotFresh) (result_and_then
        (result_and_then r (λ ps. result_and_then q
        (λ sort. Ok (record { parameters = ps; sort = sort }))))
        (λ (rank : Rank). Ok (declaration x command rank))) ≡ Ok e
        → IsDeclaredAs (sort_names_of s) command x parameters tree e
    by true r takes q gives g = cc
    by false (Err f) takes q gives g = cc
    by false (Ok ps) takes (Err f) gives g = cc
    by false (Ok ps) takes (Ok sort) gives g =
        let d = declaration x command (record { parameters = ps; sort = sort }) in
        subst (λ c. IsDeclaredAs (sort_names_of s) command x parameters tree c) (of_ok d e (Ok d) refl g)
        (record { name = refl; takes = takes; gives = gives; origin = refl })

-- ## Definitions

-- parameters have the names that are written, and the sorts that the trees name
names-written : (sorts : SortNames) (earlier : Params) (written : List (List ℕ × Sexp)) (ps : Params)
    → parameters_named sorts earlier written ≡ Ok ps
    → map (λ p. p.0) ps ≡ map (λ p. p.0) earlier ++ map (λ p. p.0) written
names-written sorts earlier [] ps h = sym (ap (map (λ p. p.0)) (of_ok earlier ps (Ok earlier) refl h)) ∙ sym
    (append-nil (map (λ p. p.0) earlier))
names-written sorts earlier (w ∷ written) ps h =
    let next =
    λ (s : Sort). cond (is_some (look_up earlier w.0)) (Err BoundTwice)
    (parameters_named sorts (earlier ++ (w.0, s) ∷ []) written) in
    let a = answered (sort_named sorts w.1) next ps h in
    names-written sorts (earlier ++ (w.0, a.0) ∷ []) written ps
    (passed-else (is_some (look_up earlier w.0))
    (parameters_named sorts (earlier ++ (w.0, a.0) ∷ []) written) BoundTwice ps a.2)
    ∙ ap (λ xs. xs ++ map (λ p. p.0) written)
    (map-append (λ (p : List ℕ × Sort). p.0) earlier ((w.0, a.0) ∷ [])) ∙ append_assoc
    (map (λ p. p.0) earlier) (w.0 ∷ []) (map (λ p. p.0) written)

abbrev known_sorts : Params → List (Result Sort TermFlaw)
known_sorts ps = map (λ p. Ok p.1) ps

sorts-written : (sorts : SortNames) (earlier : Params) (written : List (List ℕ × Sexp)) (ps : Params)
    → parameters_named sorts earlier written ≡ Ok ps
    → known_sorts ps ≡ known_sorts earlier ++ map (λ w. sort_named sorts w.1) written
sorts-written sorts earlier [] ps h =
    sym (ap known_sorts (of_ok earlier ps (Ok earlier) refl h)) ∙ sym (append-nil (known_sorts earlier))
sorts-written sorts earlier (w ∷ written) ps h =
    let next =
    λ (s : Sort). cond (is_some (look_up earlier w.0)) (Err BoundTwice)
    (parameters_named sorts (earlier ++ (w.0, s) ∷ []) written) in
    let a = answered (sort_named sorts w.1) next ps h in
    let rest = map (λ (v : List ℕ × Sexp). sort_named sorts v.1) written in
    sorts-written sorts (earlier ++ (w.0, a.0) ∷ []) written ps
    (passed-else (is_some (look_up earlier w.0))
    (parameters_named sorts (earlier ++ (w.0, a.0) ∷ []) written) BoundTwice ps a.2)
    ∙ ap (λ xs. xs ++ rest) (map-append (λ (p : List ℕ × Sort). Ok p.1) earlier ((w.0, a.0) ∷ [])) ∙
    append_assoc (known_sorts earlier) (Ok a.0 ∷ []) rest
    ∙ ap (λ (r : Result Sort TermFlaw). known_sorts earlier ++ r ∷ rest) (sym a.1)

known-sorts : (ps : Params) → known_sorts ps ≡ map (λ s. Ok s) (map (λ p. p.1) ps)
known-sorts [] = refl
known-sorts (p ∷ ps) = ap (λ (rs : List (Result Sort TermFlaw)). Ok p.1 ∷ rs) (known-sorts ps)

-- a definition of these parameters is what is written
as_written : (sorts : SortNames) (x : List ℕ) (written : List (List ℕ × Sexp)) (tree body : Sexp)
    (ps : Params) (sort : Sort)
    → parameters_named sorts [] written ≡ Ok ps → sort_named sorts tree ≡ Ok sort
    → IsDefinedAs sorts x written tree body (definition x ps sort body)
as_written sorts x written tree body ps sort named gives = record {
  name = refl;
  takes = sym (sorts-written sorts [] written ps named) ∙ known-sorts ps;
  gives = gives;
  origin = ap (λ xs. Defined xs body) (names-written sorts [] written ps named);
}

-- what a definition is, whose body has its sort
body_sorted : (names : Names) (x : List ℕ) (ps : Params) (sort : Sort) (body : Sexp) (e : Entry)
    → definition_in names x ps sort body ≡ Ok e → definition x ps sort body ≡ e
body_sorted names x ps sort body e h =
    let d = definition x ps sort body in
    let a =
    answered (sort_in names ps body) (λ found. cond (is_same_sort found sort) (Ok d) (Err IllSorted)) e h
    in
    of_ok d e (Ok d) refl (passed (is_same_sort a.0 sort) (Ok d) IllSorted e a.2)

pub written-defined : (s : Signature) (x : List ℕ) (written : List (List ℕ × Sexp)) (tree body : Sexp)
    (e : Entry) → defined_in s x written tree body ≡ Ok e
    → IsDefinedAs (sort_names_of s) x written tree body e
written-defined s x written tree body e h =
    let sorts = sort_names_of s in
    let by_sort = λ (ps : Params) (sort : Sort). definition_in (names_of s) x ps sort body in
    let by_parameters = λ (ps : Params). result_and_then (sort_named sorts tree) (by_sort ps) in
    let a =
    answered (parameters_named sorts [] written) by_parameters e
    (passed-else (is_taken (names_of s) x)
    (result_and_then (parameters_named sorts [] written) by_parameters) NotFresh e h) in
    let b = answered (sort_named sorts tree) (by_sort a.0) e a.2 in
    subst (λ d. IsDefinedAs sorts x written tree body d) (body_sorted (names_of s) x a.0 b.0 body e b.2)
    (as_written sorts x written tree body a.0 b.0 a.1 b.1)

-- ## Items

-- the parts of an item are those of its tree
pub record IsFormOf (tree : Sexp) (form : ItemForm) : Type 0 where
  pub parameters : Sexps
  pub printed : tree ≡ Items
      (Cons (Reserved DefineFun)
      (Cons (Atom Symbol form.name) (Cons (Items parameters) (Cons form.sort (Cons form.body Nil)))))
  pub named : are_named_trees parameters ≡ true
  pub same : form.parameters ≡ named_trees parameters

pub form_of : (tree : Sexp) (form : ItemForm) → item_form tree ≡ Ok form → IsFormOf tree form
form_of (Items (Cons (Reserved DefineFunRec) rest)) form h = cc
form_of (Items (Cons (Reserved DefineFunsRec) rest)) form h = cc
form_of (Items (Cons (Reserved DefineFun)
    (Cons (Atom Symbol x) (Cons (Items parameters) (Cons sort (Cons body Nil)))))) form h = by
    (are_named_trees parameters) refl h
  where
    item : Sexp
    item = Items (Cons (Reserved DefineFun)
        (Cons (Atom Symbol x) (Cons (Items parameters) (Cons sort (Cons body Nil)))))

    parts : ItemForm
    parts = record { name = x; parameters = named_trees parameters; sort = sort; body = body }

    by : (b : Bool) → are_named_trees parameters ≡ b → cond b (Ok parts) (Err Form) ≡ Ok form
        → IsFormOf item form
    by false is g = cc
    by true is g = subst (λ f. IsFormOf item f) (of_ok parts form (Ok parts) refl g)
        (record { parameters = parameters; printed = refl; named = is; same = refl })
form_of _ form h = cc

pub form_defined : (script : Signature) (earlier : List Entry) (form : ItemForm) (e : Entry)
    → form_in script earlier form ≡ Ok e
    → IsDefinedAs (sort_names_of script) form.name form.parameters form.sort form.body e
form_defined script earlier form e h =
    let sorts = sort_names_of script in
    let by_sort = λ (ps : Params) (sort : Sort). defined_as script earlier form ps sort in
    let by_parameters = λ (ps : Params). result_and_then (sort_named sorts form.sort) (by_sort ps) in
    let sorted = result_and_then (parameters_named sorts [] form.parameters) by_parameters in
    let a =
    answered (parameters_named sorts [] form.parameters) by_parameters e
    (unless-none (name_flaw script earlier form.name) sorted e h).1 in
    let b = answered (sort_named sorts form.sort) (by_sort a.0) e a.2 in
    let names = names_of (items_before script earlier) in
    let c =
    passed-else (not (has_rank_of (declared_named script.entries form.name) (map (λ p. p.1) a.0) b.0))
    (definition_in names form.name a.0 b.0 form.body) IllSorted e b.2 in
    subst (λ d. IsDefinedAs sorts form.name form.parameters form.sort form.body d)
    (body_sorted names form.name a.0 b.0 form.body e c)
    (as_written sorts form.name form.parameters form.sort form.body a.0 b.0 a.1 b.1)

pub written-item : (script : Signature) (earlier : List Entry) (tree : Sexp) (e : Entry)
    → item_in script earlier tree ≡ Ok (Some e) → IsPrintedAs (sort_names_of script) tree e
written-item script earlier tree e h =
    let a = taken_by script earlier tree e h in
    let form = a.0 in
    let is = form_of tree form a.1 in
    let d = form_defined script earlier form e a.2 in
    record {
      parameters = is.parameters;
      sort = form.sort;
      body = form.body;
      printed = is.printed ∙ ap
          (λ x. Items (Cons (Reserved DefineFun)
          (Cons (Atom Symbol x) (Cons (Items is.parameters) (Cons form.sort (Cons form.body Nil))))))
          (sym d.name);
      named = is.named;
      defined = record {
        name = refl;
        takes =
            ap (map (λ (p : List ℕ × Sexp). sort_named (sort_names_of script) p.1)) (sym is.same) ∙ d.takes;
        gives = d.gives;
        origin = d.origin ∙ ap (λ ps. Defined (map (λ (p : List ℕ × Sexp). p.0) ps) form.body) is.same;
      };
    }

-- ## Labels

-- labels that fit bring their entries
labels_brought : (names : Names) (given : Labels) (ls : List (List ℕ × Sexp))
    → AreFit (record names { labels = given }) ls → AreLabelsOf names ls (label_entries names ls)
labels_brought names given [] fits = tt
labels_brought names given (l ∷ ls) fits =
    subst (λ r. AreLabelsOf names (l ∷ ls) (label_or_none l r ++ label_entries names ls))
    (sym fits.0.sorted.1) (
      record { name = refl; takes = refl; gives = fits.0.sorted.1; origin = refl },
      labels_brought names
          (with_labels (l.0 ∷ []) given) ls fits.1,
    )

pub written-asserted : (names : Names) (term : Sexp) (es : List Entry) → asserted_in names term ≡ Ok es
    → AreLabelsOf names (labels_in term) es
written-asserted names term es h =
    let brought = label_entries names (labels_in term) in
    let a =
    answered (sort_in (in_assertion names) [] term)
    (λ sort. cond (is_same_sort sort Boolean) (Ok brought) (Err IllSorted)) es h in
    subst (λ ds. AreLabelsOf names (labels_in term) ds)
    (of_ok brought es (Ok brought) refl (passed (is_same_sort a.0 Boolean) (Ok brought) IllSorted es a.2))
    (labels_brought names (Given []) (labels_in term) (fit (in_assertion names) [] term a.0 tt a.1))
