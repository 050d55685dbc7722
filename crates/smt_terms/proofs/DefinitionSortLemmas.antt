-- What a definition brings is well sorted.
use Rattle.std.proofs.Common.{◌≡◌, ℕ, Bool, true, false, cond, ◌||◌, List, [], ◌∷◌, ◌++◌, map, Option, Some}
use Rattle.std.proofs.Common.{None, is_some, Result, Ok, Err, refl, ap, sym, ◌∙◌, subst}
use Rattle.std.proofs.lemmas.List.{length-map}
use Rattle.std.specs.Bool.{Decides}
use Rattle.std.specs.List.{list_any, zip}
use Rattle.std.specs.Str.{bytes_eq}
use Rattle.smt_trees.specs.Sexp.{Sexp}
use Rattle.smt_theory.specs.Sort.{is_same_sort}
use Rattle.smt_theory.specs.Words.{look_up, result_and_then}
use Rattle.smt_theory.specs.Sort.{Sort}
use Rattle.smt_theory.specs.declared.theories.Theories.{Theories}
use Rattle.smt_terms.specs.Elements.{ElementNames}
use Rattle.smt_terms.specs.Checking.{sort_in}
use Rattle.smt_terms.specs.Definitions.{defined_in, definition, definition_in, parameters_named}
use Rattle.smt_terms.specs.Labels.{Refused}
use Rattle.smt_terms.specs.Freshness.{is_taken}
use Rattle.smt_terms.specs.Signature.{Entry, Names, Signature, names_of, ranks_of, sort_names_of}
use Rattle.smt_terms.specs.Signature.{unlabelled_over}
use Rattle.smt_terms.specs.SortTrees.{SortNames, sort_named}
use Rattle.smt_terms.specs.WellSorted.{AreDifferent, IsWellSorted}
use Rattle.smt_faults.specs.declared.term_flaw.TermFlaw.{TermFlaw}
use Rattle.smt_faults.specs.declared.term_flaw.TermFlaw.TheVariants.{BoundTwice, IllSorted, NotFresh}
use Rattle.smt_terms.proofs.ItemLemmas.{Params}
use Rattle.smt_terms.proofs.KeptLemmas.{Keeps-unlabelled, kept-sort}
use Rattle.smt_terms.proofs.NameLemmas.{none_step, same_flip}

-- the test of sorts decides whether two are the same, as a law of the theories says
abbrev pub AreCompared : Type 0
AreCompared = (a b : Sort) → Decides (is_same_sort a b) (a ≡ b)

-- ## Parameters

not_found : {A : Type 0} (o : Option A) → is_some o ≡ false → o ≡ None
not_found None h = refl
not_found (Some a) h = cc

neither : (a b : Bool) → a || b ≡ false → (a ≡ false) × (b ≡ false)
neither true b h = cc
neither false b h = (refl, h)

any-push : (test : List ℕ → Bool) (ps : Params) (x : List ℕ) (sort : Sort)
    → list_any test (map (λ p. p.0) ps) ≡ false → test x ≡ false
    → list_any test (map (λ p. p.0) (ps ++ (x, sort) ∷ [])) ≡ false
any-push test [] x sort h i = ap (λ b. b || false) i
any-push test (p ∷ ps) x sort h i =
    let n = neither (test p.0) (list_any test (map (λ q. q.0) ps)) h in
    ap (λ b. b || list_any test (map (λ q. q.0) (ps ++ (x, sort) ∷ []))) n.0 ∙ any-push test ps x sort n.1 i

-- with a new name behind all, the names differ
different-push : (ps : Params) (x : List ℕ) (sort : Sort) → AreDifferent (map (λ p. p.0) ps)
    → look_up ps x ≡ None → AreDifferent (map (λ p. p.0) (ps ++ (x, sort) ∷ []))
different-push [] x sort d none = (refl, tt)
different-push (p ∷ ps) x sort d none =
    let n = none_step (bytes_eq x p.0) p.1 (look_up ps x) none in
    (any-push (bytes_eq p.0) ps x sort d.0 (same_flip x p.0 n.0), different-push ps x sort d.1 n.1)

-- the names of parameters differ
pub different : (names : SortNames) (earlier : Params) (params : List (List ℕ × Sexp)) (ps : Params)
    → AreDifferent (map (λ p. p.0) earlier) → parameters_named names earlier params ≡ Ok ps
    → AreDifferent (map (λ p. p.0) ps)
different names earlier [] ps d h = subst (λ (qs : Params). AreDifferent (map (λ p. p.0) qs)) (cc) d
different names earlier (p ∷ params) ps d h = by (sort_named names p.1) (is_some (look_up earlier p.0)) refl h
    (λ s new more. different names (earlier ++ (p.0, s) ∷ []) params ps
    (different-push earlier p.0 s d new) more)
  where
    by : (r : Result Sort TermFlaw) (b : Bool) → is_some (look_up earlier p.0) ≡ b
        → result_and_then r (λ s. cond b (Err BoundTwice)
        (parameters_named names (earlier ++ (p.0, s) ∷ []) params)) ≡ Ok ps
        → ((s : Sort) → look_up earlier p.0 ≡ None
        → parameters_named names (earlier ++ (p.0, s) ∷ []) params ≡ Ok ps
        → AreDifferent (map (λ q. q.0) ps)) → AreDifferent (map (λ q. q.0) ps)
    by (Err f) b new h next = cc
    by (Ok s) true new h next = cc
    by (Ok s) false new h next = next s (not_found (look_up earlier p.0) new) h

-- names and sorts side by side
zip-parts : (ps : Params) → zip (map (λ p. p.0) ps) (map (λ p. p.1) ps) ≡ ps
zip-parts [] = refl
zip-parts (p ∷ ps) = ap (λ (qs : Params). p ∷ qs) (zip-parts ps)

-- ## Definitions

-- the names that these entries give, where no label may stand
abbrev pub refused_over : Theories → Option ElementNames → List Entry → Names
refused_over theories elements earlier =
    record { theories = theories; elements = elements; ranks = ranks_of earlier; labels = Refused }

-- what a definition brings, and that it is well sorted over the earlier names
pub well_sorted : AreCompared
    → (theories : Theories) (elements : Option ElementNames) (earlier : List Entry) (x : List ℕ) (ps : Params) (sort : Sort)
    (body : Sexp) (e : Entry) → AreDifferent (map (λ p. p.0) ps)
    → definition_in (refused_over theories elements earlier) x ps sort body ≡ Ok e
    → (definition x ps sort body ≡ e) × IsWellSorted theories elements earlier e
well_sorted compared theories elements earlier x ps sort body e different h = by (sort_in names ps body) refl h
  where
    names : Names
    names = refused_over theories elements earlier

    made : definition x ps sort body ≡ e → sort_in names ps body ≡ Ok sort
        → (definition x ps sort body ≡ e) × IsWellSorted theories elements earlier e
    made is sorted = (
      is,
      subst (IsWellSorted theories elements earlier) is (record {
        counted = length-map ps (λ p. p.0) ∙ sym (length-map ps (λ p. p.1));
        different = different;
        sorted = ap (λ (qs : Params). sort_in (unlabelled_over theories elements earlier) qs body) (zip-parts ps) ∙
            kept-sort names (unlabelled_over theories elements earlier) (Keeps-unlabelled names) ps body sort sorted;
      }),
    )

    found_by : (found : Sort) (b : Bool) → is_same_sort found sort ≡ b → sort_in names ps body ≡ Ok found
        → cond b (Ok (definition x ps sort body)) (Err IllSorted) ≡ Ok e
        → (definition x ps sort body ≡ e) × IsWellSorted theories elements earlier e
    found_by found true same sorted h =
        made (cc) (sorted ∙ ap (λ (s : Sort). Ok s) ((compared found sort).0 same))
    found_by found false same sorted h = cc

    by : (r : Result Sort TermFlaw) → sort_in names ps body ≡ r
        → result_and_then r (λ found. cond (is_same_sort found sort) (Ok (definition x ps sort body))
        (Err IllSorted)) ≡ Ok e → (definition x ps sort body ≡ e) × IsWellSorted theories elements earlier e
    by (Err f) sorted h = cc
    by (Ok found) sorted h = found_by found (is_same_sort found sort) refl sorted h

-- what is said of a definition that is taken
pub record IsTaken (s : Signature) (x : List ℕ) (e : Entry) : Type 0 where
  pub free : is_taken (names_of s) x ≡ false
  pub named : e.name ≡ x
  pub sorted : IsWellSorted s.theories s.elements s.entries e

pub IsTaken-defined : AreCompared
    → (s : Signature) (x : List ℕ) (params : List (List ℕ × Sexp)) (tree body : Sexp) (e : Entry)
    → defined_in s x params tree body ≡ Ok e → IsTaken s x e
IsTaken-defined compared s x params tree body e h = by (is_taken (names_of s) x) refl
    (parameters_named (sort_names_of s) [] params) refl (sort_named (sort_names_of s) tree) h
  where
    made : (ps : Params) (sort : Sort) → is_taken (names_of s) x ≡ false
        → (definition x ps sort body ≡ e) × IsWellSorted s.theories s.elements s.entries e → IsTaken s x e
    made ps sort free p = record { free = free; named = sym (ap (λ (d : Entry). d.name) p.0); sorted = p.1 }

    by : (b : Bool) → is_taken (names_of s) x ≡ b → (r : Result Params TermFlaw)
        → parameters_named (sort_names_of s) [] params ≡ r → (q : Result Sort TermFlaw)
        → cond b (Err NotFresh) (result_and_then r
        (λ ps. result_and_then q (λ sort. definition_in (names_of s) x ps sort body))) ≡ Ok e
        → IsTaken s x e
    by true free r bound q h = cc
    by false free (Err f) bound q h = cc
    by false free (Ok ps) bound (Err f) h = cc
    by false free (Ok ps) bound (Ok sort) h = made ps sort free
        (well_sorted compared s.theories s.elements s.entries x ps sort body e
        (different (sort_names_of s) [] params ps tt bound) h)
