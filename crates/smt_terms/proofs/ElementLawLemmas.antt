-- Names of a script, and names of elements.
use Rattle.std.proofs.Common.{◌≡◌, ◌⊎◌, inl, inr, ℕ, Bool, true, false, cond, not, ◌&&◌, ◌||◌, List, []}
use Rattle.std.proofs.Common.{◌∷◌, map, Option, Some, None, is_some, option_map, ok_or, Result, Ok, Err, refl, ap, sym, ◌∙◌}
use Rattle.std.specs.Prelude.{◌==◌, bytes_eq}
use Rattle.smt_trees.specs.Sexp.{Sexp, Sexps, Atom, Reserved, Items, Nil, Cons, Symbol}
use Rattle.smt_trees.specs.declared.reserved.Word.TheVariants.{DeclareFun, DeclareSort, Forall}
use Rattle.smt_theory.specs.Operators.{is_plain_operator, op_by, plain_op}
use Rattle.smt_theory.specs.Sort.{is_same_sort}
use Rattle.smt_theory.specs.Words.{look_up, result_and_then}
use Rattle.smt_theory.specs.declared.op.Op.{Op}
use Rattle.smt_theory.specs.declared.op.OpFault.TheVariants as ops
use Rattle.smt_theory.specs.Sort.{Sort}
use Rattle.smt_theory.specs.Sort.{Free}
use Rattle.smt_forms.specs.Variables.{is_among}
use Rattle.smt_terms.specs.Checking.{sort_alone, sort_of_operator, sort_of_symbol, sort_unless_element}
use Rattle.smt_terms.specs.Declarations.{abbreviated_in, sort_declared_in}
use Rattle.smt_terms.specs.Elements.{ElementNames, element_among, element_sort, if_free, or_ill_sorted, qualified_sort}
use Rattle.smt_terms.specs.Freshness.{is_element_name, is_sort_taken, item_elements}
use Rattle.smt_terms.specs.Items.{declared_item, element_told, items_before, told_in, told_item, told_sort}
use Rattle.smt_terms.specs.Repeated.{IsElementTold, IsTold}
use Rattle.smt_terms.specs.Signature.{Entry, Rank, Signature, entry_named, names_of, rank_of_entry, ranks_of}
use Rattle.smt_terms.specs.Signature.{sort_names_of}
use Rattle.smt_terms.specs.SortTrees.{SortNames, sort_named}
use Rattle.smt_terms.specs.declared.named_sort.NamedSort.{NamedSort}
use Rattle.smt_faults.specs.declared.term_flaw.TermFlaw.{TermFlaw}
use Rattle.smt_faults.specs.declared.term_flaw.TermFlaw.TheVariants.{IllSorted, NotFresh, Unknown, Unsupported}
use Rattle.smt_terms.proofs.DefinitionSortLemmas.{AreCompared}
use Rattle.smt_terms.proofs.EntryLemmas.{look_up-ranks}
use Rattle.smt_terms.proofs.RepeatedLemmas.{by_test}

-- ## Names of a script

abbrev names_in : Signature → List (List ℕ)
names_in script = map (λ (e : Entry). e.name) script.entries

abbrev elements_of : Signature → ElementNames
elements_of script = record { sorts = sort_names_of script; taken = names_in script }

-- an entry has its name among all
named_among : (es : List Entry) (x : List ℕ) (e : Entry) → entry_named es x ≡ Some e
    → is_among (map (λ (d : Entry). d.name) es) x ≡ true
named_among [] x e h = cc
named_among (d ∷ es) x e h = by (bytes_eq x d.name) h (named_among es x e)
  where
    by : (b : Bool) → cond b (Some d) (entry_named es x) ≡ Some e
        → (entry_named es x ≡ Some e → is_among (map (λ (d : Entry). d.name) es) x ≡ true)
        → (b || is_among (map (λ (d : Entry). d.name) es) x) ≡ true
    by true g rest = refl
    by false g rest = rest g

none_among : (es : List Entry) (x : List ℕ) → entry_named es x ≡ None
    → is_among (map (λ (d : Entry). d.name) es) x ≡ false
none_among [] x h = refl
none_among (d ∷ es) x h = by (bytes_eq x d.name) h (none_among es x)
  where
    by : (b : Bool) → cond b (Some d) (entry_named es x) ≡ None
        → (entry_named es x ≡ None → is_among (map (λ (d : Entry). d.name) es) x ≡ false)
        → (b || is_among (map (λ (d : Entry). d.name) es) x) ≡ false
    by true g rest = cc
    by false g rest = rest g

pub no_element_named : (script : Signature) (x : List ℕ) (e : Entry) → entry_named script.entries x ≡ Some e
    → element_among (item_elements script) x ≡ None
no_element_named script x e at = by script.theories.wide
  where
    by : (w : Bool) → element_among (cond w (Some (elements_of script)) None) x ≡ None
    by false = refl
    by true = ap (λ b. cond b None (element_sort (sort_names_of script) x)) (named_among script.entries x e at)

no_rank : (es : List Entry) (x : List ℕ) → entry_named es x ≡ None → look_up (ranks_of es) x ≡ None
no_rank es x h = look_up-ranks es x ∙ ap (option_map rank_of_entry) h

no_operator : (o : Option Op) → is_some o ≡ false → sort_of_operator (ok_or o ops.Unknown) [] ≡ Err Unknown
no_operator None h = refl
no_operator (Some op) h = cc

pub unknown_alone : (script : Signature) (earlier : List Entry) (scope : List (List ℕ × Sort)) (x : List ℕ) (e : Entry)
    → entry_named script.entries x ≡ Some e → look_up scope x ≡ None → entry_named earlier x ≡ None
    → is_plain_operator script.theories x ≡ false
    → sort_of_symbol (names_of (items_before script earlier)) x (look_up scope x) ≡ Err Unknown
unknown_alone script earlier scope x e at free new plain =
    ap (sort_of_symbol (names_of (items_before script earlier)) x) free
    ∙ ap (sort_alone (names_of (items_before script earlier)) x) (no_rank earlier x new)
    ∙ ap (λ o. sort_unless_element o (op_by script.theories x [])) (no_element_named script x e at)
    ∙ no_operator (plain_op script.theories x) plain

-- ## Behind an `as`

-- what stands there is read by the names of the script and those in force
abbrev read : Signature → Sexp → (b n : Bool) → Result Sort TermFlaw
read script tree b n = cond (b || n) (Err NotFresh)
    (result_and_then (sort_named (sort_names_of script) tree) (λ s. or_ill_sorted (if_free s)))

at_sign : (script : Signature) (ranks : List (List ℕ × Rank)) (x : List ℕ) (tree : Sexp)
    → script.theories.wide ≡ true
    → qualified_sort (item_elements script) ranks (Cons (Atom Symbol (64 ∷ x)) (Cons tree Nil))
    ≡ read script tree (is_among (names_in script) (64 ∷ x)) (is_some (look_up ranks (64 ∷ x)))
at_sign script ranks x tree wide =
    ap (λ w. qualified_sort (cond w (Some (elements_of script)) None) ranks
    (Cons (Atom Symbol (64 ∷ x)) (Cons tree Nil))) wide

pub script_has : (script : Signature) (ranks : List (List ℕ × Rank)) (x : List ℕ) (tree : Sexp) (e : Entry)
    → script.theories.wide ≡ true → entry_named script.entries (64 ∷ x) ≡ Some e
    → qualified_sort (item_elements script) ranks (Cons (Atom Symbol (64 ∷ x)) (Cons tree Nil)) ≡ Err NotFresh
script_has script ranks x tree e wide at =
    at_sign script ranks x tree wide
    ∙ ap (λ b. read script tree b (is_some (look_up ranks (64 ∷ x)))) (named_among script.entries (64 ∷ x) e at)

or_true : (b : Bool) → (b || true) ≡ true
or_true true = refl
or_true false = refl

pub item_has : (script : Signature) (earlier : List Entry) (x : List ℕ) (tree : Sexp) (e : Entry)
    → script.theories.wide ≡ true → entry_named earlier (64 ∷ x) ≡ Some e
    → qualified_sort (item_elements script) (ranks_of earlier) (Cons (Atom Symbol (64 ∷ x)) (Cons tree Nil))
    ≡ Err NotFresh
item_has script earlier x tree e wide at =
    at_sign script (ranks_of earlier) x tree wide
    ∙ ap (λ (o : Option Rank). read script tree (is_among (names_in script) (64 ∷ x)) (is_some o))
    (look_up-ranks earlier (64 ∷ x) ∙ ap (option_map rank_of_entry) at)
    ∙ ap (λ b. cond b (Err NotFresh)
    (result_and_then (sort_named (sort_names_of script) tree) (λ s. or_ill_sorted (if_free s))))
    (or_true (is_among (names_in script) (64 ∷ x)))

pub new_element : (script : Signature) (earlier : List Entry) (x : List ℕ) (tree : Sexp) (n : ℕ)
    → script.theories.wide ≡ true → entry_named script.entries (64 ∷ x) ≡ None → entry_named earlier (64 ∷ x) ≡ None
    → sort_named (sort_names_of script) tree ≡ Ok (Free n)
    → qualified_sort (item_elements script) (ranks_of earlier) (Cons (Atom Symbol (64 ∷ x)) (Cons tree Nil))
    ≡ Ok (Free n)
new_element script earlier x tree n wide absent new sorted =
    at_sign script (ranks_of earlier) x tree wide
    ∙ ap (λ b. read script tree b (is_some (look_up (ranks_of earlier) (64 ∷ x))))
    (none_among script.entries (64 ∷ x) absent)
    ∙ ap (λ (o : Option Rank). read script tree false (is_some o)) (no_rank earlier (64 ∷ x) new)
    ∙ ap (λ r. result_and_then r (λ s. or_ill_sorted (if_free s))) sorted

pub other_sign : (elements : Option ElementNames) (ranks : List (List ℕ × Rank)) (c : ℕ) (cs : List ℕ) (tree : Sexp)
    → (c == 64) ≡ false → qualified_sort elements ranks (Cons (Atom Symbol (c ∷ cs)) (Cons tree Nil)) ≡ Err Unsupported
other_sign None ranks c cs tree h = refl
other_sign (Some elements) ranks c cs tree h =
    ap (λ b. cond (not b) (Err Unsupported)
    (cond (is_among elements.taken (c ∷ cs) || is_some (look_up ranks (c ∷ cs))) (Err NotFresh)
    (result_and_then (sort_named elements.sorts tree) (λ s. or_ill_sorted (if_free s))))) h

pub no_sign : (elements : Option ElementNames) (ranks : List (List ℕ × Rank)) (tree : Sexp)
    → qualified_sort elements ranks (Cons (Atom Symbol []) (Cons tree Nil)) ≡ Err Unsupported
no_sign None ranks tree = refl
no_sign (Some elements) ranks tree = refl

-- ## Items

pub never_aside : (w d b : Bool) → b ≡ true → ((w && d) && not b) ≡ false
never_aside true true b h = ap not h
never_aside true false b h = refl
never_aside false d b h = refl

both_true : (a b : Bool) → (a && b) ≡ true → (a ≡ true) × (b ≡ true)
both_true true b h = (refl, h)
both_true false b h = cc

some_of : {A : Type 0} (o : Option A) → is_some o ≡ true → (a : A) × (o ≡ Some a)
some_of None h = cc
some_of (Some a) h = (a, refl)

pub told_of_script : (script : Signature) (x : List ℕ) (tree : Sexp) (e : Entry) → is_element_name script x ≡ true
    → entry_named script.entries x ≡ Some e
    → told_item script (Items (Cons (Reserved DeclareFun) (Cons (Atom Symbol x) (Cons (Items Nil) (Cons tree Nil)))))
    ≡ Some (Err NotFresh)
told_of_script script x tree e formed at =
    let p = both_true script.theories.wide (is_some (element_sort (sort_names_of script) x)) formed in
    let s = some_of (element_sort (sort_names_of script) x) p.1 in
    ap (λ w. cond w (Some (element_told script x (element_sort (sort_names_of script) x) tree)) None) p.0
    ∙ ap (λ o. Some (element_told script x o tree)) s.1
    ∙ ap (λ b. Some (cond b (Err NotFresh)
    (result_and_then (sort_named (sort_names_of script) tree) (told_sort s.0)))) (ap is_some at)

-- ## Items that tell of elements

same_told : AreCompared → (element s : Sort) → told_sort element s ≡ Ok None → s ≡ element
same_told compared element s h = by (is_same_sort element s) refl h
  where
    by : (b : Bool) → is_same_sort element s ≡ b → by_test b ≡ Ok None → s ≡ element
    by true is g = sym ((compared element s).0 is)
    by false is g = cc

told_by : AreCompared → (script : Signature) (x : List ℕ) (tree : Sexp) → script.theories.wide ≡ true
    → declared_item script (Cons (Atom Symbol x) (Cons (Items Nil) (Cons tree Nil))) ≡ Ok None
    → IsElementTold script (Items (Cons (Reserved DeclareFun) (Cons (Atom Symbol x) (Cons (Items Nil) (Cons tree Nil)))))
told_by compared script x tree wide h = by (element_sort (sort_names_of script) x) refl h
  where
    Goal : Type 0
    Goal = IsElementTold script
        (Items (Cons (Reserved DeclareFun) (Cons (Atom Symbol x) (Cons (Items Nil) (Cons tree Nil)))))

    sorted : (element : Sort) → element_sort (sort_names_of script) x ≡ Some element
        → entry_named script.entries x ≡ None → (r : Result Sort TermFlaw) → sort_named (sort_names_of script) tree ≡ r
        → result_and_then r (told_sort element) ≡ Ok None → Goal
    sorted element is new (Err f) at g = cc
    sorted element is new (Ok s) at g = record {
      name = x;
      tree = tree;
      printed = refl;
      sort = element;
      element = is;
      new = new;
      named = at ∙ ap (λ t. Ok t) (same_told compared element s g);
    }

    inner : (element : Sort) → element_sort (sort_names_of script) x ≡ Some element → (o : Option Entry)
        → entry_named script.entries x ≡ o
        → cond (is_some o) (Err NotFresh)
        (result_and_then (sort_named (sort_names_of script) tree) (told_sort element)) ≡ Ok None → Goal
    inner element is (Some e) at g = cc
    inner element is None at g = sorted element is at (sort_named (sort_names_of script) tree) refl g

    by : (o : Option Sort) → element_sort (sort_names_of script) x ≡ o → element_told script x o tree ≡ Ok None → Goal
    by None is g = cc
    by (Some element) is g = inner element is (entry_named script.entries x) refl g

pub told_is : AreCompared → (script : Signature) (tree : Sexp) → told_item script tree ≡ Some (Ok None) → IsTold script tree
told_is compared script tree h = by script.theories.wide refl h
  where
    some_ok : {A : Type 0} (a b : A) → Some a ≡ Some b → a ≡ b
    some_ok a b e = cc

    in_wide : script.theories.wide ≡ true → (t : Sexp) → told_in script t ≡ Some (Ok None) → IsTold script t
    in_wide w (Items (Cons (Reserved Forall) rest)) g = record { wide = w; tells = inl (rest, refl) }
    in_wide w (Items (Cons (Reserved DeclareSort) rest)) g = record { wide = w; tells = inr (inl (rest, refl)) }
    in_wide w (Items (Cons (Reserved DeclareFun) (Cons (Atom Symbol x) (Cons (Items Nil) (Cons sort Nil))))) g =
        record { wide = w; tells = inr (inr (told_by compared script x sort w (some_ok _ _ g))) }
    in_wide w (Items (Cons (Reserved DeclareFun) rest)) g = cc
    in_wide w _ g = cc

    by : (b : Bool) → script.theories.wide ≡ b → cond b (told_in script tree) None ≡ Some (Ok None) → IsTold script tree
    by true w g = in_wide w tree g
    by false w g = cc

pub is_told : AreCompared → (script : Signature) (tree : Sexp) → IsTold script tree → told_item script tree ≡ Some (Ok None)
is_told compared script tree h = ap (λ w. cond w (told_in script tree) None) h.wide ∙ by h.tells
  where
    element : IsElementTold script tree → told_in script tree ≡ Some (Ok None)
    element t =
        ap (told_in script) t.printed
        ∙ ap (λ o. Some (element_told script t.name o t.tree)) t.element
        ∙ ap (λ (o : Option Entry). Some (cond (is_some o) (Err NotFresh)
        (result_and_then (sort_named (sort_names_of script) t.tree) (told_sort t.sort)))) t.new
        ∙ ap (λ r. Some (result_and_then r (told_sort t.sort))) t.named
        ∙ ap (λ b. Some (cond b (Ok None) (Err IllSorted))) ((compared t.sort t.sort).1 refl)

    by : ((rest : Sexps) × (tree ≡ Items (Cons (Reserved Forall) rest)))
        ⊎ ((rest : Sexps) × (tree ≡ Items (Cons (Reserved DeclareSort) rest))) ⊎ IsElementTold script tree
        → told_in script tree ≡ Some (Ok None)
    by (inl p) = ap (told_in script) p.1
    by (inr (inl p)) = ap (told_in script) p.1
    by (inr (inr t)) = element t

-- ## Sorts of commands

declared_by : (s : SortNames) (n : ℕ) (x : List ℕ) (a : NamedSort) → sort_declared_in s n x ≡ Ok a
    → record { sort = Free n; is_declared = true } ≡ a
declared_by s n x a h = by (is_sort_taken s x) h
  where
    named : NamedSort
    named = record { sort = Free n; is_declared = true }

    by : (b : Bool) → cond b (Err NotFresh) (Ok named) ≡ Ok a → named ≡ a
    by true g = cc
    by false g = cc

pub declared_own : (s t : SortNames) (n m : ℕ) (x y : List ℕ) (a b : NamedSort) → sort_declared_in s n x ≡ Ok a
    → sort_declared_in t m y ≡ Ok b → a.sort ≡ b.sort → n ≡ m
declared_own s t n m x y a b h g same =
    let one : Free n ≡ a.sort = ap (λ (c : NamedSort). c.sort) (declared_by s n x a h) in
    let two : Free m ≡ b.sort = ap (λ (c : NamedSort). c.sort) (declared_by t m y b g) in
    let both : Free n ≡ Free m = one ∙ same ∙ sym two in cc

pub declared_as : (s : SortNames) (n : ℕ) (x : List ℕ) (a : NamedSort) → sort_declared_in s n x ≡ Ok a
    → (a.is_declared ≡ true) × (a.sort ≡ Free n)
declared_as s n x a h = (
  ap (λ (c : NamedSort). c.is_declared) (sym (declared_by s n x a h)),
  ap (λ (c : NamedSort). c.sort) (sym (declared_by s n x a h)),
)

pub abbreviated_as : (s : SortNames) (x : List ℕ) (tree : Sexp) (a : NamedSort) → abbreviated_in s x tree ≡ Ok a
    → (a.is_declared ≡ false) × (sort_named s tree ≡ Ok a.sort)
abbreviated_as s x tree a h = by (is_sort_taken s x) (sort_named s tree) refl h
  where
    abbreviated_to : NamedSort → Result NamedSort TermFlaw
    abbreviated_to n = Ok n

    ok_sort : NamedSort → Result Sort TermFlaw
    ok_sort c = Ok c.sort

    of_ok : (n : NamedSort) → abbreviated_to n ≡ abbreviated_to a → n ≡ a
    of_ok n e = cc

    by : (b : Bool) (r : Result Sort TermFlaw) → sort_named s tree ≡ r
        → cond b (Err NotFresh) (result_and_then r (λ sort. Ok (record { sort = sort; is_declared = false }))) ≡ Ok a
        → (a.is_declared ≡ false) × (sort_named s tree ≡ Ok a.sort)
    by true r is g = cc
    by false (Err f) is g = cc
    by false (Ok sort) is g =
        let same = of_ok (record { sort = sort; is_declared = false }) g in (
          ap (λ (c : NamedSort). c.is_declared) (sym same),
          is ∙ ap ok_sort same,
        )
